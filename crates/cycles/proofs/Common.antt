-- Two choices of acyclic edges that join x and y have a common part that does.
use mathlib.Core.Path.{refl}
use mathlib.Core.Logic.{◌⊎◌, inl, inr}
use mathlib.Core.List.{[], ◌∷◌}
use mathlib.Core.Bool.{Bool, true, false, ◌&&◌}
use Prim.Native.Nat.{ℕ}
use lib.ListN.{length}
use Rattle.base.specs.Pick.{pick}
use Rattle.base.specs.Sets.{Set}
use Rattle.tree.specs.Edges.{Edges, all}
use Rattle.tree.specs.Inner.{Acyclic}
use Rattle.tree.proofs.Labels.{edge_label, Across, label_step}
use Rattle.tree.proofs.Acyclic.{apart_ends}
use Rattle.cycles.specs.Cycles.{chosen}
use Rattle.cycles.proofs.Joins.{Joined, join_later, join_all, join_before}

pub common : (K L : Set) (E : Edges) → Acyclic E → (x y : ℕ) → Joined (chosen K E) x y → Joined (chosen L E) x y → Joined (chosen (λ i. K i && L i) E) x y
unfolding chosen
common K L [] k x y f g = f
common K L (e ∷ E) k x y f g = go (K (length E)) (L (length E)) f g (common K L E k.1)
  where
    A : Edges
    A = chosen K E

    B : Edges
    B = chosen L E

    C : Edges
    C = chosen (λ i. K i && L i) E

    p : ℕ
    p = e.one

    q : ℕ
    q = e.two

    u : (x y : ℕ) → Joined A x y → Joined E x y
    u = join_all K E

    v : (x y : ℕ) → Joined B x y → Joined E x y
    v = join_all L E

    up : (x y : ℕ) → Joined C x y → Joined (e ∷ C) x y
    up = join_later e C

    apart : Joined E p q → ⊥
    apart = apart_ends e E k

    latest : Joined (e ∷ C) p q
    latest = edge_label all (e ∷ C) p q (inl (inl (refl, refl))) tt tt

    Case : Edges → Type 0
    Case F = Joined F x y ⊎ Across all F e y x ⊎ Across all F e x y

    IH : Type 0
    IH = (x y : ℕ) → Joined A x y → Joined B x y → Joined C x y

    -- both have the latest edge
    two : Case A → Case B → IH → Joined (e ∷ C) x y
    two (inl i) (inl j) ih = up x y (ih x y i j)
    two (inl i) (inr (inl (_, _, m, j))) ih = absurd (apart (cc (u x y i, v x q j, v y p m)))
    two (inl i) (inr (inr (_, _, j, m))) ih = absurd (apart (cc (u x y i, v x p j, v y q m)))
    two (inr (inl (_, _, l, i))) (inl j) ih = absurd (apart (cc (v x y j, u x q i, u y p l)))
    two (inr (inr (_, _, i, l))) (inl j) ih = absurd (apart (cc (v x y j, u x p i, u y q l)))
    two (inr (inl (_, _, l, i))) (inr (inl (_, _, m, j))) ih = cc (up x q (ih x q i j), up y p (ih y p l m), latest)
    two (inr (inr (_, _, i, l))) (inr (inr (_, _, j, m))) ih = cc (up x p (ih x p i j), up y q (ih y q l m), latest)
    two (inr (inl (_, _, l, i))) (inr (inr (_, _, j, m))) ih = absurd (apart (cc (u x q i, v x p j)))
    two (inr (inr (_, _, i, l))) (inr (inl (_, _, m, j))) ih = absurd (apart (cc (u x p i, v x q j)))

    go : (a b : Bool) → Joined (pick a (e ∷ A) A) x y → Joined (pick b (e ∷ B) B) x y → IH → Joined (pick (a && b) (e ∷ C) C) x y
    go true true f g ih = two (label_step all e A x y f) (label_step all e B x y g) ih
    go true false f g ih = ih x y (join_before e E k K x y (v x y g) f) g
    go false true f g ih = ih x y f (join_before e E k L x y (u x y f) g)
    go false false f g ih = ih x y f g
