-- Edges in growth order: what they reach, labels in one pass, and that they have no ring.
use mathlib.Core.Path.{◌≡◌, refl, sym, ◌∙◌, subst}
use mathlib.Core.Logic.{◌⊎◌, inl, inr}
use mathlib.Core.List.{[], ◌∷◌}
use mathlib.Core.Bool.{Bool, true, false, ◌&&◌}
use Prim.Native.Nat.{ℕ}
use lib.Dec.{T, eqb, eqb→eq, eqb_refl}
use Rattle.base.specs.Pick.{pick}
use Rattle.base.specs.Sets.{Set}
use Rattle.base.proofs.Bools.{or_split, or_left, or_right}
use Rattle.tree.specs.Edges.{Edge, Edges, Adjacent, label, all}
use Rattle.tree.specs.Inner.{Acyclic, Grown}
use Rattle.tree.specs.Growth.{reached}
use Rattle.tree.proofs.Labels.{relabel, Relabelled, moved, kept, relabelled, joined_label}

-- position 0 is reached
pub reached_zero : (F : Edges) → T (reached F 0)
unfolding reached
reached_zero [] = eqb_refl 0
reached_zero (e ∷ F) = or_right (eqb 0 e.two) (reached F 0) (reached_zero F)

-- an edge reaches its second end, what was reached before, and nothing else
pub reached_new : (e : Edge) (F : Edges) → T (reached (e ∷ F) e.two)
unfolding reached
reached_new e F = or_left (eqb e.two e.two) (reached F e.two) (eqb_refl e.two)

pub reached_old : (e : Edge) (F : Edges) (x : ℕ) → T (reached F x) → T (reached (e ∷ F) x)
unfolding reached
reached_old e F x p = or_right (eqb x e.two) (reached F x) p

pub reached_split : (e : Edge) (F : Edges) (x : ℕ) → T (reached (e ∷ F) x) → (x ≡ e.two) ⊎ T (reached F x)
unfolding reached
reached_split e F x r = elim (or_split (eqb x e.two) (reached F x) r) [ inl p ↦ inl (eqb→eq x e.two p) | inr p ↦ inr p ]

-- a reached position is not the new end of the next edge
pub reached_apart : (e : Edge) (F : Edges) → Grown (e ∷ F) → (x : ℕ) → T (reached F x) → x ≡ e.two → ⊥
reached_apart e F g x r i = g.1 (subst (λ z. T (reached F z)) i r)

-- both ends of an edge are reached
pub ends_reached : (F : Edges) → Grown F → (x y : ℕ) → Adjacent F x y → T (reached F y)
ends_reached [] g x y h = absurd h
ends_reached (e ∷ F) g x y (inl (inl (i, j))) = subst (λ z. T (reached (e ∷ F) z)) (sym j) (reached_new e F)
ends_reached (e ∷ F) g x y (inl (inr (i, j))) = subst (λ z. T (reached (e ∷ F) z)) (sym j) (reached_old e F e.one g.0)
ends_reached (e ∷ F) g x y (inr h) = reached_old e F y (ends_reached F g.2 x y h)

-- a label stays, or was the second end's and becomes the first's
relabel_cases : (b : Bool) (p q z : ℕ) → (relabel b p q z ≡ z) ⊎ ((z ≡ q) × (relabel b p q z ≡ p))
relabel_cases false p q z = inl refl
relabel_cases true p q z = go (relabel true p q z) (relabelled p q z)
  where
    go : (y : ℕ) → Relabelled p q z y → (y ≡ z) ⊎ ((z ≡ q) × (y ≡ p))
    go y (moved i) = inr (i, refl)
    go y (kept i) = inl refl

-- how an edge changes the label of x
pub label_cases : (S : Set) (e : Edge) (F : Edges) (x : ℕ)
    → (label S (e ∷ F) x ≡ label S F x) ⊎ ((label S F x ≡ label S F e.two) × (label S (e ∷ F) x ≡ label S F e.one))
unfolding label
label_cases S e F x = relabel_cases (S e.one && S e.two) (label S F e.one) (label S F e.two) (label S F x)

-- no other position has the label of one that is not reached
pub alone : (S : Set) (F : Edges) → Grown F → (v : ℕ) → (T (reached F v) → ⊥) → (x : ℕ) → label S F x ≡ v → x ≡ v
unfolding label
alone S [] g v d x h = h
alone S (e ∷ F) g v d x h = go (label_cases S e F x) (alone S F g.2 v (λ r. d (reached_old e F v r)))
  where
    go : (label S (e ∷ F) x ≡ label S F x) ⊎ ((label S F x ≡ label S F e.two) × (label S (e ∷ F) x ≡ label S F e.one))
        → ((x : ℕ) → label S F x ≡ v → x ≡ v) → x ≡ v
    go (inl i) ih = ih x (sym i ∙ h)
    go (inr (i, j)) ih = absurd (d (reached_old e F v (subst (λ z. T (reached F z)) (ih e.one (sym j ∙ h)) g.0)))

-- a position that is not reached is its own label
pub own : (S : Set) (F : Edges) → Grown F → (v : ℕ) → (T (reached F v) → ⊥) → label S F v ≡ v
unfolding label
own S [] g v d = refl
own S (e ∷ F) g v d = go (label_cases S e F v) (own S F g.2 v (λ r. d (reached_old e F v r)))
  where
    go : (label S (e ∷ F) v ≡ label S F v) ⊎ ((label S F v ≡ label S F e.two) × (label S (e ∷ F) v ≡ label S F e.one))
        → label S F v ≡ v → label S (e ∷ F) v ≡ v
    go (inl i) ih = i ∙ ih
    go (inr (i, j)) ih =
        absurd (d (subst (λ z. T (reached (e ∷ F) z)) (alone S F g.2 v (λ r. d (reached_old e F v r)) e.two (sym i ∙ ih)) (reached_new e F)))

-- Labels in one pass: the new end takes the old end's label if both are in S, else its own number; no other label changes.
pub label_new : (S : Set) (e : Edge) (F : Edges) → Grown (e ∷ F) → label S (e ∷ F) e.two ≡ pick (S e.one && S e.two) (label S F e.one) e.two
unfolding label
label_new S e F g = go (S e.one && S e.two)
  where
    p : ℕ
    p = label S F e.one

    q : ℕ
    q = label S F e.two

    same : (y : ℕ) → Relabelled p q q y → y ≡ p
    same y (moved i) = refl
    same y (kept i) = absurd (i refl)

    go : (b : Bool) → relabel b p q q ≡ pick b p e.two
    go true = same (relabel true p q q) (relabelled p q q)
    go false = own S F g.2 e.two g.1

pub label_old : (S : Set) (e : Edge) (F : Edges) → Grown (e ∷ F) → (x : ℕ) → (x ≡ e.two → ⊥) → label S (e ∷ F) x ≡ label S F x
label_old S e F g x d = go (label_cases S e F x)
  where
    go : (label S (e ∷ F) x ≡ label S F x) ⊎ ((label S F x ≡ label S F e.two) × (label S (e ∷ F) x ≡ label S F e.one)) → label S (e ∷ F) x ≡ label S F x
    go (inl i) = i
    go (inr (i, j)) = absurd (d (alone S F g.2 e.two g.1 x (i ∙ own S F g.2 e.two g.1)))

-- edges in growth order have no ring
pub grown_acyclic : (F : Edges) → Grown F → Acyclic F
grown_acyclic [] g = tt
grown_acyclic (e ∷ F) g =
    (λ h. reached_apart e F g e.one g.0 (alone all F g.2 e.two g.1 e.one (joined_label all F e.one e.two h ∙ own all F g.2 e.two g.1)), grown_acyclic F g.2)
