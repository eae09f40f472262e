-- An edge left out of one part of a plan changes nothing in another part.
use mathlib.Core.Path.{◌≡◌, refl, sym, ap, ◌∙◌, subst}
use mathlib.Core.Logic.{◌⊎◌, inl, inr}
use mathlib.Core.List.{[], ◌∷◌}
use mathlib.Core.Bool.{Bool, true, false}
use Prim.Native.Nat.{ℕ}
use lib.Dec.{T, eqb}
use lib.ListN.{length}
use borrow.Author.Tests.{eqb-true, eqb-false}
use Rattle.base.specs.Pick.{pick}
use Rattle.base.proofs.Bools.{T-ext, true→T, false→not-T}
use Rattle.tree.specs.Walk.{Walk, here, step}
use Rattle.tree.specs.Edges.{Edge, Edges, Ends, Adjacent, all, label, joined}
use Rattle.tree.specs.Inner.{In, Acyclic}
use Rattle.tree.specs.Component.{without}
use Rattle.tree.proofs.Labels.{edge_label, walk_label, label_walk, joined_label, label_joined, Across, label_step}
use Rattle.tree.proofs.Acyclic.{apart_ends}
use Rattle.cycles.specs.Cycles.{chosen}
use Rattle.cycles.specs.Inner.{numbered}
use Rattle.cycles.proofs.Chosen.{without_latest, without_other}
use Rattle.cycles.proofs.Joins.{Joined, join_later, join_before}

-- neighbours stay neighbours without the edge with number i, or they are its ends
left_out : (E : Edges) (i x y : ℕ) → Adjacent E x y → Adjacent (chosen (without all i) E) x y ⊎ Ends (numbered E i) x y
unfolding numbered
left_out [] i x y h = absurd h
left_out (e ∷ E) i x y h = go (eqb i (length E)) refl h (left_out E i x y)
  where
    Near : Edges → Type 0
    Near F = Adjacent F x y

    go : (b : Bool) → eqb i (length E) ≡ b → Near (e ∷ E) → (Near E → Near (chosen (without all i) E) ⊎ Ends (numbered E i) x y) → Near (chosen (without all i) (e ∷ E)) ⊎ Ends (pick b e (numbered E i)) x y
    go true q (inl h) ih = inr h
    go true q (inr h) ih = inl (subst (λ j. Near (chosen (without all j) (e ∷ E))) (sym (eqb-true i (length E) q)) (subst Near (sym (without_latest e E)) h))
    go false q (inl h) ih = inl (subst Near (sym (without_other e E i (eqb-false i (length E) q))) (inl h))
    go false q (inr h) ih = elim (ih h) [ inl p ↦ inl (subst Near (sym (without_other e E i (eqb-false i (length E) q))) (inr p)) | inr p ↦ inr p ]

-- what is joined to d stays so without an edge that is joined to c, where c and d are not joined
pub beyond : (E : Edges) (i c d x : ℕ) → Joined E (numbered E i).one c → (Joined E c d → ⊥) → Joined E x d → Joined (chosen (without all i) E) x d
beyond E i c d x a k j = walk_label all F (go refl (label_walk all E x d tt tt j))
  where
    F : Edges
    F = chosen (without all i) E

    L : ℕ → ℕ
    L = label all E

    go : {x y : ℕ} → L y ≡ L d → Walk (Adjacent E) (In all) x y → Walk (Adjacent F) (In all) x y
    go q (here p) = here p
    go q (step {x = x} {y = y} {z = z} p h w) = step p (at (left_out E i x y h)) (go q w)
      where
        at : Adjacent F x y ⊎ Ends (numbered E i) x y → Adjacent F x y
        at (inl h) = h
        at (inr (inl (u, v))) = absurd (k (sym a ∙ ap L (sym u) ∙ edge_label all E x y h tt tt ∙ walk_label all E w ∙ q))
        at (inr (inr (u, v))) = absurd (k (sym a ∙ ap L (sym v) ∙ walk_label all E w ∙ q))

module _ (e : Edge) (E : Edges) (ok : Acyclic (e ∷ E)) (c d : ℕ) (ends : Ends e c d) (i : ℕ) (near : Joined E (numbered E i).one c) where
  abbrev F : Edges
  F = chosen (without all i) E

  -- the position itself where it is joined to c, else c
  abbrev pull : ℕ → ℕ
  pull z = pick (joined all E z c) z c

  apart : Joined E c d → ⊥
  apart h = elim ends [ inl (u, v) ↦ apart_ends e E ok (cc (h, ap (label all E) u, ap (label all E) v)) | inr (u, v) ↦ apart_ends e E ok (cc (h, ap (label all E) u, ap (label all E) v)) ]

  -- what the latest edge joins to c was joined to c or to d
  side : (z : ℕ) → Joined (e ∷ E) z c → Joined E z c ⊎ Joined E z d
  side z h = by ends (label_step all e E z c h)
    where
      by : Ends e c d → Joined E z c ⊎ Across all E e c z ⊎ Across all E e z c → Joined E z c ⊎ Joined E z d
      by x (inl p) = inl p
      by (inl (u, v)) (inr (inl (_, _, m, n))) = inr (n ∙ ap (label all E) (sym v))
      by (inl (u, v)) (inr (inr (_, _, m, n))) = absurd (apart_ends e E ok (ap (label all E) (sym u) ∙ n))
      by (inr (u, v)) (inr (inl (_, _, m, n))) = absurd (apart_ends e E ok (sym m ∙ ap (label all E) u))
      by (inr (u, v)) (inr (inr (_, _, m, n))) = inr (m ∙ ap (label all E) (sym v))

  pulled : (z : ℕ) → Joined (e ∷ E) z c → Joined (e ∷ F) z (pull z) × Joined E (pull z) c
  pulled z h = go (joined all E z c) refl (side z h)
    where
      go : (b : Bool) → joined all E z c ≡ b → Joined E z c ⊎ Joined E z d → Joined (e ∷ F) z (pick b z c) × Joined E (pick b z c) c
      go true q s = (refl, joined_label all E z c (true→T q))
      go false q (inl p) = absurd (false→not-T q (label_joined all E z c p))
      go false q (inr p) = (join_later e F z d (beyond E i c d z near apart p) ∙ sym (edge_label all (e ∷ F) c d (inl ends) tt tt), refl)

  pub pull_joined : (x y : ℕ) → Joined (e ∷ E) x c → Joined (e ∷ E) y c → joined all (e ∷ F) x y ≡ joined all F (pull x) (pull y)
  pull_joined x y p q = T-ext (joined all (e ∷ F) x y) (joined all F (pull x) (pull y)) down up
    where
      down : T (joined all (e ∷ F) x y) → T (joined all F (pull x) (pull y))
      down h = label_joined all F (pull x) (pull y) (join_before e E ok (without all i) (pull x) (pull y) ((pulled x p).1 ∙ sym (pulled y q).1)
          (sym (pulled x p).0 ∙ joined_label all (e ∷ F) x y h ∙ (pulled y q).0))

      up : T (joined all F (pull x) (pull y)) → T (joined all (e ∷ F) x y)
      up h = label_joined all (e ∷ F) x y ((pulled x p).0 ∙ join_later e F (pull x) (pull y) (joined_label all F (pull x) (pull y) h) ∙ sym (pulled y q).0)
