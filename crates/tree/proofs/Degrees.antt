-- The centre has at most as many neighbours as edges.
use mathlib.Core.Path.{◌≡◌, refl, sym, ap, ◌∙◌, subst}
use mathlib.Core.Logic.{inl, inr}
use mathlib.Core.List.{[], ◌∷◌}
use mathlib.Core.Bool.{Bool, true, false, ◌&&◌, ◌||◌}
use Prim.Native.Nat.{ℕ, ◌≤◌}
use native.Mathlib.Omega.{arith}
use lib.Dec.{T, eqb, eqb→eq}
use Rattle.base.specs.Sets.{Set, bit, count}
use Rattle.base.proofs.Bools.{T-right, or_split}
use Rattle.base.proofs.Counts.{count_mono, count_or_and, count_none, count_one}
use Rattle.tree.specs.Edges.{Edge, Edges, label, all, ends, adjacent, edges_at}
use Rattle.tree.specs.Inner.{Acyclic}
use Rattle.tree.specs.Component.{centre, neighbours, degree}
use Rattle.tree.proofs.Acyclic.{apart_ends}

-- one edge gives c one neighbour at most (its ends differ)
at_edge : (n : ℕ) (e : Edge) (c : ℕ) → (e.one ≡ e.two → ⊥) → count n (λ w. ends e c w) ≤ bit (eqb c e.one || eqb c e.two)
unfolding ends
at_edge n e c d = go (eqb c e.one) (eqb c e.two) refl refl
  where
    p : ℕ
    p = e.one

    q : ℕ
    q = e.two

    go : (a b : Bool) → eqb c p ≡ a → eqb c q ≡ b → count n (λ w. (a && eqb w q) || (b && eqb w p)) ≤ bit (a || b)
    go true true i j = absurd (d (sym (eqb→eq c p (subst T (sym i) tt)) ∙ eqb→eq c q (subst T (sym j) tt)))
    go true false i j = count_one n (λ w. eqb w q || false) q (λ w h. elim (or_split (eqb w q) false h) [ inl k ↦ eqb→eq w q k | inr k ↦ absurd k ])
    go false true i j = count_one n (λ w. eqb w p) p (λ w h. eqb→eq w p h)
    go false false i j = omega (arith, count_none n (λ _. false) (λ _ _ h. h))

-- a position has at most as many neighbours as edges
pub adjacent_edges : (n : ℕ) (E : Edges) → Acyclic E → (c : ℕ) → count n (λ w. adjacent E c w) ≤ edges_at E c
unfolding adjacent edges_at
adjacent_edges n [] k c = omega (arith, count_none n (λ _. false) (λ _ _ h. h))
adjacent_edges n (e ∷ E) k c =
    omega (arith, at_edge n e c (λ i. apart_ends e E k (ap (label all E) i)), adjacent_edges n E k.1 c, count_or_and n (λ w. ends e c w) (λ w. adjacent E c w))

-- the degree is at most the number of edges at the centre
pub degree_edges : (n : ℕ) (E : Edges) → Acyclic E → (S : Set) → degree E n S ≤ edges_at E (centre E n S)
unfolding degree neighbours
degree_edges n E k S =
    let m : count n (neighbours E n S) ≤ count n (λ w. adjacent E (centre E n S) w) = count_mono n _ _ (λ w l h. T-right (S w) (adjacent E (centre E n S) w) h) in
    omega (arith, adjacent_edges n E k (centre E n S))

-- and so at most any bound on edges at a position
pub degree_bound : (n : ℕ) (E : Edges) → Acyclic E → (S : Set) (b : ℕ) → ((x : ℕ) → edges_at E x ≤ b) → degree E n S ≤ b
degree_bound n E k S b h = omega (arith, degree_edges n E k S, h (centre E n S))
