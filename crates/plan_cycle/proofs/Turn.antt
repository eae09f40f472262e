-- An edge of a tree whose reading ends in a refusal by 8: it is the rejected one exactly where its second group stands at the refused place.
use mathlib.Core.Path.{◌≡◌, refl}
use mathlib.Core.Logic.{◌⊎◌, inl, inr}
use mathlib.Core.List.{List, ◌∷◌}
use mathlib.Core.Bool.{not, ◌&&◌}
use Prim.Native.Nat.{ℕ, zero, suc, ◌<◌}
use native.Mathlib.Omega.{arith}
use lib.Dec.{T, eqb, ltb, ltb→lt, T_not}
use Rattle.base.specs.Found.{Found, refused, ask}
use Rattle.base.proofs.Bools.{T-left, T-right, not_not}
use Rattle.varint.specs.Reading.{varint_at}
use Rattle.tree.specs.Edges.{Edges, all, joined}
use Rattle.edges.specs.Reading.{varint_then, ends_apart, not_joined, room_at_ends, edges_from}
use Rattle.plan.specs.Plan.{Plan}
use Rattle.plan_groups.specs.Groups.{tree_end}
use Rattle.plan_cycle.specs.Cycle.{value_at, past_at, edge_at}
use Rattle.plan_cycle.proofs.Refusals.{passed, eighth, Whole, whole, further_on, tree_never}

-- k edges from `at` on, after those of E, end in the refusal
abbrev pub Refuses : ℕ → ℕ → List ℕ → ℕ → ℕ → Edges → Type 0
Refuses v k s place at E = edges_from v k s at E (tree_end v s) ≡ refused 8 place

-- E joins the ends of the edge at `at`
abbrev pub EndsJoined : List ℕ → ℕ → Edges → Type 0
EndsJoined s at E = T (joined all E (value_at s at) (value_at s (past_at s at)))

-- the edge is rejected at its second group, or the refusal is further on
abbrev Outcome : ℕ → ℕ → List ℕ → ℕ → ℕ → Edges → Type 0
Outcome v k s place at E = (EndsJoined s at E × (past_at s at ≡ place)) ⊎ ((EndsJoined s at E → ⊥) × Refuses v k s place (past_at s (past_at s at)) (edge_at s at ∷ E))

-- the edge at `at`, after those of E and before k more
pub record Turn (v k : ℕ) (s : List ℕ) (place at : ℕ) (E : Edges) : Type 0 where
  pub one_whole : Whole s at
  pub two_whole : Whole s (past_at s at)
  pub one_below : value_at s at < v
  pub two_below : value_at s (past_at s at) < v
  pub outcome : Outcome v k s place at E

module _ (v : ℕ) (s : List ℕ) (place : ℕ) where
  edge_turn : (k at : ℕ) (E : Edges) → Refuses v (suc k) s place at E → Turn v k s place at E
  unfolding edges_from
  edge_turn k at E e =
      let one = whole at (varint_at s at) (λ x y. varint_then s y (λ z w. seven x z y w)) e in
      let two = whole second (varint_at s second) (λ z w. seven a z second w) one.1 in
      let q = passed (ends_apart v a b) 7 second (eight a b second next) (λ i. omega arith) two.1 in
      let l = T-left (ltb a v && ltb b v) (not (eqb a b)) q.0 in
      record {
        one_whole = one.0;
        two_whole = two.0;
        one_below = ltb→lt a v (T-left (ltb a v) (ltb b v) l);
        two_below = ltb→lt b v (T-right (ltb a v) (ltb b v) l);
        outcome = go (eighth (not_joined E a b) second (nine a b second next) q.1);
      }
    where
      a : ℕ
      a = value_at s at

      second : ℕ
      second = past_at s at

      b : ℕ
      b = value_at s second

      next : ℕ
      next = past_at s second

      nine : ℕ → ℕ → ℕ → ℕ → Found Plan
      nine x z y w = ask (room_at_ends E x z) 9 y (edges_from v k s w (record { one = x; two = z } ∷ E) (tree_end v s))

      eight : ℕ → ℕ → ℕ → ℕ → Found Plan
      eight x z y w = ask (not_joined E x z) 8 y (nine x z y w)

      seven : ℕ → ℕ → ℕ → ℕ → Found Plan
      seven x z y w = ask (ends_apart v x z) 7 y (eight x z y w)

      go : ((T (not_joined E a b) → ⊥) × (second ≡ place)) ⊎ (T (not_joined E a b) × (nine a b second next ≡ refused 8 place)) → Outcome v k s place at E
      go (inl p) = inl (not_not (joined all E a b) p.0, p.1)
      go (inr p) = inr (T_not (joined all E a b) p.0, (passed (room_at_ends E a b) 9 second (edges_from v k s next (edge_at s at ∷ E) (tree_end v s)) (λ i. omega arith) p.1).1)

  -- there is such an edge
  pub next_turn : (k at : ℕ) (E : Edges) → Refuses v k s place at E → (j : ℕ) × (k ≡ suc j) × Turn v j s place at E
  unfolding edges_from
  next_turn zero at E e = absurd (tree_never v s E at e)
  next_turn (suc k) at E e = (k, refl, edge_turn k at E e)

  -- the refused place is further on
  beyond : (k at : ℕ) (E : Edges) → Refuses v k s place at E → at < place
  unfolding edges_from
  beyond zero at E e = absurd (tree_never v s E at e)
  beyond (suc k) at E e = let t = edge_turn k at E e in go t t.outcome (beyond k (past_at s (past_at s at)) (edge_at s at ∷ E))
    where
      go : Turn v k s place at E → Outcome v k s place at E
          → (Refuses v k s place (past_at s (past_at s at)) (edge_at s at ∷ E) → past_at s (past_at s at) < place) → at < place
      go t (inl p) rec = omega (arith, further_on s at t.one_whole, p.1)
      go t (inr p) rec = omega (arith, further_on s at t.one_whole, further_on s (past_at s at) t.two_whole, rec p.1)

module _ {v k : ℕ} {s : List ℕ} {place at : ℕ} {E : Edges} (t : Turn v k s place at E) where
  -- the rejected edge
  pub closing : past_at s at ≡ place → EndsJoined s at E
  closing i = go t.outcome
    where
      go : Outcome v k s place at E → EndsJoined s at E
      go (inl p) = p.0
      go (inr p) = absurd (omega (arith, further_on s (past_at s at) t.two_whole, beyond v s place k (past_at s (past_at s at)) (edge_at s at ∷ E) p.1))

  -- one before it
  pub following : (past_at s at ≡ place → ⊥) → (EndsJoined s at E → ⊥) × Refuses v k s place (past_at s (past_at s at)) (edge_at s at ∷ E)
  following d = go t.outcome
    where
      go : Outcome v k s place at E → (EndsJoined s at E → ⊥) × Refuses v k s place (past_at s (past_at s at)) (edge_at s at ∷ E)
      go (inl p) = absurd (d p.1)
      go (inr p) = p
