-- Among edges read one after the other at most one is the first that joins ends already joined.
use mathlib.Core.Path.{◌≡◌, subst}
use mathlib.Core.List.{List}
use Prim.Native.Nat.{ℕ, zero, suc, ◌≤◌, ◌<◌}
use native.Mathlib.Decide.{dec_lt}
use native.Mathlib.Omega.{arith}
use lib.Dec.{T}
use Rattle.base.proofs.Bools.{or_right}
use Rattle.tree.specs.Edges.{all, joined}
use Rattle.cycles.specs.Cycles.{closes}
use Rattle.cycles.specs.Statement.{Rejected}
use Rattle.cycles.proofs.Closes.{rejected_closes}
use Rattle.plan_cycle.specs.Cycle.{edge_at}
use Rattle.plan_cycle.proofs.Sequence.{place_after, first_edges}

module _ (s : List ℕ) (at : ℕ) where
  -- where an edge closes, one does among more edges
  closes_more : (m n : ℕ) → m ≤ n → T (closes (first_edges s at m)) → T (closes (first_edges s at n))
  unfolding closes first_edges
  closes_more m zero l h = let i : m ≡ 0 = omega arith in subst (λ (k : ℕ). T (closes (first_edges s at k))) i h
  closes_more m (suc n) l h = go (dec_lt n m) (closes_more m n)
    where
      go : Dec (n < m) → (m ≤ n → T (closes (first_edges s at m)) → T (closes (first_edges s at n))) → T (closes (first_edges s at (suc n)))
      go (yes p) rec = let i : m ≡ suc n = omega arith in subst (λ (k : ℕ). T (closes (first_edges s at k))) i h
      go (no p) rec =
          let e = edge_at s (place_after s at n) in
          or_right (joined all (first_edges s at n) e.one e.two) (closes (first_edges s at n)) (rec (omega arith) h)

  not_before : (m n : ℕ) → m < n → Rejected (first_edges s at m) → Rejected (first_edges s at n) → ⊥
  unfolding first_edges
  not_before m zero l g h = h
  not_before m (suc n) l g h = h.1 (closes_more m n (omega arith) (rejected_closes (first_edges s at m) g))

  pub rejected_once : (m n : ℕ) → Rejected (first_edges s at m) → Rejected (first_edges s at n) → m ≡ n
  rejected_once m n g h = go (dec_lt m n) (dec_lt n m)
    where
      go : Dec (m < n) → Dec (n < m) → m ≡ n
      go (yes p) d = absurd (not_before m n p g h)
      go (no p) (yes q) = absurd (not_before n m q h g)
      go (no p) (no q) = omega arith
