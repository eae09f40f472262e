-- The cycle is the set that closes and of which no edge can be left out: a way to it that does not try every edge.
use mathlib.Core.Path.{◌≡◌, subst}
use mathlib.Core.Bool.{not}
use Prim.Native.Nat.{ℕ}
use lib.Dec.{T, eqb, eqb→eq, T_not, not_T}
use Rattle.base.specs.Sets.{Set}
use Rattle.base.proofs.Bools.{T_and, T-ext, not_not}
use Rattle.tree.specs.Edges.{Edges}
use Rattle.tree.specs.Component.{without}
use Rattle.cycles.specs.Cycles.{on_cycle}
use Rattle.cycles.specs.Statement.{Rejected, Closing}
use Rattle.cycles.proofs.Closes.{closes_mono}
use Rattle.cycles.proofs.Theorem as cycles

module _ (E : Edges) (r : Rejected E) (K : Set) (c : Closing E K) where
  -- an edge of K that is not on the cycle can be left out
  left_out : (i : ℕ) → T (not (on_cycle E i)) → Closing E (without K i)
  unfolding without
  left_out i d =
      let s = cycles.smallest E r in
      closes_mono (on_cycle E) (without K i) E
      (λ j l h. T_and (K j) (not (eqb j i)) (s.least K c j h) (not_T (eqb j i) (λ e. T_not (on_cycle E i) d (subst (λ (k : ℕ). T (on_cycle E k)) (eqb→eq j i e) h))))
      s.closing

  pub minimal : ((i : ℕ) → T (K i) → Closing E (without K i) → ⊥) → (i : ℕ) → on_cycle E i ≡ K i
  minimal m i = T-ext (on_cycle E i) (K i) ((cycles.smallest E r).least K c i) (λ k. not_not (on_cycle E i) (λ d. m i k (left_out i d)))
