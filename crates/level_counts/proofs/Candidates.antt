-- Candidates in the order "smallest, none last": the values 0 to d, then none.
use mathlib.Core.Path.{◌≡◌, refl, sym, ap, ◌∙◌}
use mathlib.Core.Bool.{Bool, true, false, ◌||◌}
use Prim.Native.Nat.{ℕ, ◌+◌, ◌≤◌, ◌<◌}
use native.Mathlib.Decide.{dec_lt}
use native.Mathlib.Omega.{arith}
use lib.Dec.{leb, ltb, leb→le, le→leb}
use borrow.Author.Tests.{le-leb, lt-leb, lt-ltb, le-ltb}
use Rattle.std.specs.Prelude.{Some, None}
use Rattle.std.specs.Bool.{then_some}
use Rattle.base.specs.Pick.{pick, smallest}
use Rattle.base.proofs.Smallest.{sought, smallest_same}
use Rattle.base.proofs.Loops.{smallest_next}
use Rattle.base.proofs.Bools.{true→T, false→not-T}
use Rattle.message.specs.Message.{none_value}
use Rattle.level_counts.specs.Choice.{first_value, first_value_or, none_if, first_candidate}
use Rattle.level_counts.proofs.Values.{value_there, value_missing, if_is_pick}

-- the search through the candidates: first the values 0 to d, then none
module _ (p : ℕ → Bool) (d : ℕ) where
  r : ℕ
  r = smallest (d + 1) p

  at : ℕ → Bool
  at i = p (pick (leb i d) i none_value)

  at_value : (i : ℕ) → i < d + 1 → at i ≡ p i
  unfolding at
  at_value i l = rw (le-leb i d (omega arith))

  at_last : at (d + 1) ≡ p none_value
  unfolding at
  at_last = rw (lt-leb (d + 1) d (omega arith))

  values : smallest (d + 1) at ≡ r
  unfolding r
  values = smallest_same (d + 1) at p at_value

  step : smallest (d + 2) at ≡ pick (ltb r (d + 1) || p none_value) r (d + 2)
  step =
      let n : d + 2 ≡ (d + 1) + 1 = omega arith in
      ap (λ (k : ℕ). smallest k at) n ∙ smallest_next at (d + 1) ∙ rw (values, at_last) (ap (pick (ltb r (d + 1) || p none_value) r) (sym n))

  candidate_value : r ≤ d → r ≡ smallest (d + 2) (λ i. p (pick (leb i d) i none_value))
  unfolding at
  candidate_value h = sym (step ∙ rw (lt-ltb r (d + 1) (omega arith)))

  candidate_none : d < r → p none_value ≡ true → d + 1 ≡ smallest (d + 2) (λ i. p (pick (leb i d) i none_value))
  unfolding at r
  candidate_none h q =
      let m : r ≤ d + 1 = (sought (d + 1) p).most in
      let z : r ≡ d + 1 = omega arith in
      sym (step ∙ rw (le-ltb r (d + 1) (omega arith), q) z)

  candidate_missing : d < r → p none_value ≡ false → d + 2 ≡ smallest (d + 2) (λ i. p (pick (leb i d) i none_value))
  unfolding at
  candidate_missing h q = sym (step ∙ rw (le-ltb r (d + 1) (omega arith), q))

  -- the smallest value that passes, else none if it does, is the first candidate that passes
  pub candidates_in_order : first_value_or d p (none_if (p none_value)) ≡ first_candidate d p
  unfolding r
  candidates_in_order = go (leb r d) refl (p none_value) refl
    where
      beyond : Dec (d < r) → leb r d ≡ false → d < r
      beyond (yes l) i = l
      beyond (no l) i = absurd (false→not-T i (le→leb r d (omega arith)))

      go : (a : Bool) → leb r d ≡ a → (b : Bool) → p none_value ≡ b
          → pick a (Some r) (pick b (Some none_value) None) ≡ first_candidate d p
      go true i b j =
          let l : r ≤ d = leb→le r d (true→T i) in
          rw (← candidate_value l, lt-ltb r (d + 2) (omega arith), i)
      go false i true j =
          let l : d < r = beyond (dec_lt d r) i in
          rw (← candidate_none l j, lt-ltb (d + 1) (d + 2) (omega arith), lt-leb (d + 1) d (omega arith))
      go false i false j =
          let l : d < r = beyond (dec_lt d r) i in
          rw (← candidate_missing l j, le-ltb (d + 2) (d + 2) (omega arith))

  -- a value passes
  pub candidate_there : (v : ℕ) → Some v ≡ first_value d p → Some v ≡ first_candidate d p
  candidate_there v e = value_there d p (none_if (p none_value)) v e ∙ candidates_in_order

  -- no value passes: none, if it does
  pub candidate_last : (b : Bool) → None ≡ first_value d p → b ≡ p none_value → then_some b none_value ≡ first_candidate d p
  candidate_last b e q = if_is_pick b (p none_value) q ∙ value_missing d p (none_if (p none_value)) e ∙ candidates_in_order
