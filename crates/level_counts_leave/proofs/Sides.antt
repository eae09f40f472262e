-- The smallest side that passes, as a search over the sides 1 to d gives it.
use mathlib.Core.Path.{◌≡◌}
use mathlib.Core.Bool.{true, false}
use Prim.Native.Nat.{ℕ, ◌+◌, ◌-◌, ◌≤◌, ◌<◌}
use native.Mathlib.Decide.{dec_lt, ℕ_discrete}
use native.Mathlib.Omega.{arith}
use borrow.Author.Tests.{lt-ltb, le-ltb}
use Rattle.std.specs.Prelude.{Some, None}
use Rattle.base.specs.Pick.{smallest}
use Rattle.base.specs.Sets.{Set}
use Rattle.base.proofs.Bools.{true→T, false→not-T}
use Rattle.base.proofs.Smallest.{sought, smallest_is}
use Rattle.level_counts_leave.specs.Inner.{first_side}

-- side k passes and none before it
pub side_found : (d k : ℕ) (p : Set) → ((i : ℕ) → i + 1 < k → p (i + 1) ≡ false) → p k ≡ true → 1 ≤ k → k ≤ d → Some k ≡ first_side d p
side_found d k p h e lo hi =
    let n : k - 1 + 1 ≡ k = omega arith in
    let s : smallest d (λ i. p (i + 1)) ≡ k - 1 = smallest_is d (λ i. p (i + 1)) (k - 1) (omega arith) (rw n (true→T e)) (λ i l. false→not-T (h i (omega arith))) in
    rw (s, lt-ltb (k - 1) d (omega arith), n)

-- none passes, where the search ended at k
pub side_missing : (d k : ℕ) (p : Set) → ((i : ℕ) → i + 1 < k → p (i + 1) ≡ false) → p k ≡ false → 1 ≤ k → d ≤ k → None ≡ first_side d p
side_missing d k p h e lo hi = rw (le-ltb (smallest d (λ i. p (i + 1))) d (past (dec_lt (smallest d (λ i. p (i + 1))) d)))
  where
    all : (i : ℕ) → i < d → p (i + 1) ≡ false
    all i l = go (ℕ_discrete (i + 1) k)
      where
        go : Dec (i + 1 ≡ k) → p (i + 1) ≡ false
        go (yes q) = rw q e
        go (no q) = h i (omega arith)

    past : Dec (smallest d (λ i. p (i + 1)) < d) → d ≤ smallest d (λ i. p (i + 1))
    past (yes b) = absurd (false→not-T (all (smallest d (λ i. p (i + 1))) b) ((sought d (λ i. p (i + 1))).hit b))
    past (no b) = omega arith
