-- The smallest value that passes, as a search over the values 0 to d gives it; and how many pass, as a list of them tells.
use mathlib.Core.Path.{◌≡◌, refl, sym, ap, ap₂, ◌∙◌}
use mathlib.Core.Bool.{Bool, true, false}
use mathlib.Core.List.{List}
use Prim.Native.Nat.{ℕ, zero, suc, ◌+◌, ◌-◌, ◌≤◌, ◌<◌}
use native.Mathlib.Decide.{dec_lt}
use native.Mathlib.Numerals.{add-one}
use native.Mathlib.Omega.{arith}
use borrow.Author.Tests.{le-leb, lt-leb}
use lib.Dec.{leb}
use lib.ListN.{length, get_or, take, drop}
use Rattle.std.specs.Prelude.{Option, Some, None, MatchOption, count_by, slice_range}
use Rattle.std.specs.Bool.{then_some}
use Rattle.std.proofs.Common.{below_more}
use Rattle.std.proofs.lemmas.List.{length-drop, get_or-drop}
use Rattle.std.proofs.lemmas.List.Sums.{count_by_more_no, count_by_more_yes}
use Rattle.base.specs.Pick.{pick, smallest}
use Rattle.base.specs.Sets.{Set, bit, count}
use Rattle.base.proofs.Bools.{true→T, false→not-T}
use Rattle.base.proofs.Counts.{count_same}
use Rattle.base.proofs.Loops.{count_start, count_next}
use Rattle.base.proofs.Smallest.{sought, smallest_is}
use Rattle.std.proofs.lemmas.Option.{none-some}
use Rattle.message.specs.Message.{none_value}
use Rattle.level_counts.specs.Choice.{first_value, first_value_or, none_if}

-- what a search says: nothing passes, or v does and nothing before it
pub value_found : (d : ℕ) (p : Set) (r : Option ℕ)
    → MatchOption r ((v : ℕ) → v ≤ d → p v ≡ false) (λ v. (v ≤ d) × (p v ≡ true) × ((w : ℕ) → w < v → p w ≡ false))
    → r ≡ first_value d p
value_found d p None h = rw (lt-leb (smallest (d + 1) p) d (beyond (dec_lt d (smallest (d + 1) p))))
  where
    beyond : Dec (d < smallest (d + 1) p) → d < smallest (d + 1) p
    beyond (yes l) = l
    beyond (no l) = absurd (false→not-T (h (smallest (d + 1) p) (omega arith)) ((sought (d + 1) p).hit (omega arith)))
value_found d p (Some v) h =
    let e : smallest (d + 1) p ≡ v = smallest_is (d + 1) p v (omega (arith, h.0)) (true→T h.1) (λ i l. false→not-T (h.2 i l)) in
    rw (e, le-leb v d h.0)

-- nothing passes, where the search ended at v
pub none_found : (d v : ℕ) (p : Set) → ((w : ℕ) → w < v → p w ≡ false) → p v ≡ false → d ≤ v → None ≡ first_value d p
none_found d v p h e l = value_found d p None (λ w b. below_more (λ (k : ℕ). p k ≡ false) v h e w (omega arith))

-- the first n of a list
count_taken : (p : Set) (l : List ℕ) (n : ℕ) → n ≤ length l → count_by p (take n l) ≡ count n (λ i. p (get_or l i 0))
count_taken p l zero h = sym (count_start (λ i. p (get_or l i 0)))
count_taken p l (suc n) h =
    ap (λ (k : ℕ). count_by p (take k l)) (sym (add-one n))
    ∙ next (count_taken p l n (omega arith)) (p (get_or l n 0)) refl
    ∙ sym (count_next (λ i. p (get_or l i 0)) n)
    ∙ ap (λ (k : ℕ). count k (λ i. p (get_or l i 0))) (add-one n)
  where
    next : count_by p (take n l) ≡ count n (λ i. p (get_or l i 0)) → (b : Bool) → p (get_or l n 0) ≡ b
        → count_by p (take (n + 1) l) ≡ count n (λ i. p (get_or l i 0)) + bit (p (get_or l n 0))
    next r true e = count_by_more_yes p l n 0 (omega arith) e ∙ ap₂ ◌+◌ r (ap bit (sym e))
    next r false e = omega (arith, count_by_more_no p l n 0 (omega arith) e, r, ap bit e)

-- the values 0 to d, whose sets lie in a list from `from` on
pub values_counted : (p : Set) (l : List ℕ) (from d r : ℕ) → from + d < length l → r ≡ count_by p (slice_range l from (from + d + 1))
    → r ≡ count (d + 1) (λ v. p (get_or l (from + v) 0))
values_counted p l from d r h e =
    let n : from + d + 1 - from ≡ d + 1 = omega arith in
    e
    ∙ ap (λ (k : ℕ). count_by p (take k (drop from l))) n
    ∙ count_taken p (drop from l) (d + 1) (omega (arith, length-drop from l))
    ∙ count_same (d + 1) (λ v. p (get_or (drop from l) v 0)) (λ v. p (get_or l (from + v) 0)) (λ v _. ap p (get_or-drop from l v 0))

-- ---- the smallest value, else something else

module _ (d : ℕ) (p : Set) (other : Option ℕ) where
  -- there is one
  pub value_there : (v : ℕ) → Some v ≡ first_value d p → Some v ≡ first_value_or d p other
  value_there v = go (leb (smallest (d + 1) p) d)
    where
      go : (b : Bool) → Some v ≡ pick b (Some (smallest (d + 1) p)) None → Some v ≡ pick b (Some (smallest (d + 1) p)) other
      go true e = e
      go false e = absurd (none-some v (sym e))

  -- there is none
  pub value_missing : None ≡ first_value d p → other ≡ first_value_or d p other
  value_missing = go (leb (smallest (d + 1) p) d)
    where
      go : (b : Bool) → None ≡ pick b (Some (smallest (d + 1) p)) None → other ≡ pick b (Some (smallest (d + 1) p)) other
      go true e = absurd (none-some (smallest (d + 1) p) e)
      go false e = refl

-- ---- the code's choice by a test

pub if_is_pick : (a b : Bool) → a ≡ b → then_some a none_value ≡ none_if b
if_is_pick a b e = rw e (go b)
  where
    go : (b : Bool) → then_some b none_value ≡ none_if b
    go true = refl
    go false = refl
