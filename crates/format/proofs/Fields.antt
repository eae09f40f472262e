-- One field, case by case.
use mathlib.Core.Path.{◌≡◌, refl, sym, ap, ◌∙◌}
use mathlib.Core.Logic.{◌⊎◌, inl, inr}
use mathlib.Core.List.{List}
use Prim.Native.Nat.{ℕ, ◌<◌, ◌≤◌}
use native.Mathlib.Omega.{arith}
use native.Mathlib.Decide.{dec_lt}
use borrow.Author.Tests.{lt-ltb, le-ltb}
use Rattle.std.specs.Prelude.{Ok, Err}
use Rattle.varint.specs.declared.VarintError.TheVariants.{Short, Malformed}
use Rattle.varint.specs.Reading.{VarintRead, value, varint_at}
use Rattle.varint.proofs.Laws.{same_parsed}
use Rattle.format.specs.declared.Fault.{Fault}
use Rattle.format.specs.Reading.{Read, whole, failed, fault_of, field_of, field_at}

module _ (low high at : ℕ) where
  pub of_below : (v next : ℕ) → v < low → field_of low high at (value v next) ≡ failed Fault.Outside at
  of_below v next h = simp (lt-ltb v low h)

  pub of_above : (v next : ℕ) → low ≤ v → high < v → field_of low high at (value v next) ≡ failed Fault.Outside at
  of_above v next h k = simp (le-ltb v low h, lt-ltb high v k)

  pub of_value : (v next : ℕ) → low ≤ v → v ≤ high → field_of low high at (value v next) ≡ whole v next
  of_value v next h k = simp (le-ltb v low h, le-ltb high v k)

  pub fault_above : (least : ℕ) → high < least → fault_of high (Short least) ≡ Fault.CutOutside
  fault_above least h = simp (lt-ltb high least h)

  pub fault_cut : (least : ℕ) → least ≤ high → fault_of high (Short least) ≡ Fault.Cut
  fault_cut least h = simp (le-ltb high least h)

  pub of_short_above : (least : ℕ) → high < least → field_of low high at (Err (Short least)) ≡ failed Fault.CutOutside at
  of_short_above least h = ap (λ (f : Fault). failed f at) (fault_above least h)

  pub of_short : (least : ℕ) → least ≤ high → field_of low high at (Err (Short least)) ≡ failed Fault.Cut at
  of_short least h = ap (λ (f : Fault). failed f at) (fault_cut least h)

-- what is read alike says the same and ends at the same place; what fails alike, by the same fault at the same place
pub same_whole : {A : Type 0} {a b : A} {m n : ℕ} → whole a m ≡ whole b n → (a ≡ b) × (m ≡ n)
same_whole e = same_parsed e

pub same_failed : {A : Type 0} {f g : Fault} {m n : ℕ} → failed {A = A} f m ≡ failed g n → (f ≡ g) × (m ≡ n)
same_failed {A} {f} e = (ap fault_or e, ap place_or e)
  where
    fault_or : Read A → Fault
    fault_or (Ok r) = f
    fault_or (Err x) = x.fault

    place_or : Read A → ℕ
    place_or (Ok r) = 0
    place_or (Err x) = x.at

-- a field whose varint is read as r
pub read_as : (low high : ℕ) (s : List ℕ) (at : ℕ) {r : VarintRead} {x : Read ℕ} → varint_at s at ≡ r → field_of low high at r ≡ x → x ≡ field_at low high s at
unfolding field_at
read_as low high s at e f = sym (ap (field_of low high at) e ∙ f)

-- what stands where a field is read, and what is found
pub data Finds (low high : ℕ) (s : List ℕ) (at : ℕ) : Type 0 where
  good : (v next : ℕ) → low ≤ v → v ≤ high → varint_at s at ≡ value v next → field_at low high s at ≡ whole v next → Finds low high s at
  outside : (v next : ℕ) → (v < low) ⊎ (high < v) → varint_at s at ≡ value v next → field_at low high s at ≡ failed Fault.Outside at → Finds low high s at
  cut : (least : ℕ) → least ≤ high → varint_at s at ≡ Err (Short least) → field_at low high s at ≡ failed Fault.Cut at → Finds low high s at
  cut_outside : (least : ℕ) → high < least → varint_at s at ≡ Err (Short least) → field_at low high s at ≡ failed Fault.CutOutside at → Finds low high s at
  malformed : varint_at s at ≡ Err Malformed → field_at low high s at ≡ failed Fault.Malformed at → Finds low high s at

pub finds : (low high : ℕ) (s : List ℕ) (at : ℕ) → Finds low high s at
unfolding field_at
finds low high s at = go (varint_at s at) refl
  where
    found : (v next : ℕ) → varint_at s at ≡ value v next → Dec (v < low) → Dec (high < v) → Finds low high s at
    found v next e (yes p) d = outside v next (inl p) e (ap (field_of low high at) e ∙ of_below low high at v next p)
    found v next e (no p) (yes q) = outside v next (inr q) e (ap (field_of low high at) e ∙ of_above low high at v next (omega arith) q)
    found v next e (no p) (no q) = good v next (omega arith) (omega arith) e (ap (field_of low high at) e ∙ of_value low high at v next (omega arith) (omega arith))

    short : (least : ℕ) → varint_at s at ≡ Err (Short least) → Dec (high < least) → Finds low high s at
    short least e (yes p) = cut_outside least p e (ap (field_of low high at) e ∙ of_short_above low high at least p)
    short least e (no p) = cut least (omega arith) e (ap (field_of low high at) e ∙ of_short low high at least (omega arith))

    go : (r : VarintRead) → varint_at s at ≡ r → Finds low high s at
    go (Ok r) e = found r.value r.next e (dec_lt r.value low) (dec_lt high r.value)
    go (Err (Short least)) e = short least e (dec_lt high least)
    go (Err Malformed) e = malformed e (ap (field_of low high at) e)
