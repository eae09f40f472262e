-- The part of a list from one place to another, take (to - from) (drop from s).
use mathlib.Core.Path.{◌≡◌, ap, ap₂, ◌∙◌}
use mathlib.Core.List.{List, [], ◌∷◌, ◌++◌}
use Prim.Native.Nat.{ℕ, suc, ◌+◌, ◌-◌, ◌≤◌, ◌<◌}
use native.Mathlib.Numerals.{add-one}
use native.Mathlib.Omega.{arith}
use lib.ListN.{length, get_or, take, drop}
use lib.Seq.{drop-cons, drop-drop, take-add, take_all}

-- its first element, and the rest
pub part_first : (s : List ℕ) (from to : ℕ) → from < to → from < length s → take (to - from) (drop from s) ≡ get_or s from 0 ∷ take (to - (from + 1)) (drop (from + 1) s)
part_first s from to p q =
    let e : to - from ≡ suc (to - (from + 1)) = omega arith in
    rw (e, drop-cons s from 0 q, add-one)

-- nothing stands between a place and itself
pub part_none : (s : List ℕ) (at : ℕ) → take (at - at) (drop at s) ≡ []
part_none s at = let e : at - at ≡ 0 = omega arith in rw e

pub part_all : (s : List ℕ) → take (length s - 0) (drop 0 s) ≡ s
part_all s = take_all (length s - 0) s (omega arith)

-- one part after another
pub part_join : (s : List ℕ) (from mid to : ℕ) {x y : List ℕ} → from ≤ mid → mid ≤ to
    → take (mid - from) (drop from s) ≡ x → take (to - mid) (drop mid s) ≡ y → take (to - from) (drop from s) ≡ x ++ y
part_join s from mid to p q ex ey =
    let e : to - from ≡ (mid - from) + (to - mid) = omega arith in
    let f : from + (mid - from) ≡ mid = omega arith in
    ap (λ (n : ℕ). take n (drop from s)) e
    ∙ take-add (mid - from) (to - mid) (drop from s)
    ∙ ap₂ (λ (a b : List ℕ). a ++ b) ex (ap (take (to - mid)) (drop-drop (mid - from) from s ∙ ap (λ (n : ℕ). drop n s) f) ∙ ey)
