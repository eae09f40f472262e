-- Questions 7 to 9 of a further edge, and what the forest and the numbers of edges tell of them.
use mathlib.Core.Path.{◌≡◌, refl, ap₂}
use mathlib.Core.List.{List}
use mathlib.Core.Bool.{Bool, true, false, not, ◌&&◌}
use Prim.Native.Nat.{ℕ, ◌<◌}
use native.Mathlib.Omega.{arith}
use lib.Dec.{eqb, ltb}
use lib.ListN.{get_or}
use borrow.Author.Tests.{ltb-true, eqb-false, not-true}
use Rattle.base.specs.Limits.{max_degree}
use Rattle.tree.specs.Edges.{Edges}
use Rattle.union_find.specs.Inner.{together, Unions}
use Rattle.edges.specs.Reading.{ends_apart, not_joined, room_at_ends}
use Rattle.edges.specs.Inner.{fault_by, fault_in, fault_of, Degrees}

both : (p q : Bool) → p && q ≡ true → (p ≡ true) × (q ≡ true)
both true q e = (refl, e)
both false q e = let z : ◌≡◌ {A = ℕ} 0 1 = cc in absurd (omega arith)

-- the ends pass question 7
pub record Apart (v a b : ℕ) : Type 0 where
  pub one_below : a < v
  pub two_below : b < v
  pub differ : a ≡ b → ⊥

ends_apart_lem : (v a b : ℕ) → ends_apart v a b ≡ true → Apart v a b
ends_apart_lem v a b e =
    let p = both (ltb a v && ltb b v) (not (eqb a b)) e in
    let q = both (ltb a v) (ltb b v) p.0 in
    record { one_below = ltb-true a v q.0; two_below = ltb-true b v q.1; differ = eqb-false a b (not-true (eqb a b) p.1) }

-- the ends pass questions 7 to 9
pub record Passed (v : ℕ) (degree : List ℕ) (a b : ℕ) : Type 0 where
  pub apart : Apart v a b
  pub one_room : get_or degree a 0 < max_degree
  pub two_room : get_or degree b 0 < max_degree

pub passed : (v : ℕ) (up degree : List ℕ) (a b : ℕ) → fault_of v up degree a b ≡ 0 → Passed v degree a b
unfolding fault_of
passed v up degree a b e =
    go (ends_apart v a b) (together v up a b) (ltb (get_or degree a 0) max_degree) (ltb (get_or degree b 0) max_degree) refl refl refl e
  where
    go : (p q r t : Bool) → ends_apart v a b ≡ p → ltb (get_or degree a 0) max_degree ≡ r → ltb (get_or degree b 0) max_degree ≡ t → fault_by p (not q) (r && t) ≡ 0
        → Passed v degree a b
    go true false true true i j k e =
        record { apart = ends_apart_lem v a b i; one_room = ltb-true (get_or degree a 0) max_degree j; two_room = ltb-true (get_or degree b 0) max_degree k }
    go true false true false i j k e = absurd (omega arith)
    go true false false t i j k e = absurd (omega arith)
    go true true r t i j k e = absurd (omega arith)
    go false q r t i j k e = absurd (omega arith)

-- the forest and the numbers of edges give the answers that the edges before give
pub fault_agrees : (v : ℕ) (E : Edges) (up weight degree : List ℕ) → Unions v E up weight → Degrees v E degree → (a b : ℕ) → fault_of v up degree a b ≡ fault_in v E a b
unfolding fault_of
fault_agrees v E up weight degree u d a b = go (ends_apart v a b) refl
  where
    go : (p : Bool) → ends_apart v a b ≡ p
        → fault_by p (not (together v up a b)) (ltb (get_or degree a 0) max_degree && ltb (get_or degree b 0) max_degree) ≡ fault_by p (not_joined E a b) (room_at_ends E a b)
    go true e =
        let k : Apart v a b = ends_apart_lem v a b e in
        ap₂ (λ (q r : Bool). fault_by true (not q) r) (u.agree a b k.one_below k.two_below)
        (ap₂ (λ (m n : ℕ). ltb m max_degree && ltb n max_degree) (d.counted a k.one_below) (d.counted b k.two_below))
    go false e = refl
