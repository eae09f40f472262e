-- What a refusal by 8 tells of the questions before it.
use mathlib.Core.Path.{◌≡◌, refl}
use mathlib.Core.Logic.{◌⊎◌, inl, inr}
use mathlib.Core.List.{List}
use mathlib.Core.Bool.{Bool, true, false, ◌&&◌}
use Prim.Native.Nat.{ℕ, ◌+◌, ◌<◌}
use native.Mathlib.Omega.{arith}
use lib.Dec.{T, eqb, leb}
use lib.ListN.{length}
use Rattle.base.specs.Found.{Found, found, refused, ask}
use Rattle.base.specs.Limits.{max_width, max_reading}
use Rattle.std.specs.Prelude.{Ok, Err}
use Rattle.varint.specs.Reading.{VarintRead, value, varint_at, value_of, past_of}
use Rattle.varint.proofs.RoundTrip.{value_place}
use Rattle.signed.specs.Signed.{offset_of_zigzag}
use Rattle.tree.specs.Edges.{Edges}
use Rattle.tree.specs.Growth.{growth_order}
use Rattle.edges.specs.Reading.{onward, varint_then}
use Rattle.plan.specs.Positions.{tree_plan, range_plan}
use Rattle.plan.specs.Reading.{ended, range_from}
use Rattle.plan_groups.specs.Groups.{tree_end, width_then}
use Rattle.plan_cycle.specs.Cycle.{value_at, past_at}

-- a question of another number was answered by yes
pub passed : {A : Type 0} (t : Bool) (number at : ℕ) (go : Found A) {place : ℕ} → (number ≡ 8 → ⊥) → ask t number at go ≡ refused 8 place → T t × (go ≡ refused 8 place)
passed true number at go d e = (tt, e)
passed false number at go d e = absurd (d (cc))

-- question 8 was answered by no at its place, or by yes
pub eighth : {A : Type 0} (t : Bool) (at : ℕ) (go : Found A) {place : ℕ} → ask t 8 at go ≡ refused 8 place → ((T t → ⊥) × (at ≡ place)) ⊎ (T t × (go ≡ refused 8 place))
eighth true at go e = inr (tt, e)
eighth false at go e = inl ((λ x. x), (cc))

-- a group was whole
pub whole : {A : Type 0} (at : ℕ) (r : VarintRead) (f : ℕ → ℕ → Found A) {place : ℕ} → onward at r f ≡ refused 8 place
    → (r ≡ value (value_of r) (past_of r at)) × (f (value_of r) (past_of r at) ≡ refused 8 place)
whole at (Ok r) f e = (refl, e)
whole at (Err d) f e = let z : ◌≡◌ {A = ℕ} 4 8 = cc in absurd (omega arith)

-- one stands at `at`
abbrev pub Whole : List ℕ → ℕ → Type 0
Whole s at = varint_at s at ≡ value (value_at s at) (past_at s at)

-- and the place past it is further on
pub further_on : (s : List ℕ) (at : ℕ) → Whole s at → at < past_at s at
further_on s at e = (value_place 5 s at (value_at s at) (past_at s at) e).0

-- ---- where no refusal is by 8

end_never : {A : Type 0} (s : List ℕ) (at : ℕ) (a : A) {place : ℕ} → ended s at a ≡ refused 8 place → ⊥
end_never s at a {place} e =
    let f : found a ≡ refused 8 place = (passed (eqb at (length s)) 11 at (found a) (λ i. omega arith) e).1 in
    let z : ◌≡◌ {A = ℕ} 0 1 = cc in
    omega arith

pub tree_never : (v : ℕ) (s : List ℕ) (E : Edges) (end : ℕ) {place : ℕ} → tree_end v s E end ≡ refused 8 place → ⊥
tree_never v s E end e = end_never s end (tree_plan v (growth_order E)) e

pub range_never : (s : List ℕ) (at : ℕ) {place : ℕ} → range_from s at ≡ refused 8 place → ⊥
range_never s at e =
    let one = whole at (varint_at s at) (λ z second. varint_then s second (width_then z s second)) e in
    let two = whole (past_at s at) (varint_at s (past_at s at)) (width_then (value_at s at) s (past_at s at)) one.1 in
    let low : ℕ = offset_of_zigzag (value_at s at) in
    let width : ℕ = value_at s (past_at s at) in
    let end : ℕ = past_at s (past_at s at) in
    end_never s end (range_plan low width)
    (passed (leb width max_width && leb (low + width) max_reading) 10 (past_at s at) (ended s end (range_plan low width)) (λ i. omega arith) two.1).1
