-- "At most 15 levels send messages, 0 to 14 (65,536 positions need all 15)": from how many positions on a level is needed, exactly.
use mathlib.Core.Path.{◌≡◌, refl}
use mathlib.Core.List.{List}
use Prim.Native.Nat.{ℕ, ◌-◌, ◌*◌, ◌^◌, ◌≤◌, ◌<◌}
use native.Mathlib.Nat.{mul-le-mul_right, pow-le-pow_right}
use native.Mathlib.Omega.{arith}
use lib.Dec.{T}
use lib.ListN.{length}
use Rattle.base.specs.Limits.{offset_zero, last_level, level_count, max_width, max_number}
use Rattle.base.specs.Found.{found}
use Rattle.varint.specs.Varint.{pieces}
use Rattle.varint.specs.Reading.{pieces_at}
use Rattle.plan.specs.Plan.{Plan}
use Rattle.plan.specs.Positions.{range_plan}
use Rattle.plan.specs.Reading.{plan_from, plan_of}
use Rattle.component.specs.Component.{size_of}
use Rattle.party.specs.Party.{Party, component_of, sending}
use Rattle.party.specs.Valid.{party_valid}
use Rattle.party_laws.proofs.Laws.{Formed, sending_level}
use Rattle.agreement.specs.History.{History}
use Rattle.agreement.specs.Demand.{Made, Shared, Premises}
use Rattle.agreement.proofs.Tied.{plan_valid_lem}
use Rattle.agreement_levels.specs.Alone.{alone_instance, nobody, widest}
use Rattle.agreement_levels.specs.Statement.{echo_of}
use Rattle.agreement_levels.proofs.Sizes.{size_at_lem}
use Rattle.agreement_levels.proofs.Chains.{range_deep}
use Rattle.agreement_levels.proofs.Reaches.{reaches}

-- A board sends at level i only on a plan of 3 · 2 ^ i positions or more, whatever tree it is: at level 14 on 49,152 or more.
pub sending_needs : (p : Party) → T (party_valid p) → length p.levels ≡ level_count → (i : ℕ) → T (sending p i) → 3 * 2 ^ i ≤ p.plan.count
sending_needs p v full i h =
    let w : Formed p = record { valid = v; full = full } in
    let three : 3 ≤ size_of p.plan (component_of p i) = (sending_level p w i h).three in
    omega (arith, mul-le-mul_right (2 ^ i) three, size_at_lem p w i h)

-- A range of as many needs it: there is a history of a board alone, which meets demand 3's premises, in which its calls make a message at each of the levels
-- 0 to L. (It starts at the last position, and takes the messages that it makes.)
pub range_uses : (a : ℕ) (bytes : List ℕ) (plan : Plan) → Shared (alone_instance a bytes) plan → plan.kind ≡ 2 → (L : ℕ) → 3 * 2 ^ L ≤ plan.count
    → (h : History) × Premises (alone_instance a bytes) plan nobody h
    × ((i : ℕ) → i ≤ L → Made h 0 (echo_of a plan (plan.count - 1) i))
range_uses a bytes plan f range L big =
    let r = reaches a bytes plan f (plan.count - 1) (omega (arith, smaller 0 (omega arith))) in
    (r.history, r.premises, λ i k. r.made i (range_deep plan range (plan_valid_lem (alone_instance a bytes) plan f 0 (omega arith)) i (smaller i k)))
  where
    smaller : (i : ℕ) → i ≤ L → 3 * 2 ^ i ≤ plan.count
    smaller i k = let z : 0 < 2 = omega arith in omega (arith, pow-le-pow_right {n = 2} z {i = i} {j = L} k)

reads_widest : plan_of widest ≡ found (range_plan offset_zero max_width)
unfolding plan_from pieces pieces_at
reads_widest = refl

-- "65,536 positions need all 15": on the widest range it makes one at each of the levels 0 to 14.
pub all_fifteen : (a : ℕ) → a ≤ max_number
    → (h : History) × Premises (alone_instance a widest) (range_plan offset_zero max_width) nobody h
    × ((i : ℕ) → i ≤ last_level → Made h 0 (echo_of a (range_plan offset_zero max_width) max_width i))
all_fifteen a number =
    range_uses a widest (range_plan offset_zero max_width) (record { boards = omega arith; faults = omega arith; number = number; reads = reads_widest }) refl last_level (omega arith)
