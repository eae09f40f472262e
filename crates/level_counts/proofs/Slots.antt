-- Every message of the table has a set, and two have two.
use mathlib.Core.Path.{◌≡◌, refl, sym, ap, ◌∙◌}
use mathlib.Core.Bool.{true}
use Prim.Native.Nat.{ℕ, ◌+◌, ◌-◌, ◌<◌}
use native.Mathlib.Omega.{arith}
use borrow.Author.Tests.{le-leb, lt-leb, le-ltb, lt-ltb}
use lib.Dec.{T, leb, ltb, leb→le}
use Rattle.base.specs.Pick.{pick}
use Rattle.base.proofs.Bools.{true→T, T-left, T-right}
use Rattle.message.specs.declared.Body.{Body}
use Rattle.message.specs.declared.Body.TheVariants.{FirstEcho, FirstProposal, SecondEcho, SecondProposal, Side, Centre}
use Rattle.message.specs.Message.{body_in_table, none_value, max_value}
use Rattle.level_counts.specs.Places.{slot, slot_count, first_proposals, second_echoes, second_proposals, sides, centres}

-- every message of the table has a set
pub slot_lt : (b : Body) → body_in_table b ≡ true → slot b < slot_count
unfolding slot
slot_lt (FirstEcho v) e = omega (arith, leb→le v none_value (true→T e))
slot_lt (FirstProposal v) e = omega (arith, leb→le v max_value (true→T e))
slot_lt (SecondEcho v) e = omega (arith, leb→le v none_value (true→T e))
slot_lt (SecondProposal v) e = omega (arith, leb→le v none_value (true→T e))
slot_lt (Side v) e = omega (arith, leb→le v max_value (T-right (leb 1 v) (leb v max_value) (true→T e)))
slot_lt Centre e = omega arith

-- the message of a set
unslot : ℕ → Body
unslot i =
    pick (ltb i first_proposals) (FirstEcho i)
    (pick (ltb i second_echoes) (FirstProposal (i - first_proposals))
    (pick (ltb i second_proposals) (SecondEcho (i - second_echoes))
    (pick (leb i sides) (SecondProposal (i - second_proposals))
    (pick (ltb i centres) (Side (i - sides)) Centre))))

unslot_slot : (b : Body) → T (body_in_table b) → unslot (slot b) ≡ b
unfolding slot unslot
unslot_slot (FirstEcho v) t = let k = leb→le v none_value t in rw (lt-ltb v first_proposals (omega arith))
unslot_slot (FirstProposal v) t =
    let k = leb→le v max_value t in
    let i : ℕ = first_proposals + v in
    let e : i - first_proposals ≡ v = omega arith in
    rw (le-ltb i first_proposals (omega arith), lt-ltb i second_echoes (omega arith), e)
unslot_slot (SecondEcho v) t =
    let k = leb→le v none_value t in
    let i : ℕ = second_echoes + v in
    let e : i - second_echoes ≡ v = omega arith in
    rw (le-ltb i first_proposals (omega arith), le-ltb i second_echoes (omega arith), lt-ltb i second_proposals (omega arith), e)
unslot_slot (SecondProposal v) t =
    let k = leb→le v none_value t in
    let i : ℕ = second_proposals + v in
    let e : i - second_proposals ≡ v = omega arith in
    rw (le-ltb i first_proposals (omega arith), le-ltb i second_echoes (omega arith), le-ltb i second_proposals (omega arith), le-leb i sides (omega arith), e)
unslot_slot (Side v) t =
    let lo = leb→le 1 v (T-left (leb 1 v) (leb v max_value) t) in
    let k = leb→le v max_value (T-right (leb 1 v) (leb v max_value) t) in
    let i : ℕ = sides + v in
    let e : i - sides ≡ v = omega arith in
    rw (le-ltb i first_proposals (omega arith), le-ltb i second_echoes (omega arith), le-ltb i second_proposals (omega arith), lt-leb i sides (omega arith), lt-ltb i centres (omega arith), e)
unslot_slot Centre t = refl

-- messages of the table with one set are the same
pub slot_one : (a b : Body) → T (body_in_table a) → T (body_in_table b) → slot a ≡ slot b → a ≡ b
slot_one a b s t e = sym (unslot_slot a s) ∙ ap unslot e ∙ unslot_slot b t
