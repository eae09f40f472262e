-- The vote is a lawful machine.
use mathlib.Core.Path.{◌≡◌, refl, sym, subst}
use mathlib.Core.Bool.{Bool, true, false}
use Prim.Native.Nat.{ℕ, ◌*◌, ◌≤◌, ◌<◌}
use native.Mathlib.Omega.{arith}
use lib.Dec.{T, ltb, ltb→lt, lt→ltb}
use Rattle.base.specs.Pick.{pick}
use Rattle.base.specs.Limits.{max_boards}
use Rattle.plan.specs.Plan.{Plan}
use Rattle.plan.specs.Valid.{plan_valid}
use Rattle.party.specs.Party.{new_party}
use Rattle.party.specs.Valid.{settings_pass}
use Rattle.party_laws.proofs.Laws.{→settings}
use Rattle.execution.proofs.Lawful.{Lawful}
use Rattle.vote_machine.specs.Machine.{seat, vote_machine}
use Rattle.vote_machine.specs.Inner.{Inv, Le}
use Rattle.vote_machine.proofs.Order.{le_refl, le_trans, le_sent}
use Rattle.vote_machine.proofs.Kept.{le_called}
use Rattle.vote_machine.proofs.Quiet.{inv_new, inv_called}
use Rattle.vote_machine.proofs.Heard.{heard_new, heard_start, heard_take}

-- a seat is a board's number, and a board's seat its own
pub seat_low : (n i : ℕ) → 1 ≤ n → seat n i < n
seat_low n i h = go (ltb i n) refl
  where
    go : (b : Bool) → ltb i n ≡ b → pick b i 0 < n
    go true e = ltb→lt i n (subst T (sym e) tt)
    go false e = h

pub seat_own : (n i : ℕ) → i < n → seat n i ≡ i
seat_own n i h = go (ltb i n) refl
  where
    go : (b : Bool) → ltb i n ≡ b → pick b i 0 ≡ i
    go true e = refl
    go false e = absurd (subst T e (lt→ltb i n h))

-- settings that pass
pub record Passes (n t : ℕ) (plan : Plan) : Type 0 where
  pub boards : n ≤ max_boards
  pub faults : 3 * t < n
  pub valid : T (plan_valid plan)

-- every seat's set-up passes
pub seat_settings : (n t agreement : ℕ) (plan : Plan) → Passes n t plan → (i : ℕ) → T (settings_pass (new_party n t (seat n i) agreement plan))
seat_settings n t agreement plan v i =
    →settings (new_party n t (seat n i) agreement plan)
    (record { some = omega (arith, v.faults); most = v.boards; faults = v.faults; own = seat_low n i (omega (arith, v.faults)) })

unfoldable pub vote_lawful : (n t agreement : ℕ) (plan : Plan) → Passes n t plan → Lawful (vote_machine n t agreement plan)
vote_lawful n t agreement plan v = record {
  Inv = Inv;
  inv_initial = λ i. inv_new n t (seat n i) agreement plan (seat_settings n t agreement plan v i) v.valid;
  inv_run = λ p e r. inv_called p r e;
  Le = Le;
  le_refl = le_refl;
  le_trans = le_trans;
  le_run = λ p e r. le_called p r.regular e;
  le_sent = le_sent;
  heard_initial = λ i s m. heard_new n t (seat n i) agreement plan s m;
  heard_start = heard_start;
  heard_take = heard_take;
}
