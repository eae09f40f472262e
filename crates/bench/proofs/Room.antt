-- The room for messages suffices: no board makes more than 330 in its life, and 16 x 330 is 5,280.
use mathlib.Core.List.{List}
use Prim.Native.Nat.{ℕ, ◌+◌, ◌*◌, ◌≤◌}
use native.Mathlib.Omega.{arith}
use lib.Dec.{T}
use lib.ListN.{length}
use Rattle.base.specs.Limits.{last_level, sending_levels, level_messages_worst}
use Rattle.plan.specs.Plan.{Plan}
use Rattle.plan.specs.Valid.{plan_valid}
use Rattle.journal.specs.declared.Record.{Record}
use Rattle.party.specs.Party.{Party, new_party}
use Rattle.party.specs.Valid.{settings_pass}
use Rattle.party_life.specs.Life.{Life, made_along}
use Rattle.party_bounds.proofs.Laws.{sized_new, messages_most, lived_within}

-- over all starts and takes from set-up
pub made_most : (n t own a : ℕ) (plan : Plan) → T (settings_pass (new_party n t own a plan)) → T (plan_valid plan) → (rs : List Record)
    → Life (new_party n t own a plan) rs → length (made_along (new_party n t own a plan) rs) ≤ sending_levels * level_messages_worst
made_most n t own a plan s h rs l =
    let p : Party = new_party n t own a plan in
    omega (arith, (lived_within (last_level + 1) (omega arith) p (sized_new n t own a plan s h) rs l).messages, messages_most (last_level + 1) p)
