-- Two boards without a fault: one of them makes seven different messages at level 0.
use mathlib.Core.Path.{◌≡◌, refl}
use Prim.Native.Nat.{ℕ, ◌≤◌, ◌<◌}
use native.Mathlib.Omega.{arith}
use lib.ListN.{length}
use Rattle.base.specs.Limits.{level_messages}
use Rattle.agreement.specs.Allowed.{Sound}
use Rattle.agreement.specs.Demand.{Premises}
use Rattle.agreement_histories.specs.Scripts.{history_of}
use Rattle.agreement_histories.proofs.Passing.{premises_of}
use Rattle.agreement_histories.proofs.Computing.{computing}
use Rattle.agreement_messages.specs.Statement.{Different}
use Rattle.agreement_seven.specs.Seven.{vote, plan, bad, script, messages, AtLevel, AtMost}
use Rattle.agreement_seven.proofs.Making.{all_differ, all_at, all_among, making, Makes, at_level, passing, different}

makes : Makes vote bad script 0 messages
unfolding computing making all_among script
makes = refl

pub premises : Premises vote plan bad (history_of vote script)
unfolding computing
premises = premises_of vote bad script (passing vote bad script 0 messages makes) plan refl refl

pub sound : Sound vote bad 0
sound = (omega arith, tt)

pub seven : Different (history_of vote script) 0 messages
unfolding computing all_differ
seven = different vote bad script 0 messages makes refl

pub at_0 : AtLevel 0 messages
unfolding all_at
at_0 = at_level 0 messages tt

-- as many as the bound has
pub reached : length messages ≡ level_messages
reached = refl

-- so fewer are not the most
pub fewer_fail : (k : ℕ) → k < level_messages → AtMost k → ⊥
fewer_fail k low claim =
    let l : length messages ≤ k = (claim vote plan bad (history_of vote script) premises 0 0 messages sound seven at_0).messages in
    omega (arith, reached)
