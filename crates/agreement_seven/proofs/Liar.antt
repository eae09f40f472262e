-- Four boards, of which one is faulty, as t allows: a sound one makes seven different messages at level 0.
use mathlib.Core.Path.{◌≡◌, refl}
use native.Mathlib.Omega.{arith}
use lib.ListN.{length}
use Rattle.agreement.specs.Allowed.{Sound}
use Rattle.agreement.specs.Demand.{Premises}
use Rattle.agreement_histories.specs.Scripts.{history_of}
use Rattle.agreement_histories.proofs.Passing.{premises_of}
use Rattle.agreement_histories.proofs.Computing.{computing}
use Rattle.base.specs.Limits.{level_messages}
use Rattle.agreement_messages.specs.Statement.{Different}
use Rattle.agreement_seven.specs.Seven.{AtLevel}
use Rattle.agreement_seven.specs.Liar.{vote, plan, bad, script, messages}
use Rattle.agreement_seven.proofs.Making.{all_differ, all_at, all_among, making, Makes, at_level, passing, different}

makes : Makes vote bad script 0 messages
unfolding computing making all_among script
makes = refl

pub premises : Premises vote plan bad (history_of vote script)
unfolding computing
premises = premises_of vote bad script (passing vote bad script 0 messages makes) plan refl refl

pub sound : Sound vote bad 0
sound = (omega arith, tt)

pub seven : Different (history_of vote script) 0 messages
unfolding computing all_differ
seven = different vote bad script 0 messages makes refl

pub at_0 : AtLevel 0 messages
unfolding all_at
at_0 = at_level 0 messages tt

pub reached : length messages ≡ level_messages
reached = refl
