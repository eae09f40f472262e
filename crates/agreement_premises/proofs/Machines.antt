-- A start off the plan, and a board that follows one sender.
use mathlib.Core.Path.{refl}
use Rattle.vote_machine.specs.Machine.{called}
use Rattle.agreement_histories.proofs.Computing.{computing}
use Rattle.agreement_premises.specs.Machines.{StartOffThePlan, follower, OneSenderMore}

pub start_off_the_plan : StartOffThePlan
unfolding computing
start_off_the_plan = (refl, refl)

pub one_sender_more : OneSenderMore
unfolding computing called follower
one_sender_more = record { unsure = refl; came = refl; side = refl; senders = refl }
