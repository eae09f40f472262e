-- Against the must-fail edits of `party_life` and `vote_machine`: a start off the plan, and a board that follows t + 1 senders.
use Rattle.std.specs.Prelude.{◌≡◌, true, false, suc, ltb}
use Rattle.base.specs.Sets.{count}
use Rattle.message.specs.declared.Body.{Body}
use Rattle.message.specs.declared.Body.TheVariants.{FirstEcho, SecondProposal, Side}
use Rattle.message.specs.Message.{none_value}
use Rattle.party.specs.Party.{Party, new_party, level_at}
use Rattle.party.specs.Run.{starting}
use Rattle.party.specs.Valid.{party_valid}
use Rattle.level_laws.specs.Inner.{heard_from}
use Rattle.execution.specs.Machine.{start, take}
use Rattle.vote_machine.specs.Machine.{called}
use Rattle.agreement_histories.specs.Scripts.{says}
use Rattle.agreement_premises.specs.Examples.{two_plan, three_plan}

-- start_off_the_plan: position 3 is below the number of boards, and a start there gives a record that question 19 refuses
abbrev pub StartOffThePlan : Type 0
StartOffThePlan = (ltb 3 4 ≡ true) × (party_valid (starting (new_party 4 1 0 1 two_plan) 3).party ≡ false)

-- one_sender_more: a board among one, no fault tolerated, has the result none, and one sender of side 2 is enough for it to come there
unfoldable pub follower : Party
follower = tells (tells (tells (called (new_party 1 0 0 1 three_plan) (start 0)).party (FirstEcho none_value)) (SecondProposal none_value)) (Side 2)
  where
    tells : Party → Body → Party
    tells p b = (called p (take 0 (says b))).party

pub record OneSenderMore : Type 0 where
  pub unsure : (level_at follower 0).result ≡ none_value
  pub came : (level_at follower 1).entered ≡ true
  pub side : (level_at follower 1).side ≡ 2
  pub senders : count follower.n (heard_from (level_at follower 0) (Side 2)) ≡ suc follower.t
