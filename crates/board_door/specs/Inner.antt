-- What carrying a call out asks and gives.
use Rattle.std.specs.Prelude.{ℕ, Option, Result}
use Rattle.base.specs.Verdict.{as_verdict}
use Rattle.base.specs.declared.Refusal.{Refusal}
use Rattle.journal.specs.declared.Record.{Record}
use Rattle.party.specs.declared.Chart.{Chart}
use Rattle.party.specs.Party.{Party}
use Rattle.party_run.specs.Inner.{Ready}
use Rattle.board_calls.specs.Calls.{Called}
use Rattle.board_questions.specs.Inner.{Recordable}
use Rattle.board_door.specs.declared.Carried.{Carried}

-- what was found can be carried out: the party passes 19, and the chart is its
pub record Carriable (p : Party) (chart : Chart) (room used out : ℕ) (a : Result (Option Record) Refusal) : Type 0 where
  pub fits : Recordable p room used out a
  pub ready : Ready p chart

-- what the call gives, with the party as it is then
abbrev pub carried_by : Party → Carried → Called
carried_by p g = record { verdict = as_verdict g.verdict; party = p; used = g.used; sent = g.sent; rules = g.rules }
