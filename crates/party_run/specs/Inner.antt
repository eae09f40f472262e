-- What applying rules asks and gives inside the library.
use Rattle.std.specs.Prelude.{◌≡◌, List, ℕ, ◌+◌, ◌≤◌, T, length}
use Rattle.base.specs.Put.{put_at}
use Rattle.component.specs.Inner.{Lent}
use Rattle.party.specs.declared.Chart.{Chart}
use Rattle.party.specs.declared.Party as CodeParty
use Rattle.party.specs.Party.{Party}
use Rattle.party.specs.Run as Rules
use Rattle.party.specs.Run.{bytes_of}
use Rattle.party.specs.Valid.{party_valid}
use Rattle.party.specs.Inner.{Charts}
use Rattle.party.specs.Tie.{as_party}
use Rattle.party_run.specs.declared.Ran as Code

-- p passes question 19, and c is its chart
pub record Ready (p : Party) (c : Chart) : Type 0 where
  pub valid : T (party_valid p)
  -- the plan's rows are all there
  pub rows : Lent p.plan
  pub charts : Charts p c

-- an outgoing buffer of so many bytes has room, from a place on, for all that is made
abbrev pub Room : Rules.Ran → ℕ → ℕ → Type 0
Room ran from out = from + length (bytes_of ran.made) ≤ out

-- what applying rules gave, in the definitions' words
pub record Outcome : Type 0 where
  pub party : Party
  pub chart : Chart
  pub rules : ℕ
  pub sent : ℕ

-- with the party and the chart as they are then
abbrev pub as_outcome : CodeParty.Party → Chart → Code.Ran → Outcome
as_outcome p c r = record { party = as_party p; chart = c; rules = r.rules; sent = r.sent }

-- r and the outgoing buffer after the call are as the definition's `ran` says: its messages are written from a place on, and `sent` is the place past them
pub record Gives (ran : Rules.Ran) (from : ℕ) (before : List ℕ) (r : Outcome) (after : List ℕ) : Type 0 where
  pub party : r.party ≡ ran.party
  pub chart : Charts r.party r.chart
  pub rules : r.rules ≡ ran.rules
  pub sent : r.sent ≡ from + length (bytes_of ran.made)
  pub outgoing : after ≡ put_at before from (bytes_of ran.made)
