-- A list of calls made by positions, on either plan: what the caller has between them.
use Rattle.std.specs.Prelude.{◌≡◌, List, [], ◌∷◌, ℕ, length}
use Rattle.base.specs.Found.{Found}
use Rattle.plan.specs.Positions.{reading_of}
use Rattle.party.specs.Party.{Party}
use Rattle.board_calls.specs.Calls.{Entry, start_questions, take_questions, called_of, journal_after, answered_of}
use Rattle.range_as_path.specs.Twin.{TwinParties, TwinCall, TwinAnswered}

-- a start at position x, or a message's bytes taken from a sender; the outgoing buffer is lent anew each time
pub data Ask : Type 0 where
  start_at_lem : ℕ → List ℕ → Ask
  take_from_lem : ℕ → List ℕ → List ℕ → Ask

-- the party, the journal and its used length, as the call before left them
pub record Desk : Type 0 where
  pub party : Party
  pub journal : List ℕ
  pub used : ℕ

-- the outgoing buffer of the call
abbrev pub lent : Ask → List ℕ
lent (start_at_lem x out) = out
lent (take_from_lem sender bytes out) = out

-- what the call finds at the door: the input of position x is what the plan has there, reading low + x or vertex x
abbrev pub asked : Desk → Ask → Found Entry
asked d (start_at_lem x out) = start_questions d.party (reading_of d.party.plan x) (length d.journal) d.used (length out)
asked d (take_from_lem sender bytes out) = take_questions d.party sender bytes (length d.journal) d.used (length out)

-- the desk after the call
abbrev pub served : Desk → Ask → Desk
served d a = record {
  party = (called_of d.party d.used (asked d a)).party;
  journal = journal_after d.journal d.used (asked d a);
  used = (called_of d.party d.used (asked d a)).used;
}

-- after a list of calls, the first one first
unfoldable pub after : Desk → List Ask → Desk
after d [] = d
after d (a ∷ more) = after (served d a) more

-- twin parties, and the same journal
pub record TwinDesks (d d' : Desk) : Type 0 where
  pub party : TwinParties d.party d'.party
  pub journal : d.journal ≡ d'.journal
  pub used : d.used ≡ d'.used

-- two callers that make the same calls by positions: the desks are twins, and so is what the next call and a reading give
pub record SameNext (d d' : Desk) : Type 0 where
  pub desks : TwinDesks d d'
  pub next : (a : Ask) → TwinCall d.party d'.party d.journal d.used (lent a) (asked d a) (asked d' a)
  pub answer : TwinAnswered d.party.plan (answered_of d.party) (answered_of d'.party)
