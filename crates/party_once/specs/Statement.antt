-- Document 02, Q-7's "different messages", and what Q-5's "each once" stands on: no board makes a message twice in one life.
use Rattle.std.specs.Prelude.{List, T}
use Rattle.base.specs.Distinct.{Distinct}
use Rattle.journal.specs.declared.Record.{Record}
use Rattle.party.specs.Party.{Party}
use Rattle.party.specs.Typed.{Typed}
use Rattle.party.specs.Valid.{party_valid}
use Rattle.party_life.specs.Life.{Life, made_along}

-- from every party that passes question 19, for every list of records that a restore would accept after it, whoever is faulty: the messages that the calls
-- of the records made are different
abbrev pub Once : Type 0
Once = (p : Party) → Typed p → T (party_valid p) → (rs : List Record) → Life p rs → Distinct (made_along p rs)
