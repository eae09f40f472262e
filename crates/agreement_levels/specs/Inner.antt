-- Only for proofs: a life in which a board alone takes its own messages.
use Rattle.std.specs.Prelude.{◌≡◌, false}
use mathlib.Core.List.{List, [], ◌∷◌, Memᴰ}
use Rattle.journal.specs.declared.Record.{Record}
use Rattle.journal.specs.declared.Record.TheVariants.{Start, Taken}
use Rattle.party.specs.Party.{Party, held_by}
use Rattle.party_life.specs.Life.{lived, made_along}

-- of some records from p on, the latest first: each message taken was made by the calls before, and is new
abbrev pub Own : Party → List Record → Type 0
Own p [] = Unit {0}
Own p (Start a x ∷ rs) = Own p rs
Own p (Taken s m ∷ rs) = Memᴰ m (made_along p rs) × (held_by (lived p rs).party s m ≡ false) × Own p rs
