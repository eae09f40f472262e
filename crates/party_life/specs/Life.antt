-- A party's life: what the records of its accepted calls make of it.
use Rattle.std.specs.Prelude.{Bool, true, ◌&&◌, List, [], ◌∷◌, ◌++◌, ℕ, ◌+◌, T, ltb, eqb}
use Rattle.base.specs.Pick.{pick}
use Rattle.message.specs.declared.Message.{Message}
use Rattle.message.specs.Message.{in_table}
use Rattle.journal.specs.declared.Record.{Record}
use Rattle.journal.specs.declared.Record.TheVariants.{Start, Taken}
use Rattle.party.specs.Party.{Party, started}
use Rattle.party.specs.Run.{Ran, resting, starting, taking}

-- what a record's call did
unfoldable pub replayed : Party → Record → Ran
replayed p (Start a x) = starting p x
replayed p (Taken s m) = taking p s m

-- the record after those that led to r: rules add up, and messages follow those before them
abbrev pub following : Ran → Ran → Ran
following r next = record { party = next.party; rules = r.rules + next.rules; made = r.made ++ next.made }

-- the party after some records, the latest first; the rules and the messages of all of them, in the order in which the calls made them
unfoldable pub lived : Party → List Record → Ran
lived p [] = resting p
lived p (r ∷ rs) = following (lived p rs) (replayed (lived p rs).party r)

-- "Restore, each record: .. Our number? 16. Sender below n? 14. Not a second start? 13. Position on the plan? 12.": the number of the first question that
-- fails, or 0, of a party that has started or not
abbrev pub fault_of : Party → Bool → Record → ℕ
fault_of p begun (Start a x) = pick (eqb a p.agreement) (pick begun 13 (pick (ltb x p.plan.count) 0 12)) 16
fault_of p begun (Taken s m) = pick (eqb m.number p.agreement) (pick (ltb s p.n) 0 14) 16

abbrev pub fault : Party → Record → ℕ
fault p r = fault_of p (started p) r

-- "A whole record has every value .. in the message table."
abbrev pub tabled : Record → Bool
tabled (Start a x) = true
tabled (Taken s m) = in_table m

-- a whole record that a restore accepts after these: the only start, on the plan; or a message of this vote from one of its boards (proofs/Fits.antt)
abbrev pub passes : Party → Record → Bool
passes p r = eqb (fault p r) 0 && tabled r

abbrev pub Fits : Party → Record → Type 0
Fits p r = T (passes p r)

-- a life from p on
abbrev pub Life : Party → List Record → Type 0
Life p [] = Unit {0}
Life p (r ∷ rs) = Fits (lived p rs).party r × Life p rs

-- the messages that the calls of some records made, in order
abbrev pub made_along : Party → List Record → List Message
made_along p rs = (lived p rs).made
