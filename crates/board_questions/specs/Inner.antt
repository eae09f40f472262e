-- What asking the questions of a start or take promises the calls.
use Rattle.std.specs.Prelude.{◌≡◌, Bool, true, List, ℕ, ◌+◌, ◌≤◌, ◌<◌, T, length, Option, Some, None, IfSome, Result, Ok, Err}
use Rattle.base.specs.Limits.{level_count, outgoing_size}
use Rattle.base.specs.Found.{Found, found, refused}
use Rattle.base.specs.Question.{number_of}
use Rattle.base.specs.declared.Question.{Question}
use Rattle.base.specs.declared.Refusal.{Refusal}
use Rattle.plan.specs.Plan.{Plan}
use Rattle.level.specs.declared.Level as CodeLevel
use Rattle.journal.specs.declared.Record.{Record}
use Rattle.journal.specs.Journal.{record_bytes}
use Rattle.party.specs.declared.Vote.{Vote}
use Rattle.party.specs.Party.{Party, started}
use Rattle.party.specs.Run.{Ran}
use Rattle.party.specs.Valid.{party_valid}
use Rattle.party.specs.Tie.{party_in}
use Rattle.party_life.specs.Life.{replayed, Fits}
use Rattle.board_calls.specs.Calls.{Entry, again, fresh, at_door, fitting, start_at, take_questions}
use Rattle.board_calls.specs.Tie.{as_position}
use Rattle.board_questions.specs.declared.Door.{Door}

-- questions 19, 18 and 20, where 19 passes or not: all pass, or the first that fails
abbrev pub AtDoor : Door → Result (Unit {0}) Question → Type 0
AtDoor d (Ok u) = (d.valid ≡ true) × (outgoing_size ≤ d.out) × (d.used ≤ d.room)
AtDoor d (Err q) = (p : Party) → d.valid ≡ party_valid p → (go : Found Entry) → at_door p d.room d.used d.out go ≡ refused (number_of q) 0

-- question 17
abbrev pub Fitting : Door → Record → Result (Unit {0}) Question → Type 0
Fitting d r (Ok u) = d.used + length (record_bytes r) ≤ d.room
Fitting d r (Err q) = (ran : Ran) → fitting d.room d.used r ran ≡ refused (number_of q) 0

-- what the code found, in the definitions' words
abbrev pub found_by : Party → Result (Option Record) Refusal → Found Entry
found_by p (Err r) = refused (number_of r.question) r.place
found_by p (Ok None) = found again
found_by p (Ok (Some r)) = found (fresh r (replayed p r))

-- where that is a record, its call can be made
abbrev pub Recordable : Party → ℕ → ℕ → ℕ → Result (Option Record) Refusal → Type 0
Recordable p room used out (Err r) = Unit {0}
Recordable p room used out (Ok None) = Unit {0}
Recordable p room used out (Ok (Some r)) = T (party_valid p) × (outgoing_size ≤ out) × Fits p r × (used + length (record_bytes r) ≤ room)

-- the questions of a call on p, which find q
pub record Asks (p : Party) (room used out : ℕ) (q : Found Entry) (a : Result (Option Record) Refusal) : Type 0 where
  pub finds : q ≡ found_by p a
  pub fits : Recordable p room used out a

-- the questions of a start at a position, if there is one
abbrev pub start_from : Party → Option ℕ → ℕ → ℕ → ℕ → Found Entry
start_from p x room used out = at_door p room used out (start_at p (as_position x) room used)

-- of every party with this agreement number that has started or not, and passes 19 or not as the door says
pub record AsksStart (d : Door) (agreement : ℕ) (begun : Bool) (x : Option ℕ) (a : Result (Option Record) Refusal) : Type 0 where
  pub asks : (p : Party) → p.agreement ≡ agreement → started p ≡ begun → IfSome x (λ y. y < p.plan.count) → d.valid ≡ party_valid p
      → Asks p d.room d.used d.out (start_from p x d.room d.used d.out) a

-- the questions of a take, of every party with these parts that passes 19 or not as the door says
pub record AsksTake (d : Door) (v : Vote) (sets : List ℕ) (sender : ℕ) (bytes : List ℕ) (a : Result (Option Record) Refusal) : Type 0 where
  pub asks : (plan : Plan) (levels : List CodeLevel.Level) → length levels ≡ level_count → d.valid ≡ party_valid (party_in v plan levels sets)
      → Asks (party_in v plan levels sets) d.room d.used d.out (take_questions (party_in v plan levels sets) sender bytes d.room d.used d.out) a
