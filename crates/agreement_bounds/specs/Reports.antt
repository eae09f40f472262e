-- "The call reports how many rules it applied; over all starts and takes from set-up, lost ones left out, that is at most 390, and restore reports the
-- sum for its records." What a board's starts and takes reported, by a history's steps.
use Rattle.std.specs.Prelude.{List, [], ◌∷◌, ℕ, ◌+◌, ◌-◌, eqb, length, drop}
use Rattle.base.specs.Pick.{pick}
use Rattle.base.specs.Found.{Found, found, refused}
use Rattle.journal.specs.declared.Record.{Record}
use Rattle.journal.specs.Reading.{records_in}
use Rattle.party.specs.Party.{Party}
use Rattle.board_calls.specs.Calls.{Entry, again, fresh, called_of}
use Rattle.agreement.specs.History.{Call, set_up, start, take_message_lem, read_answer, read_count, restore, start_finds, take_finds, Step, calls, hands, cut, whose, History, board_after}

-- the reports after a start or take, the latest first, where they were l before: one for each record. A take of a message already held, which has no
-- record, reports 0 and is left out; so is a refused call
abbrev pub entry_reports : Party → ℕ → Found Entry → List ℕ → List ℕ
entry_reports p used (found again) l = l
entry_reports p used (found (fresh r ran)) l = (called_of p used (found (fresh r ran))).rules ∷ l
entry_reports p used (refused number place) l = l

-- "over all starts and takes"
abbrev pub call_reports : Call → List ℕ → List ℕ
call_reports (set_up n t own agreement plan) l = l
call_reports (start p input lent used) l = entry_reports p used (start_finds p input lent used) l
call_reports (take_message_lem p sender bytes lent used) l = entry_reports p used (take_finds p sender bytes lent used) l
call_reports (read_answer p) l = l
call_reports (read_count p g c) l = l
call_reports (restore n t own agreement plan lent) l = l

-- the k oldest, where the latest come first
abbrev pub oldest : ℕ → List ℕ → List ℕ
oldest k l = drop (length l - k) l

-- "lost ones left out": of a board's reports, a cut leaves as many of the oldest as it leaves records
abbrev pub step_reports : Step → List Record → List ℕ → List ℕ
step_reports (calls i c) left l = call_reports c l
step_reports (hands i bytes) left l = l
step_reports (cut i k) left l = oldest (length left) l

-- what board i's starts and takes that are not lost reported, the latest first
unfoldable pub reports : History → ℕ → List ℕ
reports [] i = []
reports (s ∷ h) i = pick (eqb (whose s) i) (step_reports s (records_in (board_after (s ∷ h) i).journal) (reports h i)) (reports h i)

-- added up
unfoldable pub total : List ℕ → ℕ
total [] = 0
total (k ∷ l) = k + total l
