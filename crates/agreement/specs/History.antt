-- Document 01, "Journal and cuts": calls and steps, and what a sound board is after a list of steps.
use Rattle.std.specs.Prelude.{List, [], ◌∷◌, ◌++◌, ℕ, leb, eqb, ℤ, length, take, Some, None}
use Rattle.base.specs.Pick.{pick}
use Rattle.base.specs.Verdict.{Verdict}
use Rattle.base.specs.Found.{Found, found, refused}
use Rattle.rounding.specs.Rounding.{nearest_step}
use Rattle.message.specs.declared.Message.{Message}
use Rattle.message.specs.Reading.{Exactly, exact_message}
use Rattle.party.specs.Party.{Party}
use Rattle.board_calls.specs.Answers.{position_of, Answer}
use Rattle.board_calls.specs.Calls.{Entry, again, fresh, set_up_of, start_questions, take_questions, called_of, journal_after, answered_of, no_party, Answered}
use Rattle.board_calls.specs.Counts.{start_count_questions, count_questions, count_gives}
use Rattle.board_calls.specs.Restore.{Replay, restore_questions, restored_of}

-- "Boards share n, t, agreement number and plan": one vote
pub record Instance : Type 0 where
  pub n : ℕ
  pub t : ℕ
  pub agreement : ℕ
  pub plan : List ℕ

-- what a caller lends to a start, take or restore: the journal, by its bytes, and the outgoing buffer, by its length
pub record Lent : Type 0 where
  pub journal : List ℕ
  pub out : ℕ

-- what a start is given: a vertex or a reading; or, by document 02, Q-6, a probe's count c in steps of g counts
pub data StartInput : Type 0 where
  plain : (z : ℤ) → StartInput
  by_count : (g : ℕ) (c : ℤ) → StartInput

-- the vertex or reading that is voted on: of a count, its nearest step
abbrev pub voted_input : StartInput → ℤ
voted_input (plain z) = z
voted_input (by_count g c) = nearest_step g c

-- a call with all that it is given; p is the party that the caller's record stands for, `used` the journal's used length
pub data Call : Type 0 where
  set_up : (n t own agreement : ℕ) (plan : List ℕ) → Call
  start : (p : Party) (input : StartInput) (lent : Lent) (used : ℕ) → Call
  take_message_lem : (p : Party) (sender : ℕ) (bytes : List ℕ) (lent : Lent) (used : ℕ) → Call
  read_answer : (p : Party) → Call
  read_count : (p : Party) (g : ℕ) (c : ℤ) → Call
  restore : (n t own agreement : ℕ) (plan : List ℕ) (lent : Lent) → Call

-- what the questions at the door find
abbrev pub start_finds : Party → StartInput → Lent → ℕ → Found Entry
start_finds p (plain z) lent used = start_questions p z (length lent.journal) used lent.out
start_finds p (by_count g c) lent used = start_count_questions p g c (length lent.journal) used lent.out

abbrev pub take_finds : Party → ℕ → List ℕ → Lent → ℕ → Found Entry
take_finds p sender bytes lent used = take_questions p sender bytes (length lent.journal) used lent.out

abbrev pub restore_finds : ℕ → ℕ → ℕ → ℕ → List ℕ → Lent → Found Replay
restore_finds n t own agreement plan lent = restore_questions n t own agreement plan lent.journal lent.out

-- what reading the answer as a count gives
abbrev pub read_as_count : Party → ℕ → ℤ → Answered
read_as_count p g c = count_gives (count_questions p g c)

-- board i's steps: a call, handing a message's bytes over to all boards, a power cut that leaves so many journal bytes.
-- "A cut inside a start or take leaves what one right after it may": it is that call with the cut after it.
pub data Step : Type 0 where
  calls : (i : ℕ) (c : Call) → Step
  hands : (i : ℕ) (bytes : List ℕ) → Step
  cut : (i left : ℕ) → Step

-- whose step it is
abbrev pub whose : Step → ℕ
whose (calls i c) = i
whose (hands i bytes) = i
whose (cut i left) = i

-- the latest step first
abbrev pub History : Type 0
History = List Step

-- not set up yet; running; cut, so that "only a restore goes on"
pub data Stage : Type 0 where
  waiting : Stage
  running : Stage
  down : Stage

-- what a start or take was: a start at a position, with the input of its caller; what was read of a sender's bytes
pub data Act : Type 0 where
  a_start : (position : ℕ) (input : StartInput) → Act
  a_take : (sender : ℕ) (read : Exactly) → Act

-- an accepted start or take: what it was, the messages that it made, and the journal's used length after it
pub record Counted : Type 0 where
  pub act : Act
  pub made : List Message
  pub used : ℕ

-- what a board has: its record, the journal's used bytes, how many of them a cut must leave, the messages that it may hand over, and its accepted
-- starts and takes from set-up, lost ones left out, the latest first.
-- The next call leaves the outbox standing: 01's "It hands over all messages of one call before the next call" is not asked, which covers more
-- histories.
pub record Board : Type 0 where
  pub stage : Stage
  pub party : Party
  pub journal : List ℕ
  pub guarded : ℕ
  pub outbox : List Message
  pub counted : List Counted

abbrev pub unborn : Board
unborn = record { stage = waiting; party = no_party; journal = []; guarded = 0; outbox = []; counted = [] }

-- ---- what each step makes of the board whose step it is

-- an accepted set-up: "its journal then empty with used length 0"
abbrev pub after_set_up : Board → Verdict → Party → Board
after_set_up b Verdict.Accepted p = record { stage = running; party = p; journal = []; guarded = 0; outbox = []; counted = [] }
after_set_up b (Verdict.Refused number place) p = b

-- the messages whose bytes the call wrote
abbrev pub made_in : Entry → List Message
made_in again = []
made_in (fresh r ran) = ran.made

-- an accepted start or take: the party and the journal's used bytes as the call left them, and its messages wait to be handed over. It counts, also if
-- the message was held already and the call wrote no record
abbrev pub after_entry : Board → Act → Party → Lent → ℕ → Found Entry → Board
after_entry b a p lent used (found e) = record {
  stage = b.stage;
  party = (called_of p used (found e)).party;
  journal = take (called_of p used (found e)).used (journal_after lent.journal used (found e));
  guarded = b.guarded;
  outbox = b.outbox ++ made_in e;
  counted = record { act = a; made = made_in e; used = (called_of p used (found e)).used } ∷ b.counted;
}
after_entry b a p lent used (refused number place) = b

-- a cut must leave every record written so far
abbrev pub guarding : Board → Board
guarding b = record {
  stage = b.stage;
  party = b.party;
  journal = b.journal;
  guarded = length b.journal;
  outbox = b.outbox;
  counted = b.counted;
}

-- a reading that gives an answer, as it is or as a count, guards what was written before it; one that finds none guards nothing, which covers more cuts
abbrev pub after_answer : Board → Answer → Board
after_answer b None = b
after_answer b (Some z) = guarding b

-- an accepted restore: the party and used length that the call gives, whose records all stay from now on, and all their messages to be handed over again
abbrev pub after_restore : Board → Lent → Found Replay → Board
after_restore b lent (found r) = record {
  stage = running;
  party = (restored_of (found r)).party;
  journal = take (restored_of (found r)).used lent.journal;
  guarded = (restored_of (found r)).used;
  outbox = r.ran.made;
  counted = b.counted;
}
after_restore b lent (refused number place) = b

abbrev pub after_call : Board → Call → Board
after_call b (set_up n t own agreement plan) = after_set_up b (set_up_of n t own agreement plan).verdict (set_up_of n t own agreement plan).party
after_call b (start p input lent used) = after_entry b (a_start (position_of p.plan (voted_input input)) input) p lent used (start_finds p input lent used)
after_call b (take_message_lem p sender bytes lent used) = after_entry b (a_take sender (exact_message bytes)) p lent used (take_finds p sender bytes lent used)
after_call b (read_answer p) = after_answer b (answered_of p).answer
after_call b (read_count p g c) = after_answer b (read_as_count p g c).answer
after_call b (restore n t own agreement plan lent) = after_restore b lent (restore_finds n t own agreement plan lent)

-- "a start or message whose record is lost counts as not made or taken, and each later call of that board before the cut is lost with it": of some calls,
-- those after which no more than `left` bytes were used. So a call without a record is lost when a record before it is.
unfoldable pub kept_calls : ℕ → List Counted → List Counted
kept_calls left [] = []
kept_calls left (c ∷ cs) = pick (leb c.used left) (c ∷ kept_calls left cs) (kept_calls left cs)

-- a cut leaves a beginning of the used bytes, and neither the record nor messages
abbrev pub cut_off : Board → ℕ → Board
cut_off b left = record {
  stage = down;
  party = no_party;
  journal = take left b.journal;
  guarded = b.guarded;
  outbox = [];
  counted = kept_calls left b.counted;
}

-- before the set-up there is nothing to lose
abbrev pub after_cut : Board → Stage → ℕ → Board
after_cut b waiting left = b
after_cut b running left = cut_off b left
after_cut b down left = cut_off b left

-- any step
abbrev pub after_own : Board → Step → Board
after_own b (calls i c) = after_call b c
after_own b (hands i bytes) = guarding b
after_own b (cut i left) = after_cut b b.stage left

-- board i after a history
unfoldable pub board_after : History → ℕ → Board
board_after [] i = unborn
board_after (s ∷ h) i = pick (eqb (whose s) i) (after_own (board_after h i) s) (board_after h i)
