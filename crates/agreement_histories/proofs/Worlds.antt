-- A script run on all boards at once, with a test of each action.
use mathlib.Core.Bool.{Bool, true, false, not, ◌&&◌, ◌||◌}
use mathlib.Core.List.{List, [], ◌∷◌, ◌++◌}
use Prim.Native.Nat.{ℕ}
use lib.Dec.{leb, ltb, eqb}
use lib.ListN.{length, get_or, set, take, replicate}
use Rattle.std.specs.Prelude.{Err, Ok}
use Rattle.base.specs.Pick.{pick}
use Rattle.base.specs.Sets.{Set}
use Rattle.base.specs.Verdict.{Verdict}
use Rattle.base.specs.Found.{Found, found, refused}
use Rattle.message.specs.declared.Message.{Message}
use Rattle.message.specs.Message.{kind_of}
use Rattle.message.specs.Format.{value_of}
use Rattle.journal.specs.declared.RecordError.TheVariants.{Torn, Bad}
use Rattle.journal.specs.Reading.{RecordRead, whole_record, record_at, records_in}
use Rattle.journal.specs.Records.{journal_bytes}
use Rattle.board_calls.specs.Calls.{set_up_of, answered_of}
use Rattle.agreement.specs.History.{Instance, Call, set_up, start, take_message_lem, read_answer, read_count, restore, start_finds, take_finds, restore_finds, read_as_count, Step, Stage, waiting, running, down, Board, unborn, after_own}
use Rattle.agreement.specs.Demand.{is_restore_of}
use Rattle.agreement_histories.specs.Scripts.{Action, sets_up, starts, starts_count, takes, reads, reads_count, sends, cuts, restores, restores_torn, tries, actor, step_of}

pub record Handing : Type 0 where
  pub by : ℕ
  pub message : Message

-- the boards, and what was handed over: ever, and since the last accepted restore of the board that did it
pub record World : Type 0 where
  pub boards : List Board
  pub sent : List Handing
  pub since : List Handing

abbrev pub board_of : World → ℕ → Board
board_of w i = get_or w.boards i unborn

abbrev pub beginning : Instance → World
beginning v = record { boards = replicate v.n unborn; sent = []; since = [] }

abbrev pub sent_with : List Handing → Action → List Handing
sent_with l (sets_up i) = l
sent_with l (starts i z) = l
sent_with l (starts_count i g c) = l
sent_with l (takes i s m) = l
sent_with l (reads i) = l
sent_with l (reads_count i g c) = l
sent_with l (sends i m) = record { by = i; message = m } ∷ l
sent_with l (cuts i k) = l
sent_with l (restores i) = l
sent_with l (restores_torn i tail) = l
sent_with l (tries i k c) = l

-- what the other boards handed over
unfoldable pub not_by : ℕ → List Handing → List Handing
not_by i [] = []
not_by i (x ∷ l) = pick (eqb i x.by) (not_by i l) (x ∷ not_by i l)

-- an accepted restore leaves that
abbrev pub since_with : List Handing → Action → Step → List Handing
since_with l a s = pick (is_restore_of (actor a) s) (not_by (actor a) l) (sent_with l a)

abbrev pub acted : Instance → World → Action → World
acted v w a = record {
  boards = set w.boards (actor a) (after_own (board_of w (actor a)) (step_of v (board_of w (actor a)) a));
  sent = sent_with w.sent a;
  since = since_with w.since a (step_of v (board_of w (actor a)) a);
}

unfoldable pub world_after : Instance → World → List Action → World
world_after v w [] = w
world_after v w (a ∷ rest) = world_after v (acted v w a) rest

-- ---- the tests

abbrev pub same : Message → Message → Bool
same m x = (eqb m.number x.number && eqb m.level x.level) && (eqb (kind_of m.body) (kind_of x.body) && eqb (value_of m.body) (value_of x.body))

unfoldable pub among : Message → List Message → Bool
among m [] = false
among m (x ∷ l) = same m x || among m l

unfoldable pub sent_by : ℕ → Message → List Handing → Bool
sent_by i m [] = false
sent_by i m (x ∷ l) = (eqb i x.by && same m x.message) || sent_by i m l

abbrev pub sound : Instance → Set → ℕ → Bool
sound v bad i = ltb i v.n && not (bad i)

abbrev pub is_waiting : Stage → Bool
is_waiting waiting = true
is_waiting running = false
is_waiting down = false

abbrev pub is_running : Stage → Bool
is_running waiting = false
is_running running = true
is_running down = false

abbrev pub refusal : ℕ → Verdict → Bool
refusal k Verdict.Accepted = false
refusal k (Verdict.Refused number place) = eqb number k

abbrev pub not_found : {A : Type 0} → ℕ → Found A → Bool
not_found k (found x) = false
not_found k (refused number place) = eqb number k

-- question k refuses the call
abbrev pub is_refused : ℕ → Call → Bool
is_refused k (set_up n t own agreement plan) = refusal k (set_up_of n t own agreement plan).verdict
is_refused k (start p input lent used) = not_found k (start_finds p input lent used)
is_refused k (take_message_lem p sender bytes lent used) = not_found k (take_finds p sender bytes lent used)
is_refused k (read_answer p) = refusal k (answered_of p).verdict
is_refused k (read_count p g c) = refusal k (read_as_count p g c).verdict
is_refused k (restore n t own agreement plan lent) = not_found k (restore_finds n t own agreement plan lent)

unfoldable pub same_bytes : List ℕ → List ℕ → Bool
same_bytes [] [] = true
same_bytes [] (y ∷ r) = false
same_bytes (x ∷ l) [] = false
same_bytes (x ∷ l) (y ∷ r) = eqb x y && same_bytes l r

abbrev pub is_torn : RecordRead → Bool
is_torn (Ok r) = false
is_torn (Err Torn) = true
is_torn (Err Bad) = false

-- the journal has the bytes `whole`, and then a torn record
abbrev pub torn_behind : List ℕ → List ℕ → Bool
torn_behind whole journal = same_bytes (take (length whole) journal) whole && is_torn (record_at journal (length whole))

abbrev pub fits_board : Instance → Set → List Handing → Board → Action → Bool
fits_board v bad l b (sets_up i) = is_waiting b.stage
fits_board v bad l b (starts i z) = is_running b.stage
fits_board v bad l b (starts_count i g c) = is_running b.stage
fits_board v bad l b (takes i s m) = is_running b.stage && (not (sound v bad s) || sent_by s m l)
fits_board v bad l b (reads i) = is_running b.stage
fits_board v bad l b (reads_count i g c) = is_running b.stage
fits_board v bad l b (sends i m) = is_running b.stage && among m b.outbox
fits_board v bad l b (cuts i k) = leb b.guarded k
fits_board v bad l b (restores i) = not (is_waiting b.stage)
fits_board v bad l b (restores_torn i tail) = not (is_waiting b.stage) && torn_behind (journal_bytes (records_in b.journal)) (b.journal ++ tail)
fits_board v bad l b (tries i k c) = is_refused k (c b)

abbrev pub fits : Instance → Set → World → Action → Bool
fits v bad w a = sound v bad (actor a) && fits_board v bad w.sent (board_of w (actor a)) a

unfoldable pub all_fit : Instance → Set → World → List Action → Bool
all_fit v bad w [] = true
all_fit v bad w (a ∷ rest) = fits v bad w a && all_fit v bad (acted v w a) rest
