-- What ties a sound board to its log: the records of the log are those of its journal, and while it runs its party is theirs.
use mathlib.Core.Path.{◌≡◌, refl, sym, ap}
use mathlib.Core.List.{List, [], ◌∷◌, Memᴰ}
use Prim.Native.Nat.{ℕ, zero, suc, ◌+◌, ◌*◌, ◌≤◌, ◌<◌}
use native.Mathlib.Omega.{arith}
use lib.Dec.{T}
use lib.ListN.{length, drop}
use Rattle.base.specs.Verdict.{Verdict}
use Rattle.plan.specs.Plan.{Plan}
use Rattle.plan.specs.Valid.{plan_valid}
use Rattle.plan_laws.proofs.Given.{found_good}
use Rattle.message.specs.declared.Message.{Message}
use Rattle.journal.specs.declared.Record.{Record}
use Rattle.journal.specs.Records.{journal_bytes}
use Rattle.journal.proofs.Records.{Holds, holds_whole, journal_none}
use Rattle.party.specs.Party.{Party, new_party}
use Rattle.party.specs.Valid.{settings_pass}
use Rattle.party_laws.proofs.Laws.{→settings}
use Rattle.party_life.specs.Life.{lived, Life}
use Rattle.board_calls.specs.Calls.{set_up_of, set_up_answer}
use Rattle.execution.specs.Machine.{Event}
use Rattle.vote_machine.specs.Machine.{Sent, events_of}
use Rattle.vote_machine.specs.Inner.{Regular}
use Rattle.vote_machine.proofs.Laws.{Passes, regular_new}
use Rattle.agreement.specs.History.{Instance, Stage, waiting, running, down, Board, unborn}
use Rattle.agreement.specs.Demand.{Shared}
use Rattle.agreement.proofs.Restored.{settled}

-- ---- records and events

pub events_length : (rs : List Record) → length (events_of rs) ≡ length rs
unfolding events_of
events_length [] = refl
events_length (r ∷ rs) = ap suc (events_length rs)

pub events_drop : (d : ℕ) (rs : List Record) → drop d (events_of rs) ≡ events_of (drop d rs)
unfolding events_of
events_drop zero rs = refl
events_drop (suc d) [] = refl
events_drop (suc d) (r ∷ rs) = events_drop d rs

pub life_drop : (p : Party) (d : ℕ) (rs : List Record) → Life p rs → Life p (drop d rs)
life_drop p zero rs l = l
life_drop p (suc d) [] l = l
life_drop p (suc d) (r ∷ rs) l = life_drop p d rs l.1

-- ---- the tie

-- board i as set up
abbrev pub new_board : Instance → Plan → ℕ → Party
new_board v plan i = new_party v.n v.t i v.agreement plan

-- a running board's record is the party of its records, its journal holds them and nothing else, and its outbox only what they made
pub record Running (v : Instance) (plan : Plan) (i : ℕ) (b : Board) (rs : List Record) : Type 0 where
  pub party : b.party ≡ (lived (new_board v plan i) rs).party
  pub journal : b.journal ≡ journal_bytes rs
  pub outbox : (m : Message) → Memᴰ m b.outbox → Sent (lived (new_board v plan i) rs).party m

abbrev pub AtStage : Instance → Plan → ℕ → Board → List Record → Stage → Type 0
AtStage v plan i b rs waiting = rs ≡ []
AtStage v plan i b rs running = Running v plan i b rs
AtStage v plan i b rs down = Unit {0}

-- board i is b, with the log l, whose oldest x records no cut may take
pub record Tied (v : Instance) (plan : Plan) (i : ℕ) (b : Board) (l : List (Event Message ℕ)) (x : ℕ) : Type 0 where
  pub records : List Record
  pub events : l ≡ events_of records
  pub life : Life (new_board v plan i) records
  -- the journal holds them, and perhaps a torn record
  pub holds : Holds b.journal records
  -- a cut may take only the newest `loose` records, and these are not held
  pub loose : ℕ
  pub guards : length (journal_bytes (drop loose records)) ≤ b.guarded
  pub kept : x + loose ≤ length records
  pub stage : AtStage v plan i b records b.stage

module _ (v : Instance) (plan : Plan) (f : Shared v plan) (i : ℕ) (seat : i < v.n) where
  abbrev p : Party
  p = new_board v plan i

  pub plan_valid_lem : T (plan_valid plan)
  plan_valid_lem = (found_good v.plan plan f.reads).passes

  pub settings_pass_lem : T (settings_pass (new_board v plan i))
  settings_pass_lem = →settings p (record { some = omega (arith, f.faults); most = f.boards; faults = f.faults; own = seat })

  pub board_regular : Regular (new_board v plan i)
  board_regular = regular_new v.n v.t i v.agreement plan settings_pass_lem plan_valid_lem

  -- ---- not set up

  pub tied_unborn : Tied v plan i unborn [] 0
  unfolding events_of
  tied_unborn = record {
    records = [];
    events = refl;
    life = tt;
    holds = holds_whole [] [] tt (sym journal_none);
    loose = 0;
    guards = omega (arith, ap length journal_none);
    kept = omega arith;
    stage = refl;
  }

  -- ---- set-up

  pub set_up_found : set_up_of v.n v.t i v.agreement v.plan ≡ record { verdict = Verdict.Accepted; party = new_board v plan i }
  unfolding set_up_of
  set_up_found = ap (set_up_answer v.n v.t i v.agreement) (settled v.n v.t i v.agreement v.plan plan f.boards f.faults seat f.reads)

-- the settings pass; board 0 is one of the n
pub shared_passes : (v : Instance) (plan : Plan) → Shared v plan → Passes v.n v.t plan
shared_passes v plan f = record { boards = f.boards; faults = f.faults; valid = plan_valid_lem v plan f 0 (some v.n f.faults) }
  where
    some : (n : ℕ) → 3 * v.t < n → 0 < n
    some n l = omega arith
