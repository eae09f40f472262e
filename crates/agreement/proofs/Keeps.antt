-- What each step of a board keeps: it stays tied to its log.
use mathlib.Core.Path.{◌≡◌, refl, sym, ap, ap₂, ◌∙◌, subst}
use mathlib.Core.Logic.{◌⊎◌, inl, inr}
use mathlib.Core.List.Memᴰ
use mathlib.Core.List.{List, [], ◌∷◌, ◌++◌, Memᴰ}
use Prim.Native.Nat.{ℕ, suc, ◌+◌, ◌-◌, ◌≤◌, ◌<◌}
use native.Mathlib.Omega.{arith}
use lib.ListN.{length, take, drop, length-drop}
use lib.Seq.{drop-drop}
use Rattle.std.specs.Prelude.{Ok}
use Rattle.base.specs.Limits.{max_width}
use Rattle.base.specs.Verdict.{Verdict}
use Rattle.base.proofs.Bools.{T→true}
use Rattle.base.specs.Found.{found}
use Rattle.plan.specs.Plan.{Plan}
use Rattle.plan_laws.proofs.Shape.{shape}
use Rattle.message.specs.declared.Message.{Message}
use Rattle.message.specs.Message.{in_table, message_bytes}
use Rattle.message.specs.Reading.{exact_message}
use Rattle.message.proofs.RoundTrip.{exact_message_read}
use Rattle.journal.specs.declared.Record.{Record}
use Rattle.journal.specs.Journal.{record_bytes}
use Rattle.journal.specs.Records.{InLimits, journal_bytes}
use Rattle.journal.proofs.Records.{Holds, holds_whole, holds_records, holds_cut, journal_none, journal_more}
use Rattle.party.specs.Party.{Party}
use Rattle.party.specs.Run.{Ran}
use Rattle.party_life.specs.Life.{replayed, lived, Fits, Life}
use Rattle.board_calls.specs.Calls.{fresh}
use Rattle.execution.specs.Machine.{Event}
use Rattle.vote_machine.specs.Machine.{Sent, event_of, events_of}
use Rattle.vote_machine.specs.Inner.{Le}
use Rattle.vote_machine.proofs.Laws.{le_sent, regular_lived, le_record, le_lived, made_lived, tells_replayed, sent_proper}
use Rattle.agreement.specs.History.{Instance, Lent, Stage, waiting, running, down, Act, Counted, Board, after_set_up, after_restore, cut_off}
use Rattle.agreement.specs.Demand.{Shared}
use Rattle.agreement.proofs.Restored.{Begins, begins_used, lived_replay}
use Rattle.agreement.proofs.Entries.{Recorded, fits_limits}
use Rattle.agreement.proofs.Lent.{counting, entered}
use Rattle.agreement.proofs.Told.{whole_records}
use Rattle.agreement.proofs.Tied.{events_length, events_drop, life_drop, new_board, Running, AtStage, Tied, plan_valid_lem, board_regular}

module _ (v : Instance) (plan : Plan) (f : Shared v plan) (i : ℕ) (seat : i < v.n) where
  abbrev p : Party
  p = new_board v plan i

  module _ (b : Board) (l : List (Event Message ℕ)) (x : ℕ) (w : Tied v plan i b l x) where
    pub tied_set_up : b.stage ≡ waiting → Tied v plan i (after_set_up b Verdict.Accepted (new_board v plan i)) l x
    unfolding events_of lived
    tied_set_up e =
        let z : w.records ≡ [] = subst (AtStage v plan i b w.records) e w.stage in
        record {
          records = [];
          events = w.events ∙ ap events_of z;
          life = tt;
          holds = holds_whole [] [] tt (sym journal_none);
          loose = 0;
          guards = omega (arith, ap length journal_none);
          kept = omega (arith, w.kept, ap length z);
          stage = record { party = refl; journal = sym journal_none; outbox = λ m h. absurd (Memᴰ.not-nil h) };
        }

    abbrev rs : List Record
    rs = w.records

    abbrev now : Party
    now = (lived (new_board v plan i) rs).party

    run_of : b.stage ≡ running → Running v plan i b w.records
    run_of e = subst (AtStage v plan i b w.records) e w.stage

    le_now : Le p now
    le_now = le_lived p (board_regular v plan f i seat) rs w.life

    -- what its party has made is in the table and of this vote, so reading its bytes gives it
    pub tied_read : (m : Message) → Sent (lived (new_board v plan i) w.records).party m → exact_message (message_bytes m) ≡ Ok m
    tied_read m o =
        exact_message_read m (T→true (in_table m) (sent_proper now (regular_lived p (board_regular v plan f i seat) rs w.life) m o))
        (omega (arith, o.number, le_now.board.agreement, f.number))

    -- ---- an accepted start or take

    pub tied_fresh : b.stage ≡ running → (a : Act) (room used : ℕ) (r : Record) (ran : Ran) → Recorded b.party room used r ran → Tied v plan i (entered b a (found (fresh r ran))) (event_of r ∷ l) x
    unfolding events_of lived
    tied_fresh e a room used r ran t =
        let u = run_of e in
        let fits : Fits now r = subst (λ (q : Party). Fits q r) u.party t.fits in
        let does : ran ≡ replayed now r = sym t.does ∙ ap (λ (q : Party). replayed q r) u.party in
        let k : Life p (r ∷ rs) = (fits, w.life) in
        let j : b.journal ++ record_bytes r ≡ journal_bytes (r ∷ rs) = ap (λ (y : List ℕ). y ++ record_bytes r) u.journal ∙ sym (journal_more r rs) in
        record {
          records = r ∷ rs;
          events = ap (λ (y : List (Event Message ℕ)). event_of r ∷ y) w.events;
          life = k;
          holds = holds_whole (r ∷ rs) (b.journal ++ record_bytes r) (limits r fits, w.holds.limits) j;
          loose = suc w.loose;
          guards = w.guards;
          kept = omega (arith, w.kept);
          stage = subst (AtStage v plan i (entered b a (found (fresh r ran))) (r ∷ rs)) (sym e) (record {
            party = ap (λ (y : Ran). y.party) does;
            journal = j;
            outbox = λ m h. posted m k does u (Memᴰ.append_cases b.outbox h);
          });
        }
      where
        limits : (r : Record) → Fits now r → InLimits r
        limits = fits_limits now (omega (arith, f.number, le_now.board.agreement)) (omega (arith, f.boards, le_now.board.n))
            (subst (λ (y : Plan). y.count ≤ max_width + 1) (sym le_now.board.plan) (shape plan (plan_valid_lem v plan f i seat)).most)

        posted : (m : Message) → Life p (r ∷ rs) → ran ≡ replayed now r → Running v plan i b rs → Memᴰ m b.outbox ⊎ Memᴰ m ran.made
            → Sent (replayed now r).party m
        posted m k d u (inl h) = le_sent now (replayed now r).party (le_record p (board_regular v plan f i seat) r rs k) m (u.outbox m h)
        posted m k d u (inr h) =
            (tells_replayed now r k.0 (regular_lived p (board_regular v plan f i seat) rs k.1)).made m (subst (λ (y : Ran). Memᴰ m y.made) d h)

    -- the call's record is the newest
    pub fresh_records : (e : b.stage ≡ running) (a : Act) (room used : ℕ) (r : Record) (ran : Ran) (t : Recorded b.party room used r ran)
        → (tied_fresh e a room used r ran t).records ≡ r ∷ w.records
    unfolding tied_fresh
    fresh_records e a room used r ran t = refl

    -- a call without a record only counts
    pub tied_counting : (cs : List Counted) → Tied v plan i (counting b cs) l x
    tied_counting cs = record {
      records = rs;
      events = w.events;
      life = w.life;
      holds = w.holds;
      loose = w.loose;
      guards = w.guards;
      kept = w.kept;
      stage = go b.stage w.stage;
    }
      where
        go : (s : Stage) → AtStage v plan i b rs s → AtStage v plan i (counting b cs) rs s
        go waiting e = e
        go running u = record { party = u.party; journal = u.journal; outbox = u.outbox }
        go down u = tt

    -- ---- a message handed over, or an answer read

    -- a cut must leave k bytes, at least all that are used
    pub tied_guarding : b.stage ≡ running → (k : ℕ) → length b.journal ≤ k
        → Tied v plan i (record { stage = b.stage; party = b.party; journal = b.journal; guarded = k; outbox = b.outbox; counted = b.counted }) l (length l)
    tied_guarding e k g =
        let u = run_of e in
        record {
          records = rs;
          events = w.events;
          life = w.life;
          holds = w.holds;
          loose = 0;
          guards = omega (arith, ap length u.journal);
          kept = omega (arith, ap length w.events, events_length rs);
          stage = subst (AtStage v plan i (record { stage = b.stage; party = b.party; journal = b.journal; guarded = k; outbox = b.outbox; counted = b.counted }) rs) (sym e) (record {
            party = u.party;
            journal = u.journal;
            outbox = u.outbox;
          });
        }

    -- ---- an accepted restore

    pub tied_restored : (lent : Lent) → Begins lent.journal w.records → Tied v plan i (after_restore b lent (found (lived_replay (new_board v plan i) w.records))) l (length l)
    tied_restored lent h = record {
      records = rs;
      events = w.events;
      life = w.life;
      holds = holds_whole rs (take (length (journal_bytes rs)) lent.journal) w.holds.limits (begins_used h);
      loose = 0;
      guards = omega arith;
      kept = omega (arith, ap length w.events, events_length rs);
      stage = record { party = refl; journal = begins_used h; outbox = made_lived p (board_regular v plan f i seat) rs w.life };
    }

    -- ---- a cut

    -- a cut that leaves k bytes takes the newest `lost` records
    record Cutting (k : ℕ) : Type 0 where
      lost : ℕ
      within : lost ≤ w.loose
      rest : Holds (take k b.journal) (drop lost w.records)
      left : whole_records (take k b.journal) + lost ≡ length w.records

    cutting : (k : ℕ) → b.guarded ≤ k → Cutting k
    cutting k g =
        let c = holds_cut b.journal rs k w.holds in
        let d : c.0 ≤ w.loose = c.2 w.loose (omega (arith, w.guards)) in
        record {
          lost = c.0;
          within = d;
          rest = c.1;
          left = omega (arith, ap length (holds_records c.1), length-drop c.0 rs, w.kept);
        }

    -- what is held stays, and no more stays than there is
    pub cut_may : (k : ℕ) → b.guarded ≤ k → (x ≤ whole_records (take k b.journal)) × (whole_records (take k b.journal) ≤ length l)
    cut_may k g =
        let c = cutting k g in
        (omega (arith, c.within, c.left, w.kept), omega (arith, c.left, ap length w.events, events_length rs))

    pub tied_cut : (k : ℕ) → b.guarded ≤ k → Tied v plan i (cut_off b k) (drop (length l - whole_records (take k b.journal)) l) x
    tied_cut k g =
        let c = cutting k g in
        let d : ℕ = c.lost in
        let n : length l - whole_records (take k b.journal) ≡ d = omega (arith, c.left, ap length w.events, events_length rs) in
        let e : d + (w.loose - d) ≡ w.loose = omega (arith, c.within) in
        let o : drop (w.loose - d) (drop d rs) ≡ drop w.loose rs = drop-drop (w.loose - d) d rs ∙ ap (λ (y : ℕ). drop y rs) e in
        record {
          records = drop d rs;
          events = ap₂ (λ (y : ℕ) (z : List (Event Message ℕ)). drop y z) n w.events ∙ events_drop d rs;
          life = life_drop p d rs w.life;
          holds = c.rest;
          loose = w.loose - d;
          guards = omega (arith, ap (λ (y : List Record). length (journal_bytes y)) o, w.guards);
          kept = omega (arith, w.kept, c.within, length-drop d rs);
          stage = tt;
        }
