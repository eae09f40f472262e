-- What each step of a board makes of the records in its journal.
use mathlib.Core.Path.{◌≡◌, refl, sym, ap, ◌∙◌, subst}
use mathlib.Core.Logic.{inl, inr}
use mathlib.Core.Bool.{false}
use mathlib.Core.List.{List, ◌∷◌, ◌++◌}
use Prim.Native.Nat.{ℕ, ◌≤◌, ◌<◌}
use native.Mathlib.Omega.{arith}
use lib.Dec.{eqb, eqb_refl}
use lib.ListN.{length, take, drop, length-append, length-take}
use Rattle.base.specs.Sets.{Set}
use Rattle.base.proofs.Bools.{T→true}
use Rattle.base.specs.Verdict.{Verdict}
use Rattle.base.specs.Found.{Found, found, refused}
use Rattle.plan.specs.Plan.{Plan}
use Rattle.message.specs.declared.Message.{Message}
use Rattle.message.specs.Reading.{exact_message}
use Rattle.journal.specs.declared.Record.{Record}
use Rattle.journal.specs.Records.{journal_bytes}
use Rattle.journal.proofs.Records.{Holds, holds_whole, holds_records, holds_cut}
use Rattle.journal.specs.Reading.{records_in}
use Rattle.party.specs.Party.{Party}
use Rattle.party.specs.Run.{Ran}
use Rattle.party_life.specs.Life.{replayed, lived, made_along}
use Rattle.board_calls.specs.Answers.{position_of}
use Rattle.board_calls.specs.Calls.{Entry, again, fresh, set_up_of}
use Rattle.board_calls.specs.Restore.{Replay}
use Rattle.board_laws.proofs.Counts.{count_refused}
use Rattle.agreement.specs.History.{Instance, Lent, StartInput, voted_input, Call, set_up, start, take_message_lem, read_answer, read_count, restore, start_finds, take_finds, restore_finds, Step, calls, cut, whose, History, Stage, waiting, running, down, Act, a_start, a_take, Board, after_set_up, after_entry, after_answer, after_restore, after_call, after_cut, after_own, board_after}
use Rattle.agreement.specs.Allowed.{Refuses, Continues, Allowed}
use Rattle.agreement.specs.Demand.{Shared}
use Rattle.agreement.specs.Inner.{records_of}
use Rattle.agreement.proofs.Restored.{Begins, begins_used, lendable_begins, lived_replay, restored_found}
use Rattle.agreement.proofs.Entries.{Recorded, start_recorded, take_recorded}
use Rattle.agreement.proofs.Lent.{entered, start_entered, take_entered}
use Rattle.agreement.proofs.Tied.{new_board}
use Rattle.agreement.proofs.Keeps.{tied_fresh, fresh_records}
use Rattle.agreement.proofs.Histories.{refused_answer, TiedAfter, tied}
use Rattle.agreement.proofs.Boards.{state_records, running_state, records_of_lem}

-- the records that a board's journal holds
abbrev pub held_records : Board → List Record
held_records b = records_in b.journal

-- a step's own board after it
pub own : (s : Step) (h : History) → board_after (s ∷ h) (whose s) ≡ after_own (board_after h (whose s)) s
unfolding board_after
own s h = rw (T→true (eqb (whose s) (whose s)) (eqb_refl (whose s))) refl

-- another board
pub other : (s : Step) (h : History) (i : ℕ) → eqb (whose s) i ≡ false → board_after (s ∷ h) i ≡ board_after h i
unfolding board_after
other s h i e = rw e refl

-- ---- a refused call

-- "refused calls included": a refused call leaves its board as it was
pub refused_nothing : (h : History) (i : ℕ) (c : Call) → Refuses c → board_after (calls i c ∷ h) i ≡ board_after h i
refused_nothing h i c r = own (calls i c) h ∙ go c r
  where
    b : Board
    b = board_after h i

    go : (c : Call) → Refuses c → after_call b c ≡ b
    go (set_up n t a g bytes) e = ap (λ (y : Verdict). after_set_up b y (set_up_of n t a g bytes).party) e.1.1
    go (start p input lent used) e = ap (after_entry b (a_start (position_of p.plan (voted_input input)) input) p lent used) e.1.1
    go (take_message_lem p sender bytes lent used) e = ap (after_entry b (a_take sender (exact_message bytes)) p lent used) e.1.1
    go (read_answer p) e = ap (after_answer b) (refused_answer p e.0 e.1.0 e.1.1)
    go (read_count p g c) e = ap (after_answer b) (count_refused p g c e.1.1)
    go (restore n t a g bytes lent) e = ap (after_restore b lent) e.1.1

-- an accepted call is not refused
pub not_refused : {q : Found Entry} {x : Entry} (number place : ℕ) → q ≡ refused number place → q ≡ found x → ⊥
not_refused {q} {x} number place e g = let y : refused number place ≡ found x = sym e ∙ g in let o : ◌≡◌ {A = ℕ} 0 1 = cc in omega arith

-- a cut that leaves k bytes leaves all but the newest `lost` records, and takes none whose bytes are all left
pub record Left (h : History) (i k : ℕ) (rs : List Record) : Type 0 where
  pub lost : ℕ
  pub records : rs ≡ drop lost (records_of h i)
  pub fits : length (journal_bytes (drop lost (records_of h i))) ≤ k
  pub least : (d : ℕ) → length (journal_bytes (drop d (records_of h i))) ≤ k → lost ≤ d

module _ (v : Instance) (plan : Plan) (bad : Set) (f : Shared v plan) where
  -- what the calls of board i's records made, in order
  abbrev pub made_so_far : History → ℕ → List Message
  made_so_far h i = made_along (new_board v plan i) (records_of h i)

  -- ---- an accepted start or take

  module _ (h : History) (i : ℕ) (p : Party) (lent : Lent) (used : ℕ) where
    -- the party of the records
    pub party_lived : Allowed v bad h → i < v.n → Continues (board_after h i) p lent used → p ≡ (lived (new_board v plan i) (records_of h i)).party
    party_lived a k c =
        c.same ∙ running_state v plan bad f h a i k c.up ∙ state_records v plan bad f h a i k
        ∙ ap (λ (rs : List Record). (lived (new_board v plan i) rs).party) (sym (records_of_lem v plan bad f h a i k))

    -- its record is appended
    appended : (a : Allowed v bad h) (k : i < v.n) (c : Continues (board_after h i) p lent used) (r : Record) (ran : Ran) → Recorded p (length lent.journal) used r ran
        → (d : Act) (b : Board) → b ≡ entered (board_after h i) d (found (fresh r ran)) → held_records b ≡ r ∷ records_of h i
    appended a k c r ran x d b g =
        let t : Recorded (board_after h i).party (length lent.journal) used r ran = subst (λ (q : Party). Recorded q (length lent.journal) used r ran) c.same x in
        ap held_records g
        ∙ holds_records (tied_fresh v plan f i k (board_after h i) _ _ (tied v plan bad f h a i k) c.up d (length lent.journal) used r ran t).holds
        ∙ fresh_records v plan f i k (board_after h i) _ _ (tied v plan bad f h a i k) c.up d (length lent.journal) used r ran t
        ∙ ap (λ (rs : List Record). r ∷ rs) (sym (records_of_lem v plan bad f h a i k))

    -- and what its call made
    appended_makes : (a : Allowed v bad h) (k : i < v.n) (c : Continues (board_after h i) p lent used) (r : Record) (ran : Ran) → Recorded p (length lent.journal) used r ran
        → (rs : List Record) → rs ≡ r ∷ records_of h i → made_along (new_board v plan i) rs ≡ made_so_far h i ++ ran.made
    unfolding lived
    appended_makes a k c r ran d rs e =
        ap (made_along (new_board v plan i)) e
        ∙ ap (λ (y : Ran). made_so_far h i ++ y.made) (ap (λ (q : Party). replayed q r) (sym (party_lived a k c)) ∙ d.does)

    module _ (input : StartInput) where
      abbrev start_step : Step
      start_step = calls i (start p input lent used)

      -- the board after it
      pub start_board : Continues (board_after h i) p lent used
          → board_after (calls i (start p input lent used) ∷ h) i ≡ entered (board_after h i) (a_start (position_of p.plan (voted_input input)) input) (start_finds p input lent used)
      start_board c = own start_step h ∙ start_entered (board_after h i) p lent used c input

      -- "Each start or taken message appends one record": the record of an accepted start is its board's newest
      pub start_newest : Allowed v bad (start_step ∷ h) → (r : Record) (ran : Ran) → start_finds p input lent used ≡ found (fresh r ran)
          → records_of (start_step ∷ h) i ≡ r ∷ records_of h i
      start_newest ((o, inl x), a) r ran e = absurd (not_refused x.0 x.1.0 x.1.1 e)
      start_newest ((o, inr c), a) r ran e =
          appended a o.0 c r ran (start_recorded p input lent used r ran e).2 (a_start (position_of p.plan (voted_input input)) input) (board_after (start_step ∷ h) i)
          (start_board c ∙ ap (entered (board_after h i) (a_start (position_of p.plan (voted_input input)) input)) e)

      -- "what a board's calls made": an accepted start adds the messages whose bytes it wrote into the outgoing buffer (Lent, `entry_outgoing`), no others
      pub start_makes : Allowed v bad (start_step ∷ h) → (r : Record) (ran : Ran) → start_finds p input lent used ≡ found (fresh r ran)
          → made_so_far (start_step ∷ h) i ≡ made_so_far h i ++ ran.made
      start_makes ((o, inl x), a) r ran e = absurd (not_refused x.0 x.1.0 x.1.1 e)
      start_makes ((o, inr c), a) r ran e =
          appended_makes a o.0 c r ran (start_recorded p input lent used r ran e).2 (records_of (start_step ∷ h) i) (start_newest ((o, inr c), a) r ran e)

      -- its messages may be handed over from then on
      pub start_posts : Allowed v bad (start_step ∷ h) → (r : Record) (ran : Ran) → start_finds p input lent used ≡ found (fresh r ran)
          → (board_after (start_step ∷ h) i).outbox ≡ (board_after h i).outbox ++ ran.made
      start_posts ((o, inl x), a) r ran e = absurd (not_refused x.0 x.1.0 x.1.1 e)
      start_posts ((o, inr c), a) r ran e = ap (λ (b : Board). b.outbox) (start_board c ∙ ap (entered (board_after h i) (a_start (position_of p.plan (voted_input input)) input)) e)

    module _ (s : ℕ) (bytes : List ℕ) where
      abbrev take_step : Step
      take_step = calls i (take_message_lem p s bytes lent used)

      -- the board after it
      pub take_board : Continues (board_after h i) p lent used
          → board_after (calls i (take_message_lem p s bytes lent used) ∷ h) i ≡ entered (board_after h i) (a_take s (exact_message bytes)) (take_finds p s bytes lent used)
      take_board c = own take_step h ∙ take_entered (board_after h i) p lent used c s bytes

      -- the record of an accepted take is its board's newest
      pub take_newest : Allowed v bad (take_step ∷ h) → (r : Record) (ran : Ran) → take_finds p s bytes lent used ≡ found (fresh r ran)
          → records_of (take_step ∷ h) i ≡ r ∷ records_of h i
      take_newest ((o, inl x), a) r ran e = absurd (not_refused x.0 x.1.0 x.1.1 e)
      take_newest ((o, inr c), a) r ran e =
          appended a o.0 c.0 r ran (take_recorded p s bytes (length lent.journal) used lent.out r ran e).3 (a_take s (exact_message bytes)) (board_after (take_step ∷ h) i)
          (take_board c.0 ∙ ap (entered (board_after h i) (a_take s (exact_message bytes))) e)

      -- and so does an accepted take
      pub take_makes : Allowed v bad (take_step ∷ h) → (r : Record) (ran : Ran) → take_finds p s bytes lent used ≡ found (fresh r ran)
          → made_so_far (take_step ∷ h) i ≡ made_so_far h i ++ ran.made
      take_makes ((o, inl x), a) r ran e = absurd (not_refused x.0 x.1.0 x.1.1 e)
      take_makes ((o, inr c), a) r ran e =
          appended_makes a o.0 c.0 r ran (take_recorded p s bytes (length lent.journal) used lent.out r ran e).3 (records_of (take_step ∷ h) i) (take_newest ((o, inr c), a) r ran e)

      -- its messages may be handed over from then on
      pub take_posts : Allowed v bad (take_step ∷ h) → (r : Record) (ran : Ran) → take_finds p s bytes lent used ≡ found (fresh r ran)
          → (board_after (take_step ∷ h) i).outbox ≡ (board_after h i).outbox ++ ran.made
      take_posts ((o, inl x), a) r ran e = absurd (not_refused x.0 x.1.0 x.1.1 e)
      take_posts ((o, inr c), a) r ran e = ap (λ (b : Board). b.outbox) (take_board c.0 ∙ ap (entered (board_after h i) (a_take s (exact_message bytes))) e)

      -- "A message already held is accepted, with no record": the records stay
      pub take_again : Allowed v bad (take_step ∷ h) → take_finds p s bytes lent used ≡ found again → records_of (take_step ∷ h) i ≡ records_of h i
      take_again ((o, inl x), a) e = absurd (not_refused x.0 x.1.0 x.1.1 e)
      take_again ((o, inr c), a) e = ap held_records (take_board c.0 ∙ ap (entered (board_after h i) (a_take s (exact_message bytes))) e)

  -- ---- a cut

  pub cut_left : (h : History) → Allowed v bad h → (i k : ℕ) → i < v.n → Left h i k (records_in (take k (board_after h i).journal))
  cut_left h a i k l =
      let w : TiedAfter v plan bad f h i = tied v plan bad f h a i l in
      go w.records (records_of_lem v plan bad f h a i l) (holds_cut (board_after h i).journal w.records k w.holds)
    where
      go : (rs : List Record) → records_of h i ≡ rs
          → (d : ℕ) × Holds (take k (board_after h i).journal) (drop d rs) × ((e : ℕ) → length (journal_bytes (drop e rs)) ≤ k → d ≤ e)
          → Left h i k (records_in (take k (board_after h i).journal))
      go rs e (d, x, least) =
          let short : length (journal_bytes (drop d rs)) ≤ k =
          omega (arith, ap length x.bytes, length-append (journal_bytes (drop d rs)) x.tail, length-take k (board_after h i).journal) in
          record {
            lost = d;
            records = holds_records x ∙ ap (drop d) (sym e);
            fits = subst (λ (ts : List Record). length (journal_bytes (drop d ts)) ≤ k) (sym e) short;
            least = λ y n. least y (subst (λ (ts : List Record). length (journal_bytes (drop y ts)) ≤ k) e n);
          }

  -- "a start or message whose record is lost counts as not made or taken, and each later call of that board before the cut is lost with it":
  -- a cut leaves all but the newest d records
  pub cut_oldest : (h : History) (i left : ℕ) → Allowed v bad (cut i left ∷ h) → (d : ℕ) × (records_of (cut i left ∷ h) i ≡ drop d (records_of h i))
  cut_oldest h i left (m, a) = go (board_after h i).stage refl
    where
      after : (s : Stage) → (board_after h i).stage ≡ s → board_after (cut i left ∷ h) i ≡ after_cut (board_after h i) s left
      after s e = own (cut i left) h ∙ ap (λ (y : Stage). after_cut (board_after h i) y left) e

      x : Left h i left (records_in (take left (board_after h i).journal))
      x = cut_left h a i left m.0.0

      go : (s : Stage) → (board_after h i).stage ≡ s → (d : ℕ) × (records_of (cut i left ∷ h) i ≡ drop d (records_of h i))
      go waiting e = (0, ap held_records (after waiting e))
      go running e = (x.lost, ap held_records (after running e) ∙ x.records)
      go down e = (x.lost, ap held_records (after down e) ∙ x.records)

  -- ---- a restore

  -- "Restore gives the party of the whole records": it leaves them as they were
  pub restore_records : (h : History) (i n t own agreement : ℕ) (bytes : List ℕ) (lent : Lent) → Allowed v bad (calls i (restore n t own agreement bytes lent) ∷ h)
      → records_of (calls i (restore n t own agreement bytes lent) ∷ h) i ≡ records_of h i
  restore_records h i n t seat agreement bytes lent ((o, inl x), a) = ap held_records (refused_nothing h i (restore n t seat agreement bytes lent) x)
  restore_records h i n t seat agreement bytes lent ((o, inr (up, s, given)), a) =
      ap held_records (own (calls i (restore n t seat agreement bytes lent)) h) ∙ go q refl
    where
      b : Board
      b = board_after h i

      x : TiedAfter v plan bad f h i
      x = tied v plan bad f h a i o.0

      q : Found Replay
      q = restore_finds n t seat agreement bytes lent

      l : Begins lent.journal x.records
      l = lendable_begins b.journal lent.journal x.records x.holds given

      lived_records : held_records (after_restore b lent (found (lived_replay (new_board v plan i) x.records))) ≡ records_of h i
      lived_records =
          holds_records (holds_whole x.records (take (length (journal_bytes x.records)) lent.journal) x.holds.limits (begins_used l))
          ∙ sym (records_of_lem v plan bad f h a i o.0)

      go : (y : Found Replay) → q ≡ y → held_records (after_restore b lent y) ≡ records_of h i
      go (found r) e =
          ap (λ (y : Replay). held_records (after_restore b lent (found y)))
          (restored_found v.n v.t i v.agreement v.plan plan f.boards f.faults o.0 f.reads x.records x.life lent.journal l lent.out r
          (sym (λ z. restore_finds (s.boards z) (s.faults z) (s.seat z) (s.number z) (s.bytes z) lent) ∙ e))
          ∙ lived_records
      go (refused number place) e = refl
