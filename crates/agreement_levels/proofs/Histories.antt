-- A board alone lives in a history: its own life, told as steps that document 01 allows.
use mathlib.Core.Path.{◌≡◌, refl, sym, ap, ap₂, ◌∙◌, subst}
use mathlib.Core.Logic.{◌⊎◌, inl, inr}
use mathlib.Core.Bool.{false}
use mathlib.Core.List.Memᴰ
use mathlib.Core.List.{List, [], ◌∷◌, ◌++◌, Memᴰ}
use Prim.Native.Nat.{ℕ, ◌+◌, ◌≤◌, ◌<◌}
use native.Mathlib.Omega.{arith}
use lib.Dec.{T}
use lib.ListN.{length, length-append}
use lib.Seq.{take_at}
use Rattle.std.specs.Prelude.{Ok}
use Rattle.base.specs.Limits.{outgoing_size}
use Rattle.base.specs.Found.{Found, found}
use Rattle.base.proofs.Bools.{T→true}
use Rattle.plan.specs.Plan.{Plan}
use Rattle.plan.specs.Positions.{reading_of}
use Rattle.message.specs.declared.Message.{Message}
use Rattle.message.specs.Message.{in_table, message_bytes}
use Rattle.message.specs.Reading.{exact_message}
use Rattle.message.proofs.RoundTrip.{exact_message_read}
use Rattle.journal.specs.declared.Record.{Record}
use Rattle.journal.specs.declared.Record.TheVariants.{Start, Taken}
use Rattle.journal.specs.Journal.{record_bytes}
use Rattle.journal.specs.Reading.{records_from}
use Rattle.party.specs.Party.{Party, new_party, started, held_by}
use Rattle.party.specs.Run.{Ran, starting, taking}
use Rattle.party.specs.Valid.{party_valid}
use Rattle.party_laws.proofs.Laws.{SameBoard}
use Rattle.party_life.specs.Life.{lived, Fits, Life, made_along}
use Rattle.party_life.proofs.Fits.{fits_start, fits_taken}
use Rattle.board_calls.specs.Answers.{position_of}
use Rattle.board_calls.specs.Calls.{SetUp, Entry, fresh}
use Rattle.board_promises.proofs.Starts.{start_anywhere}
use Rattle.board_laws.proofs.Questions.{take_fits}
use Rattle.agreement.specs.History.{Instance, Lent, StartInput, plain, voted_input, set_up, start, take_message_lem, start_finds, take_finds, Step, calls, hands, History, running, a_start, a_take, Board, unborn, after_set_up, after_entry, board_after}
use Rattle.agreement.specs.Allowed.{Sound, Handed, Continues, Allowed}
use Rattle.agreement.specs.Demand.{Shared}
use Rattle.agreement.specs.Inner.{records_of}
use Rattle.agreement.proofs.Tied.{set_up_found}
use Rattle.agreement.proofs.Boards.{state_records, running_state, state_formed, state_board, records_of_lem}
use Rattle.agreement.proofs.Steps.{start_newest, start_makes, start_posts, take_newest, take_makes, take_posts}
use Rattle.agreement.proofs.Accepted.{can_hand}
use Rattle.agreement_levels.specs.Alone.{alone_instance, nobody}
use Rattle.agreement_levels.specs.Inner.{Own}

module _ (a : ℕ) (bytes : List ℕ) (plan : Plan) (f : Shared (alone_instance a bytes) plan) where
  abbrev v : Instance
  v = alone_instance a bytes

  abbrev alone : Party
  alone = new_party 1 0 0 a plan

  sound : Sound (alone_instance a bytes) nobody 0
  sound = (omega arith, tt)

  -- a history in which the running board has these records, and all that they made may be handed over
  pub record Told (rs : List Record) : Type 0 where
    pub h : History
    pub allowed : Allowed (alone_instance a bytes) nobody h
    pub up : (board_after h 0).stage ≡ running
    pub records : records_of h 0 ≡ rs
    pub posted : (m : Message) → Memᴰ m (made_along (new_party 1 0 0 a plan) rs) → Memᴰ m (board_after h 0).outbox

  -- ---- set-up

  first_board : board_after (calls 0 (set_up 1 0 0 a bytes) ∷ []) 0 ≡ record { stage = running; party = alone; journal = []; guarded = 0; outbox = []; counted = [] }
  unfolding board_after
  first_board = ap (λ (s : SetUp). after_set_up unborn s.verdict s.party) (set_up_found v plan f 0 (omega arith))

  told_none : Told []
  unfolding board_after records_from lived
  told_none = record {
    h = calls 0 (set_up 1 0 0 a bytes) ∷ [];
    allowed = ((sound, inr (refl, record { boards = refl; faults = refl; seat = refl; number = refl; bytes = refl })), tt);
    up = ap (λ (b : Board). b.stage) first_board;
    records = ap (λ (b : Board). records_from (length b.journal) b.journal 0 []) first_board;
    posted = λ m h. absurd (Memᴰ.not-nil h);
  }

  -- ---- one more record

  module _ (rs : List Record) (w : Told rs) where
    abbrev b : Board
    b = board_after w.h 0

    party_is : (board_after w.h 0).party ≡ (lived (new_party 1 0 0 a plan) rs).party
    party_is =
        running_state v plan nobody f w.h w.allowed 0 (omega arith) w.up ∙ state_records v plan nobody f w.h w.allowed 0 (omega arith)
        ∙ ap (λ (ts : List Record). (lived alone ts).party) (sym (records_of_lem v plan nobody f w.h w.allowed 0 (omega arith)) ∙ w.records)

    valid : T (party_valid (board_after w.h 0).party)
    valid =
        subst (λ (q : Party). T (party_valid q)) (sym (running_state v plan nobody f w.h w.allowed 0 (omega arith) w.up))
        (state_formed v plan nobody f w.h w.allowed 0 (omega arith)).valid

    -- lent: a journal with the used bytes and room for just one record, and an outgoing buffer
    abbrev lent : Record → Lent
    lent r = record { journal = (board_after w.h 0).journal ++ record_bytes r; out = outgoing_size }

    continues : (r : Record) → Continues (board_after w.h 0) (board_after w.h 0).party (lent r) (length (board_after w.h 0).journal)
    continues r = record { up = w.up; same = refl; at = refl; kept = take_at b.journal (record_bytes r) (length b.journal) refl }

    room : (r : Record) → length (board_after w.h 0).journal + length (record_bytes r) ≤ length (lent r).journal
    room r = omega (arith, length-append b.journal (record_bytes r))

    board_is : SameBoard (new_party 1 0 0 a plan) (lived (new_party 1 0 0 a plan) rs).party
    board_is =
        subst (SameBoard alone) (sym (running_state v plan nobody f w.h w.allowed 0 (omega arith) w.up) ∙ party_is)
        (state_board v plan nobody f w.h w.allowed 0 (omega arith))

    -- a call that appends a record, and posts what it makes
    posted_more : (r : Record) (ran : Ran) (h : History) → records_of h 0 ≡ r ∷ rs → made_along (new_party 1 0 0 a plan) (records_of h 0) ≡ made_along (new_party 1 0 0 a plan) (records_of w.h 0) ++ ran.made
        → (board_after h 0).outbox ≡ (board_after w.h 0).outbox ++ ran.made
        → (m : Message) → Memᴰ m (made_along (new_party 1 0 0 a plan) (r ∷ rs)) → Memᴰ m (board_after h 0).outbox
    posted_more r ran h e g o m k =
        subst (λ (l : List Message). Memᴰ m l) (sym o)
        (go (Memᴰ.append_cases (made_along alone (records_of w.h 0)) (subst (λ (l : List Message). Memᴰ m l) (ap (made_along alone) (sym e) ∙ g) k)))
      where
        go : Memᴰ m (made_along alone (records_of w.h 0)) ⊎ Memᴰ m ran.made → Memᴰ m (b.outbox ++ ran.made)
        go (inl y) = Memᴰ.append_left ran.made (w.posted m (subst (λ (ts : List Record). Memᴰ m (made_along alone ts)) w.records y))
        go (inr y) = Memᴰ.append_right b.outbox y

    told_start : (c x : ℕ) → Fits (lived (new_party 1 0 0 a plan) rs).party (Start c x) → Told (Start c x ∷ rs)
    unfolding board_after
    told_start c x fit =
        let (number, new, on) = fits_start (lived (new_party 1 0 0 a plan) rs).party c x fit in
        let p : Party = b.party in
        let r : Record = Start p.agreement x in
        let j : Lent = lent r in
        let used : ℕ = length b.journal in
        let z : StartInput = plain (reading_of p.plan x) in
        let e : start_finds p z j used ≡ found (fresh r (starting p x)) =
        start_anywhere p valid (λ t. new (subst (λ (q : Party). T (started q)) party_is t)) x (length j.journal) used outgoing_size
        (subst (λ (q : Party). x < q.plan.count) (sym party_is) on) (omega arith) (room r) in
        let s : Step = calls 0 (start p z j used) in
        let ok : Allowed v nobody (s ∷ w.h) = ((sound, inr (continues r)), w.allowed) in
        let same : r ≡ Start c x = ap (λ (k : ℕ). Start k x) (ap (λ (q : Party). q.agreement) party_is ∙ sym number) in
        let newest : records_of (s ∷ w.h) 0 ≡ Start c x ∷ rs =
        start_newest v plan nobody f w.h 0 p j used z ok r (starting p x) e ∙ ap₂ (λ (y : Record) (ts : List Record). y ∷ ts) same w.records in
        record {
          h = s ∷ w.h;
          allowed = ok;
          up = ap (λ (q : Found Entry). (after_entry b (a_start (position_of p.plan (voted_input z)) z) p j used q).stage) e ∙ w.up;
          records = newest;
          posted = posted_more (Start c x) (starting p x) (s ∷ w.h) newest (start_makes v plan nobody f w.h 0 p j used z ok r (starting p x) e)
              (start_posts v plan nobody f w.h 0 p j used z ok r (starting p x) e);
        }

    -- a message that the board made is handed over
    told_hands : (m : Message) → Memᴰ m (made_along (new_party 1 0 0 a plan) rs) → Told rs
    unfolding board_after
    told_hands m k = record {
      h = hands 0 (message_bytes m) ∷ w.h;
      allowed = (can_hand v plan nobody f w.h w.allowed 0 sound w.up m (w.posted m k)).0;
      up = w.up;
      records = w.records;
      posted = w.posted;
    }

    -- and taken, if it was handed over and is new
    told_taken : (s : ℕ) (m : Message) → Handed 0 (message_bytes m) w.h → held_by (lived (new_party 1 0 0 a plan) rs).party s m ≡ false
        → Fits (lived (new_party 1 0 0 a plan) rs).party (Taken s m) → Told (Taken s m ∷ rs)
    unfolding board_after
    told_taken s m given new fit =
        let (number, low, table) = fits_taken (lived (new_party 1 0 0 a plan) rs).party s m fit in
        let p : Party = b.party in
        let r : Record = Taken s m in
        let j : Lent = lent r in
        let used : ℕ = length b.journal in
        let one : exact_message (message_bytes m) ≡ Ok m = exact_message_read m (T→true (in_table m) table) (omega (arith, number, board_is.agreement, f.number)) in
        let e : take_finds p s (message_bytes m) j used ≡ found (fresh r (taking p s m)) =
        take_fits p s (message_bytes m) (length j.journal) used outgoing_size valid (omega arith) (omega (arith, room r)) (subst (λ (q : Party). s < q.n) (sym party_is) low) m one
        (number ∙ ap (λ (q : Party). q.agreement) (sym party_is)) (ap (λ (q : Party). held_by q s m) party_is ∙ new) (room r) in
        let c : Step = calls 0 (take_message_lem p s (message_bytes m) j used) in
        let zero_is : s ≡ 0 = omega (arith, low, board_is.n) in
        let ok : Allowed v nobody (c ∷ w.h) = ((sound, inr (continues r, λ _. subst (λ (k : ℕ). Handed k (message_bytes m) w.h) (sym zero_is) given)), w.allowed) in
        let newest : records_of (c ∷ w.h) 0 ≡ r ∷ rs =
        take_newest v plan nobody f w.h 0 p j used s (message_bytes m) ok r (taking p s m) e ∙ ap (λ (ts : List Record). r ∷ ts) w.records in
        record {
          h = c ∷ w.h;
          allowed = ok;
          up = ap (λ (q : Found Entry). (after_entry b (a_take s (exact_message (message_bytes m))) p j used q).stage) e ∙ w.up;
          records = newest;
          posted = posted_more r (taking p s m) (c ∷ w.h) newest (take_makes v plan nobody f w.h 0 p j used s (message_bytes m) ok r (taking p s m) e)
              (take_posts v plan nobody f w.h 0 p j used s (message_bytes m) ok r (taking p s m) e);
        }

  handed_first : (rs : List Record) (w : Told rs) (m : Message) (k : Memᴰ m (made_along (new_party 1 0 0 a plan) rs)) → Handed 0 (message_bytes m) (told_hands rs w m k).h
  unfolding told_hands
  handed_first rs w m k = Memᴰ.head refl

  -- every own life is told by a history
  pub told : (rs : List Record) → Life (new_party 1 0 0 a plan) rs → Own (new_party 1 0 0 a plan) rs → Told rs
  told [] l o = told_none
  told (Start c x ∷ rs) (fit, l) o = told_start rs (told rs l o) c x fit
  told (Taken s m ∷ rs) (fit, l) (k, new, o) = let w = told rs l o in told_taken rs (told_hands rs w m k) s m (handed_first rs w m k) new fit
