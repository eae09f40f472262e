-- Sound boards can go on to complete delivery: no start, take or restore that they make on the way is refused.
use mathlib.Core.Path.{◌≡◌, refl, sym, ap, ◌∙◌, subst}
use mathlib.Core.Logic.{◌⊎◌, inl, inr}
use mathlib.Core.Bool.{Bool, true, false}
use mathlib.Core.List.{List, ◌∷◌, Memᴰ}
use Prim.Native.Nat.{ℕ, ◌+◌, ◌≤◌, ◌<◌}
use native.Mathlib.Omega.{arith}
use lib.Dec.{T}
use lib.IntN.{ℤ}
use lib.ListN.{length}
use Rattle.std.specs.Prelude.{Ok}
use Rattle.base.specs.Sets.{Set}
use Rattle.base.specs.Limits.{max_width, outgoing_size}
use Rattle.base.proofs.Bools.{true→T, not-T→false}
use Rattle.base.specs.Found.{found}
use Rattle.varint.proofs.Laws.{pieces_most, length_last}
use Rattle.varint.proofs.Lengths.{length_at_most}
use Rattle.plan.specs.Plan.{Plan}
use Rattle.plan_laws.proofs.Shape.{shape}
use Rattle.message.specs.declared.Message.{Message}
use Rattle.message.specs.Reading.{Exactly, exact_message}
use Rattle.message.specs.Message.{message_bytes}
use Rattle.message.proofs.RoundTrip.{message_length_most}
use Rattle.level.specs.Level.{no_output}
use Rattle.journal.specs.declared.Record.{Record}
use Rattle.journal.specs.declared.Record.TheVariants.{Start, Taken}
use Rattle.journal.specs.Journal.{record_bytes}
use Rattle.journal.specs.Records.{InLimits}
use Rattle.journal.proofs.Laws.{start_length, taken_length}
use Rattle.party.specs.Party.{Party, level_at, started, held_by}
use Rattle.party.specs.Run.{Ran, starting, taking}
use Rattle.party.specs.Valid.{party_valid}
use Rattle.party_laws.proofs.Laws.{SameBoard}
use Rattle.party_life.specs.Life.{Fits}
use Rattle.party_life.proofs.Fits.{fitting_start, fitting_taken}
use Rattle.board_calls.specs.Answers.{position_of}
use Rattle.board_calls.specs.Calls.{Entry, again, fresh, start_questions}
use Rattle.board_laws.proofs.Questions.{start_fits, take_held, take_fits}
use Rattle.board_laws.proofs.Counts.{count_is_start}
use Rattle.vote_machine.specs.Machine.{Sent}
use Rattle.agreement.specs.History.{Instance, Lent, StartInput, plain, by_count, voted_input, start, take_message_lem, start_finds, take_finds, restore_finds, calls, hands, History, running, board_after}
use Rattle.agreement.specs.Allowed.{Sound, Handed, Continues, Lendable, Allowed}
use Rattle.agreement.specs.Starts.{Startable}
use Rattle.agreement.specs.Demand.{Started, Took, HandedSince, StartedWith, Shared}
use Rattle.agreement.specs.Inner.{records_of}
use Rattle.agreement.proofs.Restored.{lendable_begins, lived_replay, restored_cut}
use Rattle.agreement.proofs.Entries.{input_placed, exact_table, fits_limits}
use Rattle.agreement.proofs.Tied.{new_board, plan_valid_lem}
use Rattle.agreement.proofs.Histories.{TiedAfter, tied}
use Rattle.agreement.proofs.Boards.{state_of, running_state, state_formed, state_board, records_of_lem, started_state, makes_state, sent_read}
use Rattle.agreement.proofs.Words.{started_records, made_records, start_counts, take_counts, handed_one, handed_made}
use Rattle.agreement.proofs.Since.{since_now}

-- the most bytes of a record: 1 for its group, 1 for a sender, 8 for a message
abbrev pub record_most : ℕ
record_most = 10

pub record_most_lem : (r : Record) → InLimits r → length (record_bytes r) ≤ record_most
record_most_lem (Start a x) (h, l) = omega (arith, start_length a x, pieces_most 4 a, length_at_most 2 4 x (omega arith))
record_most_lem (Taken s m) (h, (t, l)) = omega (arith, taken_length s m, length_last s (omega arith), message_length_most m t)

module _ (v : Instance) (plan : Plan) (bad : Set) (f : Shared v plan) where
  -- "Restore gives the party of the whole records": whatever a cut left of the journal can be restored, also with a torn record behind it
  pub restore_accepted : (h : History) → Allowed v bad h → (i : ℕ) → i < v.n → (lent : Lent) → Lendable (board_after h i).journal lent.journal → outgoing_size ≤ lent.out
      → restore_finds v.n v.t i v.agreement v.plan lent ≡ found (lived_replay (new_board v plan i) (records_of h i))
  restore_accepted h a i k lent given long =
      let w : TiedAfter v plan bad f h i = tied v plan bad f h a i k in
      restored_cut v.n v.t i v.agreement v.plan plan f.boards f.faults k f.reads w.records w.life lent.journal
      (lendable_begins (board_after h i).journal lent.journal w.records w.holds given) lent.out long
      ∙ ap (λ (rs : List Record). found (lived_replay (new_board v plan i) rs)) (sym (records_of_lem v plan bad f h a i k))

  -- what a board handed over is of the vote
  handed_number : (h : History) → Allowed v bad h → (j : ℕ) (bytes : List ℕ) → Handed j bytes h → j < v.n → (m : Message) → exact_message bytes ≡ Ok m
      → m.number ≡ v.agreement
  handed_number h a j bytes g l m e =
      let x = handed_made v plan bad f h a j bytes g in
      let s : Sent (state_of v plan h j) x.0 = (makes_state v plan bad f h a j l x.0).0 ((made_records v plan bad f h a j x.0).0 x.2) in
      let y : ◌≡◌ {A = Exactly} (Ok m) (Ok x.0) = sym e ∙ ap exact_message x.1 ∙ sent_read v plan bad f h a j l x.0 s in
      let z : m ≡ x.0 = cc in
      ap (λ (y : Message). y.number) z ∙ s.number ∙ (state_board v plan bad f h a j l).agreement

  -- a call of a running board, with room in its journal for one more record and a long enough outgoing buffer
  module _ (h : History) (a : Allowed v bad h) (i : ℕ) (k : i < v.n) (p : Party) (lent : Lent) (used : ℕ)
      (c : Continues (board_after h i) p lent used) (room : used + record_most ≤ length lent.journal) (long : outgoing_size ≤ lent.out) where
    -- the party that the call gets
    state : p ≡ state_of v plan h i
    state = c.same ∙ running_state v plan bad f h a i k c.up

    valid : T (party_valid p)
    valid = subst (λ (q : Party). T (party_valid q)) (sym state) (state_formed v plan bad f h a i k).valid

    same : SameBoard (new_board v plan i) p
    same = subst (SameBoard (new_board v plan i)) (sym state) (state_board v plan bad f h a i k)

    -- a record of the party's call has room
    has_room : (r : Record) → Fits p r → used + length (record_bytes r) ≤ length lent.journal
    has_room r g =
        omega (
          arith,
          record_most_lem r (fits_limits p (omega (arith, f.number, same.agreement)) (omega (arith, f.boards, same.n))
              (subst (λ (y : Plan). y.count ≤ max_width + 1) (sym same.plan) (shape plan (plan_valid_lem v plan f i k)).most) r g),
        )

    -- such an input votes on a position of the plan, and is asked what that is
    on_plan_lem : (input : StartInput) → Startable plan input → position_of plan (voted_input input) ≡ no_output → ⊥
    on_plan_lem (plain z) on = on
    on_plan_lem (by_count g x) (s, r, on) = on

    asks : (input : StartInput) → Startable plan input → start_finds p input lent used ≡ start_questions p (voted_input input) (length lent.journal) used lent.out
    asks (plain z) on = refl
    asks (by_count g x) (s, r, on) = count_is_start p g x (length lent.journal) used lent.out s (ap (λ (y : Plan). y.kind) same.plan ∙ r)

    -- a board that has not started can start with any such input
    pub start_accepted : (input : StartInput) → Startable plan input → ((x : ℕ) (y : ℤ) → Started h i x y → ⊥)
        → (r : Record) × (ran : Ran) × (start_finds p input lent used ≡ found (fresh r ran))
    start_accepted input on new = (
      Start p.agreement x,
      starting p x,
      asks input on ∙ start_fits p z (length lent.journal) used lent.out valid long (omega arith) fresh_party x refl placed (has_room (Start p.agreement x) (fitting_start p p.agreement x (refl, unstarted, below (input_placed p.plan z)))),
    )
      where
        z : ℤ
        z = voted_input input

        x : ℕ
        x = position_of p.plan z

        placed : x ≡ no_output → ⊥
        placed = subst (λ (y : Plan). position_of y z ≡ no_output → ⊥) (sym same.plan) (on_plan_lem input on)

        unstarted : T (started p) → ⊥
        unstarted g =
            let y : ℕ = (level_at (state_of v plan h i) 0).position in
            let s = (started_records v plan bad f h a i y).1 ((started_state v plan bad f h a i k y).1 (subst (λ (q : Party). T (started q)) state g, refl)) in
            new y s.0 s.1

        fresh_party : started p ≡ false
        fresh_party = not-T→false (started p) unstarted

        below : (x ≡ no_output) ⊎ (x < p.plan.count) → x < p.plan.count
        below (inl e) = absurd (placed e)
        below (inr l) = l

    -- what a sound board handed over, every board can take
    pub take_accepted : (j : ℕ) (bytes : List ℕ) → Handed j bytes h → (e : Entry) × (take_finds p j bytes lent used ≡ found e)
    take_accepted j bytes g = go (held_by p j m) refl
      where
        one : (j < v.n) × ((m : Message) × (bytes ≡ message_bytes m) × (exact_message bytes ≡ Ok m))
        one = handed_one v plan bad f h a j bytes g

        m : Message
        m = one.1.0

        low : j < p.n
        low = omega (arith, one.0, same.n)

        number : m.number ≡ p.agreement
        number = handed_number h a j bytes g one.0 m one.1.2 ∙ sym same.agreement

        go : (b : Bool) → held_by p j m ≡ b → (e : Entry) × (take_finds p j bytes lent used ≡ found e)
        go true e = (again, take_held p j bytes (length lent.journal) used lent.out valid long (omega arith) low m one.1.2 number e)
        go false e = (
          fresh (Taken j m) (taking p j m),
          take_fits p j bytes (length lent.journal) used lent.out valid long (omega arith) low m one.1.2 number e
              (has_room (Taken j m) (fitting_taken p j m (number, low, true→T (exact_table bytes m one.1.2)))),
        )

  -- ---- each condition of complete delivery, reached in one step

  module _ (h : History) (a : Allowed v bad h) (i : ℕ) (o : Sound v bad i) where
    module _ (p : Party) (lent : Lent) (used : ℕ) (c : Continues (board_after h i) p lent used) (room : used + record_most ≤ length lent.journal) (long : outgoing_size ≤ lent.out) where
      -- "If every sound board has started": one that has not can, with any input on the plan, and with any count on a range
      pub can_start : (input : StartInput) → Startable plan input → ((x : ℕ) (y : ℤ) → Started h i x y → ⊥) →
          let s = calls i (start p input lent used) in
          Allowed v bad (s ∷ h) × StartedWith plan (s ∷ h) i (position_of plan (voted_input input)) (voted_input input)
      can_start input on new =
          let x = start_accepted h a i o.0 p lent used c room long input on new in
          let y : Allowed v bad (calls i (start p input lent used) ∷ h) = ((o, inr c), a) in
          (y, start_counts v plan bad f h i p lent used input y (fresh x.0 x.1) x.2)

      -- "and has taken every message that sound boards handed over": one that was handed over can be taken
      pub can_take : (j : ℕ) (bytes : List ℕ) → Handed j bytes h →
          let s = calls i (take_message_lem p j bytes lent used) in
          Allowed v bad (s ∷ h) × ((m : Message) × (exact_message bytes ≡ Ok m) × Took (s ∷ h) i j m)
      can_take j bytes g =
          let x = take_accepted h a i o.0 p lent used c room long j bytes g in
          let m = (handed_one v plan bad f h a j bytes g).1 in
          let y : Allowed v bad (calls i (take_message_lem p j bytes lent used) ∷ h) = ((o, inr (c, λ _. g)), a) in
          (y, (m.0, m.2, take_counts v plan bad f h i p lent used j bytes m.0 m.2 x.0 x.1))

    -- "has handed over all that its calls made", since its last restore: what its calls made (Steps, `start_posts`, `take_posts`), or a restore gave
    -- again, can be handed over
    pub can_hand : (board_after h i).stage ≡ running → (m : Message) → Memᴰ m (board_after h i).outbox →
        let s = hands i (message_bytes m) in
        Allowed v bad (s ∷ h) × HandedSince i (message_bytes m) (s ∷ h)
    can_hand up m g = (((o, up, (m, refl, g)), a), since_now i (message_bytes m) h)
