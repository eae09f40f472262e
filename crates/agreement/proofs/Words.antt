-- Demand 3 says "started", "taken", "made" and "handed over" by a board's accepted calls that are not lost. Here is what that comes to: the same is told by
-- the records in its journal, and right after an accepted call it has started, or taken the message.
use mathlib.Core.Path.{◌≡◌, refl, sym, ap, ◌∙◌, subst}
use mathlib.Core.Logic.{◌⊎◌, inl, inr, ◌↔◌}
use mathlib.Core.List.Memᴰ
use mathlib.Core.List.{List, [], ◌∷◌, Memᴰ}
use Prim.Native.Nat.{ℕ, ◌<◌}
use lib.IntN.{ℤ}
use Rattle.std.specs.Prelude.{Ok}
use Rattle.base.specs.Sets.{Set}
use Rattle.base.specs.Found.{found}
use Rattle.plan.specs.Plan.{Plan}
use Rattle.plan.specs.Positions.{reading_of}
use Rattle.message.specs.declared.Message.{Message}
use Rattle.message.specs.Reading.{Exactly, exact_message}
use Rattle.message.specs.Message.{message_bytes}
use Rattle.journal.specs.declared.Record.{Record}
use Rattle.journal.specs.declared.Record.TheVariants.{Start, Taken}
use Rattle.party.specs.Party.{Party}
use Rattle.board_calls.specs.Answers.{position_of}
use Rattle.board_calls.specs.Calls.{Entry, called_of}
use Rattle.execution.proofs.Logs.{handed_sent}
use Rattle.vote_machine.proofs.Laws.{vote_lawful}
use Rattle.agreement.specs.History.{Instance, Lent, StartInput, voted_input, start, take_message_lem, start_finds, take_finds, Step, calls, hands, History, Act, a_start, a_take, Counted, Board, made_in, after_entry, board_after}
use Rattle.agreement.specs.Allowed.{Handed, Refuses, Accepts, May, Allowed}
use Rattle.agreement.specs.Demand.{Started, Took, Made, StartedWith, Shared}
use Rattle.agreement.specs.Inner.{records_of, StartRecorded, TakeRecorded, RecordsMade, StartedRecorded}
use Rattle.agreement.proofs.Readings.{position_reading}
use Rattle.agreement.proofs.Told.{machine_of, told, handed_told}
use Rattle.agreement.proofs.Tied.{new_board, AtStage, Running, shared_passes}
use Rattle.agreement.proofs.Keeps.{tied_read}
use Rattle.agreement.proofs.Histories.{TiedAfter, tied, told_valid}
use Rattle.agreement.proofs.Boards.{running_state, state_plan, started_position, makes_state}
use Rattle.agreement.proofs.Inputs.{started_with}
use Rattle.agreement.proofs.Steps.{own, not_refused}
use Rattle.agreement.proofs.Counted.{Says, record_of, call_of, made_along_lem, made_by, says_start, says_take}
use Rattle.agreement.proofs.Follows.{follows}

module _ (v : Instance) (plan : Plan) (bad : Set) (f : Shared v plan) where
  -- ---- by the records in the journal

  module _ (h : History) (a : Allowed v bad h) (i : ℕ) where
    -- a start that counts is at its input's position
    pub started_at_lem : (x : ℕ) (z : ℤ) → Started h i x z → StartRecorded h i x × (position_of plan z ≡ x) × (reading_of plan x ≡ z)
    started_at_lem x z (input, (c, m, e), voted) =
        let y = record_of plan (new_board v plan i) (board_after h i).counted (records_of h i) (follows v plan bad f h a i) c m in
        let s : Says plan (a_start x input) y.0 = subst (λ (k : Act). Says plan k y.0) e y.2 in
        let at : position_of plan z ≡ x = ap (position_of plan) (sym voted) ∙ s.2 in (
          (s.0, subst (λ (r : Record). Memᴰ r (records_of h i)) (sym s.1) y.1),
          at,
          subst (λ (k : ℕ). reading_of plan k ≡ z) at (position_reading plan z (λ n. s.3 (sym at ∙ n))),
        )

    -- board i started at x: its journal has a record of a start there
    pub started_records : (x : ℕ) → ((z : ℤ) × Started h i x z) ↔ StartRecorded h i x
    started_records x = (λ s. (started_at_lem x s.0 s.1).0, from)
      where
        from : StartRecorded h i x → (z : ℤ) × Started h i x z
        from (b, m) =
            let c = call_of plan (new_board v plan i) (board_after h i).counted (records_of h i) (follows v plan bad f h a i) (Start b x) m in
            let s = says_start plan (new_board v plan i) c.0.act b x c.2 in
            (voted_input s.0, (s.0, (c.0, c.1, s.1), refl))

    -- it took m from board s: its journal has that record, wherever the take was of a message held already
    pub took_records : (s : ℕ) (m : Message) → Took h i s m ↔ TakeRecorded h i s m
    took_records s m = (to, from)
      where
        to : Took h i s m → TakeRecorded h i s m
        to (c, k, e) =
            let y = record_of plan (new_board v plan i) (board_after h i).counted (records_of h i) (follows v plan bad f h a i) c k in
            let t : Says plan (a_take s (Ok m)) y.0 = subst (λ (q : Act). Says plan q y.0) e y.2 in
            let o : ◌≡◌ {A = Exactly} (Ok m) (Ok t.0) = t.1 in
            let g : m ≡ t.0 = cc in
            subst (λ (r : Record). Memᴰ r (records_of h i)) (sym (ap (Taken s) g ∙ t.2)) y.1

        from : TakeRecorded h i s m → Took h i s m
        from k =
            let c = call_of plan (new_board v plan i) (board_after h i).counted (records_of h i) (follows v plan bad f h a i) (Taken s m) k in
            (c.0, c.1, says_take plan (new_board v plan i) c.0.act s m c.2)

    -- its calls made m: those of its journal's records do
    pub made_records : (m : Message) → Made h i m ↔ RecordsMade v plan h i m
    made_records m = (
      λ y. made_along_lem plan (new_board v plan i) (board_after h i).counted (records_of h i) (follows v plan bad f h a i) y.0 y.1 m y.2,
      λ y. made_by plan (new_board v plan i) (board_after h i).counted (records_of h i) (follows v plan bad f h a i) m y,
    )

    -- it started with z: an accepted call of the list votes on z, and its record is there
    pub started_with_records : i < v.n → (x : ℕ) (z : ℤ) → StartedWith plan h i x z ↔ StartedRecorded plan h i x z
    started_with_records k x z = (to, from)
      where
        to : StartedWith plan h i x z → StartedRecorded plan h i x z
        to s =
            let y = started_with v plan bad f h a i k x (started_at_lem x z s.started).0 in
            subst (StartedRecorded plan h i x) (sym y.1.stands.1 ∙ s.stands.1) y.1

        from : StartedRecorded plan h i x z → StartedWith plan h i x z
        from s =
            let y = (started_records x).1 s.kept in
            record {
              started = subst (Started h i x) (sym (started_at_lem x y.0 y.1).2 ∙ s.stands.1) y.1;
              stands = s.stands;
            }

    -- a start stands for its input
    pub started_stands : i < v.n → (x : ℕ) (z : ℤ) → Started h i x z → StartedWith plan h i x z
    started_stands k x z s =
        let y = started_at_lem x z s in
        record { started = s; stands = (started_position v plan bad f h a i k x y.0, y.2) }

  -- ---- right after an accepted call

  module _ (h : History) (i : ℕ) (p : Party) (lent : Lent) (used : ℕ) where
    -- "Started and taken mean in an accepted call": right after an accepted start the board has started with what its input votes on
    pub start_counts : (input : StartInput) → Allowed v bad (calls i (start p input lent used) ∷ h) → (e : Entry) → start_finds p input lent used ≡ found e
        → StartedWith plan (calls i (start p input lent used) ∷ h) i (position_of plan (voted_input input)) (voted_input input)
    start_counts input (m, a) e g =
        started_stands (s ∷ h) (m, a) i m.0.0 (position_of plan z) z (input, (head, there, ap (λ (y : Plan). a_start (position_of y z) input) (same m.1)), refl)
      where
        z : ℤ
        z = voted_input input

        s : Step
        s = calls i (start p input lent used)

        same : Refuses (start p input lent used) ⊎ Accepts v bad i h (board_after h i) (start p input lent used) → p.plan ≡ plan
        same (inl x) = absurd (not_refused x.0 x.1.0 x.1.1 g)
        same (inr c) = ap (λ (q : Party). q.plan) (c.same ∙ running_state v plan bad f h a i m.0.0 c.up) ∙ state_plan v plan bad f h a i m.0.0

        head : Counted
        head = record { act = a_start (position_of p.plan z) input; made = made_in e; used = (called_of p used (found e)).used }

        there : Memᴰ head (board_after (s ∷ h) i).counted
        there =
            subst (λ (b : Board). Memᴰ head b.counted)
            (sym (own s h ∙ ap (after_entry (board_after h i) (a_start (position_of p.plan z) input) p lent used) g)) (Memᴰ.head refl)

    -- right after an accepted take of the bytes of m, fresh or already held, the board has taken m
    pub take_counts : (s : ℕ) (bytes : List ℕ) (m : Message) → exact_message bytes ≡ Ok m → (e : Entry) → take_finds p s bytes lent used ≡ found e
        → Took (calls i (take_message_lem p s bytes lent used) ∷ h) i s m
    take_counts s bytes m o e g = (
      record { act = a_take s (exact_message bytes); made = made_in e; used = (called_of p used (found e)).used },
      subst (λ (b : Board). Memᴰ (record { act = a_take s (exact_message bytes); made = made_in e; used = (called_of p used (found e)).used }) b.counted)
          (sym (own (calls i (take_message_lem p s bytes lent used)) h ∙ ap (after_entry (board_after h i) (a_take s (exact_message bytes)) p lent used) g)) (Memᴰ.head refl),
      ap (a_take s) o,
    )

  -- ---- handing over

  -- what was handed over are the bytes of a message, which they read as
  pub handed_one : (h : History) → Allowed v bad h → (i : ℕ) (bytes : List ℕ) → Handed i bytes h
      → (i < v.n) × ((m : Message) × (bytes ≡ message_bytes m) × (exact_message bytes ≡ Ok m))
  handed_one [] a i bytes x = absurd (Memᴰ.not-nil x)
  handed_one (s ∷ h) (m, a) i bytes x = go (Memᴰ.cases_cons x) (handed_one h a i bytes)
    where
      Reads : Type 0
      Reads = (i < v.n) × ((m : Message) × (bytes ≡ message_bytes m) × (exact_message bytes ≡ Ok m))

      now : May v bad (hands i bytes) h → Reads
      now (o, up, (y, e, k)) =
          let w : TiedAfter v plan bad f h i = tied v plan bad f h a i o.0 in
          let u : Running v plan i (board_after h i) w.records = subst (AtStage v plan i (board_after h i) w.records) up w.stage in
          (o.0, (y, e, ap exact_message e ∙ tied_read v plan f i o.0 (board_after h i) _ _ w y (u.outbox y k)))

      go : (hands i bytes ≡ s) ⊎ Handed i bytes h → (Handed i bytes h → Reads) → Reads
      go (inl e) ih = now (subst (λ (y : Step). May v bad y h) (sym e) m)
      go (inr y) ih = ih y

  -- "has taken every message that sound boards handed over": whatever message the bytes read as was taken, which is that they read as one and it was taken
  pub taken_one : (h : History) → Allowed v bad h → (i j : ℕ) (bytes : List ℕ) → Handed j bytes h
      → ((m : Message) → exact_message bytes ≡ Ok m → Took h i j m) ↔ ((m : Message) × (exact_message bytes ≡ Ok m) × Took h i j m)
  taken_one h a i j bytes x = (
    λ t. let y = (handed_one h a j bytes x).1 in (y.0, y.2, t y.0 y.2),
    λ t m e. let f : ◌≡◌ {A = Exactly} (Ok t.0) (Ok m) = sym t.1 ∙ e in let g : t.0 ≡ m = cc in subst (Took h i j) g t.2,
  )

  -- "a lost call has handed nothing over": what a board handed over, a call of it that is not lost made
  pub handed_made : (h : History) → Allowed v bad h → (i : ℕ) (bytes : List ℕ) → Handed i bytes h → (m : Message) × (bytes ≡ message_bytes m) × Made h i m
  handed_made h a i bytes x =
      let y = handed_one h a i bytes x in
      let m : Message = y.1.0 in (
        m,
        y.1.1,
        (made_records h a i m).1 ((makes_state v plan bad f h a i y.0 m).1
            (handed_sent (machine_of v plan) v.n bad (vote_lawful v.n v.t v.agreement plan (shared_passes v plan f)) (told v plan h) (told_valid v plan bad f h a) i m
            (handed_told v plan h i bytes m x y.1.2))),
      )
