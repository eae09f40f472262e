-- A start in a board's journal is a call with the input that the caller gave.
use mathlib.Core.Path.{◌≡◌, refl, sym, ap, ◌∙◌, subst}
use mathlib.Core.Logic.{◌⊎◌, inl, inr, ◌↔◌}
use mathlib.Core.Bool.{Bool, true, false, not}
use mathlib.Core.List.{List, [], ◌∷◌, Memᴰ}
use Prim.Native.Nat.{ℕ, zero, suc, ◌-◌, ◌<◌}
use native.Mathlib.Omega.{arith}
use lib.Dec.{T, eqb, eqb→eq}
use lib.IntN.{ℤ}
use lib.ListN.{length, drop}
use Rattle.std.specs.Prelude.{Ok, Some, None, Err}
use Rattle.base.specs.Pick.{pick}
use Rattle.base.specs.Sets.{Set}
use Rattle.base.proofs.Bools.{true→T}
use Rattle.base.specs.Found.{Found, found, refused}
use Rattle.plan.specs.Plan.{Plan}
use Rattle.plan.specs.Positions.{reading_of}
use Rattle.message.specs.declared.Message.{Message}
use Rattle.message.specs.Reading.{Exactly, broken, exact_message}
use Rattle.level.specs.Level.{no_output}
use Rattle.journal.specs.declared.Record.{Record}
use Rattle.journal.specs.declared.Record.TheVariants.{Start}
use Rattle.party.specs.Party.{Party}
use Rattle.party.specs.Run.{starting}
use Rattle.board_calls.specs.Answers.{position_of, Answer}
use Rattle.board_calls.specs.Calls.{Entry, again, fresh, answered_of}
use Rattle.board_calls.specs.Restore.{Replay}
use Rattle.execution.specs.Machine as machine
use Rattle.execution.specs.Machine.{Event}
use Rattle.execution.specs.History.{log}
use Rattle.vote_machine.specs.Machine.{event_of, events_of}
use Rattle.agreement.specs.History.{Instance, Lent, StartInput, voted_input, set_up, start, take_message_lem, read_answer, read_count, restore, start_finds, take_finds, restore_finds, read_as_count, Step, calls, hands, cut, whose, History, Stage, waiting, running, down, board_after}
use Rattle.agreement.specs.Allowed.{Refuses, Accepts, May, Allowed}
use Rattle.agreement.specs.Demand.{Stands, Shared}
use Rattle.agreement.specs.Inner.{StartRecorded, AcceptedStart, StartedRecorded}
use Rattle.agreement.proofs.Entries.{start_recorded, start_at_lem, take_recorded}
use Rattle.agreement.proofs.Readings.{position_reading}
use Rattle.agreement.proofs.Told.{machine_of, Tale, nothing, acts, gives, marks, cuts, entry_tale, answer_tale, restore_tale, hand_tale, cut_tale, tale_of, log_after, told, log_added}
use Rattle.agreement.proofs.Histories.{tied}
use Rattle.agreement.proofs.Boards.{running_state, state_plan, records_of_lem, started_position}

abbrev is_start : Event Message ℕ → Bool
is_start (machine.start x) = true
is_start (machine.take s m) = false

abbrev start_at : Event Message ℕ → ℕ
start_at (machine.start x) = x
start_at (machine.take s m) = 0

in_events : (b x : ℕ) (rs : List Record) → Memᴰ (Start b x) rs → Memᴰ (machine.start x) (events_of rs)
unfolding events_of
in_events b x [] h = absurd (mathlib.Core.List.Memᴰ.not-nil h)
in_events b x (r ∷ rs) h = go (in_events b x rs) (mathlib.Core.List.Memᴰ.cases_cons h)
  where
    go : (Memᴰ (Start b x) rs → Memᴰ (machine.start x) (events_of rs)) → (Start b x ≡ r) ⊎ Memᴰ (Start b x) rs → Memᴰ (machine.start x) (event_of r ∷ events_of rs)
    go below (inl e) = mathlib.Core.List.Memᴰ.head (ap event_of e)
    go below (inr k) = mathlib.Core.List.Memᴰ.tail (below k)

of_drop : {A : Type 0} (y : A) (d : ℕ) (l : List A) → Memᴰ y (drop d l) → Memᴰ y l
of_drop y zero l h = h
of_drop y (suc d) [] h = h
of_drop y (suc d) (z ∷ l) h = mathlib.Core.List.Memᴰ.tail (of_drop y d l h)

-- a new record of the log is the step's
of_tale : (e : Event Message ℕ) (t : Tale) (l : List (Event Message ℕ)) → Memᴰ e (log_after t l) → (t ≡ acts e) ⊎ Memᴰ e l
of_tale e nothing l h = inr h
of_tale e (acts d) l h = go (mathlib.Core.List.Memᴰ.cases_cons h)
  where
    go : (e ≡ d) ⊎ Memᴰ e l → (acts d ≡ acts e) ⊎ Memᴰ e l
    go (inl i) = inl (ap acts (sym i))
    go (inr k) = inr k
of_tale e (gives m) l h = inr h
of_tale e marks l h = inr h
of_tale e (cuts k) l h = inr (of_drop e (length l - k) l h)

abbrev acting : Tale → Bool
acting nothing = false
acting (acts e) = true
acting (gives m) = false
acting marks = false
acting (cuts k) = false

abbrev acted : Tale → Event Message ℕ
acted nothing = machine.start 0
acted (acts e) = e
acted (gives m) = machine.start 0
acted marks = machine.start 0
acted (cuts k) = machine.start 0

idle : {t : Tale} {e : Event Message ℕ} → T (not (acting t)) → t ≡ acts e → ⊥
idle h e = subst (λ (y : Tale). T (not (acting y))) e h

module _ (v : Instance) (plan : Plan) (bad : Set) (f : Shared v plan) where
  -- an accepted start of board i in the list, at the position x of its input
  abbrev Given : History → ℕ → ℕ → Type 0
  Given h i x = (z : ℤ) × (position_of plan z ≡ x) × (x ≡ no_output → ⊥) × AcceptedStart h i x z

  given_later : (s : Step) (h : History) (i x : ℕ) → Given h i x → Given (s ∷ h) i x
  given_later s h i x (z, e, d, c) = (
    z,
    e,
    d,
    record { party = c.party; input = c.input; lent = c.lent; used = c.used; call = mathlib.Core.List.Memᴰ.tail c.call; accepted = c.accepted; voted = c.voted },
  )

  module _ (h : History) (a : Allowed v bad h) (i : ℕ) (k : i < v.n) where
    -- the start is accepted, so its party is the board's
    by_start : (p : Party) (input : StartInput) (lent : Lent) (used x : ℕ)
        → Refuses (start p input lent used) ⊎ Accepts v bad i h (board_after h i) (start p input lent used)
        → (q : Found Entry) → start_finds p input lent used ≡ q → entry_tale q ≡ acts (machine.start x)
        → (position_of plan (voted_input input) ≡ x) × (x ≡ no_output → ⊥) × (start_finds p input lent used ≡ found (fresh (Start p.agreement x) (starting p x)))
    by_start p input lent used x m (found again) e t = absurd (idle tt t)
    by_start p input lent used x m (refused number place) e t = absurd (idle tt t)
    by_start p input lent used x (inl r) (found (fresh c ran)) e t =
        let y : found (fresh c ran) ≡ refused r.0 r.1.0 = sym e ∙ r.1.1 in let o : ◌≡◌ {A = ℕ} 0 1 = cc in absurd (omega arith)
    by_start p input lent used x (inr c) (found (fresh r ran)) e t =
        let g = start_recorded p input lent used r ran e in
        let same : p.plan ≡ plan = ap (λ (y : Party). y.plan) (c.same ∙ running_state v plan bad f h a i k c.up) ∙ state_plan v plan bad f h a i k in
        let at : position_of p.plan (voted_input input) ≡ x = ap start_at (ap event_of g.0 ∙ ap acted t) in
        (ap (λ (y : Plan). position_of y (voted_input input)) (sym same) ∙ at, λ n. g.1 (at ∙ n), start_at_lem p input lent used x r ran e at)

    by_take : (p : Party) (s : ℕ) (bytes : List ℕ) (lent : Lent) (used x : ℕ)
        → (q : Found Entry) → take_finds p s bytes lent used ≡ q → entry_tale q ≡ acts (machine.start x) → ⊥
    by_take p s bytes lent used x (found again) e t = idle tt t
    by_take p s bytes lent used x (refused number place) e t = idle tt t
    by_take p s bytes lent used x (found (fresh r ran)) e t =
        let g = take_recorded p s bytes (length lent.journal) used lent.out r ran e in
        let y : machine.take s g.0 ≡ machine.start x = ap event_of g.2 ∙ ap acted t in
        subst (λ (d : Event Message ℕ). T (not (is_start d))) y tt

    answer_idle : (x : Answer) → T (not (acting (answer_tale x)))
    answer_idle None = tt
    answer_idle (Some z) = tt

    restore_idle : (x : Found Replay) → T (not (acting (restore_tale x)))
    restore_idle (found r) = tt
    restore_idle (refused number place) = tt

    hand_idle : (x : Exactly) → T (not (acting (hand_tale x)))
    hand_idle (Ok m) = tt
    hand_idle (Err e) = tt

    cut_idle : (s : Stage) (n : ℕ) → T (not (acting (cut_tale s n)))
    cut_idle waiting n = tt
    cut_idle running n = tt
    cut_idle down n = tt

    by_step : (s : Step) → whose s ≡ i → May v bad s h → (x : ℕ) → tale_of (board_after h (whose s)) s ≡ acts (machine.start x) → Given (s ∷ h) i x
    by_step (hands j bytes) e m x t = absurd (idle (hand_idle (exact_message bytes)) t)
    by_step (cut j left) e m x t = absurd (idle (cut_idle (board_after h j).stage _) t)
    by_step (calls j (set_up n u own g bytes)) e m x t = absurd (idle tt t)
    by_step (calls j (read_answer p)) e m x t = absurd (idle (answer_idle (answered_of p).answer) t)
    by_step (calls j (read_count p g c)) e m x t = absurd (idle (answer_idle (read_as_count p g c).answer) t)
    by_step (calls j (restore n u own g bytes lent)) e m x t = absurd (idle (restore_idle (restore_finds n u own g bytes lent)) t)
    by_step (calls j (take_message_lem p s bytes lent used)) e m x t = absurd (by_take p s bytes lent used x (take_finds p s bytes lent used) refl t)
    by_step (calls j (start p input lent used)) e m x t =
        let g = by_start p input lent used x
        (subst (λ (y : ℕ). Refuses (start p input lent used) ⊎ Accepts v bad y h (board_after h y) (start p input lent used)) e m.1)
        (start_finds p input lent used) refl t in (
          voted_input input,
          g.0,
          g.1,
          record {
            party = p;
            input = input;
            lent = lent;
            used = used;
            call = mathlib.Core.List.Memᴰ.head (ap (λ (y : ℕ). calls y (start p input lent used)) (sym e));
            accepted = g.2;
            voted = refl;
          },
        )

  given : (h : History) → Allowed v bad h → (i : ℕ) → i < v.n → (x : ℕ) → Memᴰ (machine.start x) (log (machine_of v plan) i (told v plan h)) → Given h i x
  unfolding told log
  given [] a i k x m = absurd (mathlib.Core.List.Memᴰ.not-nil m)
  given (s ∷ h) (c, a) i k x m =
      go (eqb (whose s) i) refl (subst (λ (l : List (Event Message ℕ)). Memᴰ (machine.start x) l) (log_added v plan (whose s) tale (told v plan h) i) m) (given h a i k x)
    where
      tale : Tale
      tale = tale_of (board_after h (whose s)) s

      old : List (Event Message ℕ)
      old = log (machine_of v plan) i (told v plan h)

      go : (b : Bool) → eqb (whose s) i ≡ b → Memᴰ (machine.start x) (pick b (log_after tale old) old) → (Memᴰ (machine.start x) old → Given h i x) → Given (s ∷ h) i x
      go false e n ih = given_later s h i x (ih n)
      go true e n ih = new (of_tale (machine.start x) tale old n)
        where
          new : (tale ≡ acts (machine.start x)) ⊎ Memᴰ (machine.start x) old → Given (s ∷ h) i x
          new (inl t) = by_step h a i k s (eqb→eq (whose s) i (true→T e)) c x t
          new (inr q) = given_later s h i x (ih q)

  -- a board's start is the caller's
  pub started_with : (h : History) → Allowed v bad h → (i : ℕ) → i < v.n → (x : ℕ) → StartRecorded h i x → (z : ℤ) × StartedRecorded plan h i x z
  started_with h a i k x (b, m) =
      let w = tied v plan bad f h a i k in
      let n : Memᴰ (machine.start x) (log (machine_of v plan) i (told v plan h)) =
      subst (λ (l : List (Event Message ℕ)). Memᴰ (machine.start x) l) (sym w.events)
      (in_events b x w.records (subst (λ (rs : List Record). Memᴰ (Start b x) rs) (records_of_lem v plan bad f h a i k) m)) in
      let g = given h a i k x n in
      let z : ℤ = g.0 in (
        z,
        record {
          call = g.3;
          stands = (started_position v plan bad f h a i k x (b, m), subst (λ (y : ℕ). reading_of plan y ≡ z) g.1 (position_reading plan z (λ o. g.2 (sym g.1 ∙ o))));
          kept = (b, m);
        },
      )

  -- ---- the accepted call

  -- Naming any start of the list that votes on z, perhaps a refused one, says the same: an accepted call wrote the record that is kept.
  pub started_by_some : (h : History) → Allowed v bad h → (i : ℕ) → i < v.n → (x : ℕ) (z : ℤ)
      → StartedRecorded plan h i x z
      ↔ (((p : Party) × (input : StartInput) × (lent : Lent) × (used : ℕ) × Memᴰ (calls i (start p input lent used)) h × (voted_input input ≡ z))
      × Stands plan x z × StartRecorded h i x)
  started_by_some h a i k x z = (
    λ w. let c = w.call in ((c.party, c.input, c.lent, c.used, c.call, c.voted), w.stands, w.kept),
    λ w. let g = started_with h a i k x w.2 in subst (StartedRecorded plan h i x) (sym g.1.stands.1 ∙ w.1.1) g.1,
  )
