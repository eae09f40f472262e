-- What a sound board answers, held then or read earlier, is the answer of the state that its log gives.
use mathlib.Core.Path.{◌≡◌, refl, sym, ap, ◌∙◌, subst}
use mathlib.Core.Logic.{◌⊎◌, inl, inr}
use mathlib.Core.List.Memᴰ
use mathlib.Core.List.{List, [], ◌∷◌, Memᴰ}
use Prim.Native.Nat.{ℕ, ◌<◌}
use native.Mathlib.Omega.{arith}
use lib.IntN.{ℤ}
use Rattle.std.specs.Prelude.{Some, None}
use Rattle.base.specs.Sets.{Set}
use Rattle.plan.specs.Plan.{Plan}
use Rattle.plan.specs.Positions.{reading_of}
use Rattle.message.specs.declared.Message.{Message}
use Rattle.level.specs.Level.{no_output}
use Rattle.party.specs.Party.{Party, output_of}
use Rattle.party_laws.proofs.Laws.{Output, level_holds, output_stays}
use Rattle.board_calls.specs.Answers.{answer_of, Answer}
use Rattle.board_calls.specs.Calls.{answered_of}
use Rattle.board_laws.proofs.Counts.{count_refused}
use Rattle.execution.specs.Machine.{Event, Machine}
use Rattle.execution.specs.History.{HStep}
use Rattle.execution.specs.Inner.{Seen}
use Rattle.execution.proofs.Logs.{still}
use Rattle.vote_machine.specs.Machine.{vote_machine}
use Rattle.vote_machine.specs.Inner.{Inv}
use Rattle.vote_machine.proofs.Laws.{inv_called, le_called}
use Rattle.agreement.specs.History.{Instance, Call, read_answer, read_count, Step, calls, whose, History, running, board_after}
use Rattle.agreement.specs.Allowed.{Refuses, Accepts, May, Allowed}
use Rattle.agreement.specs.Demand.{answer_now, WasRead, Answers, Stands, Shared}
use Rattle.agreement.proofs.Told.{machine_of, Tale, nothing, acts, gives, marks, cuts, answer_tale, call_tale, tale_of, added, told}
use Rattle.agreement.proofs.Histories.{refused_answer, told_valid}
use Rattle.agreement.proofs.Boards.{answer_at, answer_reading, state_of, running_state, state_inv, state_formed, state_plan, state_answer, answer_now_lem}

module _ (v : Instance) (plan : Plan) (bad : Set) (f : Shared v plan) where
  abbrev M : Machine
  M = vote_machine v.n v.t v.agreement plan

  -- a state that answers z
  abbrev Says : ℤ → Party → Type 0
  Says z s = Inv s × (answer_of plan (output_of s) ≡ Some z)

  -- an output never changes
  says_rises : (z : ℤ) (s : Party) (e : Event Message ℕ) → Says z s → Says z ((machine_of v plan).run s e)
  says_rises z s e (r, x) =
      let o = output_stays s (M.run s e) (le_called s r.regular e).grown 0 (answer_reading plan (output_of s) z x).0 in
      (inv_called s r e, ap (answer_of plan) o ∙ x)

  later_seen : (j : ℕ) (t : Tale) (H : List (HStep (machine_of v plan))) (i : ℕ) (P : Party → Type 0) → Seen (machine_of v plan) i P H → Seen (machine_of v plan) i P (added v plan j t H)
  later_seen j nothing H i P x = x
  later_seen j (acts e) H i P x = x
  later_seen j (gives m) H i P x = inr x
  later_seen j marks H i P x = inr x
  later_seen j (cuts k) H i P x = x

  -- a reading is a mark of a state with that answer: a call whose party is the board's and that gives an answer
  module _ (i : ℕ) (k : i < v.n) (q : Party) (z : ℤ) (e : (answered_of q).answer ≡ Some z) (c : Call) (tale : call_tale c ≡ marks)
      (of : (h : History) → Refuses c ⊎ Accepts v bad i h (board_after h i) c → ((board_after h i).stage ≡ running) × (q ≡ (board_after h i).party)) where
    reading_seen : (h : History) → Allowed v bad h → Memᴰ (calls i c) h → Seen (machine_of v plan) i (Says z) (told v plan h)
    unfolding told
    reading_seen [] a x = absurd (Memᴰ.not-nil x)
    reading_seen (s ∷ h) (m, a) x = go (Memᴰ.cases_cons x) (reading_seen h a)
      where
        first : May v bad (calls i c) h → Seen M i (Says z) (added v plan i (call_tale c) (told v plan h))
        first n =
            let y = of h n.1 in
            subst (λ (t : Tale). Seen M i (Says z) (added v plan i t (told v plan h))) (sym tale)
            (inl (refl, (state_inv v plan bad f h a i k, sym (state_answer v plan bad f h a i k q (y.1 ∙ running_state v plan bad f h a i k y.0)) ∙ e)))

        go : (calls i c ≡ s) ⊎ Memᴰ (calls i c) h → (Memᴰ (calls i c) h → Seen M i (Says z) (told v plan h))
            → Seen M i (Says z) (added v plan (whose s) (tale_of (board_after h (whose s)) s) (told v plan h))
        go (inl y) ih = subst (λ (y : Step). May v bad y h → Seen M i (Says z) (added v plan (whose y) (tale_of (board_after h (whose y)) y) (told v plan h))) y first m
        go (inr y) ih = later_seen (whose s) (tale_of (board_after h (whose s)) s) (told v plan h) i (Says z) (ih y)

  no_answer : {x : Answer} {z : ℤ} → x ≡ None → x ≡ Some z → ⊥
  no_answer {x} {z} n e = let y : None ≡ Some z = sym n ∙ e in let o : ◌≡◌ {A = ℕ} 0 1 = cc in omega arith

  pub read_seen : (h : History) → Allowed v bad h → (i : ℕ) → i < v.n → (q : Party) (z : ℤ) → WasRead h i q → (answered_of q).answer ≡ Some z
      → Seen (machine_of v plan) i (λ s. Inv s × (answer_of plan (output_of s) ≡ Some z)) (told v plan h)
  read_seen h a i k q z (inl x) e = reading_seen i k q z e (read_answer q) (ap answer_tale e) of h a x
    where
      of : (h : History) → Refuses (read_answer q) ⊎ Accepts v bad i h (board_after h i) (read_answer q) → ((board_after h i).stage ≡ running) × (q ≡ (board_after h i).party)
      of h (inl r) = absurd (no_answer (refused_answer q r.0 r.1.0 r.1.1) e)
      of h (inr y) = y
  read_seen h a i k q z (inr (g, c, b, x, d)) e = reading_seen i k q z e (read_count q g c) (ap answer_tale d) of h a x
    where
      of : (h : History) → Refuses (read_count q g c) ⊎ Accepts v bad i h (board_after h i) (read_count q g c) → ((board_after h i).stage ≡ running) × (q ≡ (board_after h i).party)
      of h (inl r) = absurd (no_answer (count_refused q g c r.1.1) d)
      of h (inr y) = y

  module _ (h : History) (a : Allowed v bad h) where
    -- an answer, held then or read earlier, is that of the board's state
    pub answers_state : (i : ℕ) → i < v.n → (z : ℤ) → Answers v h i z → answer_of plan (output_of (state_of v plan h i)) ≡ Some z
    answers_state i k z (inl e) = sym (answer_now_lem v plan bad f h a i k) ∙ e
    answers_state i k z (inr (q, x, e)) =
        (still M (Says z) (says_rises z) v.n bad (told v plan h) (told_valid v plan bad f h a) i (read_seen h a i k q z x e)).1

    -- so it stands for the output
    pub answers_stand : (i : ℕ) → i < v.n → (z : ℤ) → Answers v h i z
        → (output_of (state_of v plan h i) ≡ no_output → ⊥) × Stands plan (output_of (state_of v plan h i)) z
    answers_stand i k z x =
        let r = answer_reading plan (output_of (state_of v plan h i)) z (answers_state i k z x) in
        (r.0, (low (level_holds (state_of v plan h i) (state_formed v plan bad f h a i k) 0 (omega arith)).output r.0, r.1))
      where
        low : Output (state_of v plan h i).plan.count (output_of (state_of v plan h i)) → (output_of (state_of v plan h i) ≡ no_output → ⊥) → output_of (state_of v plan h i) < plan.count
        low (inl e) d = absurd (d e)
        low (inr l) d = subst (λ (y : Plan). output_of (state_of v plan h i) < y.count) (state_plan v plan bad f h a i k) l

    -- a board with an output has an answer
    pub output_answers : (i : ℕ) → i < v.n → (output_of (state_of v plan h i) ≡ no_output → ⊥) → (z : ℤ) × (answer_now v h i ≡ Some z)
    output_answers i k d = (reading_of plan (output_of (state_of v plan h i)), answer_now_lem v plan bad f h a i k ∙ answer_at plan (output_of (state_of v plan h i)) d)
