-- What a running board may hand over is exactly what its records made, in order.
use mathlib.Core.Path.{◌≡◌, refl, sym, ap, ◌∙◌, subst}
use mathlib.Core.Logic.{◌⊎◌, inl, inr}
use mathlib.Core.List.{List, [], ◌∷◌, ◌++◌}
use Prim.Native.Nat.{ℕ, ◌<◌}
use Rattle.std.specs.Prelude.{Some, None}
use Rattle.base.specs.Sets.{Set}
use Rattle.base.specs.Found.{Found, found, refused}
use Rattle.plan.specs.Plan.{Plan}
use Rattle.message.specs.declared.Message.{Message}
use Rattle.message.specs.Reading.{exact_message}
use Rattle.journal.specs.declared.Record.{Record}
use Rattle.journal.specs.Reading.{records_from}
use Rattle.party.specs.Run.{Ran}
use Rattle.party_life.specs.Life.{lived, made_along}
use Rattle.board_calls.specs.Answers.{position_of, Answer}
use Rattle.board_calls.specs.Calls.{SetUp, Entry, again, fresh, set_up_of, answered_of}
use Rattle.board_calls.specs.Restore.{Replay}
use Rattle.agreement.specs.History.{Instance, Lent, voted_input, Call, set_up, start, take_message_lem, read_answer, read_count, restore, start_finds, take_finds, restore_finds, read_as_count, Step, calls, hands, cut, whose, History, Stage, waiting, running, down, Act, a_start, a_take, Board, after_set_up, after_answer, after_restore, after_cut, board_after}
use Rattle.agreement.specs.Allowed.{Refuses, Ours, Lendable, Accepts, Allowed}
use Rattle.agreement.specs.Demand.{Shared}
use Rattle.agreement.proofs.Restored.{lendable_begins, lived_replay, restored_found}
use Rattle.agreement.proofs.Lent.{entered}
use Rattle.agreement.proofs.Tied.{new_board, set_up_found}
use Rattle.agreement.proofs.Histories.{TiedAfter, tied}
use Rattle.agreement.proofs.Boards.{records_of_lem}
use Rattle.agreement.proofs.Steps.{held_records, own, other, refused_nothing, made_so_far, start_board, start_makes, take_board, take_makes, restore_records}
use Rattle.agreement_completion.proofs.Boards.{down_running, either}

module _ (v : Instance) (plan : Plan) (bad : Set) (f : Shared v plan) where
  -- of a board b in the seat i
  abbrev Posts : ℕ → Board → Type 0
  Posts i b = b.stage ≡ running → b.outbox ≡ made_along (new_board v plan i) (held_records b)

  by_set_up : (h : History) (i : ℕ) → i < v.n → (n t seat agreement : ℕ) (bytes : List ℕ) → Ours v i n t seat agreement bytes
      → Posts i (board_after (calls i (set_up n t seat agreement bytes) ∷ h) i)
  unfolding lived records_from
  by_set_up h i k n t seat agreement bytes s =
      subst (Posts i)
      (sym (own (calls i (set_up n t seat agreement bytes)) h
      ∙ ap (λ (x : SetUp). after_set_up (board_after h i) x.verdict x.party)
      ((λ z. set_up_of (s.boards z) (s.faults z) (s.seat z) (s.number z) (s.bytes z)) ∙ set_up_found v plan f i k)))
      (λ up. refl)

  -- a start or take that found q
  by_entry : (s : Step) (h : History) (i : ℕ) (d : Act) (q : Found Entry) → board_after (s ∷ h) i ≡ entered (board_after h i) d q
      → ((r : Record) (ran : Ran) → q ≡ found (fresh r ran) → made_so_far v plan bad f (s ∷ h) i ≡ made_so_far v plan bad f h i ++ ran.made)
      → Posts i (board_after h i) → Posts i (board_after (s ∷ h) i)
  by_entry s h i d (found again) e made x = subst (Posts i) (sym e) x
  by_entry s h i d (found (fresh r ran)) e made x = λ up.
      ap (λ (b : Board). b.outbox) e
      ∙ ap (λ (ms : List Message). ms ++ ran.made) (x (sym (ap (λ (b : Board). b.stage) e) ∙ up))
      ∙ sym (made r ran refl)
  by_entry s h i d (refused number place) e made x = subst (Posts i) (sym e) x

  by_answer : (i : ℕ) (b : Board) (y : Answer) → Posts i b → Posts i (after_answer b y)
  by_answer i b None x = x
  by_answer i b (Some z) x = x

  by_restore : (h : History) (i n t seat agreement : ℕ) (bytes : List ℕ) (lent : Lent) → Allowed v bad (calls i (restore n t seat agreement bytes lent) ∷ h)
      → i < v.n → Ours v i n t seat agreement bytes → Lendable (board_after h i).journal lent.journal
      → Posts i (board_after h i) → Posts i (board_after (calls i (restore n t seat agreement bytes lent) ∷ h) i)
  by_restore h i n t seat agreement bytes lent al k s given x = go (restore_finds n t seat agreement bytes lent) refl
    where
      w : TiedAfter v plan bad f h i
      w = tied v plan bad f h al.1 i k

      board : (y : Found Replay) → restore_finds n t seat agreement bytes lent ≡ y
          → board_after (calls i (restore n t seat agreement bytes lent) ∷ h) i ≡ after_restore (board_after h i) lent y
      board y e = own (calls i (restore n t seat agreement bytes lent)) h ∙ ap (after_restore (board_after h i) lent) e

      whole : (r : Replay) → restore_finds n t seat agreement bytes lent ≡ found r → r ≡ lived_replay (new_board v plan i) w.records
      whole r e =
          restored_found v.n v.t i v.agreement v.plan plan f.boards f.faults k f.reads w.records w.life lent.journal
          (lendable_begins (board_after h i).journal lent.journal w.records w.holds given) lent.out r
          (sym (λ z. restore_finds (s.boards z) (s.faults z) (s.seat z) (s.number z) (s.bytes z) lent) ∙ e)

      go : (y : Found Replay) → restore_finds n t seat agreement bytes lent ≡ y → Posts i (board_after (calls i (restore n t seat agreement bytes lent) ∷ h) i)
      go (found r) e = λ up.
          ap (λ (b : Board). b.outbox) (board (found r) e)
          ∙ ap (λ (y : Replay). y.ran.made) (whole r e)
          ∙ ap (made_along (new_board v plan i))
          (sym (restore_records v plan bad f h i n t seat agreement bytes lent al ∙ records_of_lem v plan bad f h al.1 i k))
      go (refused number place) e = subst (Posts i) (sym (board (refused number place) e)) x

  -- a board that is cut does not run
  by_cut : (i : ℕ) (b : Board) (s : Stage) (left : ℕ) → Posts i b → Posts i (after_cut b s left)
  by_cut i b waiting left x = x
  by_cut i b running left x = λ up. absurd (down_running down refl up)
  by_cut i b down left x = λ up. absurd (down_running down refl up)

  by_call : (h : History) (i : ℕ) (c : Call) → Allowed v bad (calls i c ∷ h) → Accepts v bad i h (board_after h i) c → Posts i (board_after h i)
      → Posts i (board_after (calls i c ∷ h) i)
  by_call h i (set_up n t seat agreement bytes) al (e, s) x = by_set_up h i al.0.0.0 n t seat agreement bytes s
  by_call h i (start p input lent used) al c x =
      by_entry (calls i (start p input lent used)) h i (a_start (position_of p.plan (voted_input input)) input) (start_finds p input lent used)
      (start_board v plan bad f h i p lent used input c) (start_makes v plan bad f h i p lent used input al) x
  by_call h i (take_message_lem p j bytes lent used) al (c, from) x =
      by_entry (calls i (take_message_lem p j bytes lent used)) h i (a_take j (exact_message bytes)) (take_finds p j bytes lent used)
      (take_board v plan bad f h i p lent used j bytes c) (take_makes v plan bad f h i p lent used j bytes al) x
  by_call h i (read_answer p) al c x =
      subst (Posts i) (sym (own (calls i (read_answer p)) h)) (by_answer i (board_after h i) (answered_of p).answer x)
  by_call h i (read_count p g d) al c x =
      subst (Posts i) (sym (own (calls i (read_count p g d)) h)) (by_answer i (board_after h i) (read_as_count p g d).answer x)
  by_call h i (restore n t seat agreement bytes lent) al (e, s, given) x = by_restore h i n t seat agreement bytes lent al al.0.0.0 s given x

  by_own : (s : Step) (h : History) → Allowed v bad (s ∷ h) → Posts (whose s) (board_after h (whose s)) → Posts (whose s) (board_after (s ∷ h) (whose s))
  by_own (calls i c) h al x = go al.0.1
    where
      go : Refuses c ⊎ Accepts v bad i h (board_after h i) c → Posts i (board_after (calls i c ∷ h) i)
      go (inl r) = subst (Posts i) (sym (refused_nothing h i c r)) x
      go (inr y) = by_call h i c al y x
  by_own (hands i bytes) h al x = subst (Posts i) (sym (own (hands i bytes) h)) x
  by_own (cut i left) h al x = subst (Posts i) (sym (own (cut i left) h)) (by_cut i (board_after h i) (board_after h i).stage left x)

  pub running_posted : (h : History) → Allowed v bad h → (i : ℕ) → (board_after h i).stage ≡ running → (board_after h i).outbox ≡ made_so_far v plan bad f h i
  unfolding board_after lived records_from
  running_posted [] a i = λ up. refl
  running_posted (s ∷ h) a i =
      either (λ (k : ℕ). Posts k (board_after h k) → Posts k (board_after (s ∷ h) k)) (whose s) i (by_own s h a)
      (λ e x. subst (Posts i) (sym (other s h i e)) x) (running_posted h a.1 i)
