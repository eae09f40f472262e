-- An accepted start or take of a running board: its messages wait behind those before, all that counted still counts, and as many fewer can still come.
use mathlib.Core.Path.{◌≡◌, refl, sym, ap, ◌∙◌, subst}
use mathlib.Core.Bool.{false}
use mathlib.Core.List.{List, [], ◌∷◌, ◌++◌, append-nil, Memᴰ}
use Prim.Native.Nat.{ℕ, ◌+◌, ◌≤◌, ◌<◌}
use native.Mathlib.Omega.{arith}
use lib.ListN.{length, replicate, length-append, length-replicate}
use lib.Seq.{take_at}
use Rattle.base.specs.Sets.{Set}
use Rattle.base.specs.Limits.{last_level, outgoing_size}
use Rattle.base.specs.Found.{found}
use Rattle.plan.specs.Plan.{Plan}
use Rattle.message.specs.declared.Message.{Message}
use Rattle.message.specs.Reading.{exact_message}
use Rattle.journal.specs.declared.Record.{Record}
use Rattle.party.specs.Party.{Party}
use Rattle.party.specs.Run.{Ran}
use Rattle.party_life.specs.Life.{Life}
use Rattle.party_bounds.proofs.Laws.{Sized, sized_new, sized_lived, messages_left, replayed_within}
use Rattle.board_calls.specs.Answers.{position_of}
use Rattle.board_calls.specs.Calls.{Entry, again, fresh}
use Rattle.agreement.specs.History.{Instance, Lent, StartInput, voted_input, start, take_message_lem, start_finds, take_finds, Step, calls, History, running, Act, a_start, a_take, Board, board_after}
use Rattle.agreement.specs.Allowed.{Continues, Allowed}
use Rattle.agreement.specs.Demand.{is_restore_of, HandedSince, Shared}
use Rattle.agreement.specs.Inner.{records_of}
use Rattle.agreement.proofs.Entries.{Recorded, start_recorded, take_recorded}
use Rattle.agreement.proofs.Lent.{entered}
use Rattle.agreement.proofs.Tied.{new_board, plan_valid_lem, settings_pass_lem}
use Rattle.agreement.proofs.Histories.{tied}
use Rattle.agreement.proofs.Boards.{records_of_lem}
use Rattle.agreement.proofs.Steps.{party_lived, start_board, take_board}
use Rattle.agreement.proofs.Accepted.{record_most}
use Rattle.agreement.proofs.Since.{since_later}
use Rattle.agreement_completion.proofs.Kept.{Counts}

-- how many messages board i can still make
abbrev pub left_at : History → ℕ → ℕ
left_at h i = messages_left (last_level + 1) (board_after h i).party

-- board i after its step s, which made the messages `new`
pub record Grown (h : History) (i : ℕ) (s : Step) : Type 0 where
  pub new : List Message
  pub stage : (board_after (s ∷ h) i).stage ≡ (board_after h i).stage
  pub outbox : (board_after (s ∷ h) i).outbox ≡ (board_after h i).outbox ++ new
  pub counts : Counts i h (s ∷ h)
  pub since : (bytes : List ℕ) → HandedSince i bytes h → HandedSince i bytes (s ∷ h)
  pub fewer : length new + left_at (s ∷ h) i ≤ left_at h i

-- lent: a journal with the used bytes and room for one record, and an outgoing buffer
abbrev pub lent_to : Board → Lent
lent_to b = record { journal = b.journal ++ replicate record_most 0; out = outgoing_size }

pub lent_room : (b : Board) → length b.journal + record_most ≤ length (lent_to b).journal
lent_room b = omega (arith, length-append b.journal (replicate record_most 0), length-replicate {A = ℕ} record_most 0)

pub lent_continues : (b : Board) → b.stage ≡ running → Continues b b.party (lent_to b) (length b.journal)
lent_continues b up = record { up = up; same = refl; at = refl; kept = take_at b.journal (replicate record_most 0) (length b.journal) refl }

module _ (v : Instance) (plan : Plan) (bad : Set) (f : Shared v plan) (h : History) (a : Allowed v bad h) (i : ℕ) (k : i < v.n)
    (p : Party) (lent : Lent) (used : ℕ) (c : Continues (board_after h i) p lent used) where
  -- a party of its records is sized
  sized : Sized p
  sized =
      let life : Life (new_board v plan i) (records_of h i) = subst (Life (new_board v plan i)) (sym (records_of_lem v plan bad f h a i k)) (tied v plan bad f h a i k).life in
      subst Sized (sym (party_lived v plan bad f h i p lent used a k c))
      (sized_lived (new_board v plan i) (sized_new v.n v.t i v.agreement plan (settings_pass_lem v plan f i k) (plan_valid_lem v plan f i k)) (records_of h i) life)

  -- a call with a record
  by_fresh : (s : Step) (d : Act) (r : Record) (ran : Ran) → is_restore_of i s ≡ false → Recorded p (length lent.journal) used r ran
      → board_after (s ∷ h) i ≡ entered (board_after h i) d (found (fresh r ran)) → Grown h i s
  by_fresh s d r ran no-restore x e = record {
    new = ran.made;
    stage = ap (λ (b : Board). b.stage) e;
    outbox = ap (λ (b : Board). b.outbox) e;
    counts = λ n m. subst (λ (b : Board). Memᴰ n b.counted) (sym e) (Memᴰ.tail m);
    since = λ bytes y. since_later i bytes s h no-restore y;
    fewer = omega (arith, within, ap (λ (b : Board). messages_left (last_level + 1) b.party) e, ap (messages_left (last_level + 1)) c.same);
  }
    where
      within : length ran.made + messages_left (last_level + 1) ran.party ≤ messages_left (last_level + 1) p
      within =
          subst (λ (y : Ran). length y.made + messages_left (last_level + 1) y.party ≤ messages_left (last_level + 1) p) x.does
          (replayed_within (last_level + 1) (omega arith) p sized r x.fits).messages

  -- a call without one
  by_again : (s : Step) (d : Act) → is_restore_of i s ≡ false → board_after (s ∷ h) i ≡ entered (board_after h i) d (found again) → Grown h i s
  by_again s d no-restore e = record {
    new = [];
    stage = ap (λ (b : Board). b.stage) e;
    outbox = ap (λ (b : Board). b.outbox) e ∙ sym (append-nil (board_after h i).outbox);
    counts = λ n m. subst (λ (b : Board). Memᴰ n b.counted) (sym e) (Memᴰ.tail m);
    since = λ bytes y. since_later i bytes s h no-restore y;
    fewer = omega (arith, ap (λ (b : Board). messages_left (last_level + 1) b.party) e);
  }

  pub start_grown : (input : StartInput) (r : Record) (ran : Ran) → start_finds p input lent used ≡ found (fresh r ran)
      → Grown h i (calls i (start p input lent used))
  start_grown input r ran e =
      let d : Act = a_start (position_of p.plan (voted_input input)) input in
      by_fresh (calls i (start p input lent used)) d r ran refl (start_recorded p input lent used r ran e).2
      (start_board v plan bad f h i p lent used input c ∙ ap (entered (board_after h i) d) e)

  pub take_grown : (j : ℕ) (bytes : List ℕ) (e : Entry) → take_finds p j bytes lent used ≡ found e
      → Grown h i (calls i (take_message_lem p j bytes lent used))
  take_grown j bytes again e =
      let d : Act = a_take j (exact_message bytes) in
      by_again (calls i (take_message_lem p j bytes lent used)) d refl (take_board v plan bad f h i p lent used j bytes c ∙ ap (entered (board_after h i) d) e)
  take_grown j bytes (fresh r ran) e =
      let d : Act = a_take j (exact_message bytes) in
      by_fresh (calls i (take_message_lem p j bytes lent used)) d r ran refl (take_recorded p j bytes (length lent.journal) used lent.out r ran e).3
      (take_board v plan bad f h i p lent used j bytes c ∙ ap (entered (board_after h i) d) e)
