-- Boards without an answer: not started, nothing handed over, the own copy not taken, what was handed over forgotten in a cut, a lost take.
use mathlib.Core.Path.{◌≡◌, refl, sym, ap, subst}
use mathlib.Core.Bool.{true}
use mathlib.Core.List.Memᴰ
use mathlib.Core.List.{List, [], ◌∷◌, Memᴰ}
use Prim.Native.Nat.{ℕ, zero, suc, ◌<◌}
use native.Mathlib.Omega.{arith}
use lib.IntN.{ℤ}
use Rattle.std.specs.Prelude.{None}
use Rattle.base.specs.Sets.{Set}
use Rattle.message.specs.declared.Body.TheVariants.{FirstEcho}
use Rattle.message.specs.declared.Message.{Message}
use Rattle.message.specs.Message.{message_bytes}
use Rattle.agreement.specs.History.{Instance, hands, History, board_after}
use Rattle.agreement.specs.Allowed.{Sound, Handed}
use Rattle.agreement.specs.Demand.{Started, Took, Made, HandedSince, answer_now, Complete}
use Rattle.agreement_histories.specs.Scripts.{Action, says, history_of}
use Rattle.agreement_histories.specs.Alone as alone-vote
use Rattle.agreement_histories.proofs.Alone as alone-run
use Rattle.agreement_histories.proofs.Worlds.{Handing, board_of}
use Rattle.agreement_histories.proofs.Passing.{passes, ending, shown, premises_of, sharing}
use Rattle.agreement_histories.proofs.Delivery.{starts_in, all_made}
use Rattle.agreement_histories.proofs.Delivered.{in_made, started}
use Rattle.agreement_histories.proofs.Computing.{computing}
use Rattle.agreement_premises.specs.Edits.{is_cut, without}
use Rattle.agreement_premises.specs.Examples.{three, three_plan, alone, nobody}
use Rattle.agreement_premises.specs.Claims.{EndsIf, AllStarted, AllHanded, AllTaken, NotStarted, NotHanded, HandedEver, OwnCopyUntaken, begins, echoes, forgets, LostCounted, cut_last}
use Rattle.agreement_premises.proofs.Failing.{sound_alone, unanswered}

-- the one board is board 0
lone : (P : ℕ → Type 0) (i : ℕ) → Sound (alone three) nobody i → P 0 → P i
lone P zero o p = p
lone P (suc i) o p = absurd (let l : suc i < 1 = o.0 in omega arith)

-- a script of a board alone that passes
module _ (script : List Action) (f : passes (alone three) nobody script ≡ true) where
  abbrev h : History
  h = history_of (alone three) script

  -- it has started at 0
  all_started : starts_in (board_of (ending (alone three) script) 0).counted ≡ 0 ∷ [] → AllStarted (alone three) nobody (history_of (alone three) script)
  all_started e i o = let s = started (alone three) nobody script f 0 0 e in lone (λ j. (x : ℕ) × (z : ℤ) × Started h j x z) i o (0, s.0, s.1)

  -- where nothing is handed over since the last restore, all of that is taken
  nothing_taken : (ending (alone three) script).since ≡ [] → AllTaken (alone three) nobody (history_of (alone three) script) (Took (history_of (alone three) script))
  nothing_taken e i j bytes m o d k g =
      let x = (shown (alone three) nobody script f).known_since j bytes k in
      absurd (Memᴰ.not-nil (subst (λ (l : List Handing). Memᴰ x.0 l) e x.1))

  -- where the premise holds of it and there is no answer, the claim fails
  unended_alone : {If : Instance → Set → History → Type 0} → answer_now (alone three) (history_of (alone three) script) 0 ≡ None → EndsIf If
      → If (alone three) nobody (history_of (alone three) script) → ⊥
  unfolding computing
  unended_alone none claim k =
      unanswered none (claim (alone three) three_plan nobody h (premises_of (alone three) nobody script f three_plan refl refl) k 0 (sound_alone three))

-- ---- no step at all

silent : answer_now (alone three) [] 0 ≡ None
unfolding computing
silent = refl

unmade : AllHanded (alone three) nobody []
unfolding computing
unmade i m o k = absurd (Memᴰ.not-nil k.1)

pub not_started : NotStarted → ⊥
unfolding computing
not_started claim =
    let c = sharing (alone three) three_plan nobody tt refl in
    unanswered silent
    (claim (alone three) three_plan nobody [] (record { shared = c.0; few = c.1; allowed = tt }) (unmade, λ i j bytes m o d k e. absurd (Memᴰ.not-nil k)) 0 (sound_alone three))

-- ---- a start, and nothing handed over

begins_passes : passes (alone three) nobody begins ≡ true
unfolding computing begins
begins_passes = refl

begins_starts : starts_in (board_of (ending (alone three) begins) 0).counted ≡ 0 ∷ []
unfolding computing begins
begins_starts = refl

begins_sends : (ending (alone three) begins).since ≡ []
unfolding computing begins
begins_sends = refl

begins_none : answer_now (alone three) (history_of (alone three) begins) 0 ≡ None
unfolding computing begins
begins_none = refl

pub not_handed : NotHanded → ⊥
not_handed claim =
    unended_alone begins begins_passes begins_none claim (all_started begins begins_passes begins_starts, nothing_taken begins begins_passes begins_sends)

-- ---- the echo handed over, and not taken

-- the echo is all that the board made
echo_only : (h : History) → all_made (board_after h 0).counted ≡ says (FirstEcho 1) ∷ [] → (m : Message) → Made h 0 m → m ≡ says (FirstEcho 1)
echo_only h e m (c, k, n) = Memᴰ.eq_of_singleton (subst (λ (l : List Message). Memᴰ m l) e (in_made c (board_after h 0).counted k m n))

echoes_passes : passes (alone three) nobody echoes ≡ true
unfolding computing echoes
echoes_passes = refl

echoes_starts : starts_in (board_of (ending (alone three) echoes) 0).counted ≡ 0 ∷ []
unfolding computing echoes
echoes_starts = refl

echoes_none : answer_now (alone three) (history_of (alone three) echoes) 0 ≡ None
unfolding computing echoes
echoes_none = refl

echoes_hands : (m : Message) → Made (history_of (alone three) echoes) 0 m → HandedSince 0 (message_bytes m) (history_of (alone three) echoes)
unfolding computing echoes
echoes_hands m k = Memᴰ.head (ap (λ (x : Message). hands 0 (message_bytes x)) (echo_only (history_of (alone three) echoes) refl m k))

pub own_copy_untaken : OwnCopyUntaken → ⊥
own_copy_untaken claim = unended_alone echoes echoes_passes echoes_none claim (all_started echoes echoes_passes echoes_starts, all_handed, all_taken_lem)
  where
    h : History
    h = history_of (alone three) echoes

    all_handed : AllHanded (alone three) nobody h
    all_handed i m o = lone (λ j. Made h j m → HandedSince j (message_bytes m) h) i o (echoes_hands m)

    all_taken_lem : AllTaken (alone three) nobody h (λ i j m. (i ≡ j → ⊥) → Took h i j m)
    all_taken_lem i j bytes m o g k e d = absurd (d (lone (λ y. y ≡ j) i o (lone (λ y. 0 ≡ y) j g refl)))

-- ---- the echo handed over, and forgotten in a cut

forgets_passes : passes (alone three) nobody forgets ≡ true
unfolding computing echoes forgets
forgets_passes = refl

forgets_starts : starts_in (board_of (ending (alone three) forgets) 0).counted ≡ 0 ∷ []
unfolding computing echoes forgets
forgets_starts = refl

forgets_sends : (ending (alone three) forgets).since ≡ []
unfolding computing echoes forgets
forgets_sends = refl

forgets_none : answer_now (alone three) (history_of (alone three) forgets) 0 ≡ None
unfolding computing echoes forgets
forgets_none = refl

forgets_hands : (m : Message) → Made (history_of (alone three) forgets) 0 m → Handed 0 (message_bytes m) (history_of (alone three) forgets)
unfolding computing echoes forgets
forgets_hands m k =
    Memᴰ.tail (Memᴰ.tail (Memᴰ.head (ap (λ (x : Message). hands 0 (message_bytes x)) (echo_only (history_of (alone three) forgets) refl m k))))

pub handed_ever : HandedEver → ⊥
handed_ever claim =
    unended_alone forgets forgets_passes forgets_none claim
    (all_started forgets forgets_passes forgets_starts, all_handed, nothing_taken forgets forgets_passes forgets_sends)
  where
    h : History
    h = history_of (alone three) forgets

    all_handed : (i : ℕ) (m : Message) → Sound (alone three) nobody i → Made h i m → Handed i (message_bytes m) h
    all_handed i m o = lone (λ j. Made h j m → Handed j (message_bytes m) h) i o (forgets_hands m)

-- ---- the last record lost

lost_passes : passes (alone-vote.vote 1) alone-vote.bad cut_last ≡ true
unfolding computing alone-vote.script cut_last
lost_passes = refl

lost_none : answer_now (alone-vote.vote 1) (history_of (alone-vote.vote 1) cut_last) 0 ≡ None
unfolding computing alone-vote.script cut_last
lost_none = refl

-- but for the cut it is the history where all is delivered
lost_else : without is_cut (history_of (alone-vote.vote 1) cut_last) ≡ history_of (alone-vote.vote 1) (alone-vote.script 1)
unfolding computing alone-vote.script cut_last without
lost_else = refl

pub lost_counted : LostCounted → ⊥
unfolding computing
lost_counted claim =
    unanswered lost_none
    (claim (alone-vote.vote 1) alone-vote.plan alone-vote.bad (history_of (alone-vote.vote 1) cut_last) (premises_of (alone-vote.vote 1) alone-vote.bad cut_last lost_passes alone-vote.plan refl refl)
    (subst (Complete (alone-vote.vote 1) alone-vote.bad) (sym lost_else) (alone-run.conclusion).complete) 0 (omega arith, tt))
