-- Boards by their logs: what a log's calls made is what its party tells of, the steps that the demand allows are valid histories, and answers stay.
use mathlib.Core.Path.{◌≡◌, sym, ◌∙◌, subst}
use mathlib.Core.Logic.{◌⊎◌, inl, inr}
use mathlib.Core.List.Memᴰ
use mathlib.Core.List.{List, [], ◌∷◌, ◌++◌, Memᴰ}
use Prim.Native.Nat.{ℕ}
use lib.Dec.{T, leb}
use Rattle.base.specs.Sets.{Set}
use Rattle.base.proofs.Bools.{T_and, T-right}
use Rattle.plan.specs.Plan.{Plan}
use Rattle.message.specs.declared.Message.{Message}
use Rattle.message.specs.Message.{in_table, body_in_table, last_level}
use Rattle.senders.specs.Senders.{is_in}
use Rattle.level.specs.Level.{no_output, senders, held}
use Rattle.party.specs.Party.{Party, level_at, held_by, output_of}
use Rattle.party_laws.proofs.Laws.{output_stays}
use Rattle.execution.specs.Machine.{Event, Machine}
use Rattle.execution.specs.History.{act, hand, mark, cut, log, after}
use Rattle.execution.specs.Inner.{Seen, ValidH}
use Rattle.execution.proofs.Logs.{seen_mark, inv_still}
use Rattle.vote_machine.specs.Machine.{called, vote_machine, Heard, Sent, seat}
use Rattle.vote_machine.specs.Inner.{Inv, Regular}
use Rattle.vote_machine.proofs.Laws.{le_sent, le_called, new_sending, tells_called, Passes, seat_settings, vote_lawful}
use Rattle.log_agreement.specs.Logs.{Steps, party_by, messages_by, Allowed, AnswersNow, Answers}
use Rattle.log_agreement.proofs.Joint.{invariant}

-- ---- messages that a party holds

pub heard_held : (p : Party) (s : ℕ) (m : Message) → Heard p s m → T (held_by p s m)
unfolding held_by held
heard_held p s m h = T-right (body_in_table m.body) (is_in (senders (level_at p m.level) m.body) s) h.body

-- one of this vote and of the table
pub held_heard : (p : Party) (s : ℕ) (m : Message) → m.number ≡ p.agreement → T (in_table m) → T (held_by p s m) → Heard p s m
unfolding held_by held
held_heard p s m e t h = record {
  number = e;
  body =
      T_and (body_in_table m.body) (is_in (senders (level_at p m.level) m.body) s) (T-right (leb m.level last_level) (body_in_table m.body) t) h;
}

module _ (n t agreement : ℕ) (plan : Plan) (v : Passes n t plan) where
  abbrev M : Machine
  M = vote_machine n t agreement plan

  -- ---- what a log's calls made

  pub regular : (i : ℕ) (l : List (Event Message ℕ)) → Regular (party_by n t agreement plan i l)
  regular i l = (invariant n t agreement plan v i l).regular

  pub made_tells : (i : ℕ) (l : List (Event Message ℕ)) (m : Message) → Memᴰ m (messages_by n t agreement plan i l) → Sent (party_by n t agreement plan i l) m
  unfolding messages_by after
  made_tells i [] m x = absurd (Memᴰ.not-nil x)
  made_tells i (e ∷ l) m x = go (Memᴰ.append_cases (messages_by n t agreement plan i l) x) (made_tells i l m)
    where
      p : Party
      p = after M i l

      go : Memᴰ m (messages_by n t agreement plan i l) ⊎ Memᴰ m (called p e).made → (Memᴰ m (messages_by n t agreement plan i l) → Sent p m)
          → Sent (called p e).party m
      go (inl y) ih = le_sent p (called p e).party (le_called p (regular i l) e) m (ih y)
      go (inr y) ih = (tells_called p (regular i l) e).made m y

  pub tells_made : (i : ℕ) (l : List (Event Message ℕ)) (m : Message) → Sent (party_by n t agreement plan i l) m → Memᴰ m (messages_by n t agreement plan i l)
  unfolding messages_by after
  tells_made i [] m x = absurd (new_sending n t (seat n i) agreement plan (seat_settings n t agreement plan v i) v.valid m.level x.sends)
  tells_made i (e ∷ l) m x = go ((tells_called p (regular i l) e).back m x) (tells_made i l m)
    where
      p : Party
      p = after M i l

      go : Sent p m ⊎ Memᴰ m (called p e).made → (Sent p m → Memᴰ m (messages_by n t agreement plan i l))
          → Memᴰ m (messages_by n t agreement plan i l ++ (called p e).made)
      go (inl y) ih = Memᴰ.append_left (called p e).made (ih y)
      go (inr y) ih = Memᴰ.append_right (messages_by n t agreement plan i l) y

  module _ (bad : Set) where
    -- ---- allowed steps are a valid history, and so the other way

    pub allowed_valid : (h : Steps n t agreement plan) → Allowed n t agreement plan bad h → ValidH (vote_machine n t agreement plan) n bad h
    allowed_valid [] a = tt
    allowed_valid (act i e ∷ h) a = (allowed_valid h a.0, a.1)
    allowed_valid (hand i m ∷ h) a = (allowed_valid h a.0, made_tells i (log M i h) m a.1)
    allowed_valid (mark i ∷ h) a = (allowed_valid h a.0, a.1)
    allowed_valid (cut i k ∷ h) a = (allowed_valid h a.0, a.1)

    pub valid_allowed : (h : Steps n t agreement plan) → ValidH (vote_machine n t agreement plan) n bad h → Allowed n t agreement plan bad h
    valid_allowed [] a = tt
    valid_allowed (act i e ∷ h) a = (valid_allowed h a.0, a.1)
    valid_allowed (hand i m ∷ h) a = (valid_allowed h a.0, tells_made i (log M i h) m a.1)
    valid_allowed (mark i ∷ h) a = (valid_allowed h a.0, a.1)
    valid_allowed (cut i k ∷ h) a = (valid_allowed h a.0, a.1)

    -- ---- an answer read earlier is still the board's

    pub answer_stays : (h : Steps n t agreement plan) → ValidH (vote_machine n t agreement plan) n bad h → (i x : ℕ) → Answers n t agreement plan h i x
        → AnswersNow n t agreement plan h i x
    unfolding vote_lawful
    answer_stays h ok i x (inl a) = a
    answer_stays h ok i x (inr (later, before, e, a)) =
        inv_still M n bad (vote_lawful n t agreement plan v) P rises h ok i (subst (Seen M i P) (sym e) (seen_mark M i P later before a))
      where
        P : Party → Type 0
        P s = (x ≡ no_output → ⊥) × (output_of s ≡ x)

        rises : (s : Party) (e : Event Message ℕ) → Inv s → P s → P (called s e).party
        rises s e r p = (p.0, output_stays s (called s e).party (le_called s r.regular e).grown 0 (λ q. p.0 (sym p.1 ∙ q)) ∙ p.1)
