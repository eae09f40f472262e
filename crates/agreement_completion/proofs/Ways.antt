-- Further steps after a history: without a cut, in document 01's order, and allowed; and the messages of a board handed over, one after the other.
use mathlib.Core.Path.{◌≡◌, refl, sym, ◌∙◌, subst}
use mathlib.Core.Logic.{◌⊎◌, inl, inr}
use mathlib.Core.List.Memᴰ
use mathlib.Core.List.{List, [], ◌∷◌, ◌++◌, Memᴰ}
use Prim.Native.Nat.{ℕ}
use Rattle.base.specs.Sets.{Set}
use Rattle.message.specs.declared.Message.{Message}
use Rattle.message.specs.Message.{message_bytes}
use Rattle.agreement.specs.History.{Instance, StartInput, Step, hands, History, running, board_after}
use Rattle.agreement.specs.Allowed.{Sound, May, Allowed}
use Rattle.agreement.specs.Demand.{HandedSince}
use Rattle.agreement.proofs.Since.{since_now}
use Rattle.agreement_completion.specs.Statement.{Orderly, InOrder}
use Rattle.agreement_completion.proofs.Kept.{Kept, kept_refl, kept_trans, kept_hand}
use Rattle.agreement_completion.proofs.Keeping.{Keeping, KeepingAll}

-- steps after the history h, with no start but with this input
pub record Way (v : Instance) (bad : Set) (h : History) (input : StartInput) : Type 0 where
  pub more : History
  pub order : InOrder v bad h more
  pub allowed : Allowed v bad (more ++ h)
  pub keeping : KeepingAll input more

module _ (v : Instance) (bad : Set) (h : History) (input : StartInput) where
  -- the history with them
  abbrev pub at : Way v bad h input → History
  at w = w.more ++ h

  -- none
  abbrev pub none : Allowed v bad h → Way v bad h input
  none a = record { more = []; order = tt; allowed = a; keeping = tt }

  -- one step further
  abbrev pub further : (w : Way v bad h input) (s : Step) → Keeping input s → Orderly v bad s (at w) → May v bad s (at w) → Way v bad h input
  further w s k o m = record { more = s ∷ w.more; order = (o, w.order); allowed = (m, w.allowed); keeping = (k, w.keeping) }

  -- board i hands the messages ms over, and that changes no board
  pub record HandsOver (w : Way v bad h input) (i : ℕ) (ms : List Message) : Type 0 where
    pub after : Way v bad h input
    pub kept : (j : ℕ) → Kept j (at w) (at after)
    pub given : (m : Message) → Memᴰ m ms → HandedSince i (message_bytes m) (at after)

  pub hands_over_lem : (w : Way v bad h input) (i : ℕ) → Sound v bad i → (board_after (at w) i).stage ≡ running → (ms : List Message)
      → ((m : Message) → Memᴰ m ms → Memᴰ m (board_after (at w) i).outbox) → HandsOver w i ms
  hands_over_lem w i o up [] posted = record { after = w; kept = λ j. kept_refl j (at w); given = λ m x. absurd (Memᴰ.not-nil x) }
  hands_over_lem w i o up (m ∷ ms) posted = go (hands_over_lem w1 i o ((first i).board.stage ∙ up) ms still)
    where
      w1 : Way v bad h input
      w1 = further w (hands i (message_bytes m)) tt tt (o, up, (m, refl, posted m (Memᴰ.head refl)))

      first : (j : ℕ) → Kept j (at w) (at w1)
      first j = kept_hand i (message_bytes m) (at w) j

      still : (n : Message) → Memᴰ n ms → Memᴰ n (board_after (at w1) i).outbox
      still n x = subst (Memᴰ n) (sym (first i).board.outbox) (posted n (Memᴰ.tail x))

      go : HandsOver w1 i ms → HandsOver w i (m ∷ ms)
      go r = record { after = r.after; kept = λ j. kept_trans j (at w) (at w1) (at r.after) (first j) (r.kept j); given = λ n x. of n (Memᴰ.cases_cons x) }
        where
          of : (n : Message) → (n ≡ m) ⊎ Memᴰ n ms → HandedSince i (message_bytes n) (at r.after)
          of n (inl e) =
              subst (λ (y : Message). HandedSince i (message_bytes y) (at r.after)) (sym e)
              ((r.kept i).since (message_bytes m) (since_now i (message_bytes m) (at w)))
          of n (inr y) = r.given n y
