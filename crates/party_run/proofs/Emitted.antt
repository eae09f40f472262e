-- The message of one rule as bytes, written.
use mathlib.Core.Path.{◌≡◌, refl, sym, ap, ◌∙◌, subst}
use mathlib.Core.Bool.{Bool}
use mathlib.Core.List.{List, [], ◌∷◌, append-nil}
use Prim.Native.Nat.{ℕ, ◌+◌}
use native.Mathlib.Nat.{add-zero}
use lib.ListN.{length}
use Rattle.base.specs.Put.{put_at}
use Rattle.base.proofs.Puts.{put_none}
use Rattle.message.specs.declared.Body.{Body}
use Rattle.message.specs.declared.Body.TheVariants.{Side}
use Rattle.message.specs.declared.Message.{Message}
use Rattle.message.specs.Message.{message_bytes}
use Rattle.level.specs.Rules.{Effect, Nothing, Quiet, Send, Enter, SendEnter}
use Rattle.party.specs.Run.{made_by, bytes_of}
use Rattle.party_run.proofs.Going.{bytes_none}

-- from `at` on the buffer `after` has bs, and r is the place past them
abbrev pub Written : List ℕ → ℕ → List ℕ → ℕ → List ℕ → Type 0
Written before at bs r after = (r ≡ at + length bs) × (after ≡ put_at before at bs)

pub none_written : (l : List ℕ) (at : ℕ) {bs : List ℕ} → bs ≡ [] → Written l at bs at l
none_written l at e = subst (λ (bs : List ℕ). Written l at bs at l) (sym e) (sym (add-zero at), sym (put_none l at))

pub some_written : (before : List ℕ) (at r : ℕ) (after : List ℕ) {bs cs : List ℕ} → bs ≡ cs → Written before at cs r after → Written before at bs r after
some_written before at r after e w = subst (λ (bs : List ℕ). Written before at bs r after) (sym e) w

-- the bytes of each effect
module _ (a i : ℕ) (e : Effect) where
  none : (f : Effect) → made_by a i f ≡ [] → e ≡ f → bytes_of (made_by a i e) ≡ []
  none f h g = ap (λ (x : Effect). bytes_of (made_by a i x)) g ∙ ap bytes_of h ∙ bytes_none

  pub quiet_bytes : e ≡ Quiet → bytes_of (made_by a i e) ≡ []
  quiet_bytes g = none Quiet refl g

  pub enter_bytes : (k : ℕ) (keep : Bool) → e ≡ Enter k keep → bytes_of (made_by a i e) ≡ []
  enter_bytes k keep g = none (Enter k keep) refl g

  one : (m : Message) → bytes_of (m ∷ []) ≡ message_bytes m
  unfolding bytes_of
  one m = append-nil (message_bytes m)

  pub send_bytes : (b : Body) → e ≡ Send b → bytes_of (made_by a i e) ≡ message_bytes (record { number = a; level = i; body = b })
  send_bytes b g = ap (λ (x : Effect). bytes_of (made_by a i x)) g ∙ one (record { number = a; level = i; body = b })

  pub side_bytes : (k : ℕ) → e ≡ SendEnter k → bytes_of (made_by a i e) ≡ message_bytes (record { number = a; level = i; body = Side k })
  side_bytes k g = ap (λ (x : Effect). bytes_of (made_by a i x)) g ∙ one (record { number = a; level = i; body = Side k })
