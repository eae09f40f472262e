-- What one board makes at one level, read off its record: where its second echoes of a value are all of one value, its messages are among seven.
use mathlib.Core.Path.{◌≡◌, sym, ap, ◌∙◌}
use mathlib.Core.Logic.{◌⊎◌, inl, inr}
use mathlib.Core.Bool.{Bool, false}
use mathlib.Core.List.{List, [], ◌∷◌, Memᴰ}
use Prim.Native.Nat.{ℕ, ◌<◌}
use native.Mathlib.Omega.{arith}
use lib.Dec.{T, eqb}
use lib.ListN.{get_or}
use borrow.Author.Tests.{eq-eqb, ne_eqb}
use Rattle.base.specs.Pick.{pick, smallest}
use Rattle.base.proofs.Smallest.{found}
use Rattle.message.specs.declared.Body.{Body}
use Rattle.message.specs.declared.Body.TheVariants.{FirstEcho, FirstProposal, SecondEcho, SecondProposal, Side, Centre}
use Rattle.message.specs.Message.{none_value}
use Rattle.level.specs.declared.Context.{Context}
use Rattle.level.specs.Level.{Level}
use Rattle.level_laws.specs.Inner.{Echoed, SentIn}

-- the smallest value that was second-echoed
abbrev echoed_value : Level → ℕ
echoed_value l = smallest none_value (λ w. get_or l.echoed w false)

-- a result of none goes with centre, any other with a side
abbrev side_or_centre : ℕ → Body
side_or_centre r = pick (eqb r none_value) Centre (Side r)

-- two first echoes, a first proposal, two second echoes, a second proposal, and a side or centre
unfoldable pub bodies : Context → Level → List Body
bodies c l =
    FirstEcho c.port
    ∷ FirstEcho none_value
    ∷ FirstProposal l.proposal
    ∷ SecondEcho (echoed_value l)
    ∷ SecondEcho none_value
    ∷ SecondProposal l.second_proposal
    ∷ side_or_centre l.result
    ∷ []

centre_last : (r : ℕ) → r ≡ none_value → Centre ≡ side_or_centre r
centre_last r e = sym (ap (λ (b : Bool). pick b Centre (Side r)) (eq-eqb r none_value e))

side_last : (r k : ℕ) → r ≡ k → k < none_value → Side k ≡ side_or_centre r
side_last r k e h = ap Side (sym e) ∙ sym (ap (λ (b : Bool). pick b Centre (Side r)) (ne_eqb r none_value (λ q. omega arith)))

-- a record whose second echoes are of one value and of none, and in which centre goes with the result none
pub record OneValue (l : Level) : Type 0 where
  pub value : (w : ℕ) → Echoed l w → (w < none_value) ⊎ (w ≡ none_value)
  pub one : (v w : ℕ) → v < none_value → w < none_value → Echoed l v → Echoed l w → v ≡ w
  pub told : T l.told_centre → l.result ≡ none_value

echo_among : (c : Context) (l : Level) → OneValue l → (w : ℕ) → Echoed l w → (w < none_value) ⊎ (w ≡ none_value) → Memᴰ (SecondEcho w) (bodies c l)
unfolding bodies
echo_among c l s w e (inl k) =
    let r = found none_value (λ v. get_or l.echoed v false) w k e in
    Memᴰ.tail (Memᴰ.tail (Memᴰ.tail (Memᴰ.head (ap SecondEcho (s.one w (echoed_value l) k r.1 e r.0)))))
echo_among c l s w e (inr q) = Memᴰ.tail (Memᴰ.tail (Memᴰ.tail (Memᴰ.tail (Memᴰ.head (ap SecondEcho q)))))

pub among : (c : Context) (l : Level) → OneValue l → (b : Body) → SentIn c l b → Memᴰ b (bodies c l)
unfolding bodies
among c l s (FirstEcho v) (inl h) = Memᴰ.head (ap FirstEcho h.0)
among c l s (FirstEcho v) (inr h) = Memᴰ.tail (Memᴰ.head (ap FirstEcho h.0))
among c l s (FirstProposal v) h = Memᴰ.tail (Memᴰ.tail (Memᴰ.head (ap FirstProposal (sym h.1))))
among c l s (SecondEcho w) h = echo_among c l s w h (s.value w h)
among c l s (SecondProposal w) h =
    Memᴰ.tail (Memᴰ.tail (Memᴰ.tail (Memᴰ.tail (Memᴰ.tail (Memᴰ.head (ap SecondProposal (sym h.1)))))))
among c l s (Side k) h =
    Memᴰ.tail (Memᴰ.tail (Memᴰ.tail (Memᴰ.tail (Memᴰ.tail (Memᴰ.tail (Memᴰ.head (side_last l.result k h.0 h.4)))))))
among c l s Centre h =
    Memᴰ.tail (Memᴰ.tail (Memᴰ.tail (Memᴰ.tail (Memᴰ.tail (Memᴰ.tail (Memᴰ.head (centre_last l.result (s.told h))))))))
