-- The messages that a party can have made: seven at each level.
use mathlib.Core.Path.{◌≡◌, refl, ap, subst}
use mathlib.Core.Logic.{◌⊎◌, inl, inr}
use mathlib.Core.List.Memᴰ
use mathlib.Core.List.{List, [], ◌∷◌, ◌++◌, Memᴰ}
use Prim.Native.Nat.{ℕ, zero, suc, ◌*◌, ◌<◌}
use native.Mathlib.Decide.{ℕ_discrete}
use native.Mathlib.Nat.{mul-suc}
use native.Mathlib.Omega.{arith}
use lib.ListN.{length, length-append}
use Rattle.base.specs.Limits.{level_messages}
use Rattle.message.specs.declared.Body.{Body}
use Rattle.message.specs.declared.Message.{Message}
use Rattle.party.specs.Party.{Party, level_at, context_of}
use Rattle.vote_machine.specs.Machine.{Sent}
use Rattle.agreement_messages.proofs.Bodies.{bodies, OneValue, among}

-- ---- the messages of some bodies at level L

unfoldable pub saying : ℕ → ℕ → List Body → List Message
saying a L [] = []
saying a L (b ∷ bs) = record { number = a; level = L; body = b } ∷ saying a L bs

saying_length : (a L : ℕ) (bs : List Body) → length (saying a L bs) ≡ length bs
unfolding saying
saying_length a L [] = refl
saying_length a L (b ∷ bs) = ap suc (saying_length a L bs)

saying_member : (m : Message) (bs : List Body) → Memᴰ m.body bs → Memᴰ m (saying m.number m.level bs)
unfolding saying
saying_member m [] k = absurd (Memᴰ.not-nil k)
saying_member m (b ∷ bs) k = go (Memᴰ.cases_cons k) (saying_member m bs)
  where
    go : (m.body ≡ b) ⊎ Memᴰ m.body bs → (Memᴰ m.body bs → Memᴰ m (saying m.number m.level bs))
        → Memᴰ m (record { number = m.number; level = m.level; body = b } ∷ saying m.number m.level bs)
    go (inl e) ih = Memᴰ.head (λ i. record { number = m.number; level = m.level; body = e i })
    go (inr j) ih = Memᴰ.tail (ih j)

-- ---- those of a party

-- at level L
abbrev pub messages_at : Party → ℕ → List Message
messages_at p L = saying p.agreement L (bodies (context_of p L) (level_at p L))

pub at_length : (p : Party) (L : ℕ) → length (messages_at p L) ≡ level_messages
unfolding bodies saying
at_length p L = refl

pub at_member : (p : Party) (m : Message) → Sent p m → OneValue (level_at p m.level) → Memᴰ m (messages_at p m.level)
at_member p m s w =
    let bs : List Body = bodies (context_of p m.level) (level_at p m.level) in
    subst (λ (a : ℕ). Memᴰ m (saying a m.level bs)) s.number (saying_member m bs (among (context_of p m.level) (level_at p m.level) w m.body s.body))

-- at the levels below K
unfoldable pub messages_below : Party → ℕ → List Message
messages_below p zero = []
messages_below p (suc K) = messages_at p K ++ messages_below p K

pub below_length : (p : Party) (K : ℕ) → length (messages_below p K) ≡ level_messages * K
unfolding messages_below
below_length p zero = refl
below_length p (suc K) = omega (arith, length-append (messages_at p K) (messages_below p K), at_length p K, below_length p K, mul-suc level_messages K)

pub below_member : (p : Party) (m : Message) (K : ℕ) → m.level < K → Memᴰ m (messages_at p m.level) → Memᴰ m (messages_below p K)
unfolding messages_below
below_member p m zero h k = absurd (omega arith)
below_member p m (suc K) h k = go (ℕ_discrete m.level K) (λ l. below_member p m K l k)
  where
    go : Dec (m.level ≡ K) → (m.level < K → Memᴰ m (messages_below p K)) → Memᴰ m (messages_at p K ++ messages_below p K)
    go (yes e) ih = Memᴰ.append_left (messages_below p K) (subst (λ (L : ℕ). Memᴰ m (messages_at p L)) e k)
    go (no e) ih = Memᴰ.append_right (messages_at p K) (ih (omega arith))
