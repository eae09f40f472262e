-- Messages handed over one after the other, and those that are still to come.
use mathlib.Core.Path.{◌≡◌, refl, sym, ap, ◌∙◌}
use mathlib.Core.List.{List, [], ◌∷◌, ◌++◌, append-nil}
use Prim.Native.Nat.{ℕ, zero, suc, ◌-◌, ◌<◌}
use native.Mathlib.Omega.{arith}
use lib.ListN.{length, length-append}
use lib.Seq.{append_snoc}
use Rattle.std.specs.Prelude.{Ok, Err}
use Rattle.varint.specs.declared.Parsed.{Parsed}
use Rattle.format.specs.declared.Failure.{Failure}
use Rattle.message.specs.declared.Message.{Message}
use Rattle.message.specs.Reading.{message_at}
use Rattle.bench_wire.specs.declared.Handed.{Handed}
use Rattle.bench_wire.specs.Wire.{message_room, after_message, messages_in}

-- with those that are still to come, from place `at` on, the messages are all
abbrev pub Handing : ℕ → List ℕ → List Handed → ℕ → List Handed → Type 0
Handing maker s all at handed = handed ++ messages_in (message_room - length handed) maker s at ≡ all

module _ (maker : ℕ) (s : List ℕ) (all : List Handed) (at : ℕ) (handed : List Handed) (h : Handing maker s all at handed) where
  -- one more
  pub handing_more : (r : Parsed Message) → length handed < message_room → message_at s at ≡ Ok r
      → Handing maker s all r.next (handed ++ record { maker = maker; message = r.value } ∷ [])
  unfolding messages_in
  handing_more r l e =
      append_snoc handed x (messages_in k maker s r.next)
      ∙ ap (λ (z : List Handed). handed ++ z) (sym (ap (λ (n : ℕ). messages_in n maker s at) room ∙ ap (λ z. after_message z more) e))
      ∙ h
    where
      x : Handed
      x = record { maker = maker; message = r.value }

      k : ℕ
      k = message_room - length (handed ++ x ∷ [])

      more : Parsed Message → List Handed
      more r = record { maker = maker; message = r.value } ∷ messages_in k maker s r.next

      room : message_room - length handed ≡ suc k
      room = omega (arith, length-append handed (x ∷ []))

  -- no room is left
  pub handing_full : length handed ≡ message_room → handed ≡ all
  unfolding messages_in
  handing_full e =
      sym (append-nil handed) ∙ ap (λ (n : ℕ). handed ++ messages_in n maker s at) (none e) ∙ h
    where
      none : length handed ≡ message_room → 0 ≡ message_room - length handed
      none e = omega arith

  -- no message stands there
  pub handing_ends : (e : Failure) → message_at s at ≡ Err e → handed ≡ all
  unfolding messages_in
  handing_ends e f = sym (append-nil handed) ∙ ap (λ (z : List Handed). handed ++ z) (sym (nothing (message_room - length handed))) ∙ h
    where
      nothing : (n : ℕ) → messages_in n maker s at ≡ []
      nothing zero = refl
      nothing (suc n) = ap (λ z. after_message z (λ r. record { maker = maker; message = r.value } ∷ messages_in n maker s r.next)) f
