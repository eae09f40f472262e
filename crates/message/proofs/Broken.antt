-- What the refusal of bytes says of them.
use mathlib.Core.Path.{◌≡◌, refl, sym, ap, ap₂, ◌∙◌}
use mathlib.Core.Bool.{Bool, true, false}
use mathlib.Core.List.{List, [], ◌++◌}
use Prim.Native.Nat.{ℕ, ◌+◌, ◌-◌, ◌<◌, ◌≤◌}
use native.Mathlib.Omega.{arith}
use lib.Dec.{eqb}
use lib.ListN.{length, take, length-append}
use borrow.Author.Tests.{eqb-false}
use Rattle.base.specs.Pick.{pick}
use Rattle.varint.specs.Varint.{AllBytes}
use Rattle.varint.specs.Statement.{Beginning}
use Rattle.format.specs.declared.Fault.{Fault}
use Rattle.format.specs.Reading.{Read, whole, failed, read_at}
use Rattle.format.specs.Statement.{Fails}
use Rattle.message.specs.declared.Message.{Message}
use Rattle.std.specs.Prelude.{Ok, Err}
use Rattle.message.specs.Message.{InLimits, message_bytes}
use Rattle.message.specs.Format.{message_format}
use Rattle.message.specs.Reading.{Exactly, broken, message_at, exactly, exact_message}
use Rattle.message.proofs.Laws.{read_exactly, exactly_more}
use Rattle.message.proofs.RoundTrip.{spells, by_format, message_read, message_was_written}

-- bytes are broken by what reading finds, or by what follows a whole message
pub data Broke (s : List ℕ) (fault : Fault) (at : ℕ) : Type 0 where
  inside : message_at s 0 ≡ failed fault at → Broke s fault at
  behind : (m : Message) → message_at s 0 ≡ whole m at → (at ≡ length s → ⊥) → fault ≡ Fault.Spare → Broke s fault at

-- what is broken alike has the same fault at the same place
same_broken : {f g : Fault} {m n : ℕ} → broken f m ≡ broken g n → (f ≡ g) × (m ≡ n)
same_broken {f} e = (ap fault_or e, ap place_or e)
  where
    fault_or : Exactly → Fault
    fault_or (Ok m) = f
    fault_or (Err x) = x.fault

    place_or : Exactly → ℕ
    place_or (Ok m) = 0
    place_or (Err x) = x.at

broke : (s : List ℕ) (fault : Fault) (at : ℕ) → exact_message s ≡ broken fault at → Broke s fault at
unfolding exact_message
broke s fault at e = go (message_at s 0) refl e
  where
    go : (r : Read Message) → message_at s 0 ≡ r → exactly s r ≡ broken fault at → Broke s fault at
    go (Ok r) f g = spare (eqb r.next (length s)) refl g
      where
        spare : (b : Bool) → eqb r.next (length s) ≡ b → pick b (Ok r.value) (broken Fault.Spare r.next) ≡ broken fault at → Broke s fault at
        spare true p h = let z : ◌≡◌ {A = ℕ} 0 1 = cc in absurd (omega arith)
        spare false p h =
            let w = same_broken h in
            behind r.value (f ∙ ap (whole r.value) w.1) (λ z. eqb-false r.next (length s) p (w.1 ∙ z)) (sym w.0)
    go (Err x) f g = let w = same_broken g in inside (f ∙ ap₂ failed w.0 w.1)

pub failed_fails : (s : List ℕ) (at : ℕ) (fault : Fault) (place : ℕ) → AllBytes s → at ≤ length s → message_at s at ≡ failed fault place
    → Fails message_format s at fault place
unfolding message_at
failed_fails s at fault place b l e = by_format.fails s at fault place b l e

-- what the format finds wrong, the reader tells
failed_told : (s : List ℕ) (fault : Fault) (at : ℕ) → read_at message_format s 0 ≡ failed fault at → exact_message s ≡ broken fault at
unfolding message_at exact_message
failed_told s fault at e = ap (λ (r : Read Message). exactly s r) e

pub group_always : (s : List ℕ) (fault : Fault) (at : ℕ) → AllBytes s → Fails message_format s 0 fault at → exact_message s ≡ broken fault at
group_always s fault at b x = failed_told s fault at (by_format.always s 0 fault at b x)

pub cut_always : (m : Message) (t : List ℕ) → InLimits m → Beginning (message_bytes m) t → (at : ℕ) × (exact_message t ≡ broken Fault.Cut at)
cut_always m t h b =
    let c = by_format.cut (message_bytes m) m [] t (spells m h.0 h.1) b in
    (c.0, failed_told t Fault.Cut c.0 c.1)

pub broken_group : (s : List ℕ) (fault : Fault) (at : ℕ) → AllBytes s → (fault ≡ Fault.Spare → ⊥) → exact_message s ≡ broken fault at → Fails message_format s 0 fault at
broken_group s fault at b d e = go (broke s fault at e)
  where
    go : Broke s fault at → Fails message_format s 0 fault at
    go (inside f) = failed_fails s 0 fault at b (omega arith) f
    go (behind m f n x) = absurd (d x)

pub broken_spare : (s : List ℕ) (at : ℕ) → AllBytes s → exact_message s ≡ broken Fault.Spare at → (m : Message) × InLimits m × (at < length s) × (take at s ≡ message_bytes m)
broken_spare s at b e = go (broke s Fault.Spare at e)
  where
    go : Broke s Fault.Spare at → (m : Message) × InLimits m × (at < length s) × (take at s ≡ message_bytes m)
    go (inside f) = absurd (failed_fails s 0 Fault.Spare at b (omega arith) f).breaks
    go (behind m f n x) =
        let w = message_was_written s 0 m at f b in
        let k : at ≡ at - 0 = omega arith in
        (m, (w.0, omega (arith, w.1)), omega (arith, w.3, n), ap (λ (y : ℕ). take y s) k ∙ w.4)

pub spare_always : (m : Message) (q : List ℕ) → InLimits m → 0 < length q → exact_message (message_bytes m ++ q) ≡ broken Fault.Spare (length (message_bytes m))
spare_always m q h l =
    let s : List ℕ = message_bytes m ++ q in
    let n : length s ≡ length (message_bytes m) + length q = length-append (message_bytes m) q in
    sym (read_exactly s (message_read m [] q h.0 (omega (arith, h.1)) ∙ ap (whole m) (omega arith))) ∙ exactly_more s m (length (message_bytes m)) (λ z. omega arith)
