-- What a message taken adds to what was heard: its sender, and no one else.
use mathlib.Core.Path.{◌≡◌, sym, ap, subst}
use mathlib.Core.Logic.{◌⊎◌, inl, inr}
use mathlib.Core.Bool.{◌&&◌}
use mathlib.Core.List.{List}
use Prim.Native.Nat.{ℕ}
use native.Mathlib.Omega.{arith}
use lib.Dec.{T, eqb, eqb→eq}
use lib.ListN.{get_or, set}
use lib.Seq.{get_or-set_same}
use Rattle.base.proofs.Bools.{T_and, T-left, T-right, T→true, or_split}
use Rattle.message.specs.Message.{body_in_table}
use Rattle.message.specs.declared.Body.{Body}
use Rattle.senders.specs.Senders.{is_in, with_sender}
use Rattle.senders.proofs.Laws.{in_with, with_new}
use Rattle.level.specs.Level.{Level, senders, slot, with_heard}
use Rattle.level_counts.proofs.Slots.{slot_lt}
use Rattle.level_counts.proofs.Slots.{slot_one}
use Rattle.level_laws.specs.Inner.{Heard, heard_from}
use Rattle.level_laws.proofs.Grows.{store_cases, Unmoved}

-- what was heard after b was taken from s was heard before, or is that
pub taken_back : (l : Level) (b : Body) (s : ℕ) → T (body_in_table b) → (x : Body) (j : ℕ) → T (heard_from (with_heard l b s) x j)
    → T (heard_from l x j) ⊎ ((x ≡ b) × (j ≡ s))
unfolding with_heard senders
taken_back l b s t x j h =
    store_cases l.sets (slot b) (slot x) (with_sender (get_or l.sets (slot b) 0) s) (λ m. T (is_in m j) → T (heard_from l x j) ⊎ ((x ≡ b) × (j ≡ s)))
    (λ p. inl (T_and (body_in_table x) (is_in (get_or l.sets (slot x) 0) j) i p))
    (λ e p. new e (or_split (is_in (get_or l.sets (slot b) 0) j) (eqb j s) (subst T (in_with (get_or l.sets (slot b) 0) s j) p)))
    (T-right (body_in_table x) (is_in (get_or (set l.sets (slot b) (with_sender (get_or l.sets (slot b) 0) s)) (slot x) 0) j) h)
  where
    i : T (body_in_table x)
    i = T-left (body_in_table x) (is_in (senders (with_heard l b s) x) j) h

    new : slot b ≡ slot x → T (is_in (get_or l.sets (slot b) 0) j) ⊎ T (eqb j s) → T (heard_from l x j) ⊎ ((x ≡ b) × (j ≡ s))
    new e (inl p) = inl (T_and (body_in_table x) (is_in (senders l x) j) i (subst (λ (z : ℕ). T (is_in (get_or l.sets z 0) j)) e p))
    new e (inr p) = inr (slot_one x b i t (sym e), eqb→eq j s p)

-- and that is heard
pub taken_heard : (n : ℕ) (l : Level) (b : Body) (s : ℕ) → Heard n l → T (body_in_table b) → T (heard_from (with_heard l b s) b s)
unfolding with_heard senders
taken_heard n l b s h t =
    T_and (body_in_table b) (is_in (senders (with_heard l b s) b) s) t
    (subst (λ (m : ℕ). T (is_in m s)) (sym (get_or-set_same l.sets (slot b) (with_sender (get_or l.sets (slot b) 0) s) 0 (omega (arith, slot_lt b (T→true (body_in_table b) t), h.slots))))
    (with_new (get_or l.sets (slot b) 0) s))

-- a rule leaves what was heard as it is
pub heard_unmoved : (l m : Level) → Unmoved l m → (b : Body) (s : ℕ) → heard_from m b s ≡ heard_from l b s
unfolding senders
heard_unmoved l m u b s = ap (λ (x : List ℕ). body_in_table b && is_in (get_or x (slot b) 0) s) u.sets
