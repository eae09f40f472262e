-- Measures of a party's levels: of the rules and of the messages that can still come. Nothing raises them, and each rule is paid for.
use mathlib.Core.Path.{◌≡◌, refl, sym, subst, subst₂}
use mathlib.Core.Logic.{◌⊎◌, inl, inr}
use mathlib.Core.Bool.{Bool, true, false, ◌||◌}
use Prim.Native.Nat.{ℕ, ◌+◌, ◌*◌, ◌≤◌, ◌<◌}
use native.Mathlib.Nat.{le_refl, le_of_eq}
use native.Mathlib.Decide.{ℕ_discrete}
use native.Mathlib.Omega.{arith}
use lib.Dec.{T, eqb, eqb→eq}
use Rattle.base.specs.Sets.{bit}
use Rattle.message.specs.declared.Body.{Body}
use Rattle.level.specs.Level.{Level, no_output, with_heard, with_entry}
use Rattle.level_laws.proofs.Bounds as Bounds
use Rattle.party.specs.Party.{Party, level_at}
use Rattle.party_bounds.proofs.Sums.{sum, sum_most, sum_le, sum_less}

-- ---- a level without a rule applied to it

-- it is as it was, has heard a message, or was entered, at an output that it had or that is one
pub data Later (l : Level) : Level → Type 0 where
  same : Later l l
  heard : (b : Body) (s : ℕ) → Later l (with_heard l b s)
  entry : (k x out : ℕ) → (out ≡ l.output) ⊎ (out < no_output) → Later l (with_entry l k x out)

-- what can still come at a level, where the next is entered or not
abbrev pub Measure : Type 0
Measure = Bool → Level → ℕ

-- without a rule it does not rise
abbrev pub Fair : Measure → Type 0
Fair M = (next : Bool) (l m : Level) → Later l m → M next m ≤ M next l

output_kept : (l : Level) (out : ℕ) → (out ≡ l.output) ⊎ (out < no_output) → bit (eqb out no_output) ≤ bit (eqb l.output no_output)
output_kept l out (inl e) = subst (λ (x : ℕ). bit (eqb out no_output) ≤ bit (eqb x no_output)) e (le_refl (bit (eqb out no_output)))
output_kept l out (inr h) = go (eqb out no_output) refl
  where
    go : (b : Bool) → eqb out no_output ≡ b → bit b ≤ bit (eqb l.output no_output)
    go true e = let i : out ≡ no_output = eqb→eq out no_output (subst T (sym e) tt) in absurd (omega arith)
    go false e = omega arith

pub rules_fair : Fair Bounds.rules_left
unfolding Bounds.rules_left
rules_fair next l m same = le_refl (Bounds.rules_left next l)
rules_fair next l m (heard b s) = le_of_eq (Bounds.rules_heard next l b s)
rules_fair next l m (entry k x out h) = omega (arith, output_kept l out h)

pub messages_fair : Fair Bounds.messages_left
messages_fair next l m same = le_refl (Bounds.messages_left next l)
messages_fair next l m (heard b s) = le_of_eq (Bounds.messages_heard next l b s)
messages_fair next l m (entry k x out h) = le_of_eq (Bounds.messages_entry next l k x out)

-- ---- all levels together

-- what can still come at the first L levels
unfoldable pub total : Measure → ℕ → Party → ℕ
total M L p = sum L (λ i. M (level_at p (i + 1)).entered (level_at p i))

pub total_most : (M : Measure) (k : ℕ) → ((next : Bool) (l : Level) → M next l ≤ k) → (L : ℕ) (p : Party) → total M L p ≤ k * L
unfolding total
total_most M k h L p = sum_most L k (λ i. M (level_at p (i + 1)).entered (level_at p i)) (λ i. h (level_at p (i + 1)).entered (level_at p i))

-- q is p without a rule; at most level 0 was entered
pub record Aged (p q : Party) : Type 0 where
  pub entered : (i : ℕ) → (level_at q (i + 1)).entered ≡ (level_at p (i + 1)).entered
  pub levels : (i : ℕ) → Later (level_at p i) (level_at q i)

pub total_aged : (M : Measure) → Fair M → (L : ℕ) (p q : Party) → Aged p q → total M L q ≤ total M L p
unfolding total
total_aged M f L p q h =
    sum_le L (λ i. M (level_at q (i + 1)).entered (level_at q i)) (λ i. M (level_at p (i + 1)).entered (level_at p i))
    (λ i. subst (λ (b : Bool). M b (level_at q i) ≤ M (level_at p (i + 1)).entered (level_at p i)) (sym (h.entered i))
    (f (level_at p (i + 1)).entered (level_at p i) (level_at q i) (h.levels i)))

-- q is p after a rule at level i, which left the record m; `enters` says whether it entered the next level
pub record Ruled (p : Party) (i : ℕ) (m : Level) (enters : Bool) (q : Party) : Type 0 where
  pub here : level_at q i ≡ m
  pub next : (level_at q (i + 1)).entered ≡ enters || (level_at p (i + 1)).entered
  pub entered : (j : ℕ) → (j ≡ i + 1 → ⊥) → (level_at q j).entered ≡ (level_at p j).entered
  pub others : (j : ℕ) → (j ≡ i → ⊥) → Later (level_at p j) (level_at q j)

-- what the rule takes from its level's measure, it takes from the whole
pub total_ruled : (M : Measure) → Fair M → (L : ℕ) (p : Party) (i : ℕ) (m : Level) (enters : Bool) (q : Party) → Ruled p i m enters q → i < L → (d : ℕ)
    → M (enters || (level_at p (i + 1)).entered) m + d ≤ M (level_at p (i + 1)).entered (level_at p i) → total M L q + d ≤ total M L p
unfolding total
total_ruled M f L p i m enters q h l d paid = sum_less L after before i d l at_level (λ j. at j (ℕ_discrete j i))
  where
    before : ℕ → ℕ
    before j = M (level_at p (j + 1)).entered (level_at p j)

    after : ℕ → ℕ
    after j = M (level_at q (j + 1)).entered (level_at q j)

    at_level : after i + d ≤ before i
    at_level = subst₂ (λ (b : Bool) (x : Level). M b x + d ≤ before i) (sym h.next) (sym h.here) paid

    at : (j : ℕ) → Dec (j ≡ i) → after j ≤ before j
    at j (yes e) = subst (λ (x : ℕ). after x ≤ before x) (sym e) (omega (arith, at_level))
    at j (no k) =
        subst (λ (b : Bool). M b (level_at q j) ≤ before j) (sym (h.entered (j + 1) (λ e. k (omega arith))))
        (f (level_at p (j + 1)).entered (level_at p j) (level_at q j) (h.others j k))
