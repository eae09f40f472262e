-- The choices of rule 8 and their grades.
use mathlib.Core.Path.{◌≡◌, refl, sym, ap, ◌∙◌}
use mathlib.Core.Bool.{Bool, true, false, not, ◌&&◌}
use Prim.Native.Nat.{ℕ, ◌+◌, ◌≤◌, ◌<◌}
use native.Mathlib.Omega.{arith}
use borrow.Author.Tests.{le-leb, eq-eqb, ne_eqb}
use lib.Dec.{leb, ltb, eqb, leb→le}
use Rattle.std.specs.Prelude.{Option, Some, None}
use Rattle.std.proofs.lemmas.Option.{none-some, same_Some}
use Rattle.base.specs.Limits.{max_degree}
use Rattle.base.specs.Pick.{pick, smallest}
use Rattle.base.specs.Sets.{Set, count}
use Rattle.base.proofs.Bools.{true→T}
use Rattle.base.proofs.Counts.{member}
use Rattle.base.proofs.Smallest.{found}
use Rattle.message.specs.Message.{none_value}
use Rattle.level_counts.specs.Choice.{candidate, first_value}
use Rattle.level_counts_second_result.specs.declared.Graded.{Graded}
use Rattle.level_counts_second_result.specs.Inner.{graded, sure_or}

-- a candidate is sure where it is a value
sure_value : (d i : ℕ) → d ≤ max_degree → graded (candidate d i) (not (eqb (candidate d i) none_value)) ≡ graded (candidate d i) (leb i d)
sure_value d i h = go (leb i d) refl
  where
    go : (b : Bool) → leb i d ≡ b → graded (pick b i none_value) (not (eqb (pick b i none_value) none_value)) ≡ graded (pick b i none_value) b
    go true e = let l = leb→le i d (true→T e) in let n : i ≡ none_value → ⊥ = λ q. absurd (omega arith) in rw (ne_eqb i none_value n)
    go false e = refl

module _ (d i : ℕ) (o : Option Graded) where
  pub sure_there : (w : ℕ) → d ≤ max_degree → Some w ≡ pick (ltb i (d + 2)) (Some (candidate d i)) None → Some (graded w (not (eqb w none_value))) ≡ sure_or d i o
  sure_there w h = go (ltb i (d + 2))
    where
      go : (b : Bool) → Some w ≡ pick b (Some (candidate d i)) None → Some (graded w (not (eqb w none_value))) ≡ pick b (Some (graded (candidate d i) (leb i d))) o
      go true e = ap (λ (x : ℕ). Some (graded x (not (eqb x none_value)))) (same_Some w (candidate d i) e) ∙ ap (λ (g : Graded). Some g) (sure_value d i h)
      go false e = absurd (none-some w (sym e))

  pub sure_missing : None ≡ pick (ltb i (d + 2)) (Some (candidate d i)) None → o ≡ sure_or d i o
  sure_missing = go (ltb i (d + 2))
    where
      go : (b : Bool) → None ≡ pick b (Some (candidate d i)) None → o ≡ pick b (Some (graded (candidate d i) (leb i d))) o
      go true e = absurd (none-some (candidate d i) e)
      go false e = refl

-- where one value passes, the smallest that passes is there
pub one_there : (d : ℕ) (p : Set) → count (d + 1) p ≡ 1 → first_value d p ≡ Some (smallest (d + 1) p)
one_there d p e =
    let m = member (d + 1) p (omega arith) in
    let f = found (d + 1) p m.0 m.1 m.2 in
    rw (le-leb (smallest (d + 1) p) d (omega (arith, f.1)))
