-- Laws of halving.
use mathlib.Core.Path.{◌≡◌, refl, sym, ap, ◌∙◌}
use Prim.Native.Nat.{ℕ, zero, suc, ◌+◌, ◌*◌, ◌/◌, ◌^◌, ◌≤◌, ◌<◌}
use native.Mathlib.Nat.{pow-suc}
use native.Mathlib.Decide.{dec_le}
use native.Mathlib.Omega.{arith}
use lib.Dec.{leb, leb→le, le→leb}
use Rattle.base.specs.Limits.{max_width, sending_levels, last_level}
use Rattle.base.proofs.Bools.{T→true, not-T→false}
use Rattle.plan_levels.specs.Inner.{halvings}

-- three or more are halved
pub halvings_three : (f s : ℕ) → 3 ≤ s → halvings (suc f) s ≡ suc (halvings f (s / 2))
unfolding halvings
halvings_three f s three = rw (T→true (leb 3 s) (le→leb 3 s three))

-- fewer are not
pub halvings_few : (f s : ℕ) → s < 3 → halvings f s ≡ 0
unfolding halvings
halvings_few zero s few = refl
halvings_few (suc f) s few = rw (not-T→false (leb 3 s) (λ h. omega (arith, leb→le 3 s h)))

-- f times at most
pub halvings_most : (f s : ℕ) → halvings f s ≤ f
unfolding halvings
halvings_most zero s = omega arith
halvings_most (suc f) s = go (dec_le 3 s) (halvings_most f (s / 2))
  where
    go : Dec (3 ≤ s) → halvings f (s / 2) ≤ f → halvings (suc f) s ≤ suc f
    go (yes three) ih = omega (arith, halvings_three f s three)
    go (no few) ih = omega (arith, halvings_few (suc f) s (omega arith))

-- a larger number is not halved less often
pub halvings_rise : (f s t : ℕ) → s ≤ t → halvings f s ≤ halvings f t
unfolding halvings
halvings_rise zero s t l = omega arith
halvings_rise (suc f) s t l = go (dec_le 3 s) (halvings_rise f (s / 2) (t / 2) (omega arith))
  where
    go : Dec (3 ≤ s) → halvings f (s / 2) ≤ halvings f (t / 2) → halvings (suc f) s ≤ halvings (suc f) t
    go (yes three) ih = omega (arith, halvings_three f s three, halvings_three f t (omega arith))
    go (no few) ih = omega (arith, halvings_few (suc f) s (omega arith))

-- below 3 · 2 ^ f the bound f is not met
halvings_enough : (f s : ℕ) → s < 3 * 2 ^ f → halvings (suc f) s ≡ halvings f s
halvings_enough zero s l = halvings_few 1 s (omega arith) ∙ sym (halvings_few 0 s (omega arith))
halvings_enough (suc f) s l = go (dec_le 3 s) (halvings_enough f (s / 2) (omega (arith, pow-suc 2 f)))
  where
    go : Dec (3 ≤ s) → halvings (suc f) (s / 2) ≡ halvings f (s / 2) → halvings (suc (suc f)) s ≡ halvings (suc f) s
    go (yes three) ih = halvings_three (suc f) s three ∙ ap suc ih ∙ sym (halvings_three f s three)
    go (no few) ih = halvings_few (suc (suc f)) s (omega arith) ∙ sym (halvings_few (suc f) s (omega arith))

-- so of all positions of a range one halving is counted, and those of what is left, with the same bound
pub halvings_next : (s : ℕ) → 3 ≤ s → s ≤ max_width + 1 → halvings sending_levels s ≡ suc (halvings sending_levels (s / 2))
halvings_next s three most = halvings_three last_level s three ∙ ap suc (sym (halvings_enough last_level (s / 2) (omega arith)))
