-- The count g × y of a step, and half a step beside it: small, and what the machine computes of them.
use mathlib.Core.Path.{◌≡◌, refl, sym, ap₂, ◌∙◌, subst}
use mathlib.Core.Bool.{Bool, true, false, not, cond}
use Prim.Native.Nat.{ℕ, ◌*◌, ◌/◌, ◌^◌, ◌≤◌, ◌<◌}
use native.Mathlib.Nat.{mul-le-mul}
use native.Mathlib.Decide.{dec_lt}
use native.Mathlib.Omega.{arith}
use borrow.Author.Tests.{lt-ltb, le-ltb, lt-leb, le-leb}
use Rattle.std.specs.Int.{int_min, int_max}
use lib.Dec.{T, leb, ltb}
use lib.IntN.{ℤ, pos, negsuc, neg_ℤ, nat_abs, ◌+ℤ◌, ◌-ℤ◌, ◌*ℤ◌}
use lib.Signed.{le_z, lt_z, mag, nat_abs-le}
use mir.Syntax.{w64}
use mir.Val.{SFits, to_z, of_z}
use mir.ValLaws.{to_z-of_z}
use Rattle.base.specs.Pick.{pick}
use Rattle.rounding.specs.Rounding.{size_passes, lesser, greater, count_answer}
use Rattle.integers.proofs.Magnitudes.{nat_abs_neg, nat_abs_add, nat_abs_times}
use Rattle.integers.proofs.Signs.{small_fits, is_back}
use Rattle.rounding.proofs.Steps.{most}

abbrev product : ℕ → ℤ → ℤ
product g y = to_z w64 (of_z w64 (pos g)) *ℤ to_z w64 (of_z w64 y)

abbrev sum : ℕ → ℤ → ℕ → ℤ
sum g y h = to_z w64 (of_z w64 (product g y)) +ℤ to_z w64 (of_z w64 (pos h))

abbrev difference : ℕ → ℤ → ℕ → ℤ
difference g y h = to_z w64 (of_z w64 (product g y)) -ℤ to_z w64 (of_z w64 (pos h))

-- one of two numbers that fit
picked_fits : (t : Bool) {a b : ℤ} → SFits w64 a → SFits w64 b → SFits w64 (pick t a b)
picked_fits true fa fb = fa
picked_fits false fa fb = fb

module _ (g : ℕ) (y : ℤ) (p : T (size_passes g)) (q : mag y < 2 ^ 33) where
  size : nat_abs (pos g *ℤ y) ≤ 1000 * 2 ^ 33
  size = rw (nat_abs_times g y) (mul-le-mul (most g p) (nat_abs-le y q))

  fits_y : SFits w64 y
  fits_y = record { sfits = omega arith }

  product_is : product g y ≡ pos g *ℤ y
  product_is = ap₂ ◌*ℤ◌ (to_z-of_z w64 (pos g) (record { sfits = omega (arith, most g p) })) (to_z-of_z w64 y fits_y)

  product_back : to_z w64 (of_z w64 (product g y)) ≡ pos g *ℤ y
  product_back = is_back w64 (product g y) product_is (omega (arith, size))

  -- a number h beside it, of at most a step
  module _ (h : ℕ) (l : h ≤ g) where
    sum_size : nat_abs (pos g *ℤ y +ℤ pos h) < 2 ^ 63
    sum_size = omega (arith, nat_abs_add (pos g *ℤ y) (pos h), size, most g p)

    difference_size : nat_abs (pos g *ℤ y -ℤ pos h) < 2 ^ 63
    difference_size = omega (arith, nat_abs_add (pos g *ℤ y) (neg_ℤ (pos h)), nat_abs_neg (pos h), size, most g p)

    beside : to_z w64 (of_z w64 (pos h)) ≡ pos h
    beside = to_z-of_z w64 (pos h) (record { sfits = omega (arith, most g p) })

    sum_back : to_z w64 (of_z w64 (sum g y h)) ≡ pos g *ℤ y +ℤ pos h
    sum_back = is_back w64 (sum g y h) (ap₂ ◌+ℤ◌ product_back beside) sum_size

    difference_back : to_z w64 (of_z w64 (difference g y h)) ≡ pos g *ℤ y -ℤ pos h
    difference_back = is_back w64 (difference g y h) (ap₂ ◌-ℤ◌ product_back beside) difference_size

-- ---- std's lesser and greater are the definitions'

le_flip : (a b : ℕ) → leb a b ≡ not (ltb b a)
le_flip a b = go (dec_lt b a)
  where
    go : Dec (b < a) → leb a b ≡ not (ltb b a)
    go (yes l) = rw (lt-ltb b a l, lt-leb a b l) refl
    go (no l) = let h : a ≤ b = omega arith in rw (le-ltb b a h, le-leb a b h) refl

z_flip : (a b : ℤ) → le_z a b ≡ not (lt_z b a)
z_flip (pos a) (pos b) = le_flip a b
z_flip (pos a) (negsuc b) = refl
z_flip (negsuc a) (pos b) = refl
z_flip (negsuc a) (negsuc b) = le_flip b a

min_lesser : (a b : ℤ) → int_min a b ≡ lesser a b
min_lesser a b = rw (z_flip a b) (go (lt_z b a))
  where
    go : (t : Bool) → cond t b a ≡ pick (not t) a b
    go true = refl
    go false = refl

max_greater : (a b : ℤ) → int_max a b ≡ greater a b
max_greater a b = rw (z_flip a b) (go (lt_z b a))
  where
    go : (t : Bool) → cond t a b ≡ pick (not t) b a
    go true = refl
    go false = refl

-- ---- the answer's two cases

answer_below : (g : ℕ) (c y : ℤ) → le_z (pos g *ℤ y) c ≡ true → lesser (pos g *ℤ y +ℤ pos (g / 2)) c ≡ count_answer g c y
unfolding count_answer
answer_below g c y e = rw e

answer_above : (g : ℕ) (c y : ℤ) → le_z (pos g *ℤ y) c ≡ false → greater (pos g *ℤ y -ℤ pos (g / 2)) c ≡ count_answer g c y
unfolding count_answer
answer_above g c y e = rw e

module _ (g : ℕ) (n y : ℤ) (p : T (size_passes g)) (q : mag y < 2 ^ 33) (f : SFits w64 n) where
  half : g / 2 ≤ g
  half = omega arith

  tested : {t : Bool} → le_z (to_z w64 (of_z w64 (product g y))) (to_z w64 (of_z w64 n)) ≡ t → le_z (pos g *ℤ y) n ≡ t
  tested h = sym (ap₂ le_z (product_back g y p q) (to_z-of_z w64 n f)) ∙ h

  pub below : le_z (to_z w64 (of_z w64 (product g y))) (to_z w64 (of_z w64 n)) ≡ true → {r : ℤ}
      → r ≡ int_min (to_z w64 (of_z w64 (sum g y (g / 2)))) (to_z w64 (of_z w64 n)) → to_z w64 (of_z w64 r) ≡ count_answer g n y
  below h {r} e =
      let v : r ≡ lesser (pos g *ℤ y +ℤ pos (g / 2)) n = e ∙ min_lesser (to_z w64 (of_z w64 (sum g y (g / 2)))) (to_z w64 (of_z w64 n)) ∙ ap₂ lesser (sum_back g y p q (g / 2) half) (to_z-of_z w64 n f) in
      to_z-of_z w64 r (subst (SFits w64) (sym v) (picked_fits (le_z (pos g *ℤ y +ℤ pos (g / 2)) n) (small_fits w64 _ (sum_size g y p q (g / 2) half)) f))
      ∙ v ∙ answer_below g n y (tested h)

  pub above : le_z (to_z w64 (of_z w64 (product g y))) (to_z w64 (of_z w64 n)) ≡ false → {r : ℤ}
      → r ≡ int_max (to_z w64 (of_z w64 (difference g y (g / 2)))) (to_z w64 (of_z w64 n)) → to_z w64 (of_z w64 r) ≡ count_answer g n y
  above h {r} e =
      let v : r ≡ greater (pos g *ℤ y -ℤ pos (g / 2)) n = e ∙ max_greater (to_z w64 (of_z w64 (difference g y (g / 2)))) (to_z w64 (of_z w64 n)) ∙ ap₂ greater (difference_back g y p q (g / 2) half) (to_z-of_z w64 n f) in
      to_z-of_z w64 r (subst (SFits w64) (sym v) (picked_fits (le_z (pos g *ℤ y -ℤ pos (g / 2)) n) f (small_fits w64 _ (difference_size g y p q (g / 2) half))))
      ∙ v ∙ answer_above g n y (tested h)
