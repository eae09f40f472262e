-- The position of an input stands for it.
use mathlib.Core.Path.{◌≡◌, refl, ap, ◌∙◌}
use mathlib.Core.Bool.{Bool, true, false}
use Prim.Native.Nat.{ℕ, ◌+◌, ◌-◌}
use native.Mathlib.Omega.{arith}
use lib.Dec.{leb, ltb, eqb}
use lib.IntN.{ℤ, pos, negsuc}
use borrow.Author.Tests.{le-leb, lt-leb, leb-true}
use Rattle.base.specs.Limits.{offset_zero}
use Rattle.base.specs.Pick.{pick}
use Rattle.signed.specs.Signed.{from_offset}
use Rattle.plan.specs.Plan.{Plan}
use Rattle.plan.specs.Positions.{reading_of}
use Rattle.level.specs.Level.{no_output}
use Rattle.board_calls.specs.Answers.{on_plan, vertex_of, range_position, position_of}

module _ (p : Plan) where
  -- x is a position of z, or none
  abbrev Means : ℤ → (ℕ → ℤ) → ℕ → Type 0
  Means z f x = (x ≡ no_output → ⊥) → f x ≡ z

  on_means : (z : ℤ) (f : ℕ → ℤ) (x : ℕ) → f x ≡ z → Means z f (on_plan p x)
  on_means z f x e = go (ltb x p.count)
    where
      go : (b : Bool) → Means z f (pick b x no_output)
      go true d = e
      go false d = absurd (d refl)

  vertex_means : (z : ℤ) → Means z pos (vertex_of p z)
  vertex_means (pos x) = on_means (pos x) pos x refl
  vertex_means (negsuc x) = λ d. absurd (d refl)

  range_means : (z : ℤ) → Means z (λ x. from_offset (p.low + x)) (range_position p z)
  range_means (pos x) = go (leb p.low (x + offset_zero)) refl
    where
      go : (b : Bool) → leb p.low (x + offset_zero) ≡ b → Means (pos x) (λ y. from_offset (p.low + y)) (pick b (on_plan p (x + offset_zero - p.low)) no_output)
      go true e =
          let l = leb-true p.low (x + offset_zero) e in
          let u : p.low + (x + offset_zero - p.low) ≡ x + offset_zero = omega arith in
          on_means (pos x) (λ y. from_offset (p.low + y)) (x + offset_zero - p.low)
          (ap from_offset u
          ∙ ap (λ (b : Bool). pick b (pos (x + offset_zero - offset_zero)) (negsuc (offset_zero - 1 - (x + offset_zero)))) (le-leb offset_zero (x + offset_zero) (omega arith))
          ∙ ap pos (let g : x + offset_zero - offset_zero ≡ x = omega arith in g))
      go false e = λ d. absurd (d refl)
  range_means (negsuc x) = go (leb (p.low + (x + 1)) offset_zero) refl
    where
      go : (b : Bool) → leb (p.low + (x + 1)) offset_zero ≡ b → Means (negsuc x) (λ y. from_offset (p.low + y)) (pick b (on_plan p (offset_zero - (x + 1) - p.low)) no_output)
      go true e =
          let l = leb-true (p.low + (x + 1)) offset_zero e in
          let u : p.low + (offset_zero - (x + 1) - p.low) ≡ offset_zero - 1 - x = omega arith in
          on_means (negsuc x) (λ y. from_offset (p.low + y)) (offset_zero - (x + 1) - p.low)
          (ap from_offset u
          ∙ ap (λ (b : Bool). pick b (pos (offset_zero - 1 - x - offset_zero)) (negsuc (offset_zero - 1 - (offset_zero - 1 - x)))) (lt-leb offset_zero (offset_zero - 1 - x) (omega arith))
          ∙ ap negsuc (let g : offset_zero - 1 - (offset_zero - 1 - x) ≡ x = omega arith in g))
      go false e = λ d. absurd (d refl)

  -- the reading of an input's position is the input
  pub position_reading : (z : ℤ) → (position_of p z ≡ no_output → ⊥) → reading_of p (position_of p z) ≡ z
  unfolding position_of reading_of
  position_reading z = go (eqb p.kind 1)
    where
      go : (b : Bool) → Means z (λ x. pick b (pos x) (from_offset (p.low + x))) (pick b (vertex_of p z) (range_position p z))
      go true = vertex_means z
      go false = range_means z
