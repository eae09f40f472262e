-- Inputs and answers: position x is reading low + x of a range, and vertex x of a tree.
use mathlib.Core.Path.{◌≡◌, refl, sym, ap, ◌∙◌, subst₂}
use mathlib.Core.Logic.{◌⊎◌, inl, inr}
use mathlib.Core.Bool.{Bool, true, false}
use Prim.Native.Nat.{ℕ, ◌+◌, ◌-◌, ◌<◌}
use native.Mathlib.Omega.{arith}
use lib.Dec.{leb, ltb, eqb}
use lib.IntN.{ℤ, pos, negsuc}
use borrow.Author.Tests.{eq-eqb, ne_eqb, lt-ltb, le-leb, leb-true, leb-false, eqb-false}
use Rattle.std.specs.Prelude.{Some, None}
use Rattle.base.specs.Limits.{offset_zero}
use Rattle.base.specs.Pick.{pick}
use Rattle.signed.specs.Signed.{from_offset}
use Rattle.plan.specs.Plan.{Plan}
use Rattle.plan.specs.Positions.{reading_of}
use Rattle.level.specs.Level.{no_output}
use Rattle.board_calls.specs.Answers.{on_plan, vertex_of, range_position, position_of, answer_of}
use Rattle.range_as_path.specs.Twin.{TwinPlans, TwinAnswer, nothing, position}

-- where the test holds, the first
chosen : {A : Type 0} (b : Bool) (x y : A) → b ≡ true → pick b x y ≡ x
chosen b x y e = ap (λ (c : Bool). pick c x y) e

other : {A : Type 0} (b : Bool) (x y : A) → b ≡ false → pick b x y ≡ y
other b x y e = ap (λ (c : Bool). pick c x y) e

-- a position below the count is on the plan
pub on_plan_lem : (p : Plan) (x : ℕ) → x < p.count → on_plan p x ≡ x
on_plan_lem p x h = chosen (ltb x p.count) x no_output (lt-ltb x p.count h)

module _ (p : Plan) where
  -- ---- a tree

  pub tree_reading : p.kind ≡ 1 → (x : ℕ) → reading_of p x ≡ pos x
  unfolding reading_of
  tree_reading k x = chosen (eqb p.kind 1) (pos x) (from_offset (p.low + x)) (eq-eqb p.kind 1 k)

  pub tree_position : p.kind ≡ 1 → (x : ℕ) → position_of p (pos x) ≡ on_plan p x
  unfolding position_of
  tree_position k x = chosen (eqb p.kind 1) (vertex_of p (pos x)) (range_position p (pos x)) (eq-eqb p.kind 1 k)

  -- ---- a range

  pub range_reading : p.kind ≡ 2 → (x : ℕ) → reading_of p x ≡ from_offset (p.low + x)
  unfolding reading_of
  range_reading k x = other (eqb p.kind 1) (pos x) (from_offset (p.low + x)) (ne_eqb p.kind 1 (λ z. omega arith))

  offset_position : (u x : ℕ) → u ≡ p.low + x → range_position p (from_offset u) ≡ on_plan p x
  offset_position u x e = go (leb offset_zero u) refl
    where
      go : (b : Bool) → leb offset_zero u ≡ b → range_position p (pick b (pos (u - offset_zero)) (negsuc (offset_zero - 1 - u))) ≡ on_plan p x
      go true i =
          let y : ℕ = u - offset_zero in
          let l = leb-true offset_zero u i in
          chosen (leb p.low (y + offset_zero)) (on_plan p (y + offset_zero - p.low)) no_output (le-leb p.low (y + offset_zero) (omega arith))
          ∙ ap (on_plan p) (omega arith)
      go false i =
          let y : ℕ = offset_zero - 1 - u in
          let l = leb-false offset_zero u i in
          chosen (leb (p.low + (y + 1)) offset_zero) (on_plan p (offset_zero - (y + 1) - p.low)) no_output (le-leb (p.low + (y + 1)) offset_zero (omega arith))
          ∙ ap (on_plan p) (omega arith)

  pub range_position_lem : p.kind ≡ 2 → (x : ℕ) → position_of p (from_offset (p.low + x)) ≡ on_plan p x
  unfolding position_of
  range_position_lem k x =
      other (eqb p.kind 1) (vertex_of p (from_offset (p.low + x))) (range_position p (from_offset (p.low + x))) (ne_eqb p.kind 1 (λ z. omega arith))
      ∙ offset_position (p.low + x) x refl

-- ---- twins

module _ (r q : Plan) (w : TwinPlans r q) where
  -- reading low + x and vertex x are inputs of the same position, or neither is on the plan
  pub twin_input : (x : ℕ) → position_of r (reading_of r x) ≡ position_of q (reading_of q x)
  twin_input x =
      ap (position_of r) (range_reading r w.range x)
      ∙ range_position_lem r w.range x
      ∙ ap (λ (n : ℕ). pick (ltb x n) x no_output) w.count
      ∙ sym (tree_position q w.tree x)
      ∙ ap (position_of q) (sym (tree_reading q w.tree x))

  -- and answers of the same position
  pub twin_answer : (x : ℕ) → (x ≡ no_output) ⊎ (x < r.count) → TwinAnswer r (answer_of r x) (answer_of q x)
  unfolding answer_of
  twin_answer x h = subst₂ (λ (a b : ℤ). TwinAnswer r (pick (eqb x no_output) None (Some a)) (pick (eqb x no_output) None (Some b)))
      (sym (range_reading r w.range x)) (sym (tree_reading q w.tree x)) (go (eqb x no_output) refl h)
    where
      go : (b : Bool) → eqb x no_output ≡ b → (x ≡ no_output) ⊎ (x < r.count)
          → TwinAnswer r (pick b None (Some (from_offset (r.low + x)))) (pick b None (Some (pos x)))
      go true e h = nothing
      go false e (inl i) = absurd (eqb-false x no_output e i)
      go false e (inr l) = position l
