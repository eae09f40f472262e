-- Positions of inputs and readings of positions, case by case.
use mathlib.Core.Path.{◌≡◌, refl, sym, ap, ◌∙◌}
use mathlib.Core.Bool.{Bool, true, false}
use Prim.Native.Nat.{ℕ, ◌+◌, ◌-◌, ◌^◌, ◌≤◌, ◌<◌}
use native.Mathlib.Decide.{dec_le}
use native.Mathlib.Omega.{arith}
use lib.Dec.{T, leb, ltb, eqb}
use lib.IntN.{ℤ, pos, negsuc, ◌+ℤ◌, ◌-ℤ◌}
use borrow.Author.Tests.{ltb-true, lt-ltb, le-ltb, le-leb, lt-leb, eq-eqb, ne_eqb}
use mir.Syntax.{w64}
use mir.Val.{SFits}
use Rattle.std.specs.Prelude.{Some, None}
use Rattle.std.proofs.lemmas.Int.{ints}
use Rattle.base.specs.Limits.{offset_zero}
use Rattle.base.specs.Pick.{pick}
use Rattle.signed.specs.Signed.{from_offset}
use Rattle.plan.specs.Plan.{Plan}
use Rattle.plan.specs.Positions.{reading_of}
use Rattle.plan_laws.proofs.Shape.{shape}
use Rattle.level.specs.Level.{no_output}
use Rattle.party.specs.Party.{Party}
use Rattle.party.specs.Valid.{party_valid}
use Rattle.party_laws.proofs.Valid.{valid→}
use Rattle.board_calls.specs.Answers.{on_plan, vertex_of, range_position, position_of, answer_of}

-- ---- the position of an input

on : (p : Plan) (x : ℕ) → x < p.count → x ≡ on_plan p x
on p x h = rw (lt-ltb x p.count h)

-- what does not fit 64 bits is no position
pub far : (p : Plan) (x : ℤ) → p.count < 2 ^ 32 → (SFits w64 x → ⊥) → no_output ≡ vertex_of p x
far p (negsuc x) h f = refl
far p (pos x) h f = go (dec_le p.count x)
  where
    go : Dec (p.count ≤ x) → no_output ≡ on_plan p x
    go (yes i) = sym (rw (le-ltb x p.count i))
    go (no i) = absurd (f (record { sfits = omega arith }))

-- reading z of a range is at the vertex z + 2^31 - low of a tree of as many positions
pub shifted : (p : Plan) (z x : ℤ) → x ≡ z +ℤ (pos offset_zero -ℤ pos p.low) → vertex_of p x ≡ range_position p z
shifted p (pos a) (pos x) e =
    let h : p.low ≤ a + offset_zero = omega (arith, ints) in
    let i : x ≡ a + offset_zero - p.low = omega (arith, ints) in
    ap (on_plan p) i ∙ sym (rw (le-leb p.low (a + offset_zero) h))
shifted p (pos a) (negsuc x) e = let h : a + offset_zero < p.low = omega (arith, ints) in sym (rw (lt-leb p.low (a + offset_zero) h))
shifted p (negsuc a) (pos x) e =
    let h : p.low + (a + 1) ≤ offset_zero = omega (arith, ints) in
    let i : x ≡ offset_zero - (a + 1) - p.low = omega (arith, ints) in
    ap (on_plan p) i ∙ sym (rw (le-leb (p.low + (a + 1)) offset_zero h))
shifted p (negsuc a) (negsuc x) e = let h : offset_zero < p.low + (a + 1) = omega (arith, ints) in sym (rw (lt-leb (p.low + (a + 1)) offset_zero h))

module _ (p : Plan) (z : ℤ) where
  pub of_tree : p.kind ≡ 1 → vertex_of p z ≡ position_of p z
  unfolding position_of
  of_tree e = rw (eq-eqb p.kind 1 e)

  pub of_range : (p.kind ≡ 1 → ⊥) → range_position p z ≡ position_of p z
  unfolding position_of
  of_range e = rw (ne_eqb p.kind 1 e)

-- a position that is found is on the plan
module _ (p : Plan) where
  abbrev Placed : ℕ → Type 0
  Placed x = (x ≡ no_output → ⊥) → x < p.count

  placed_on : (x : ℕ) → Placed (on_plan p x)
  placed_on x = go (ltb x p.count) refl
    where
      go : (b : Bool) → ltb x p.count ≡ b → Placed (pick b x no_output)
      go true e h = ltb-true x p.count e
      go false e h = absurd (h refl)

  placed_pick : (b : Bool) (x : ℕ) → Placed x → Placed (pick b x no_output)
  placed_pick true x h = h
  placed_pick false x h = λ d. absurd (d refl)

  placed_vertex : (z : ℤ) → Placed (vertex_of p z)
  placed_vertex (pos x) = placed_on x
  placed_vertex (negsuc x) = λ d. absurd (d refl)

  placed_range : (z : ℤ) → Placed (range_position p z)
  placed_range (pos x) = placed_pick (leb p.low (x + offset_zero)) (on_plan p (x + offset_zero - p.low)) (placed_on (x + offset_zero - p.low))
  placed_range (negsuc x) =
      placed_pick (leb (p.low + (x + 1)) offset_zero) (on_plan p (offset_zero - (x + 1) - p.low)) (placed_on (offset_zero - (x + 1) - p.low))

  pub position_on : (z : ℤ) → (position_of p z ≡ no_output → ⊥) → position_of p z < p.count
  unfolding position_of
  position_on z = go (eqb p.kind 1)
    where
      go : (b : Bool) → Placed (pick b (vertex_of p z) (range_position p z))
      go true = placed_vertex z
      go false = placed_range z

-- a position of a board's plan is not the number that stands for none
pub no_none : (p : Party) → T (party_valid p) → (x : ℕ) → x < p.plan.count → x ≡ no_output → ⊥
no_none p v x h e = omega (arith, (shape p.plan (valid→ p v).plan).most)

-- ---- the input of a position

-- a number kept in offset binary
offset_back : (u : ℕ) → pos u -ℤ pos offset_zero ≡ from_offset u
offset_back u = go (dec_le offset_zero u)
  where
    go : Dec (offset_zero ≤ u) → pos u -ℤ pos offset_zero ≡ from_offset u
    go (yes h) = rw (le-leb offset_zero u h) (omega (arith, ints))
    go (no h) = rw (lt-leb offset_zero u (omega arith)) (omega (arith, ints))

-- The position of a position's reading is that position.
pub reading_position : (p : Plan) (x : ℕ) → x < p.count → position_of p (reading_of p x) ≡ x
unfolding position_of reading_of
reading_position p x h = go (eqb p.kind 1)
  where
    go : (b : Bool) → pick b (vertex_of p (pick b (pos x) (from_offset (p.low + x)))) (range_position p (pick b (pos x) (from_offset (p.low + x)))) ≡ x
    go true = sym (on p x h)
    go false =
        let e : pos x ≡ from_offset (p.low + x) +ℤ (pos offset_zero -ℤ pos p.low) = omega (arith, ints, offset_back (p.low + x)) in
        sym (on p x h ∙ shifted p (from_offset (p.low + x)) (pos x) e)

-- ---- the answer at a position

-- a reading fits 64 bits
pub offset_fits : (u : ℕ) → u < 2 ^ 33 → SFits w64 (from_offset u)
offset_fits u h = go (leb offset_zero u)
  where
    go : (b : Bool) → SFits w64 (pick b (pos (u - offset_zero)) (negsuc (offset_zero - 1 - u)))
    go true = record { sfits = omega arith }
    go false = record { sfits = omega arith }

module _ (p : Plan) (x : ℕ) where
  pub no_answer : x ≡ no_output → None ≡ answer_of p x
  unfolding answer_of
  no_answer e = rw (eq-eqb x no_output e)

  module _ (h : x ≡ no_output → ⊥) where
    pub tree_answer : p.kind ≡ 1 → Some (pos x) ≡ answer_of p x
    unfolding answer_of reading_of
    tree_answer e = rw (ne_eqb x no_output h, eq-eqb p.kind 1 e)

    pub range_answer : (p.kind ≡ 1 → ⊥) → Some (pos (p.low + x) -ℤ pos offset_zero) ≡ answer_of p x
    unfolding answer_of reading_of
    range_answer e = ap Some (offset_back (p.low + x)) ∙ rw (ne_eqb x no_output h, ne_eqb p.kind 1 e)
