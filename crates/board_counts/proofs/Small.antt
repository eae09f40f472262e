-- The answer of a party that passes question 19 is a reading of a plan.
use mathlib.Core.Path.{◌≡◌, sym, ◌∙◌, subst}
use mathlib.Core.Logic.{inl, inr}
use mathlib.Core.Bool.{Bool, true, false}
use Prim.Native.Nat.{ℕ, ◌+◌, ◌-◌, ◌^◌, ◌<◌}
use native.Mathlib.Omega.{arith}
use lib.Dec.{T, leb, eqb}
use lib.IntN.{ℤ, pos, negsuc}
use lib.Signed.{mag}
use borrow.Author.Tests.{eq-eqb, ne_eqb}
use Rattle.std.specs.Prelude.{Some, None}
use Rattle.base.specs.Pick.{pick}
use Rattle.base.specs.Limits.{offset_zero}
use Rattle.signed.specs.Signed.{from_offset}
use Rattle.plan.specs.Plan.{Plan}
use Rattle.plan.specs.Positions.{reading_of}
use Rattle.plan.specs.Valid.{plan_valid}
use Rattle.plan_laws.proofs.Parts.{tree_parts, range_parts}
use Rattle.plan_laws.proofs.Shape.{Kinds, tree, range, kinds}
use Rattle.level.specs.Level.{no_output}
use Rattle.party.specs.Party.{Party, output_of}
use Rattle.party.specs.Valid.{party_valid}
use Rattle.party_laws.proofs.Valid.{Output, valid→}
use Rattle.board_calls.specs.Answers.{answer_of}
use Rattle.board_calls.specs.Calls.{answered_of}
use Rattle.board_laws.proofs.Counts.{answered_valid}
use Rattle.board_counts.specs.Inner.{Small}

offset_small : (u : ℕ) → u < 2 ^ 33 → mag (from_offset u) < 2 ^ 33
offset_small u h = go (leb offset_zero u)
  where
    go : (b : Bool) → mag (pick b (pos (u - offset_zero)) (negsuc (offset_zero - 1 - u))) < 2 ^ 33
    go true = omega arith
    go false = omega arith

module _ (q : Plan) (v : T (plan_valid q)) (x : ℕ) where
  reading_small : x < q.count → mag (reading_of q x) < 2 ^ 33
  unfolding reading_of
  reading_small h = go (kinds q v)
    where
      Reads : Bool → Type 0
      Reads b = mag (pick b (pos x) (from_offset (q.low + x))) < 2 ^ 33

      go : Kinds q → Reads (eqb q.kind 1)
      go (tree k t) = subst Reads (sym (eq-eqb q.kind 1 k)) (omega (arith, (tree_parts q t).most))
      go (range k t) = subst Reads (sym (ne_eqb q.kind 1 (λ e. omega arith))) (offset_small (q.low + x) (omega (arith, (range_parts q t).high)))

  answer_small : Output q.count x → Small (answer_of q x)
  unfolding answer_of
  answer_small (inl e) y i = let n : None ≡ Some y = sym (rw (eq-eqb x no_output e)) ∙ i in let z : ◌≡◌ {A = ℕ} 0 1 = cc in absurd (omega arith)
  answer_small (inr h) y i = go (eqb x no_output) i
    where
      go : (b : Bool) → pick b None (Some (reading_of q x)) ≡ Some y → mag y < 2 ^ 33
      go true i = let z : ◌≡◌ {A = ℕ} 0 1 = cc in absurd (omega arith)
      go false i = let e : reading_of q x ≡ y = cc in subst (λ (z : ℤ). mag z < 2 ^ 33) e (reading_small h)

pub answered_small : (p : Party) → T (party_valid p) → Small (answered_of p).answer
answered_small p v y i =
    let w = valid→ p v in
    answer_small p.plan w.plan (output_of p) (w.holds 0 (omega arith)).output y (sym (answered_valid p v) ∙ i)
