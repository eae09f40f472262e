-- Every position of a plan has an input that a start accepts: "A start takes a vertex or, for a range, a signed reading".
use mathlib.Core.Path.{◌≡◌, sym, subst}
use mathlib.Core.Bool.{Bool}
use Prim.Native.Nat.{ℕ, ◌+◌, ◌≤◌, ◌<◌}
use native.Mathlib.Omega.{arith}
use lib.Dec.{T, eqb}
use lib.IntN.{pos}
use lib.ListN.{length}
use borrow.Author.Tests.{eq-eqb, ne_eqb}
use mir.Syntax.{w64}
use mir.Val.{SFits}
use Rattle.base.specs.Pick.{pick}
use Rattle.base.specs.Limits.{outgoing_size}
use Rattle.base.specs.Found.{found}
use Rattle.base.proofs.Bools.{not-T→false}
use Rattle.signed.specs.Signed.{from_offset}
use Rattle.plan.specs.Plan.{Plan}
use Rattle.plan.specs.Positions.{reading_of}
use Rattle.plan.specs.Valid.{plan_valid}
use Rattle.plan_laws.proofs.Parts.{tree_parts, range_parts}
use Rattle.plan_laws.proofs.Shape.{Kinds, tree, range, kinds, shape}
use Rattle.journal.specs.declared.Record.TheVariants.{Start}
use Rattle.journal.specs.Journal.{record_bytes}
use Rattle.party.specs.Party.{Party, started}
use Rattle.party.specs.Run.{starting}
use Rattle.party.specs.Valid.{party_valid}
use Rattle.party_laws.proofs.Laws.{valid→}
use Rattle.board_calls.specs.Calls.{fresh, start_questions}
use Rattle.board_laws.proofs.Inputs.{reading_position, offset_fits}
use Rattle.board_laws.proofs.Questions.{start_fits}

-- The reading of a position is a number of 64 bits, as a start takes it.
pub reading_fits : (p : Plan) → T (plan_valid p) → (x : ℕ) → x < p.count → SFits w64 (reading_of p x)
unfolding reading_of
reading_fits p v x h = go (kinds p v)
  where
    go : Kinds p → SFits w64 (pick (eqb p.kind 1) (pos x) (from_offset (p.low + x)))
    go (tree k t) =
        subst (λ (b : Bool). SFits w64 (pick b (pos x) (from_offset (p.low + x)))) (sym (eq-eqb p.kind 1 k))
        (record { sfits = omega (arith, (tree_parts p t).most) })
    go (range k t) =
        subst (λ (b : Bool). SFits w64 (pick b (pos x) (from_offset (p.low + x)))) (sym (ne_eqb p.kind 1 (λ e. omega arith)))
        (offset_fits (p.low + x) (omega (arith, (range_parts p t).high)))

-- A start of a party that has not started, with the reading of a position on its plan, is accepted if there is room, and starts there.
pub start_anywhere : (p : Party) → T (party_valid p) → (T (started p) → ⊥) → (x room used out : ℕ) → x < p.plan.count → outgoing_size ≤ out
    → used + length (record_bytes (Start p.agreement x)) ≤ room
    → start_questions p (reading_of p.plan x) room used out ≡ found (fresh (Start p.agreement x) (starting p x))
start_anywhere p v new x room used out h o r =
    start_fits p (reading_of p.plan x) room used out v o (omega arith) (not-T→false (started p) new) x (sym (reading_position p.plan x h))
    (λ e. omega (arith, (shape p.plan (valid→ p v).plan).most)) r
