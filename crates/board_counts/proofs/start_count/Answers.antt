-- `board_counts::start_count` meets its contract: where the size passes, it is a start at the count's position.
use mathlib.Core.Path.{◌≡◌, refl, sym, ap, ap₂, ◌∙◌}
use lib.Dec.{T}
use lib.IntN.{ℤ}
use lib.ListN.{length}
use mir.Syntax.{w64}
use mir.ValLaws.{to_z-of_z}
use Rattle.std.specs.Bool.{then_some}
use Rattle.base.proofs.Bools.{true→T}
use Rattle.rounding.specs.Rounding.{size_passes, nearest_step, remainder}
use Rattle.party.specs.Party.{Party}
use Rattle.party.specs.Tie.{as_party}
use Rattle.board_calls.specs.Answers.{position_of}
use Rattle.board_calls.specs.Counts.{count_position}
use Rattle.board_calls.specs.Tie.{as_position}
use Rattle.base.specs.Pick.{pick}
use Rattle.level.specs.Level.{no_output}
use lib.Dec.{eqb}
use Rattle.board_counts.proofs.Questions.{refused_starts, count_from, asked_starts}
use Rattle.board_counts.proofs.start_count.Goals.{After-step_position-x, Else-not-size_passes}
use borrow.Author.Rules.{rules}
use Rattle.board_counts.proofs.start_count.Goals as goal

pub returns-then-not-size_passes : goal.returns-then-not-size_passes
returns-then-not-size_passes c =
    refused_starts (as_party c.args.p) c.args.size c.args.count c.args.used (length c.args.journal.now) (length c.args.out.now) c.refuse_size-verdict.result
    (sym c.size_passes.ensures ∙ c.if-not-size_passes.true) c.refuse_size-verdict.ensures c.unchanged.ensures

-- the size passes
passes : (c : Else-not-size_passes) → T (size_passes c.args.size)
passes c = true→T (sym c.size_passes.ensures ∙ c.if-not-size_passes.false)

pub round-r-requires : goal.round-r-requires
round-r-requires c = passes (goal.at.round-r-requires c).Else-not-size_passes

-- the position that was asked for is the count's
module _ (c : After-step_position-x) where
  abbrev p : Party
  p = as_party c.args.p

  at : as_position c.step_position-x.result ≡ count_position p.plan c.args.size c.args.count
  at =
      c.step_position-x.ensures.gives
      ∙ ap (λ (z : ℤ). pick (eqb p.plan.kind 2) (position_of p.plan z) no_output)
      (to_z-of_z w64 c.round-r.result.step (search rules)
      ∙ c.round-r.ensures.0
      ∙ ap (nearest_step c.args.size) (to_z-of_z w64 c.args.count c.ranges.count))

pub returns : goal.returns
returns c =
    let x = (goal.at.returns c).After-step_position-x in
    let e = (goal.at.returns c).Else-not-size_passes in
    asked_starts (p x) c.args.size c.args.count c.args.used c.start_at-called.result.verdict
    (count_from (p x) c.args.size c.args.count c.args.used (length c.args.journal.now) (length c.args.out.now) (passes e) _ (at x)) c.start_at-called.ensures refl
    (c.then_some.ensures
    ∙ ap₂ (then_some {T = ℤ}) c.is_ok.ensures.value
    (to_z-of_z w64 c.round-r.result.remainder (search rules) ∙ c.round-r.ensures.1 ∙ ap (remainder c.args.size) (to_z-of_z w64 c.args.count c.ranges.count)))
