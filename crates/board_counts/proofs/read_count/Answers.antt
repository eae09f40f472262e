-- `board_counts::read_count` meets its contract, question by question.
use mathlib.Core.Path.{◌≡◌, refl, sym, ap, ◌∙◌, subst}
use mathlib.Core.Bool.{not}
use lib.Dec.{T, eqb}
use lib.IntN.{ℤ}
use mir.Syntax.{w64}
use mir.ValLaws.{to_z-of_z}
use Rattle.std.specs.Prelude.{Ok, Err}
use Rattle.std.proofs.lemmas.Result.{err_from_is_err_and}
use Rattle.base.specs.Pick.{pick}
use Rattle.base.specs.declared.Question.TheVariants.{OnPlan, StepSize}
use Rattle.base.proofs.Bools.{true→T}
use Rattle.rounding.specs.Rounding.{size_passes, nearest_step}
use Rattle.level.specs.Level.{no_output}
use Rattle.party.specs.Tie.{as_party}
use Rattle.party.specs.Valid.{party_valid}
use Rattle.board_calls.specs.Answers.{Answer, position_of}
use Rattle.board_calls.specs.Calls.{Answered}
use Rattle.board_calls.specs.Counts.{count_position, count_of, count_gives}
use Rattle.board_calls.specs.Tie.{as_position, as_answered}
use Rattle.board_laws.proofs.Counts.{count_found}
use Rattle.board_counts.specs.Inner.{Small}
use Rattle.board_counts.proofs.Questions.{gives_refused, valid_read, count_19, count_25, count_12, none_there, some_there}
use Rattle.board_counts.proofs.Small.{answered_small}
use Rattle.board_counts.proofs.read_count.Goals.{After-step_position, Else-not-size_passes, In_ok-answer}
use borrow.Author.Rules.{rules}
use Rattle.board_counts.proofs.read_count.Goals as goal

pub returns-in_err-answer : goal.returns-in_err-answer
returns-in_err-answer c =
    let s = c.args in
    let r = err_from_is_err_and c.from_residual.result c.from_residual.ensures.1 in
    ap as_answered (r.1 ∙ ap Err r.2) ∙ ap count_gives (sym (count_19 (as_party s.p) s.size s.count c.in_err-answer.ensures refl))

-- question 19 passed
valid : (c : In_ok-answer) → T (party_valid (as_party c.args.p))
valid c = valid_read (as_party c.args.p) c.in_ok-answer.ensures refl

pub returns-then-not-size_passes : goal.returns-then-not-size_passes
returns-then-not-size_passes c =
    gives_refused StepSize c.into.ensures (count_25 (as_party c.args.p) c.args.size c.args.count c.in_ok-answer.ensures refl (sym c.size_passes.ensures ∙ c.if-not-size_passes.true))

-- 25 passed too
passes : (c : Else-not-size_passes) → T (size_passes c.args.size)
passes c = true→T (sym c.size_passes.ensures ∙ c.if-not-size_passes.false)

pub round-r-requires : goal.round-r-requires
round-r-requires c = passes (goal.at.round-r-requires c).Else-not-size_passes

-- the position that was asked for is the count's
module _ (c : After-step_position) where
  at : as_position c.step_position.result ≡ count_position (as_party c.args.p).plan c.args.size c.args.count
  at =
      c.step_position.ensures.gives
      ∙ ap (λ (z : ℤ). pick (eqb (as_party c.args.p).plan.kind 2) (position_of (as_party c.args.p).plan z) no_output)
      (to_z-of_z w64 c.round-r.result.step (search rules)
      ∙ c.round-r.ensures.0
      ∙ ap (nearest_step c.args.size) (to_z-of_z w64 c.args.count c.ranges.count))

pub returns-then-is_none : goal.returns-then-is_none
returns-then-is_none c =
    let x = (goal.at.returns-then-is_none c).After-step_position in
    let e = (goal.at.returns-then-is_none c).Else-not-size_passes in
    gives_refused OnPlan c.into-then-is_none.ensures
    (count_12 (as_party c.args.p) c.args.size c.args.count c.in_ok-answer.ensures refl (passes e)
    (sym (at x) ∙ none_there c.step_position.result (c.is_none.ensures ∙ ap not c.if-is_none.true)))

pub count_of-requires : goal.count_of-requires
count_of-requires c =
    let a = (goal.at.count_of-requires c).In_ok-answer in
    let e = (goal.at.count_of-requires c).Else-not-size_passes in
    (passes e, subst (λ (y : Answered). Small y.answer) (sym c.in_ok-answer.ensures) (answered_small (as_party c.args.p) (valid a)))

pub returns : goal.returns
returns c =
    let p = as_party c.args.p in
    let g = c.args.size in
    let n = c.args.count in
    let a = (goal.at.returns c).In_ok-answer in
    let e = (goal.at.returns c).Else-not-size_passes in
    let x = (goal.at.returns c).After-step_position in
    ap (λ (y : Answer). as_answered (Ok y))
    (c.count_of.ensures
    ∙ ap (λ (z : ℤ). count_of g z c.in_ok-answer.answer) (to_z-of_z w64 n c.ranges.count)
    ∙ ap (λ (y : Answered). count_of g n y.answer) c.in_ok-answer.ensures)
    ∙ ap count_gives
    (sym (count_found p g n (valid a) (passes e)
    (λ i. some_there p (valid a) c.step_position.result (c.is_none.ensures ∙ ap not c.if-is_none.false) c.step_position.ensures.on_plan (at x ∙ i))))
