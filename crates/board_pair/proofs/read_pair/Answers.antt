-- `board_pair::read_pair` meets its contract, question by question.
use mathlib.Core.Path.{◌≡◌, refl, sym, ap, ap₂, ◌∙◌}
use Rattle.std.specs.Prelude.{Ok, Err}
use Rattle.std.proofs.lemmas.Result.{err_from_is_err_and}
use Rattle.base.specs.Verdict.{Verdict}
use Rattle.base.specs.declared.Question.TheVariants.{OnPlan, TwoAgreements}
use Rattle.party.specs.Tie.{as_party}
use Rattle.board_calls.specs.Calls.{Answered, answered_of}
use Rattle.board_pair.specs.Pair.{PairAnswer, pair_of, pair_gives}
use Rattle.board_pair.specs.Tie.{as_pair_answered}
use Rattle.board_pair.proofs.Questions.{own_verdict, first_refused, second_refused, equal_numbers, first_no_range, second_no_range, all_pass, zipped, refuses}
use Rattle.board_pair.proofs.read_pair.Goals.{In_ok-y, In_ok-z}
use Rattle.board_pair.proofs.read_pair.Goals as goal

pub returns-in_err-y : goal.returns-in_err-y
returns-in_err-y c =
    let s = c.args in
    let r = err_from_is_err_and c.from_residual.result c.from_residual.ensures.1 in
    ap as_pair_answered (r.1 ∙ ap Err r.2)
    ∙ ap pair_gives (sym (first_refused (as_party s.first) (as_party s.second) (own_verdict (as_party s.first) c.in_err-y.ensures refl)))

-- the first party's reading is accepted
first-told : (c : In_ok-y) → (answered_of (as_party c.args.first)).verdict ≡ Verdict.Accepted
first-told c = own_verdict (as_party c.args.first) c.in_ok-y.ensures refl

pub returns-in_err-z : goal.returns-in_err-z
returns-in_err-z c =
    let s = c.args in
    let r = err_from_is_err_and c.from_residual-in_err-z.result c.from_residual-in_err-z.ensures.1 in
    ap as_pair_answered (r.1 ∙ ap Err r.2)
    ∙ ap pair_gives (sym (second_refused (as_party s.first) (as_party s.second) (first-told (goal.at.returns-in_err-z c).In_ok-y) (own_verdict (as_party s.second) c.in_err-z.ensures refl)))

-- the second's too
second-told : (c : In_ok-z) → (answered_of (as_party c.args.second)).verdict ≡ Verdict.Accepted
second-told c = own_verdict (as_party c.args.second) c.in_ok-z.ensures refl

pub returns-then-first_number-second_number : goal.returns-then-first_number-second_number
returns-then-first_number-second_number c =
    let s = c.args in
    let y = (goal.at.returns-then-first_number-second_number c).In_ok-y in
    let z = (goal.at.returns-then-first_number-second_number c).In_ok-z in
    refuses TwoAgreements c.into.ensures (equal_numbers (as_party s.first) (as_party s.second) (first-told y) (second-told z) c.if-first_number-second_number.true)

pub returns-then-first_kind-ne-RANGE : goal.returns-then-first_kind-ne-RANGE
returns-then-first_kind-ne-RANGE c =
    let s = c.args in
    let y = (goal.at.returns-then-first_kind-ne-RANGE c).In_ok-y in
    let z = (goal.at.returns-then-first_kind-ne-RANGE c).In_ok-z in
    refuses OnPlan c.into-then-first_kind-ne-RANGE.ensures
    (first_no_range (as_party s.first) (as_party s.second) (first-told y) (second-told z) c.if-first_number-second_number.false c.if-first_kind-ne-RANGE.true)

pub returns-then-second_kind-ne-RANGE : goal.returns-then-second_kind-ne-RANGE
returns-then-second_kind-ne-RANGE c =
    let s = c.args in
    let y = (goal.at.returns-then-second_kind-ne-RANGE c).In_ok-y in
    let z = (goal.at.returns-then-second_kind-ne-RANGE c).In_ok-z in
    refuses OnPlan c.into-then-second_kind-ne-RANGE.ensures
    (second_no_range (as_party s.first) (as_party s.second) (first-told y) (second-told z) c.if-first_number-second_number.false c.if-first_kind-ne-RANGE.false c.if-second_kind-ne-RANGE.true)

pub returns : goal.returns
returns c =
    let s = c.args in
    let y = (goal.at.returns c).In_ok-y in
    let z = (goal.at.returns c).In_ok-z in
    let told : c.zip.result ≡ pair_of (answered_of (as_party s.first)).answer (answered_of (as_party s.second)).answer =
    c.zip.ensures ∙ zipped c.in_ok-y.y c.in_ok-z.z ∙ ap₂ (λ (a b : Answered). pair_of a.answer b.answer) c.in_ok-y.ensures c.in_ok-z.ensures in
    ap (λ (x : PairAnswer). as_pair_answered (Ok x)) told
    ∙ ap pair_gives (sym (all_pass (as_party s.first) (as_party s.second) (first-told y) (second-told z) c.if-first_number-second_number.false c.if-first_kind-ne-RANGE.false c.if-second_kind-ne-RANGE.false))
