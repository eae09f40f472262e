-- `board_ends::read_answer` meets its contract.
use mathlib.Core.Path.{◌≡◌, sym, ap, ◌∙◌}
use mathlib.Core.Bool.{not}
use Prim.Native.Nat.{◌<◌}
use native.Mathlib.Omega.{arith}
use lib.ListN.{length}
use Rattle.std.specs.Prelude.{Err}
use Rattle.base.specs.Limits.{level_count}
use Rattle.base.specs.declared.Refusal.{Refusal}
use Rattle.plan.specs.Tie.{as_plan}
use Rattle.party.specs.Tie.{as_party}
use Rattle.party.proofs.Ties.{output}
use Rattle.board_calls.specs.Answers.{answer_of}
use Rattle.board_calls.specs.Tie.{as_answered}
use Rattle.board_laws.proofs.Parts.{length_mapped}
use Rattle.board_ends.proofs.Ends.{no_reading, reading}
use borrow.Author.Rules.{rules}
use Rattle.board_ends.proofs.read_answer.Goals.{Start}
use Rattle.board_ends.proofs.read_answer.Goals as goal

pub returns-then-is_none : goal.returns-then-is_none
returns-then-is_none c =
    ap (λ (r : Refusal). as_answered (Err r)) c.into.ensures
    ∙ no_reading (as_party c.args.p) (sym (c.is_none.ensures ∙ ap not c.if-is_none.true) ∙ c.inspect.ensures.passes)

-- a record has levels
some : (s : Start) → 0 < length s.args.p.levels
some s = let l : length s.args.p.levels ≡ level_count = search (rules, length_mapped) in omega arith

pub returns : goal.returns
returns c =
    let p = c.args.p in
    reading (as_party p) (sym (c.is_none.ensures ∙ ap not c.if-is_none.false) ∙ c.inspect.ensures.passes)
    (c.answer_at.ensures ∙ ap (answer_of (as_plan p.plan)) (sym (output p (some (goal.at.returns c).Start))))
