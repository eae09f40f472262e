-- "Is the kind 1 or 2? 5."
use Rattle.std.specs.Prelude.{◌≡◌, List, ℕ, eqb, Result, Ok, Err}
use Rattle.base.specs.Pick.{pick}
use Rattle.base.specs.Found.{Found}
use Rattle.base.specs.declared.Question.{Question}
use Rattle.base.specs.declared.Question.TheVariants.{PlanKind}
use Rattle.plan.specs.Plan.{Plan}
use Rattle.plan.specs.Reading.{tree_from, range_from}
use Rattle.plan_groups.specs.declared.Kind.{Kind}

-- the kind that a number names
abbrev pub kind_of : ℕ → Result Kind Question
kind_of k = pick (eqb k 1) (Ok Kind.Tree) (pick (eqb k 2) (Ok Kind.Range) (Err PlanKind))

abbrev pub NamesKind : ℕ → Result Kind Question → Type 0
NamesKind k r = r ≡ kind_of k

-- what follows the kind
abbrev pub plan_by : Kind → List ℕ → ℕ → Found Plan
plan_by Kind.Tree s at = tree_from s at
plan_by Kind.Range s at = range_from s at
