-- The number of levels that the call gives is the one that boards use.
use mathlib.Core.Path.{◌≡◌, sym, ap, ◌∙◌, subst}
use mathlib.Core.List.{List}
use Prim.Native.Nat.{ℕ, ◌≤◌, ◌<◌}
use native.Mathlib.Omega.{arith}
use lib.Dec.{T}
use Rattle.base.specs.Limits.{max_number}
use Rattle.base.specs.Found.{Found, found}
use Rattle.plan.specs.Plan.{Plan}
use Rattle.plan.specs.Reading.{plan_of}
use Rattle.plan.specs.Valid.{plan_valid}
use Rattle.plan_laws.proofs.Given.{found_good}
use Rattle.plan_levels.specs.Levels.{levels_of}
use Rattle.plan_levels.proofs.Chains.{chain_plan}
use Rattle.plan_levels.proofs.Theorem.{deepest}
use Rattle.plan_messages.specs.Bound.{bound_by, bound_of}
use Rattle.agreement_levels.specs.Statement.{AloneMakes}
use Rattle.agreement_levels.proofs.NoDeeper.{no_deeper}
use Rattle.agreement_levels.proofs.Reaches.{reaches}
use Rattle.agreement_messages.specs.Statement.{Levels, Tied}

module _ (bytes : List ℕ) (plan : Plan) (reads : plan_of bytes ≡ found plan) where
  valid : T (plan_valid plan)
  valid = (found_good bytes plan reads).passes

  call_levels : (bound_of bytes).levels ≡ levels_of plan
  call_levels = ap (λ (r : Found Plan). (bound_by r).levels) reads

  -- a board alone that starts at a position
  alone : (x : ℕ) → x < plan.count → (a : ℕ) → a ≤ max_number → AloneMakes a bytes plan x
  alone x on a number = reaches a bytes plan (record { boards = omega arith; faults = omega arith; number = number; reads = reads }) x on

  levels : Levels bytes plan
  levels = record {
    most = λ v bad h shared allowed i m g x. subst (λ (k : ℕ). m.level < k) (sym call_levels) (no_deeper v plan bad h shared allowed i m g x);
    reached = λ L e.
        let r = (deepest plan valid).reached L (e ∙ call_levels) in
        let d = r.1 in
        (r.0, d, alone r.0 ((chain_plan plan valid r.0 L d.lies).below r.0 d.lies));
  }

pub tied : Tied
tied = levels
