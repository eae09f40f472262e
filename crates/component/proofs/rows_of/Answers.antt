-- A plan's rows are a tree.
use Rattle.plan.specs.Tie.{as_plan}
use Rattle.component.proofs.Members.{tree_rows, tree_most}
use Rattle.component.proofs.rows_of.Goals as goal

pub invariant_of-result : goal.invariant_of-result
invariant_of-result c =
    let p = as_plan c.args.plan.now in
    record { grows = tree_rows p c.requires.1 c.requires.2 c.requires.0; most = tree_most p c.requires.1 c.requires.2 }
