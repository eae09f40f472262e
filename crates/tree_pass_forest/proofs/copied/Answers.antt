-- What is copied stands in front of the zeros that are left.
use Rattle.tree_pass_forest.proofs.ForestPass.{copied_part}
use Rattle.tree_pass_forest.proofs.copied.Goals as goal

pub returns : goal.returns
returns c = copied_part c.args.ins.now c.copy_from_slice.new.self c.args.n 255 c.requires.0 c.copy_from_slice.ensures.after
