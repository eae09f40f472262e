use Rattle.std.proofs.Common.{arith}
use Rattle.std.proofs.lemmas.Grind.{common_steps}
use Rattle.union_find.proofs.Sets.{singles}
use Rattle.union_find.proofs.fresh.Goals as goal

pub returns : goal.returns
returns c = singles c.args.n _ _ (λ y l. grind (arith, common_steps, c.loop-x.invariant y)) (λ y l. grind (arith, common_steps))
