-- The ends of a row lie below n.
use Rattle.tree_pass.proofs.Rows.{row_ends}
use Rattle.tree_pass.proofs.row.Goals as goal

pub returns : goal.returns
returns c =
    let r = row_ends _ _ _ _ c.args.tree.now.grows c.args.i c.requires c.from.result c.from-2.result c.from.ensures c.from-2.ensures in
    record { parent = (c.from.ensures, r.0); child = (c.from-2.ensures, r.1) }
