-- `EdgeList::ends` meets its contract.
use mathlib.Core.Path.{◌≡◌, ap, subst}
use native.Mathlib.Omega.{arith}
use lib.ListN.{length}
use Rattle.edges.specs.Rows.{rows}
use Rattle.edges.specs.Inner.{TreeSoFar}
use Rattle.edges.proofs.Rows.{rows_length}
use Rattle.edges.proofs.Further.{many}
use Rattle.edges.proofs.EdgeList.ends.Goals as goal

pub returns-clause-columns : goal.returns-clause-columns
returns-clause-columns c =
    let l = c.self.inside in
    subst (λ (t : TreeSoFar). rows l.one l.two (length t.edges) ≡ t.edges) c.self.view_is (ap (rows l.one l.two) (rows_length l.one l.two l.count))

pub returns-clause-places : goal.returns-clause-places
returns-clause-places c =
    let m = many c.self.inside c.self.view_is in
    (omega (arith, m), omega (arith, m))
