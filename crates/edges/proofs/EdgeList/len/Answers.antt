use mathlib.Core.Path.{sym}
use Rattle.edges.proofs.Further.{many}
use Rattle.edges.proofs.EdgeList.len.Goals as goal

pub returns : goal.returns
returns c = sym (many c.self.inside c.self.view_is)
