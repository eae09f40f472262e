-- `EdgeList::add` meets its contract: one row more, and the sets and the numbers of edges that it makes.
use mathlib.Core.Path.{ap, ◌∙◌}
use mathlib.Core.List.{◌∷◌}
use Rattle.tree.specs.Edges.{Edges}
use Rattle.edges.specs.Inner.{TreeSoFar}
use Rattle.edges.proofs.Further.{room_for_one, passes, more_in, more_listed}
use Rattle.edges.proofs.EdgeList.add.Goals as goal

pub invariant_of-self : goal.invariant_of-self
invariant_of-self c =
    let l = c.self.inside in
    let e = c.self.view_is in
    more_listed l c.self.invariant _ _ (room_for_one l e c.requires.0) (passes l e _ _ c.requires.1) _ _ _ c.link.auto.up c.link.auto.weight c.count_edge.auto.degree c.link.ensures.0 c.count_edge.ensures

pub returns : goal.returns
returns c =
    let l = c.self.inside in
    let e = c.self.view_is in
    ap (λ (E : Edges). record { vertices = l.vertices; edges = E }) (more_in l c.self.invariant c.args.a c.args.b (room_for_one l e c.requires.0) (passes l e _ _ c.requires.1) c.link.new.up c.link.new.weight c.count_edge.new.degree)
    ∙ ap (λ (t : TreeSoFar). record { vertices = t.vertices; edges = record { one = c.args.a; two = c.args.b } ∷ t.edges }) e
