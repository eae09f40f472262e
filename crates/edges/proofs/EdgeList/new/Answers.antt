-- `EdgeList::new` meets its contract.
use mathlib.Core.Path.{refl, ap}
use native.Mathlib.Omega.{arith}
use Rattle.std.proofs.lemmas.List.{get_or-replicate}
use Rattle.base.specs.Limits.{max_vertices}
use Rattle.tree.specs.Edges.{Edges}
use Rattle.edges.proofs.Further.{none_listed, no_rows}
use Rattle.edges.proofs.Counting.{no_degrees}
use Rattle.edges.proofs.EdgeList.new.Goals as goal

pub invariant_of-result : goal.invariant_of-result
invariant_of-result c =
    none_listed _ c.requires refl (record { one = omega arith; two = omega arith; up = omega arith; weight = omega arith; degree = omega arith }) c.fresh.ensures
    (no_degrees _ _ (λ x k. get_or-replicate max_vertices x 0 0 (omega arith)))

pub returns : goal.returns
returns c = ap (λ (E : Edges). record { vertices = c.args.vertices; edges = E }) (no_rows _ _)
