-- `take_edge` meets its contract where a question refuses the edge.
use mathlib.Core.Path.{◌≡◌, subst}
use mathlib.Core.List.{List}
use Prim.Native.Nat.{ℕ}
use denote.Bor.{Bor}
use Rattle.edges.specs.Reading.{varint_then}
use Rattle.plan_groups.specs.Groups.{After}
use Rattle.plan_take.proofs.Edges.{refused_edge}
use Rattle.plan_take.proofs.take_edge.Goals as goal

pub returns-in-Err-clause-edge : goal.returns-in-Err-clause-edge
returns-in-Err-clause-edge c =
    let two = subst (λ (b : Bor (List ℕ)). (f : After) → varint_then b.now c.take_group.new.reader.at f ≡ f c.in_ok-two.field-0 c.take_group-2.new.reader.at) c.in_ok-one.ensures.bytes c.in_ok-two.ensures.group in
    λ k. refused_edge c.args.edges.now.vertices k c.args.reader.now.bytes.now c.args.reader.now.at c.take_group.new.reader.at c.take_group-2.new.reader.at c.in_ok-one.field-0 c.in_ok-two.field-0 c.args.edges.now.edges _ c.in-Err.question c.in_ok-one.ensures.group two c.in-Err.ensures
