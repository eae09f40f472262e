-- `plan_cycle::cycle_at` meets its contract: the edges collected are rejected, their marks are the cycle's, and the marked ones are listed.
use mathlib.Core.Path.{ap, ◌∙◌}
use Rattle.tree.specs.Edges.{Edges}
use Rattle.plan_cycle.specs.Cycle.{cycle_among}
use Rattle.plan_cycle.proofs.Along.{to_rejected, rejected_below}
use Rattle.plan_cycle.proofs.Marked.{marked_listed}
use borrow.Author.Rules.{rules}
use Rattle.plan_cycle.proofs.cycle_at.Goals as goal

pub mark-requires : goal.mark-requires
mark-requires c =
    let s = c in
    let e = c.collect-m.ensures in
    (search rules, search rules, search rules, e.0, rw e.1 (rejected_below _ _ s.requires), rw e.1 (to_rejected _ _ s.requires).rejected)

pub returns : goal.returns
returns c =
    let m = c.mark in
    let e = c.collect-m.ensures in
    c.list_marked.ensures ∙ marked_listed _ _ _ _ _ m.ensures ∙ ap (λ (E : Edges). cycle_among E) e.1
