use mathlib.Core.Path.{ap, ◌∙◌}
use mathlib.Core.List.{List}
use lib.ListN.{replicate}
use Rattle.base.specs.Limits.{level_count}
use Rattle.level.specs.Level.{Level, slot_count}
use Rattle.plan.specs.Tie.{as_plan}
use Rattle.party.proofs.Ties.{tied_new}
use Rattle.party.proofs.Party.new.Goals as goal

pub returns : goal.returns
returns c =
    let a = c.args in
    ap (λ (ls : List Level). record { n = a.n; t = a.t; own = a.own; agreement = a.agreement; plan = as_plan a.plan; levels = ls })
    (tied_new slot_count level_count c.blank-blank.result ∙ ap (λ (l : Level). replicate level_count l) c.blank-blank.ensures)
