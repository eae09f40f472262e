use Rattle.std.proofs.Common.{rules}
use mathlib.Core.Path.{sym, ◌∙◌}
use Rattle.level_counts.proofs.Candidates.{candidate_there, candidate_last}
use Rattle.level_counts_second.specs.Inner.{unechoed}
use Rattle.level_counts_second.proofs.echo.Goals as goal

pub returns-in-Some-clause-choice : goal.returns-in-Some-clause-choice
returns-in-Some-clause-choice c =
    let a = c.args in
    candidate_there (unechoed a.heard.now a.echoed.now a.c.t) a.c.degree _ c.in-Some.ensures

pub returns-clause-choice : goal.returns-clause-choice
returns-clause-choice c =
    let a = c.args in
    c.then_some.ensures
    ∙ candidate_last (unechoed a.heard.now a.echoed.now a.c.t) a.c.degree _ (sym c.in_default.is ∙ c.first_unechoed.ensures) (search rules)
