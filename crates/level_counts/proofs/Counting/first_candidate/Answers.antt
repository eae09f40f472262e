use mathlib.Core.Path.{sym, ◌∙◌}
use Rattle.level_counts.specs.Choice.{reached}
use Rattle.level_counts.proofs.Candidates.{candidate_there, candidate_last}
use Rattle.level_counts.proofs.Counting.first_candidate.Goals as goal

pub returns-in-Some : goal.returns-in-Some
returns-in-Some c =
    let a = c.args in
    candidate_there (reached a.heard.now a.from a.k) a.self.degree _ c.in-Some.ensures

pub returns : goal.returns
returns c =
    let a = c.args in
    c.then_some.ensures ∙ candidate_last (reached a.heard.now a.from a.k) a.self.degree _ (sym c.in_default.is ∙ c.first_value.ensures) c.reaches.ensures
