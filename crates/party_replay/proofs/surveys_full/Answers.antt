-- `party_replay::surveys_full` meets its contract, by the type of a chart.
use Rattle.party_step.proofs.Typed.{chart_surveys}
use Rattle.party_replay.proofs.surveys_full.Goals as goal

pub returns : goal.returns
returns c = chart_surveys c.args.chart _ c.well_formed.0
