-- `party_inspect::inspect_sending` meets its contract.
use Rattle.party_inspect.proofs.Places.{sends_passes, sends_part}
use Rattle.party_inspect.proofs.inspect_sending.Goals as goal

pub survey_at-s-requires : goal.survey_at-s-requires
survey_at-s-requires c =
    let h = c.requires in
    (record { rows = h.0.lent; of = h.0.component; flat = h.0.flat; place = h.2 }, h.1)

pub returns : goal.returns
returns c =
    let v = c.survey_at-s in
    record {
      passes = sends_passes _ _ _ _ v.result v.ensures c.args.l c.values_pass.result c.values_pass.ensures;
      sends = sends_part _ _ _ _ v.result v.ensures c.args.i c.args.chart.now;
    }
