-- `component::survey_at` meets its contract.
use Rattle.component.proofs.Surveys.{found_surveyed, found_place, found_survey}
use Rattle.component.proofs.Component.survey_at.Goals as goal

pub survey_ports-c-requires : goal.survey_ports-c-requires
survey_ports-c-requires c =
    let s = c in
    (s.requires.0.rows, s.requires.0.of, s.requires.1, s.requires.0.flat)

pub port-requires : goal.port-requires
port-requires c =
    let s = c in
    let f = c.survey_ports-c in
    (found_surveyed _ _ _ f.result f.ensures s.requires.0.of s.requires.1, found_place _ _ _ f.result f.ensures s.args.x s.requires.0.place)

pub returns : goal.returns
returns c =
    let s = c in
    let f = c.survey_ports-c in
    found_survey _ _ _ f.result f.ensures s.args.x c.port.result c.port.ensures
