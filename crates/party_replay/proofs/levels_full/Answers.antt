-- `party_replay::levels_full` meets its contract, by the type of a party's levels.
use Rattle.party_step.proofs.Typed.{levels_full, levels_echoes}
use Rattle.party_replay.proofs.levels_full.Goals as goal

pub returns : goal.returns
returns c = (levels_full c.args.levels _ c.well_formed.0, levels_echoes c.args.levels _ c.well_formed.0)
