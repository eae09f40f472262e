-- `party_step::gate` meets its contract.
use Rattle.party_step.proofs.gate.Goals as goal

pub returns-then-w : goal.returns-then-w
returns-then-w c = rw c.if-w.true

pub returns : goal.returns
returns c = rw c.if-w.false c.neighbour.ensures
