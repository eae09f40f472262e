-- `union_find::same` meets its contract.
use mathlib.Core.Path.{ap₂}
use lib.Dec.{eqb}
use Rattle.union_find.proofs.same.Goals as goal

pub returns : goal.returns
returns c = ap₂ eqb c.root.ensures c.root-2.ensures
