use mathlib.Core.Path.{refl}
use native.Mathlib.Omega.{arith}
use Rattle.component.proofs.midpoint.Goals as goal

pub overflow_add-result : goal.overflow_add-result
overflow_add-result c = record { fits = omega arith }

pub returns : goal.returns
returns c = refl
