-- Question 19's plan test passes exactly what a plan reading gives.
use Rattle.plan_laws.specs.Statement.{Passes}
use Rattle.plan_laws.proofs.Given.{given}

pub passes : Passes
passes = record { exactly = given }
