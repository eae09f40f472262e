-- Every row of the table of numbers holds: all are computed at once.
use mathlib.Core.Path.{refl}
use Rattle.base.specs.Every.{Every}
use Rattle.rounding.specs.Rounding.{nearest_step, remainder, count_answer}
use Rattle.vectors_counts.specs.Numbers.{computed, said, Holds, table}
use Rattle.vectors_counts.proofs.Each.{each}

pub right : Every Holds table
unfolding table nearest_step remainder count_answer
right = each computed said table refl
