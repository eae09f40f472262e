-- Two boards with different results: their answers differ by an edge.
use mathlib.Core.Path.{refl}
use mathlib.Core.List.{[], ◌∷◌}
use lib.IntN.{pos}
use Rattle.std.specs.Prelude.{Some}
use Rattle.agreement_histories.specs.Scripts.{history_of, Concludes}
use Rattle.agreement_histories.specs.Grades.{vote, plan, bad, script}
use Rattle.agreement_histories.proofs.Delivery.{Judges}
use Rattle.agreement_histories.proofs.Delivered.{concludes}
use Rattle.agreement_histories.proofs.Computing.{computing}

judged : Judges vote bad script (Some (pos 1) ∷ Some (pos 2) ∷ [])
unfolding computing script
judged = refl

pub conclusion : Concludes vote plan bad (history_of vote script) (Some (pos 1) ∷ Some (pos 2) ∷ [])
unfolding computing
conclusion = concludes vote plan bad script _ judged refl refl
