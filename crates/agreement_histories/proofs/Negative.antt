-- Two boards on negative readings: their answers are negative and differ by 1.
use mathlib.Core.Path.{refl}
use mathlib.Core.List.{[], ◌∷◌}
use lib.IntN.{negsuc}
use Rattle.std.specs.Prelude.{Some}
use Rattle.agreement_histories.specs.Scripts.{history_of, Concludes}
use Rattle.agreement_histories.specs.Negative.{vote, plan, bad, script}
use Rattle.agreement_histories.proofs.Delivery.{Judges}
use Rattle.agreement_histories.proofs.Delivered.{concludes}
use Rattle.agreement_histories.proofs.Computing.{computing}

judged : Judges vote bad script (Some (negsuc 2) ∷ Some (negsuc 1) ∷ [])
unfolding computing script
judged = refl

pub conclusion : Concludes vote plan bad (history_of vote script) (Some (negsuc 2) ∷ Some (negsuc 1) ∷ [])
unfolding computing
conclusion = concludes vote plan bad script _ judged refl refl
