-- One board alone: it answers.
use mathlib.Core.Path.{refl}
use mathlib.Core.List.{[], ◌∷◌}
use lib.IntN.{pos}
use Rattle.std.specs.Prelude.{Some}
use Rattle.base.specs.Limits.{max_number}
use Rattle.agreement_histories.specs.Scripts.{history_of, Concludes}
use Rattle.agreement_histories.specs.Alone.{vote, plan, bad, script}
use Rattle.agreement_histories.proofs.Delivery.{Judges}
use Rattle.agreement_histories.proofs.Delivered.{concludes}
use Rattle.agreement_histories.proofs.Computing.{computing}

judged : Judges (vote 1) bad (script 1) (Some (pos 1) ∷ [])
unfolding computing script
judged = refl

pub conclusion : Concludes (vote 1) plan bad (history_of (vote 1) (script 1)) (Some (pos 1) ∷ [])
unfolding computing
conclusion = concludes (vote 1) plan bad (script 1) _ judged refl refl

-- ---- with the largest agreement number

judged_largest : Judges (vote max_number) bad (script max_number) (Some (pos 1) ∷ [])
unfolding computing script
judged_largest = refl

pub conclusion_largest : Concludes (vote max_number) plan bad (history_of (vote max_number) (script max_number)) (Some (pos 1) ∷ [])
unfolding computing
conclusion_largest = concludes (vote max_number) plan bad (script max_number) _ judged_largest refl refl
