-- Messages that nobody handed over, or that no call made.
use mathlib.Core.Path.{refl}
use lib.IntN.{pos}
use Rattle.message.specs.declared.Body.TheVariants.{Centre}
use Rattle.agreement_histories.specs.Scripts.{says}
use Rattle.agreement_histories.proofs.Computing.{computing}
use Rattle.agreement_premises.specs.Edits.{taken_unsent, handed_unmade, unsent, unmade}
use Rattle.agreement_premises.specs.Examples.{three, example_of, Fails}
use Rattle.agreement_premises.proofs.Running.{Strays}
use Rattle.agreement_premises.proofs.Starts.{all_in}
use Rattle.agreement_premises.proofs.Failing.{sound_alone, invalid_now}

unsent_strays : Strays taken_unsent (example_of taken_unsent)
unfolding computing
unsent_strays = unsent (sound_alone three) (record { up = refl; same = refl; at = refl; kept = refl })

pub unsent_fails : Fails taken_unsent (example_of taken_unsent)
unfolding computing all_in
unsent_fails = invalid_now taken_unsent (example_of taken_unsent) refl refl unsent_strays 0 (pos 1) refl refl

unmade_strays : Strays handed_unmade (example_of handed_unmade)
unfolding computing
unmade_strays = unmade (says Centre) (sound_alone three) refl refl

pub unmade_fails : Fails handed_unmade (example_of handed_unmade)
unfolding computing all_in
unmade_fails = invalid_now handed_unmade (example_of handed_unmade) refl refl unmade_strays 0 (pos 1) refl refl
