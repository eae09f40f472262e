-- Every row of the table of broken messages holds: each is computed.
use mathlib.Core.Path.{refl}
use Rattle.base.specs.Every.{Every}
use Rattle.varint.specs.Reading.{pieces_at}
use Rattle.format.specs.Reading.{field_at}
use Rattle.message.specs.Reading.{message_at, exact_message}
use Rattle.vectors_questions.specs.Messages.{Told, tellings}
use Rattle.vectors_questions.proofs.Table.{◌and◌}

pub told : Every Told tellings
unfolding tellings pieces_at field_at message_at exact_message
told =
    (λ p s room used. refl)
    and (λ p s room used. refl)
    and (λ p s room used. refl)
    and (λ p s room used. refl)
    and (λ p s room used. refl)
    and (λ p s room used. refl)
    and (λ p s room used. refl)
    and (λ p s room used. refl)
    and (λ p s room used. refl)
    and (λ p s room used. refl)
    and (λ p s room used. refl)
    and (λ p s room used. refl)
    and (λ p s room used. refl)
    and (λ p s room used. refl)
    and (λ p s room used. refl)
    and (λ p s room used. refl)
    and (λ p s room used. refl)
    and (λ p s room used. refl)
    and (λ p s room used. refl)
    and (λ p s room used. refl)
    and (λ p s room used. refl)
    and (λ p s room used. refl)
    and (λ p s room used. refl)
    and (λ p s room used. refl)
    and (λ p s room used. refl)
    and (λ p s room used. refl)
    and (λ p s room used. refl)
    and (λ p s room used. refl)
    and (λ p s room used. refl)
    and (λ p s room used. refl)
    and (λ p s room used. refl)
    and (λ p s room used. refl)
    and (λ p s room used. refl)
    and (λ p s room used. refl)
    and (λ p s room used. refl)
    and (λ p s room used. refl)
    and (λ p s room used. refl)
    and (λ p s room used. refl)
    and (λ p s room used. refl)
    and (λ p s room used. refl)
    and (λ p s room used. refl)
    and (λ p s room used. refl)
    and (λ p s room used. refl)
    and tt
