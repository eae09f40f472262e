-- Every row of the table of lengths holds: each is computed.
use mathlib.Core.Path.{refl}
use Rattle.base.specs.Every.{Every}
use Rattle.varint.specs.Varint.{pieces}
use Rattle.varint.specs.Table.{table_length}
use Rattle.vectors.specs.Lengths.{Measured, lengths}
use Rattle.vectors.proofs.Table.{◌and◌}

pub measured : Every Measured lengths
unfolding lengths pieces table_length
measured =
    (refl, refl)
    and (refl, refl)
    and (refl, refl)
    and (refl, refl)
    and (refl, refl)
    and (refl, refl)
    and (refl, refl)
    and (refl, refl)
    and (refl, refl)
    and (refl, refl)
    and tt
