-- "a refused set-up or restore gives no party": the record that comes with one fails question 19.
use lib.Dec.{T}
use Rattle.party.specs.Valid.{party_valid}
use Rattle.board_calls.specs.Calls.{no_party}

pub no_party_lem : T (party_valid no_party) → ⊥
unfolding party_valid
no_party_lem v = v
