-- The seats: sixteen boards, and the bench.
use Rattle.std.specs.Prelude.{ℕ}
use Rattle.random_votes_state.specs.declared.seats.Seat.{Seat}
use Rattle.random_votes_state.specs.declared.seats.Seat.TheVariants.{Board, Bench}

-- a seat's board, 0 of the bench: below 16 of every seat that is one
abbrev pub board_of : Seat → ℕ
board_of (Board b) = b
board_of Bench = 0

-- its place in a row of all seats, where the bench is the last
abbrev pub place_of : Seat → ℕ
place_of (Board b) = b
place_of Bench = 16
