-- What rules 6 and 7 count and choose, of the sets of senders of a level in the order of their places.
use Rattle.std.specs.Prelude.{Bool, false, not, ◌&&◌, List, ℕ, ◌+◌, ◌*◌, get_or, Option}
use Rattle.level_counts.specs.Places.{second_echoes}
use Rattle.level_counts.specs.Choice.{reached, first_candidate}

-- rule 6: t+1 second echoes of w, and w was not echoed yet
abbrev pub unechoed : List ℕ → List Bool → ℕ → ℕ → Bool
unechoed sets echoed t w = reached sets second_echoes (t + 1) w && not (get_or echoed w false)

abbrev pub echo_of : List ℕ → List Bool → ℕ → ℕ → Option ℕ
echo_of sets echoed d t = first_candidate d (unechoed sets echoed t)

-- rule 7
abbrev pub proposal_of : List ℕ → ℕ → ℕ → Option ℕ
proposal_of sets d t = first_candidate d (reached sets second_echoes (2 * t + 1))
