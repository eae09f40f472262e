-- What a start by count gives.
use Rattle.std.specs.Prelude.{◌≡◌, List, ℕ, ℤ, Option}
use Rattle.base.specs.Found.{Found}
use Rattle.party.specs.Party.{Party}
use Rattle.board_calls.specs.Calls.{Called, Entry}
use Rattle.board_calls.specs.Counts.{remainder_in}
use Rattle.board_calls.specs.Results.{CallGives}

-- a start of p by the count c, in steps of g counts, whose questions find q: what a start gives, and the remainder
pub record CountStarts (g : ℕ) (c : ℤ) (q : Found Entry) (p : Party) (used : ℕ) (j out : List ℕ) (r : Called) (rest : Option ℤ) (jThen out_then : List ℕ) : Type 0 where
  pub gives : CallGives q p used j out r jThen out_then
  pub remainder : rest ≡ remainder_in g c q
