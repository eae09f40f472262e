-- What the functions of this crate test, for them and for question 19.
use Rattle.std.specs.Prelude.{◌≡◌, Bool, ◌&&◌, ◌||◌, List, ℕ, zero, suc, leb, ltb, eqb}
use Rattle.senders.specs.Senders.{only_below}
use Rattle.level.specs.declared.Level as Code
use Rattle.level.specs.Level.{not_yet, no_output}
use Rattle.party.specs.Valid.{sets_pass, value_passes}

-- for every n, m names only boards below n where all sets do
pub record Unites (sets : List ℕ) (m : ℕ) : Type 0 where
  pub below : (n : ℕ) → only_below m n ≡ sets_pass n sets

-- an output is on a plan of so many positions, or not there yet
abbrev pub output_fits : ℕ → ℕ → Bool
output_fits count x = eqb x no_output || ltb x count

-- no result is there yet
abbrev pub is_unresolved : Code.Level → Bool
is_unresolved l = eqb l.first not_yet && eqb l.result not_yet

-- the results of a level of degree d
abbrev pub values_fit : ℕ → Code.Level → Bool
values_fit d l = value_passes d l.first && value_passes d l.result

-- level i may be entered by side k: level 0 by no side, each next by a side of the level before, which is the last that sends and has degree d
unfoldable pub entry_fits : ℕ → ℕ → ℕ → ℕ → Bool
entry_fits sending d zero k = eqb k 0
entry_fits sending d (suc i) k = eqb sending (suc i) && (leb 1 k && leb k d)
