-- Some bytes of a script, read into a line up to its newline.
use Rattle.std.specs.Prelude.{Bool, false, ◌||◌, List, [], ◌∷◌, ℕ, ◌+◌, eqb, length}
use Rattle.base.specs.Pick.{pick}

-- the bytes before the next newline, or to the end
unfoldable pub up_to : List ℕ → List ℕ
up_to [] = []
up_to (b ∷ s) = pick (eqb b 10) [] (b ∷ up_to s)

-- is there a newline?
unfoldable pub has_newline : List ℕ → Bool
has_newline [] = false
has_newline (b ∷ s) = eqb b 10 || has_newline s

-- the line that bytes make of l, one after the other
unfoldable pub read_from : {L : Type 0} → (L → ℕ → L) → L → List ℕ → L
read_from byte l [] = l
read_from byte l (b ∷ s) = read_from byte (byte l b) s

-- the line l goes on with the bytes s from place i on: whether it ends, the line so far, and the place past what was read
abbrev pub scan_by : {L R : Type 0} → (L → ℕ → L) → (Bool → L → ℕ → R) → L → List ℕ → ℕ → R
scan_by byte f l s i = f (has_newline s) (read_from byte l (up_to s)) (i + length (up_to s) + pick (has_newline s) 1 0)
