-- What one row, from p to v, changes in an array that a pass over the rows fills: serves proofs only.
use Rattle.std.specs.Prelude.{◌≡◌, ◌&&◌, List, ℕ, ◌+◌, ◌*◌, ◌≤◌, ltb, get_or, set}
use Rattle.base.specs.Pick.{pick}
use Rattle.base.specs.Limits.{max_vertices}
use Rattle.marks.specs.Marks.{marked}

-- p takes what v holds, if both are in the set
unfoldable pub raised : List ℕ → List ℕ → ℕ → ℕ → List ℕ
raised ins sub p v = pick (marked ins p && marked ins v) (set sub p (get_or sub p 0 + get_or sub v 0)) sub

-- the sum fits
abbrev pub Room : List ℕ → List ℕ → ℕ → ℕ → Type 0
Room ins sub p v = get_or ins p 0 ≡ 1 → get_or ins v 0 ≡ 1 → get_or sub p 0 + get_or sub v 0 ≤ max_vertices

-- the end beyond which more than half of the set's s members lie loses its mark, if both are in the set; sub[v] of them lie beyond p
unfoldable pub cleared : List ℕ → List ℕ → List ℕ → ℕ → ℕ → ℕ → List ℕ
cleared ins sub light s p v =
    pick (marked ins p && marked ins v)
    (pick (ltb s (get_or sub v 0 * 2)) (set light p 0) (pick (ltb (get_or sub v 0 * 2) s) (set light v 0) light))
    light
