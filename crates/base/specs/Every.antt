-- Tables of worked examples: all rows hold.
use Rattle.std.specs.Prelude.{List, [], ◌∷◌}

-- all of a list
abbrev pub Every : {A : Type 0} → (A → Type 0) → List A → Type 0
Every P [] = Unit {0}
Every P (x ∷ l) = P x × Every P l
