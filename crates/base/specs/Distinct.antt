-- Lists in which no entry occurs twice.
use mathlib.Core.List.{List, [], ◌∷◌, Memᴰ}

abbrev pub Distinct : {A : Type 0} → List A → Type 0
Distinct [] = Unit {0}
Distinct (x ∷ l) = (Memᴰ x l → ⊥) × Distinct l
