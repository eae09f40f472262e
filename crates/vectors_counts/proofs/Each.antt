-- A table's theorem by one computed test: what is computed of all rows is what they say.
use mathlib.Core.Path.{◌≡◌}
use mathlib.Core.List.{List, [], ◌∷◌, map}
use Rattle.base.specs.Every.{Every}

module _ {A B : Type 0} (f g : A → B) where
  pub each : (l : List A) → map f l ≡ map g l → Every (λ (x : A). f x ≡ g x) l
  each [] e = tt
  each (x ∷ l) e =
      let h : f x ≡ g x = cc in
      let t : map f l ≡ map g l = cc in
      (h, each l t)
