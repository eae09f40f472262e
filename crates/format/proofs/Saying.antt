-- A format that says f of what another says has the same fields.
use mathlib.Core.Path.{◌≡◌, refl, ap}
use mathlib.Core.List.{List}
use Prim.Native.Nat.{ℕ}
use Rattle.std.specs.Prelude.{Ok, Err}
use Rattle.format.specs.Format.{Format, says, field, saying, Spells}
use Rattle.format.specs.Reading.{field_at, Read, whole, with_field, read_at}
use Rattle.format.specs.Statement.{Sensible}

module _ {A B : Type 0} (f : A → B) where
  abbrev pub say_read : Read A → Read B
  say_read (Ok r) = whole (f r.value) r.next
  say_read (Err e) = Err e

  pub saying_read : (g : Format A) (s : List ℕ) (at : ℕ) → read_at (saying f g) s at ≡ say_read (read_at g s at)
  saying_read (says a) s at = refl
  saying_read (field low high rest) s at = go (field_at low high s at) (λ v. saying_read (rest v) s)
    where
      go : (x : Read ℕ) → ((v next : ℕ) → read_at (saying f (rest v)) s next ≡ say_read (read_at (rest v) s next))
          → with_field x (λ v next. read_at (saying f (rest v)) s next) ≡ say_read (with_field x (λ v next. read_at (rest v) s next))
      go (Ok r) rec = rec r.value r.next
      go (Err e) rec = refl

  pub saying_spells : (g : Format A) (bs : List ℕ) (a : A) → Spells g bs a → Spells (saying f g) bs (f a)
  saying_spells (says x) bs a (e, h) = (e, ap f h)
  saying_spells (field low high rest) bs a (v, l, h, more, e, k) = (v, l, h, more, e, saying_spells (rest v) more a k)

  pub saying_spelled : (g : Format A) (bs : List ℕ) (b : B) → Spells (saying f g) bs b → (a : A) × (f a ≡ b) × Spells g bs a
  saying_spelled (says x) bs b (e, h) = (x, h, (e, refl))
  saying_spelled (field low high rest) bs b (v, l, h, more, e, k) =
      let r = saying_spelled (rest v) more b k in
      (r.0, r.1, (v, l, h, more, e, r.2))

  pub saying_sensible : (g : Format A) → Sensible g → Sensible (saying f g)
  saying_sensible (says x) k = tt
  saying_sensible (field low high rest) (k0, k1, k2, k) = (k0, k1, k2, λ v l h. saying_sensible (rest v) (k v l h))
