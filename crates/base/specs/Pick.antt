-- Choice by a test, and the smallest number that passes one.
use Rattle.std.specs.Prelude.{Bool, true, false, ◌||◌, ℕ, zero, suc, ltb}

-- a where the test holds, else b
abbrev pub pick {ℓ} : {A : Type ℓ} → Bool → A → A → A
pick true a b = a
pick false a b = b

-- the smallest number below n that passes, or n
unfoldable pub smallest : ℕ → (ℕ → Bool) → ℕ
smallest zero f = 0
smallest (suc n) f = pick (ltb (smallest n f) n || f n) (smallest n f) (suc n)
