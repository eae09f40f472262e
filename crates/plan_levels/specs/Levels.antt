-- Document 02, Q-7: "the number of sending levels its deepest component needs".
use Rattle.std.specs.Prelude.{ℕ, zero, suc, max, leb}
use Rattle.base.specs.Pick.{pick}
use Rattle.base.specs.Sets.{Set}
use Rattle.base.specs.Limits.{sending_levels}
use Rattle.plan.specs.Plan.{Plan}
use Rattle.component.specs.Component.{whole_of, size_of, degree_of, side_of}

-- the greatest of f 1 .. f d, or 0
unfoldable pub greatest : ℕ → (ℕ → ℕ) → ℕ
greatest zero f = 0
greatest (suc d) f = max (greatest d f) (f (suc d))

-- A component of one or two positions sends nothing; a larger one sends at its own level, and each of its sides, 1 to d, at the levels after it; f levels
-- at most.
unfoldable pub levels_from : ℕ → Plan → Set → ℕ
levels_from zero p S = 0
levels_from (suc f) p S = pick (leb 3 (size_of p S)) (suc (greatest (degree_of p S) (λ k. levels_from f p (side_of p S k)))) 0

-- of all positions; "At most 15 levels send messages"
abbrev pub levels_of : Plan → ℕ
levels_of p = levels_from sending_levels p (whole_of p)
