-- What every party keeps that came about by starts, messages taken and rules. These definitions serve proofs only.
use Rattle.std.specs.Prelude.{◌≡◌, ℕ, ◌<◌, T, length}
use Rattle.base.specs.Limits.{level_count}
use Rattle.level.specs.Level.{Level, no_output}
use Rattle.level_laws.specs.Inner.{Untouched, Grows}
use Rattle.party.specs.Party.{Party, level_at}
use Rattle.party.specs.Valid.{party_valid}

-- a party that passes question 19 and has all its levels
pub record Formed (p : Party) : Type 0 where
  pub valid : T (party_valid p)
  pub full : length p.levels ≡ level_count

-- q has the settings, the plan and as many levels as p
pub record SameBoard (p q : Party) : Type 0 where
  pub n : q.n ≡ p.n
  pub t : q.t ≡ p.t
  pub own : q.own ≡ p.own
  pub agreement : q.agreement ≡ p.agreement
  pub plan : q.plan ≡ p.plan
  pub levels : length q.levels ≡ length p.levels

-- no rule touched the level's record
pub record Unused (l : Level) : Type 0 where
  pub untouched : Untouched l
  pub output : l.output ≡ no_output

-- none touched the levels that are not entered
abbrev pub Fresh : Party → Type 0
Fresh p = (i : ℕ) → i < level_count → (T (level_at p i).entered → ⊥) → Unused (level_at p i)

-- what is there at each level of p is so in q
abbrev pub Grown : Party → Party → Type 0
Grown p q = (i : ℕ) → Grows (level_at p i) (level_at q i)
