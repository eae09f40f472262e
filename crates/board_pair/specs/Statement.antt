-- What an answer of a pair says, and when there is one.
use Rattle.std.specs.Prelude.{◌≡◌, ◌↔◌, ℤ, Some}
use Rattle.base.specs.Found.{found}
use Rattle.party.specs.Party.{Party}
use Rattle.board_calls.specs.Calls.{answered_of}
use Rattle.board_pair.specs.Pair.{pair_questions}

-- both parties answer, y and z, on ranges, under two agreement numbers
pub record BothAnswer (p q : Party) (y z : ℤ) : Type 0 where
  pub first : (answered_of p).answer ≡ Some y
  pub second : (answered_of q).answer ≡ Some z
  pub numbers : p.agreement ≡ q.agreement → ⊥
  pub ranges : (p.plan.kind ≡ 2) × (q.plan.kind ≡ 2)

-- the pair's answer is y and z exactly then
abbrev pub Exact : Type 0
Exact = (p q : Party) (y z : ℤ) → (pair_questions p q ≡ found (Some (y, z))) ↔ BothAnswer p q y z
