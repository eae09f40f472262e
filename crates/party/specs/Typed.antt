-- What a party has by the type of the code's record: every value of it has it (party_step/proofs/Typed.antt `typed_party`).
use Rattle.std.specs.Prelude.{◌≡◌, ℕ, ◌≤◌, ◌<◌, length}
use Rattle.base.specs.Limits.{max_number, level_count}
use Rattle.level.specs.Level.{value_count}
use Rattle.party.specs.Party.{Party, level_at}

-- all levels, in each a place for every second echo, and an agreement number in its limits
pub record Typed (p : Party) : Type 0 where
  pub levels : length p.levels ≡ level_count
  pub echoes : (i : ℕ) → i < level_count → length (level_at p i).echoed ≡ value_count
  pub agreement : p.agreement ≤ max_number
