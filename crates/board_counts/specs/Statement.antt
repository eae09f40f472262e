-- What a start by count is: the start of the count's nearest step.
use Rattle.std.specs.Prelude.{◌≡◌, ℕ, ◌≤◌, T, ℤ}
use Rattle.base.specs.Limits.{outgoing_size}
use Rattle.base.specs.Found.{found, refused}
use Rattle.rounding.specs.Rounding.{size_passes, nearest_step}
use Rattle.party.specs.Party.{Party}
use Rattle.party.specs.Valid.{party_valid}
use Rattle.board_calls.specs.Calls.{Entry, start_questions}
use Rattle.board_calls.specs.Counts.{start_count_questions}

-- of a size that passes, on a range, it finds what that start finds: the same refusal, or the same record, messages and rules
abbrev pub IsStart : Type 0
IsStart = (p : Party) (g : ℕ) (c : ℤ) (room used out : ℕ) → T (size_passes g) → p.plan.kind ≡ 2
    → start_count_questions p g c room used out ≡ start_questions p (nearest_step g c) room used out

-- and no other is accepted
abbrev pub OnlyThen : Type 0
OnlyThen = (p : Party) (g : ℕ) (c : ℤ) (room used out : ℕ) (e : Entry) → start_count_questions p g c room used out ≡ found e
    → T (size_passes g) × (p.plan.kind ≡ 2) × (start_questions p (nearest_step g c) room used out ≡ found e)

-- "25 when g is odd or out of its limits, asked before 13": past 19, 18 and 20 such a size is refused by it, whether the board has started or not
abbrev pub SizeFirst : Type 0
SizeFirst = (p : Party) (g : ℕ) (c : ℤ) (room used out : ℕ) → T (party_valid p) → outgoing_size ≤ out → used ≤ room → (T (size_passes g) → ⊥)
    → start_count_questions p g c room used out ≡ refused 25 0
