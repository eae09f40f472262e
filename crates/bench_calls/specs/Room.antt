-- What the contract of a call cites.
use Rattle.std.specs.Prelude.{◌≡◌, ℕ}
use Rattle.base.specs.Verdict.{Verdict}

-- not refused by 17: the record fits the journal
abbrev pub HasRoom : Verdict → Type 0
HasRoom v = (place : ℕ) → v ≡ Verdict.Refused 17 place → ⊥
