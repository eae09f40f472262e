-- Definitions for proofs about replaying records.
use Rattle.std.specs.Prelude.{◌≡◌, Bool, true, List, ℕ, ◌<◌, T, length, replicate}
use Rattle.base.specs.Limits.{level_count}
use Rattle.plan.specs.Valid.{plan_valid}
use Rattle.level.specs.Level.{blank_level}
use Rattle.journal.specs.declared.Record.{Record}
use Rattle.journal.specs.declared.Record.TheVariants.{Start, Taken}
use Rattle.journal.specs.Reading.{whole_record, record_at}
use Rattle.party.specs.Party.{Party}
use Rattle.party.specs.Run.{Ran}
use Rattle.party.specs.Valid.{settings_pass}
use Rattle.party_life.specs.Life.{replayed, following, Fits}

-- a party as an accepted set-up gives it
pub record New (p : Party) : Type 0 where
  pub settings : T (settings_pass p)
  pub plan : T (plan_valid p.plan)
  pub levels : p.levels ≡ replicate level_count blank_level

-- a party is started after a record
abbrev pub started_by : Record → Bool → Bool
started_by (Start a x) started = true
started_by (Taken s m) started = started

-- the record at a place of j, which fits the party of r, leads on to q
pub data One (j : List ℕ) : ℕ → Ran → ℕ → Ran → Type 0 where
  one : {at next : ℕ} {r : Ran} (x : Record) → at < length j → record_at j at ≡ whole_record x next → Fits r.party x
      → One j at r next (following r (replayed r.party x))

-- some such records, one after the other
pub data Many (j : List ℕ) : ℕ → Ran → ℕ → Ran → Type 0 where
  none : {at : ℕ} {r : Ran} → Many j at r at r
  more : {at next end : ℕ} {r s q : Ran} → One j at r next s → Many j next s end q → Many j at r end q
