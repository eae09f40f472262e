-- What an accepted start by count finds: what the start of its step finds.
use mathlib.Core.Path.{◌≡◌}
use Prim.Native.Nat.{ℕ}
use lib.Dec.{T}
use lib.IntN.{ℤ}
use Rattle.base.specs.Found.{found}
use Rattle.rounding.specs.Rounding.{nearest_step}
use Rattle.journal.specs.declared.Record.{Record}
use Rattle.party.specs.Party.{Party}
use Rattle.party.specs.Run.{Ran}
use Rattle.party.specs.Valid.{party_valid}
use Rattle.board_calls.specs.Calls.{Entry, fresh}
use Rattle.board_calls.specs.Counts.{start_count_questions}
use Rattle.board_laws.proofs.Counts.{count_start}
use Rattle.board_laws.proofs.Recorded.{Recorded, start_valid, start_recorded}

module _ (p : Party) (g : ℕ) (c : ℤ) (room used out : ℕ) where
  pub count_valid : (x : Entry) → start_count_questions p g c room used out ≡ found x → T (party_valid p)
  count_valid x e = start_valid p room used out x (nearest_step g c) (count_start p g c room used out e).2

  pub count_recorded : (r : Record) (ran : Ran) → start_count_questions p g c room used out ≡ found (fresh r ran) → Recorded p r ran
  count_recorded r ran e = start_recorded p room used out r ran (nearest_step g c) (count_start p g c room used out e).2
