-- What a call gives, with both lent buffers after it.
use Rattle.std.specs.Prelude.{◌≡◌, List, ℕ}
use Rattle.base.specs.Found.{Found}
use Rattle.party.specs.Party.{Party}
use Rattle.board_calls.specs.Calls.{Called, Entry, called_of, journal_after, outgoing_after}
use Rattle.board_calls.specs.Restore.{Replay, restored_of, restore_outgoing}

-- a start or take on p whose questions find q: its result, and the journal and the outgoing buffer, which were j and out
pub record CallGives (q : Found Entry) (p : Party) (used : ℕ) (j out : List ℕ) (r : Called) (jThen out_then : List ℕ) : Type 0 where
  pub result : r ≡ called_of p used q
  pub journal : jThen ≡ journal_after j used q
  pub outgoing : out_then ≡ outgoing_after out q

-- a restore whose questions find q
pub record RestoreGives (q : Found Replay) (out : List ℕ) (r : Called) (out_then : List ℕ) : Type 0 where
  pub result : r ≡ restored_of q
  pub outgoing : out_then ≡ restore_outgoing out q
