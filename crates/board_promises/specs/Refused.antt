-- "A refused call hands back the party record as given and writes to neither lent buffer."
use Rattle.std.specs.Prelude.{◌≡◌, List, ℕ}
use Rattle.party.specs.Party.{Party}
use Rattle.board_calls.specs.Calls.{Called}

-- a start, by count or not, or a take changed nothing: the party, the used length, the journal and the outgoing buffer are those that were lent, and nothing was sent or applied
pub record Untouched (p : Party) (used : ℕ) (j out : List ℕ) (r : Called) (jThen out_then : List ℕ) : Type 0 where
  pub party : r.party ≡ p
  pub used_then : r.used ≡ used
  pub journal : jThen ≡ j
  pub outgoing : out_then ≡ out
  pub sent : r.sent ≡ 0
  pub rules : r.rules ≡ 0
