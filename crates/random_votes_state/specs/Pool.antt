-- When boards took a message.
use Rattle.std.specs.Prelude.{ℕ, get_or}
use Rattle.random_votes_state.specs.declared.pool.Handed.{Handed}

-- what a message handed over keeps of a board: one more than the used length after the call that took it, or 0
abbrev pub kept_of : Handed → ℕ → ℕ
kept_of handed b = (get_or handed.taken b (record { kept = 0 })).kept
