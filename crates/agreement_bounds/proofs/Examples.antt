-- The reports of the history with a lost start, which meets demand 3's premises (histories/specs/Cuts.antt, proofs/Cuts.antt `conclusion`).
use mathlib.Core.Path.{◌≡◌, refl}
use mathlib.Core.List.{[], ◌∷◌, ◌++◌}
use Rattle.base.specs.Limits.{outgoing_size}
use Rattle.board_calls.specs.Restore.{restore_questions, restored_of}
use Rattle.agreement.specs.History.{board_after}
use Rattle.agreement_histories.specs.Scripts.{history_of}
use Rattle.agreement_histories.specs.Cuts.{vote, lost, back, again, torn, rest, script}
use Rattle.agreement_histories.proofs.Computing.{computing}
use Rattle.agreement_bounds.specs.Reports.{reports}

-- board 0 starts, which counts one rule
pub start_counts : reports (history_of vote lost) 0 ≡ 1 ∷ []
unfolding computing lost reports
start_counts = refl

-- a cut loses the start
pub lost_left_out : reports (history_of vote (lost ++ back)) 0 ≡ []
unfolding computing lost back reports
lost_left_out = refl

-- it starts again and takes eight messages; the last cut loses nothing
pub in_all : reports (history_of vote script) 0 ≡ 3 ∷ 0 ∷ 0 ∷ 1 ∷ 2 ∷ 0 ∷ 0 ∷ 1 ∷ 1 ∷ []
unfolding computing lost back again torn rest reports
in_all = refl

-- a restore after that cut reports their sum
pub restored_in_all : (restored_of (restore_questions 2 0 0 1 (2 ∷ 0 ∷ 2 ∷ []) (board_after (history_of vote script) 0).journal outgoing_size)).rules ≡ 8
unfolding computing lost back again torn rest
restored_in_all = refl
