-- Two boards and three cuts: a lost start, a torn record, and an answer that outlasts the cut.
use mathlib.Core.Path.{◌≡◌, refl}
use mathlib.Core.Bool.{true}
use mathlib.Core.List.{[], ◌∷◌, ◌++◌}
use Prim.Native.Nat.{ℕ}
use lib.IntN.{ℤ, pos}
use Rattle.std.specs.Prelude.{Some}
use Rattle.agreement.specs.History.{down, board_after}
use Rattle.agreement.specs.Demand.{Started}
use Rattle.agreement_histories.specs.Scripts.{restores, history_of, Concludes}
use Rattle.agreement_histories.specs.Cuts.{vote, plan, bad, lost, back, again, torn, rest, script}
use Rattle.agreement_histories.proofs.Worlds.{board_of}
use Rattle.agreement_histories.proofs.Passing.{passes, ending}
use Rattle.agreement_histories.proofs.Delivery.{starts_in, Judges}
use Rattle.agreement_histories.proofs.Delivered.{passed, concludes, started, only_there}
use Rattle.agreement_histories.proofs.Computing.{computing}

judged : Judges vote bad script (Some (pos 2) ∷ Some (pos 2) ∷ [])
unfolding computing lost back again torn rest
judged = refl

pub conclusion : Concludes vote plan bad (history_of vote script) (Some (pos 2) ∷ Some (pos 2) ∷ [])
unfolding computing
conclusion = concludes vote plan bad script _ judged refl refl

passing : passes vote bad script ≡ true
passing = passed vote plan bad script (Some (pos 2) ∷ Some (pos 2) ∷ []) judged

-- ---- the lost start

-- the start at 0 was accepted and recorded; the cut and the restore leave nothing of it
pub recorded : (board_after (history_of vote lost) 0).journal ≡ 1 ∷ 1 ∷ 0 ∷ []
unfolding computing lost
recorded = refl

pub gone : (board_after (history_of vote (lost ++ back)) 0).journal ≡ []
unfolding computing lost back
gone = refl

-- board 0 started at 2, and nowhere else
starts_of_0 : starts_in (board_of (ending vote script) 0).counted ≡ 2 ∷ []
unfolding computing lost back again torn rest
starts_of_0 = refl

pub started_2 : (z : ℤ) × Started (history_of vote script) 0 2 z
started_2 = started vote bad script passing 0 2 starts_of_0

pub only_2 : (x : ℕ) (z : ℤ) → Started (history_of vote script) 0 x z → x ≡ 2
only_2 = only_there vote bad script passing 0 2 starts_of_0

-- ---- the torn record

-- the cut leaves four bytes of it, and the restore none
pub torn_off : (board_after (history_of vote ((lost ++ back) ++ (again ++ torn))) 1).journal ≡ 1 ∷ 1 ∷ 2 ∷ 2 ∷ 0 ∷ 1 ∷ 0 ∷ []
unfolding computing lost back again torn
torn_off = refl

pub dropped : (board_after (history_of vote ((lost ++ back) ++ (again ++ torn) ++ (restores 1 ∷ []))) 1).journal ≡ 1 ∷ 1 ∷ 2 ∷ []
unfolding computing lost back again torn
dropped = refl

-- ---- the last cut: board 0's answer is what reading would give once it is restored

pub cut_off : (board_after (history_of vote script) 0).stage ≡ down
unfolding computing lost back again torn rest
cut_off = refl
