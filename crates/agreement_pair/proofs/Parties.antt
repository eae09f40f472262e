-- In one vote: a party that gives an answer has the vote's settings and plan.
use mathlib.Core.Path.{◌≡◌, refl, sym, ◌∙◌, subst}
use Prim.Native.Nat.{ℕ}
use native.Mathlib.Omega.{arith}
use lib.IntN.{ℤ}
use Rattle.std.specs.Prelude.{Some, None}
use Rattle.base.specs.Sets.{Set}
use Rattle.plan.specs.Plan.{Plan}
use Rattle.party_laws.specs.Inner.{SameBoard}
use Rattle.board_calls.specs.Calls.{answered_of}
use Rattle.agreement.specs.History.{Instance, History, Stage, waiting, running, down, board_after}
use Rattle.agreement.specs.Allowed.{Sound}
use Rattle.agreement.specs.Demand.{party_by, party_now, answer_now, Premises}
use Rattle.agreement.proofs.Tied.{new_board}
use Rattle.agreement.proofs.Boards.{answered_none, state_of, running_state, down_state, state_board}

module _ (v : Instance) (plan : Plan) (bad : Set) (h : History) (given : Premises v plan bad h) (i : ℕ) (o : Sound v bad i) (z : ℤ) where
  -- it is that of the board's log: a board not set up gives no answer
  answering_state : answer_now v h i ≡ Some z → party_now v h i ≡ state_of v plan h i
  answering_state = go (board_after h i).stage refl
    where
      go : (s : Stage) → (board_after h i).stage ≡ s → (answered_of (party_by v i (board_after h i) s)).answer ≡ Some z
          → party_by v i (board_after h i) s ≡ state_of v plan h i
      go waiting up e = let f : None ≡ Some z = sym answered_none ∙ e in let n : ◌≡◌ {A = ℕ} 0 1 = cc in absurd (omega arith)
      go running up e = running_state v plan bad given.shared h given.allowed i o.0 up
      go down up e = down_state v plan bad given.shared h given.allowed i o.0

  pub answering_board : answer_now v h i ≡ Some z → SameBoard (new_board v plan i) (party_now v h i)
  answering_board e =
      subst (SameBoard (new_board v plan i)) (sym (answering_state e)) (state_board v plan bad given.shared h given.allowed i o.0)
