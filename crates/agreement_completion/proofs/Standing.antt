-- One call after which a sound board that did not run runs: its set-up, or a restore from exactly its used bytes.
use mathlib.Core.Path.{◌≡◌, refl, ap, ◌∙◌}
use mathlib.Core.Logic.{inl, inr}
use mathlib.Core.List.{◌∷◌}
use Prim.Native.Nat.{ℕ}
use native.Mathlib.Omega.{arith}
use Rattle.base.specs.Sets.{Set}
use Rattle.base.specs.Limits.{outgoing_size}
use Rattle.plan.specs.Plan.{Plan}
use Rattle.board_calls.specs.Calls.{SetUp}
use Rattle.agreement.specs.History.{Instance, Lent, StartInput, Call, set_up, restore, calls, History, waiting, running, down, Board, after_set_up, after_restore, board_after}
use Rattle.agreement.specs.Allowed.{Sound, Ours, May, Allowed}
use Rattle.agreement.specs.Demand.{Shared}
use Rattle.agreement.proofs.Tied.{set_up_found}
use Rattle.agreement.proofs.Steps.{own}
use Rattle.agreement.proofs.Accepted.{restore_accepted}
use Rattle.agreement_completion.specs.Statement.{Orderly}
use Rattle.agreement_completion.proofs.Boards.{down_waiting}
use Rattle.agreement_completion.proofs.Keeping.{Keeping}

pub record Ready (v : Instance) (bad : Set) (h : History) (i : ℕ) : Type 0 where
  pub call : Call
  pub keeping : (input : StartInput) → Keeping input (calls i call)
  pub order : Orderly v bad (calls i call) h
  pub may : May v bad (calls i call) h
  pub stage : (board_after (calls i call ∷ h) i).stage ≡ running

module _ (v : Instance) (plan : Plan) (bad : Set) (f : Shared v plan) (h : History) (a : Allowed v bad h) (i : ℕ) (o : Sound v bad i) where
  ours : Ours v i v.n v.t i v.agreement v.plan
  ours = record { boards = refl; faults = refl; seat = refl; number = refl; bytes = refl }

  pub by_set_up : (board_after h i).stage ≡ waiting → Ready v bad h i
  by_set_up e = record {
    call = set_up v.n v.t i v.agreement v.plan;
    keeping = λ input. tt;
    order = e;
    may = (o, inr (e, ours));
    stage =
        ap (λ (b : Board). b.stage)
        (own (calls i (set_up v.n v.t i v.agreement v.plan)) h
        ∙ ap (λ (x : SetUp). after_set_up (board_after h i) x.verdict x.party) (set_up_found v plan f i o.0));
  }

  pub by_restore : (board_after h i).stage ≡ down → Ready v bad h i
  by_restore e = record {
    call = restore v.n v.t i v.agreement v.plan lent;
    keeping = λ input. tt;
    order = e;
    may = (o, inr (down_waiting (board_after h i).stage e, ours, inl refl));
    stage =
        ap (λ (b : Board). b.stage)
        (own (calls i (restore v.n v.t i v.agreement v.plan lent)) h
        ∙ ap (after_restore (board_after h i) lent) (restore_accepted v plan bad f h a i o.0 lent (inl refl) (omega arith)));
  }
    where
      lent : Lent
      lent = record { journal = (board_after h i).journal; out = outgoing_size }
