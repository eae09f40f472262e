-- No message twice in a sound board's calls that are not lost: what they made is what the records of its journal make, which are a life of the board as set up.
use mathlib.Core.Path.{◌≡◌, sym, ap, ap₂, ◌∙◌, subst}
use mathlib.Core.Logic.{inl, inr}
use mathlib.Core.List.{List, [], ◌∷◌, ◌++◌, append-nil}
use Prim.Native.Nat.{ℕ, ◌<◌}
use Rattle.base.specs.Sets.{Set}
use Rattle.base.specs.Distinct.{Distinct}
use Rattle.message.specs.declared.Message.{Message}
use Rattle.journal.specs.declared.Record.{Record}
use Rattle.plan.specs.Plan.{Plan}
use Rattle.party.specs.Party.{Party}
use Rattle.party.specs.Typed.{Typed}
use Rattle.party_life.specs.Life.{lived, Life, made_along}
use Rattle.party_bounds.proofs.Laws.{Sized, sized_new}
use Rattle.party_once.proofs.Once.{once}
use Rattle.agreement.specs.History.{Instance, History, Counted, board_after}
use Rattle.agreement.specs.Allowed.{Allowed}
use Rattle.agreement.specs.Demand.{Shared}
use Rattle.agreement.specs.Inner.{records_of}
use Rattle.agreement.proofs.Tied.{new_board, plan_valid_lem, settings_pass_lem}
use Rattle.agreement.proofs.Histories.{tied}
use Rattle.agreement.proofs.Boards.{records_of_lem}
use Rattle.agreement.proofs.Counted.{Follows}
use Rattle.agreement.proofs.Follows.{follows}
use Rattle.agreement_messages.specs.Statement.{made_in_all, OnceInHistory}

-- calls beside their records: a call without a record made nothing
pub made_same : (plan : Plan) (p : Party) (cs : List Counted) (rs : List Record) → Follows plan p cs rs → made_in_all cs ≡ made_along p rs
unfolding made_in_all lived
made_same plan p [] rs w = sym (ap (made_along p) w)
made_same plan p (c ∷ cs) rs (inl (x, w)) = ap₂ (λ (ms ns : List Message). ms ++ ns) (made_same plan p cs rs w) x.made ∙ append-nil (made_along p rs)
made_same plan p (c ∷ cs) rs (inr (older, x, w)) =
    ap₂ (λ (ms ns : List Message). ms ++ ns) (made_same plan p cs older w) x.made ∙ sym (ap (made_along p) x.records)

module _ (v : Instance) (plan : Plan) (bad : Set) (h : History) (f : Shared v plan) (a : Allowed v bad h) (i : ℕ) (seat : i < v.n) where
  -- the board as set up
  sized : Sized (new_board v plan i)
  sized = sized_new v.n v.t i v.agreement plan (settings_pass_lem v plan f i seat) (plan_valid_lem v plan f i seat)

  typed : Typed (new_board v plan i)
  typed = record { levels = sized.formed.full; echoes = sized.echoes; agreement = f.number }

  -- its records
  life : Life (new_board v plan i) (records_of h i)
  life = subst (Life (new_board v plan i)) (sym (records_of_lem v plan bad f h a i seat)) (tied v plan bad f h a i seat).life

  different : Distinct (made_in_all (board_after h i).counted)
  different =
      subst Distinct (sym (made_same plan (new_board v plan i) (board_after h i).counted (records_of h i) (follows v plan bad f h a i)))
      (once (new_board v plan i) typed sized.formed.valid (records_of h i) life)

pub once_in_history : OnceInHistory
once_in_history v plan bad h f a i g = different v plan bad h f a i g.0
