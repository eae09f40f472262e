-- A question that refuses an edge: to name it is to ask questions 7 to 9 one after the other.
use mathlib.Core.Path.{◌≡◌, sym, ap}
use mathlib.Core.Bool.{Bool, true, false}
use Prim.Native.Nat.{ℕ, ◌<◌}
use native.Mathlib.Omega.{arith}
use Rattle.base.specs.Found.{Found, refused, ask}
use Rattle.base.specs.Question.{number_of}
use Rattle.base.specs.declared.Question.{Question}
use Rattle.base.specs.declared.Question.TheVariants.{Boards, FaultyBoards, OwnNumber, PlanVarint, PlanKind, VertexCount, EdgeEnds, Acyclic, Degree, RangeLimits, PlanEnd, OnPlan, NotStarted, Sender, MessageCut, Agreement, JournalRoom, OutgoingRoom, PartyRecord, UsedLength, JournalRecord, MessageVarint, MessageTable, MessageEnd, StepSize, TwoAgreements}
use Rattle.edges.specs.Inner.{fault_by}

-- no question has the number 0
pub numbered : (q : Question) → 0 < number_of q
numbered q =
    elim q as (λ x. 0 < number_of x) [
      | Boards ↦ omega arith
      | FaultyBoards ↦ omega arith
      | OwnNumber ↦ omega arith
      | PlanVarint ↦ omega arith
      | PlanKind ↦ omega arith
      | VertexCount ↦ omega arith
      | EdgeEnds ↦ omega arith
      | Acyclic ↦ omega arith
      | Degree ↦ omega arith
      | RangeLimits ↦ omega arith
      | PlanEnd ↦ omega arith
      | OnPlan ↦ omega arith
      | NotStarted ↦ omega arith
      | Sender ↦ omega arith
      | MessageCut ↦ omega arith
      | Agreement ↦ omega arith
      | JournalRoom ↦ omega arith
      | OutgoingRoom ↦ omega arith
      | PartyRecord ↦ omega arith
      | UsedLength ↦ omega arith
      | JournalRecord ↦ omega arith
      | MessageVarint ↦ omega arith
      | MessageTable ↦ omega arith
      | MessageEnd ↦ omega arith
      | StepSize ↦ omega arith
      | TwoAgreements ↦ omega arith
    ]

pub refused_by_first : {A : Type 0} (apart free room : Bool) (q : Question) (place : ℕ) (go : Found A)
    → number_of q ≡ fault_by apart free room → ask apart 7 place (ask free 8 place (ask room 9 place go)) ≡ refused (number_of q) place
refused_by_first true true true q place go e = absurd (omega (arith, numbered q, e))
refused_by_first true true false q place go e = ap (λ (n : ℕ). refused n place) (sym e)
refused_by_first true false room q place go e = ap (λ (n : ℕ). refused n place) (sym e)
refused_by_first false free room q place go e = ap (λ (n : ℕ). refused n place) (sym e)
