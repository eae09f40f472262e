-- A refusal is told by its number and place.
use mathlib.Core.Path.{◌≡◌, refl, sym, ap, ◌∙◌}
use Prim.Native.Nat.{ℕ}
use native.Mathlib.Omega.{arith}
use Rattle.std.specs.Prelude.{Result, Ok, Err}
use Rattle.base.specs.Verdict.{Verdict, refused_by, as_verdict}
use Rattle.base.specs.Question.{number_of}
use Rattle.base.specs.declared.Question.{Question}
use Rattle.base.specs.declared.Question.TheVariants.{Boards, FaultyBoards, OwnNumber, PlanVarint, PlanKind, VertexCount, EdgeEnds, Acyclic, Degree, RangeLimits, PlanEnd, OnPlan, NotStarted, Sender, MessageCut, Agreement, JournalRoom, OutgoingRoom, PartyRecord, UsedLength, JournalRecord, MessageVarint, MessageTable, MessageEnd, StepSize, TwoAgreements}
use Rattle.base.specs.declared.Refusal.{Refusal}
use Rattle.base.specs.Pick.{pick}
use lib.Dec.{eqb}

-- the question with a number
question_of : ℕ → Question
question_of n =
    pick (eqb n 1) Boards (pick (eqb n 2) FaultyBoards (pick (eqb n 3) OwnNumber (pick (eqb n 4) PlanVarint (pick (eqb n 5) PlanKind (pick (eqb n 6) VertexCount (pick (eqb n 7) EdgeEnds (pick (eqb n 8) Acyclic (pick (eqb n 9) Degree (pick (eqb n 10) RangeLimits (pick (eqb n 11) PlanEnd (pick (eqb n 12) OnPlan (pick (eqb n 13) NotStarted (pick (eqb n 14) Sender (pick (eqb n 15) MessageCut (pick (eqb n 16) Agreement (pick (eqb n 17) JournalRoom (pick (eqb n 18) OutgoingRoom (pick (eqb n 19) PartyRecord (pick (eqb n 20) UsedLength (pick (eqb n 21) JournalRecord (pick (eqb n 22) MessageVarint (pick (eqb n 23) MessageTable (pick (eqb n 24) MessageEnd (pick (eqb n 25) StepSize TwoAgreements))))))))))))))))))))))))

back : (q : Question) → question_of (number_of q) ≡ q
unfolding question_of
back Boards = refl
back FaultyBoards = refl
back OwnNumber = refl
back PlanVarint = refl
back PlanKind = refl
back VertexCount = refl
back EdgeEnds = refl
back Acyclic = refl
back Degree = refl
back RangeLimits = refl
back PlanEnd = refl
back OnPlan = refl
back NotStarted = refl
back Sender = refl
back MessageCut = refl
back Agreement = refl
back JournalRoom = refl
back OutgoingRoom = refl
back PartyRecord = refl
back UsedLength = refl
back JournalRecord = refl
back MessageVarint = refl
back MessageTable = refl
back MessageEnd = refl
back StepSize = refl
back TwoAgreements = refl

question_one : (p q : Question) → number_of p ≡ number_of q → p ≡ q
question_one p q e = sym (back p) ∙ ap question_of e ∙ back q

pub refusal_one : (x y : Refusal) → refused_by x ≡ refused_by y → x ≡ y
refusal_one x y e =
    let n : number_of x.question ≡ number_of y.question = cc in
    let at : x.place ≡ y.place = cc in
    let q = question_one x.question y.question n in
    λ k. record { question = q k; place = at k }

-- an accepted call is not refused
pub not_refused : (r : Refusal) → Verdict.Accepted ≡ refused_by r → ⊥
not_refused r e = let z : ◌≡◌ {A = ℕ} 0 1 = cc in omega arith

pub verdict_one : (v w : Result (Unit {0}) Refusal) → as_verdict v ≡ as_verdict w → v ≡ w
verdict_one (Ok u) (Ok w) e = refl
verdict_one (Ok u) (Err y) e = absurd (not_refused y e)
verdict_one (Err x) (Ok w) e = absurd (not_refused x (sym e))
verdict_one (Err x) (Err y) e = ap Err (refusal_one x y e)
