-- The pair's answer is y and z exactly when both parties answer so, on ranges, under two agreement numbers.
use mathlib.Core.Path.{◌≡◌, refl, ap, ap₂, ◌∙◌}
use mathlib.Core.Bool.{Bool, true, false, not}
use Prim.Native.Nat.{ℕ}
use native.Mathlib.Omega.{arith}
use lib.Dec.{eqb, eqb→eq, T_not}
use lib.IntN.{ℤ}
use borrow.Author.Tests.{eq-eqb}
use Rattle.std.specs.Prelude.{Some, None}
use Rattle.std.proofs.lemmas.Option.{some_pair_parts}
use Rattle.base.specs.Pick.{pick}
use Rattle.base.specs.Verdict.{Verdict}
use Rattle.base.specs.Found.{Found, found}
use Rattle.base.proofs.Bools.{true→T}
use Rattle.plan.proofs.Listed.{asked}
use Rattle.party.specs.Party.{Party, output_of}
use Rattle.party.specs.Valid.{party_valid}
use Rattle.board_calls.specs.Answers.{answer_of, Answer}
use Rattle.board_calls.specs.Calls.{answered_of, Answered}
use Rattle.board_pair.specs.Pair.{pair_of, asking, pair_questions}
use Rattle.board_pair.specs.Statement.{BothAnswer, Exact}
use Rattle.board_pair.proofs.Questions.{all_pass}

-- a value is found only where a party's own reading is accepted
accepted : {A : Type 0} (v : Verdict) (go : Found A) (x : A) → asking v go ≡ found x → (v ≡ Verdict.Accepted) × (go ≡ found x)
accepted Verdict.Accepted go x e = (refl, e)
accepted (Verdict.Refused number place) go x e = let z : ◌≡◌ {A = ℕ} 0 1 = cc in absurd (omega arith)

-- a pair is of two answers
both : (a b : Answer) (y z : ℤ) → pair_of a b ≡ Some (y, z) → (a ≡ Some y) × (b ≡ Some z)
both None b y z e = let o : ◌≡◌ {A = ℕ} 0 1 = cc in absurd (omega arith)
both (Some x) None y z e = let o : ◌≡◌ {A = ℕ} 0 1 = cc in absurd (omega arith)
both (Some x) (Some w) y z e = let p = some_pair_parts x y w z e in (ap Some p.0, ap Some p.1)

-- a party that answers is not refused
module _ (p : Party) where
  abbrev read : Bool → Answered
  read valid = pick valid (record { verdict = Verdict.Accepted; answer = answer_of p.plan (output_of p) }) (record { verdict = Verdict.Refused 19 0; answer = None })

  answers_accepted : (y : ℤ) → (answered_of p).answer ≡ Some y → (answered_of p).verdict ≡ Verdict.Accepted
  unfolding answered_of
  answers_accepted y e = go (party_valid p) e
    where
      go : (valid : Bool) → (read valid).answer ≡ Some y → (read valid).verdict ≡ Verdict.Accepted
      go true e = refl
      go false e = let o : ◌≡◌ {A = ℕ} 0 1 = cc in absurd (omega arith)

module _ (p q : Party) (y z : ℤ) where
  only_then : pair_questions p q ≡ found (Some (y, z)) → BothAnswer p q y z
  unfolding pair_questions
  only_then e =
      let a = accepted (answered_of p).verdict _ (Some (y, z)) e in
      let b = accepted (answered_of q).verdict _ (Some (y, z)) a.1 in
      let n = asked (not (eqb p.agreement q.agreement)) 27 0 _ (Some (y, z)) b.1 in
      let k = asked (eqb p.plan.kind 2) 12 0 _ (Some (y, z)) n.1 in
      let l = asked (eqb q.plan.kind 2) 12 0 _ (Some (y, z)) k.1 in
      let f : found (pair_of (answered_of p).answer (answered_of q).answer) ≡ found (Some (y, z)) = l.1 in
      let i : pair_of (answered_of p).answer (answered_of q).answer ≡ Some (y, z) = cc in
      let g = both (answered_of p).answer (answered_of q).answer y z i in
      record {
        first = g.0;
        second = g.1;
        numbers = λ s. T_not (eqb p.agreement q.agreement) n.0 (true→T (eq-eqb p.agreement q.agreement s));
        ranges = (eqb→eq p.plan.kind 2 k.0, eqb→eq q.plan.kind 2 l.0);
      }

  then : BothAnswer p q y z → pair_questions p q ≡ found (Some (y, z))
  then b =
      all_pass p q (answers_accepted p y b.first) (answers_accepted q z b.second) b.numbers b.ranges.0 b.ranges.1
      ∙ ap found (ap₂ pair_of b.first b.second)

pub exact : Exact
exact p q y z = (only_then p q y z, then p q y z)
