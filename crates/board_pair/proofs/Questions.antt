-- What the reading of a pair finds, question by question.
use mathlib.Core.Path.{◌≡◌, refl, sym, ap, ◌∙◌}
use Prim.Native.Nat.{ℕ}
use borrow.Author.Tests.{eq-eqb, ne_eqb}
use Rattle.std.specs.Prelude.{Some, None, Err}
use Rattle.std.specs.Option.{option_zip}
use Rattle.base.specs.Verdict.{Verdict}
use Rattle.base.specs.Found.{Found, found, refused}
use Rattle.base.specs.Question.{number_of, RefusesAtZero}
use Rattle.base.specs.declared.Question.{Question}
use Rattle.base.specs.declared.Refusal.{Refusal}
use Rattle.party.specs.Party.{Party}
use Rattle.board_calls.specs.Answers.{Answer}
use Rattle.board_calls.specs.Calls.{Answered, answered_of}
use Rattle.board_pair.specs.Pair.{PairAnswer, pair_of, pair_questions, pair_gives}
use Rattle.board_pair.specs.Tie.{as_pair_answered}

-- what a party's own reading says
pub own_verdict : (p : Party) {a : Answered} {v : Verdict} → a ≡ answered_of p → a.verdict ≡ v → (answered_of p).verdict ≡ v
own_verdict p e h = sym (ap (λ (x : Answered). x.verdict) e) ∙ h

module _ (p q : Party) where
  pub first_refused : {number place : ℕ} → (answered_of p).verdict ≡ Verdict.Refused number place → pair_questions p q ≡ refused number place
  unfolding pair_questions
  first_refused h = rw h

  module _ (u : (answered_of p).verdict ≡ Verdict.Accepted) where
    pub second_refused : {number place : ℕ} → (answered_of q).verdict ≡ Verdict.Refused number place → pair_questions p q ≡ refused number place
    unfolding pair_questions
    second_refused h = rw (u, h)

    module _ (v : (answered_of q).verdict ≡ Verdict.Accepted) where
      pub equal_numbers : p.agreement ≡ q.agreement → pair_questions p q ≡ refused 27 0
      unfolding pair_questions
      equal_numbers h = rw (u, v, eq-eqb p.agreement q.agreement h)

      module _ (d : p.agreement ≡ q.agreement → ⊥) where
        pub first_no_range : (p.plan.kind ≡ 2 → ⊥) → pair_questions p q ≡ refused 12 0
        unfolding pair_questions
        first_no_range h = rw (u, v, ne_eqb p.agreement q.agreement d, ne_eqb p.plan.kind 2 h)

        module _ (k : p.plan.kind ≡ 2) where
          pub second_no_range : (q.plan.kind ≡ 2 → ⊥) → pair_questions p q ≡ refused 12 0
          unfolding pair_questions
          second_no_range h = rw (u, v, ne_eqb p.agreement q.agreement d, eq-eqb p.plan.kind 2 k, ne_eqb q.plan.kind 2 h)

          pub all_pass : q.plan.kind ≡ 2 → pair_questions p q ≡ found (pair_of (answered_of p).answer (answered_of q).answer)
          unfolding pair_questions
          all_pass h = rw (u, v, ne_eqb p.agreement q.agreement d, eq-eqb p.plan.kind 2 k, eq-eqb q.plan.kind 2 h)

-- both answers in one
pub zipped : (a b : Answer) → option_zip a b ≡ pair_of a b
zipped None b = refl
zipped (Some y) None = refl
zipped (Some y) (Some z) = refl

-- a question that is answered by no
pub refuses : {f : Found PairAnswer} (q : Question) {r : Refusal} → RefusesAtZero q r → f ≡ refused (number_of q) 0 → as_pair_answered (Err r) ≡ pair_gives f
refuses q z e = ap (λ (x : Refusal). as_pair_answered (Err x)) z ∙ ap pair_gives (sym e)
