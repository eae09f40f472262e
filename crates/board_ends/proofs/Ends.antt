-- What a set-up or reading gives, case by case.
use mathlib.Core.Path.{◌≡◌, sym, ap, ◌∙◌}
use mathlib.Core.Bool.{true, false}
use mathlib.Core.List.{List}
use Prim.Native.Nat.{ℕ}
use native.Mathlib.Omega.{arith}
use Rattle.std.specs.Prelude.{None}
use Rattle.base.specs.Verdict.{Verdict}
use Rattle.base.specs.Found.{Found, found, refused}
use Rattle.plan.specs.Plan.{Plan}
use Rattle.plan.specs.Reading.{settled_plan, PlanRead, answered}
use Rattle.party.specs.Party.{Party, new_party, output_of}
use Rattle.party.specs.Valid.{party_valid}
use Rattle.board_calls.specs.Answers.{answer_of, Answer}
use Rattle.board_calls.specs.Calls.{no_party, set_up_answer, set_up_of, answered_of}

-- ---- set-up

module _ (n t own a : ℕ) (s : List ℕ) (r : PlanRead) (q : Party) where
  pub set_up_accepted : r ≡ answered (settled_plan n t own s) → r.verdict ≡ Verdict.Accepted → q ≡ new_party n t own a r.plan
      → record { verdict = r.verdict; party = q } ≡ set_up_of n t own a s
  unfolding set_up_of
  set_up_accepted e v i = go (settled_plan n t own s) e
    where
      go : (f : Found Plan) → r ≡ answered f → record { verdict = r.verdict; party = q } ≡ set_up_answer n t own a f
      go (found plan) e =
          let j : q ≡ new_party n t own a plan = i ∙ ap (λ (x : PlanRead). new_party n t own a x.plan) e in
          λ k. record { verdict = ap (λ (x : PlanRead). x.verdict) e k; party = j k }
      go (refused number place) e =
          let b : Verdict.Accepted ≡ Verdict.Refused number place = sym v ∙ ap (λ (x : PlanRead). x.verdict) e in
          let z : ◌≡◌ {A = ℕ} 0 1 = cc in absurd (omega arith)

  pub set_up_refused : {number place : ℕ} → r ≡ answered (settled_plan n t own s) → r.verdict ≡ Verdict.Refused number place → q ≡ no_party
      → record { verdict = r.verdict; party = q } ≡ set_up_of n t own a s
  unfolding set_up_of
  set_up_refused {number} {place} e v i = go (settled_plan n t own s) e
    where
      go : (f : Found Plan) → r ≡ answered f → record { verdict = r.verdict; party = q } ≡ set_up_answer n t own a f
      go (found plan) e =
          let b : Verdict.Refused number place ≡ Verdict.Accepted = sym v ∙ ap (λ (x : PlanRead). x.verdict) e in
          let z : ◌≡◌ {A = ℕ} 0 1 = cc in absurd (omega arith)
      go (refused k l) e = λ j. record { verdict = ap (λ (x : PlanRead). x.verdict) e j; party = i j }

-- ---- reading the answer

module _ (p : Party) where
  pub no_reading : false ≡ party_valid p → record { verdict = Verdict.Refused 19 0; answer = None } ≡ answered_of p
  unfolding answered_of
  no_reading e = rw (sym e)

  pub reading : {a : Answer} → true ≡ party_valid p → a ≡ answer_of p.plan (output_of p) → record { verdict = Verdict.Accepted; answer = a } ≡ answered_of p
  unfolding answered_of
  reading e i = rw (sym e, i)
