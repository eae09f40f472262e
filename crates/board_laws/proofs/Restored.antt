-- What the questions of a restore find before its records.
use mathlib.Core.Path.{◌≡◌, refl, sym, ap, ◌∙◌}
use mathlib.Core.List.{List}
use Prim.Native.Nat.{ℕ, ◌≤◌, ◌<◌}
use native.Mathlib.Omega.{arith}
use lib.ListN.{length}
use borrow.Author.Tests.{le-leb, lt-leb}
use Rattle.base.specs.Limits.{outgoing_size}
use Rattle.base.specs.Verdict.{Verdict}
use Rattle.base.specs.Found.{Found, found, refused}
use Rattle.settings.specs.Settings.{settings_fault, settings_fit}
use Rattle.plan.specs.Plan.{Plan}
use Rattle.plan.specs.Reading.{plan_of, settled_plan, PlanRead, answered}
use Rattle.plan.proofs.Listed.{asked}
use Rattle.plan_laws.proofs.Given.{found_good}
use Rattle.party.specs.Party.{new_party}
use Rattle.party.specs.Run.{resting}
use Rattle.board_calls.specs.Restore.{replay_from, on_plan_read, restore_questions}
use Rattle.board_laws.specs.Inner.{New}

-- ---- settings and plan

module _ (n t own : ℕ) (s : List ℕ) {plan : Plan} where
  pub settled_new : (a : ℕ) → settled_plan n t own s ≡ found plan → New (new_party n t own a plan)
  unfolding settled_plan
  settled_new a e =
      let g = asked (settings_fit n t own) (settings_fault n t own) 0 (plan_of s) plan e in
      record { settings = g.0; plan = (found_good s plan g.1).passes; levels = refl }

-- the answer's verdict tells what was found
module _ {f : Found Plan} {r : PlanRead} (e : r ≡ answered f) where
  pub answer_found : r.verdict ≡ Verdict.Accepted → f ≡ found r.plan
  answer_found v = go f e
    where
      go : (f : Found Plan) → r ≡ answered f → f ≡ found r.plan
      go (found x) i = ap found (ap (λ (z : PlanRead). z.plan) (sym i))
      go (refused number place) i =
          let b : Verdict.Accepted ≡ Verdict.Refused number place = sym v ∙ ap (λ (z : PlanRead). z.verdict) i in
          let z : ◌≡◌ {A = ℕ} 0 1 = cc in absurd (omega arith)

  pub answer_refused : {number place : ℕ} → r.verdict ≡ Verdict.Refused number place → f ≡ refused number place
  answer_refused {number} {place} v = go f e
    where
      go : (f : Found Plan) → r ≡ answered f → f ≡ refused number place
      go (found x) i =
          let b : Verdict.Refused number place ≡ Verdict.Accepted = sym v ∙ ap (λ (z : PlanRead). z.verdict) i in
          let z : ◌≡◌ {A = ℕ} 0 1 = cc in absurd (omega arith)
      go (refused k l) i =
          let b : Verdict.Refused number place ≡ Verdict.Refused k l = sym v ∙ ap (λ (z : PlanRead). z.verdict) i in
          let x : k ≡ number = cc in
          let y : l ≡ place = cc in
          λ z. refused (x z) (y z)

-- ---- restore's questions

module _ (n t own a : ℕ) (bytes j : List ℕ) (out : ℕ) where
  pub restore_short : out < outgoing_size → restore_questions n t own a bytes j out ≡ refused 18 0
  unfolding restore_questions
  restore_short h = rw (lt-leb outgoing_size out h)

  module _ (h : outgoing_size ≤ out) where
    room : restore_questions n t own a bytes j out ≡ on_plan_read n t own a j (settled_plan n t own bytes)
    unfolding restore_questions
    room = rw (le-leb outgoing_size out h)

    pub restore_refused : {number place : ℕ} → settled_plan n t own bytes ≡ refused number place → restore_questions n t own a bytes j out ≡ refused number place
    restore_refused e = room ∙ ap (on_plan_read n t own a j) e

    pub restore_found : {plan : Plan} → settled_plan n t own bytes ≡ found plan
        → restore_questions n t own a bytes j out ≡ replay_from (length j) j 0 (resting (new_party n t own a plan))
    restore_found e = room ∙ ap (on_plan_read n t own a j) e
