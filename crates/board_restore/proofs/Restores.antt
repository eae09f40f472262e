-- Restore: what it gives, and its questions before the records are replayed.
use mathlib.Core.Path.{◌≡◌, refl, sym, ◌∙◌, subst}
use mathlib.Core.List.{List}
use Prim.Native.Nat.{ℕ, ◌≤◌}
use lib.ListN.{length}
use Rattle.std.specs.Prelude.{Result, Ok, Err}
use Rattle.base.specs.Limits.{max_rows, outgoing_size}
use Rattle.base.specs.Found.{Found, found, refused}
use Rattle.base.specs.Question.{number_of}
use Rattle.base.specs.declared.Refusal.{Refusal}
use Rattle.plan.specs.Reading.{settled_plan, answered}
use Rattle.plan.specs.declared.Plan as CodePlan
use Rattle.plan.specs.Tie.{as_plan, as_plan_read}
use Rattle.party.specs.declared.Vote.{Vote}
use Rattle.party.specs.Run.{resting}
use Rattle.board_calls.specs.Calls.{Called}
use Rattle.board_calls.specs.Restore.{Replay, replay_from}
use Rattle.board_calls.specs.Results.{RestoreGives}
use Rattle.board_calls.specs.Tie.{as_restored}
use Rattle.board_laws.proofs.Restored.{settled_new, answer_found, answer_refused, restore_refused, restore_found}
use Rattle.board_restore.specs.Inner.{Scanned, ScansFor, new_on, questions_of, Answers}

-- ---- what a restore gives

-- found by another way
pub regives : {out out_then : List ℕ} {r : Called} {x y : Found Replay} → x ≡ y → RestoreGives y out r out_then → RestoreGives x out r out_then
regives {out} {out_then} {r} e g = subst (λ (z : Found Replay). RestoreGives z out r out_then) (sym e) g

-- refused
pub unrestored_gives : {out : List ℕ} {q : Found Replay} (r : Refusal) → q ≡ refused (number_of r.question) r.place → RestoreGives q out (as_restored (Err r)) out
unrestored_gives {out} r e = regives e (record { result = refl; outgoing = refl })

-- ---- the questions before the records are replayed

module _ (v : Vote) (bytes j : List ℕ) {out : ℕ} (h : outgoing_size ≤ out) where
  -- what the settings and the plan find
  pub asked_plan : (r : Refusal) → as_plan_read (Err r) ≡ answered (settled_plan v.n v.t v.own bytes) → Answers v bytes j out (Err r)
  asked_plan r e = restore_refused v.n v.t v.own v.agreement bytes j out h (answer_refused e refl)

  module _ (plan : CodePlan.Plan) (e : as_plan_read (Ok plan) ≡ answered (settled_plan v.n v.t v.own bytes)) where
    settled : settled_plan v.n v.t v.own bytes ≡ found (as_plan plan)
    settled = answer_found e refl

    questions : questions_of v bytes j out ≡ replay_from (length j) j 0 (resting (new_on v (as_plan plan)))
    questions = restore_found v.n v.t v.own v.agreement bytes j out h settled

    scanned : (s : Result ℕ Refusal) → ScansFor v plan.count j s → Scanned (new_on v (as_plan plan)) j s
    scanned s f =
        f (new_on v (as_plan plan)) (settled_new v.n v.t v.own bytes v.agreement settled) (record { n = refl; agreement = refl; positions = refl })

    -- what the records find
    pub asked_record : (r : Refusal) → ScansFor v plan.count j (Err r) → Answers v bytes j out (Err r)
    asked_record r f = questions ∙ scanned (Err r) f

    pub asked_all : (end : ℕ) → ScansFor v plan.count j (Ok end) → length plan.parent ≡ max_rows → length plan.child ≡ max_rows → Answers v bytes j out (Ok (plan, end))
    asked_all end f ps cs =
        let q = scanned (Ok end) f in (
          record {
            new = settled_new v.n v.t v.own bytes v.agreement settled;
            parents = ps;
            children = cs;
            room = h;
            ran = q.0;
            ends = q.1;
          },
          questions,
        )
