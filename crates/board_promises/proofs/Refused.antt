-- "A refused call hands back the party record as given and writes to neither lent buffer.", and results are fixed struct for struct.
use mathlib.Core.Path.{◌≡◌, refl, sym, ap, ◌∙◌}
use mathlib.Core.List.{List}
use Prim.Native.Nat.{ℕ}
use native.Mathlib.Omega.{arith}
use Rattle.std.specs.Prelude.{Result, Ok, Err, IfOk}
use Rattle.base.specs.Verdict.{Verdict, as_verdict}
use Rattle.base.specs.Found.{Found, found, refused}
use Rattle.base.specs.Question.{number_of}
use Rattle.base.specs.declared.Refusal.{Refusal}
use Rattle.plan.specs.Plan.{Plan}
use Rattle.plan.specs.Reading.{settled_plan}
use Rattle.party.specs.declared.Party as Code
use Rattle.party.specs.Party.{Party}
use Rattle.party.specs.Tie.{as_party}
use Rattle.party.specs.Inner.{Whole}
use Rattle.party.proofs.Ties.{party_one}
use Rattle.board_calls.specs.declared.Called as CodeCalled
use Rattle.board_calls.specs.declared.Restored as CodeRestored
use Rattle.board_calls.specs.Tie.{as_set_up, as_called, as_restored}
use Rattle.board_calls.specs.Calls.{SetUp, Called, Entry, again, fresh, no_party, set_up_answer, set_up_of}
use Rattle.board_calls.specs.Restore.{Replay}
use Rattle.board_calls.specs.Results.{CallGives, RestoreGives}
use Rattle.board_promises.specs.Refused.{Untouched}
use Rattle.board_promises.proofs.Verdicts.{not_refused, refusal_one, verdict_one}

-- ---- start and take

-- A refused start, start by count or take.
pub refused_untouched : {q : Found Entry} {p : Party} {used : ℕ} {j out : List ℕ} {r : Called} {jThen out_then : List ℕ}
    → CallGives q p used j out r jThen out_then → (number place : ℕ) → r.verdict ≡ Verdict.Refused number place → Untouched p used j out r jThen out_then
refused_untouched {q} {p} {used} {j} {out} {r} {jThen} {out_then} g number place v = go q g
  where
    -- an accepted call is not refused
    accepted : Verdict.Refused number place ≡ Verdict.Accepted → ⊥
    accepted e = let z : ◌≡◌ {A = ℕ} 0 1 = cc in omega arith

    go : (q : Found Entry) → CallGives q p used j out r jThen out_then → Untouched p used j out r jThen out_then
    go (found again) g = absurd (accepted (sym v ∙ ap (λ (c : Called). c.verdict) g.result))
    go (found (fresh x ran)) g = absurd (accepted (sym v ∙ ap (λ (c : Called). c.verdict) g.result))
    go (refused k at) g = record {
      party = ap (λ (c : Called). c.party) g.result;
      used_then = ap (λ (c : Called). c.used) g.result;
      journal = g.journal;
      outgoing = g.outgoing;
      sent = ap (λ (c : Called). c.sent) g.result;
      rules = ap (λ (c : Called). c.rules) g.result;
    }

-- The code's record is the very one that was given: a record stands for one party only. `Whole` says how long its arrays are, which every value of the type has (`party_step/proofs/Typed.antt` `typed_whole`).
pub refused_back : {q : Found Entry} {p : Code.Party} {used : ℕ} {j out : List ℕ} {r : CodeCalled.Called} {jThen out_then : List ℕ} → Whole p → Whole r.party
    → CallGives q (as_party p) used j out (as_called r) jThen out_then → (f : Refusal) → r.verdict ≡ Err f → r.party ≡ p
refused_back {p = p} {r = r} h i g f v = party_one r.party p i h (refused_untouched g (number_of f.question) f.place (ap as_verdict v)).party

-- ---- restore

-- A refused restore: it was lent no party, and gives none; its journal is only read.
pub refused_restore : {q : Found Replay} {out : List ℕ} {r : Called} {out_then : List ℕ}
    → RestoreGives q out r out_then → (number place : ℕ) → r.verdict ≡ Verdict.Refused number place → (out_then ≡ out) × (r.party ≡ no_party) × (r.used ≡ 0) × (r.sent ≡ 0)
refused_restore {q} {out} {r} {out_then} g number place v = go q g
  where
    go : (q : Found Replay) → RestoreGives q out r out_then → (out_then ≡ out) × (r.party ≡ no_party) × (r.used ≡ 0) × (r.sent ≡ 0)
    go (found x) g =
        let e : Verdict.Refused number place ≡ Verdict.Accepted = sym v ∙ ap (λ (c : Called). c.verdict) g.result in
        let z : ◌≡◌ {A = ℕ} 0 1 = cc in absurd (omega arith)
    go (refused k at) g = (g.outgoing, ap (λ (c : Called). c.party) g.result, ap (λ (c : Called). c.used) g.result, ap (λ (c : Called). c.sent) g.result)

-- ---- set-up

-- A refused set-up: nothing was lent to it but the plan's bytes, which it only reads.
pub refused_set_up : (n t own a : ℕ) (bytes : List ℕ) (number place : ℕ) → (set_up_of n t own a bytes).verdict ≡ Verdict.Refused number place
    → (set_up_of n t own a bytes).party ≡ no_party
unfolding set_up_of
refused_set_up n t own a bytes number place v = go (settled_plan n t own bytes) v
  where
    go : (f : Found Plan) → (set_up_answer n t own a f).verdict ≡ Verdict.Refused number place → (set_up_answer n t own a f).party ≡ no_party
    go (found plan) v = let z : ◌≡◌ {A = ℕ} 0 1 = cc in absurd (omega arith)
    go (refused k at) v = refl

-- ---- what a contract says of a result fixes it, where its arrays have their type's lengths

pub set_up_one : (r s : Result Code.Party Refusal) → IfOk r Whole → IfOk s Whole → as_set_up r ≡ as_set_up s → r ≡ s
set_up_one (Ok p) (Ok q) h i e = ap Ok (party_one p q h i (ap (λ (c : SetUp). c.party) e))
set_up_one (Ok p) (Err y) h i e = absurd (not_refused y (ap (λ (c : SetUp). c.verdict) e))
set_up_one (Err x) (Ok q) h i e = absurd (not_refused x (sym (ap (λ (c : SetUp). c.verdict) e)))
set_up_one (Err x) (Err y) h i e = ap Err (refusal_one x y (ap (λ (c : SetUp). c.verdict) e))

pub called_one : (r s : CodeCalled.Called) → Whole r.party → Whole s.party → as_called r ≡ as_called s → r ≡ s
called_one r s h i e =
    let p = party_one r.party s.party h i (ap (λ (c : Called). c.party) e) in
    let v = verdict_one r.verdict s.verdict (ap (λ (c : Called). c.verdict) e) in
    λ k. record {
      verdict = v k;
      party = p k;
      used = ap (λ (c : Called). c.used) e k;
      sent = ap (λ (c : Called). c.sent) e k;
      rules = ap (λ (c : Called). c.rules) e k;
    }

pub restored_one : (r s : Result CodeRestored.Restored Refusal) → IfOk r (λ x. Whole x.party) → IfOk s (λ x. Whole x.party) → as_restored r ≡ as_restored s → r ≡ s
restored_one (Ok x) (Ok y) h i e =
    let p = party_one x.party y.party h i (ap (λ (c : Called). c.party) e) in
    λ k. Ok (record {
      party = p k;
      used = ap (λ (c : Called). c.used) e k;
      sent = ap (λ (c : Called). c.sent) e k;
      rules = ap (λ (c : Called). c.rules) e k;
    })
restored_one (Ok x) (Err y) h i e = absurd (not_refused y (ap (λ (c : Called). c.verdict) e))
restored_one (Err x) (Ok y) h i e = absurd (not_refused x (sym (ap (λ (c : Called). c.verdict) e)))
restored_one (Err x) (Err y) h i e = ap Err (refusal_one x y (ap (λ (c : Called). c.verdict) e))
