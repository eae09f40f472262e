-- Demand 3 holds on logs.
use mathlib.Core.Path.{◌≡◌, refl, sym, ◌∙◌, subst, subst₂}
use mathlib.Core.Logic.{◌⊎◌}
use Prim.Native.Nat.{ℕ}
use Rattle.base.specs.Sets.{Set, Sound}
use Rattle.tree.specs.Walk.{OnPath}
use Rattle.tree.specs.Edges.{Adjacent}
use Rattle.plan.specs.Plan.{Plan}
use Rattle.plan.specs.Positions.{edges_of}
use Rattle.message.specs.declared.Message.{Message}
use Rattle.level.specs.Level.{no_output}
use Rattle.party.specs.Party.{Party, output_of}
use Rattle.execution.specs.Inner.{ValidH}
use Rattle.vote_machine.specs.Machine.{vote_machine, Heard, Sent}
use Rattle.vote_machine.proofs.Laws.{sent_proper, Passes}
use Rattle.log_agreement.specs.Logs.{Steps, log_of, party_of, AnswersNow, Answers, Complete, Holds, Premises, LogDemand3}
use Rattle.log_agreement.proofs.Joint.{Joint, joint}
use Rattle.log_agreement.proofs.Logs.{held_heard, tells_made, allowed_valid, answer_stays}
use Rattle.log_agreement.proofs.Laws.{near, between, joined, ends}

module _ (n t agreement : ℕ) (plan : Plan) (bad : Set) (h : Steps n t agreement plan) (given : Premises n t agreement plan bad h) where
  abbrev passes : Passes n t plan
  passes = record { boards = given.boards; faults = given.faults; valid = given.valid }

  abbrev ok : ValidH (vote_machine n t agreement plan) n bad h
  ok = allowed_valid n t agreement plan passes bad h given.allowed

  abbrev st : ℕ → Party
  st i = party_of n t agreement plan h i

  abbrev J : Joint n t agreement plan bad (party_of n t agreement plan h)
  J = joint n t agreement plan passes bad given.few h ok

  -- the answer, held then or read earlier, is the output now
  now : (i x : ℕ) → Answers n t agreement plan h i x → AnswersNow n t agreement plan h i x
  now i x a = answer_stays n t agreement plan passes bad h ok i x a

  there : (i x : ℕ) → AnswersNow n t agreement plan h i x → output_of (party_of n t agreement plan h i) ≡ no_output → ⊥
  there i x a e = a.0 (sym a.1 ∙ e)

  -- every sound board has heard what every sound board made
  delivered : Complete n t agreement plan bad h → (i j : ℕ) (m : Message) → Sound n bad i → Sound n bad j
      → Sent (party_of n t agreement plan h j) m → Heard (party_of n t agreement plan h i) j m
  delivered c i j m g k s =
      held_heard (st i) j m (s.number ∙ (J.seated j).number ∙ sym (J.seated i).number) (sent_proper (st j) (J.inv j).regular m s)
      (c.taken i j m g k (tells_made n t agreement plan passes j (log_of n t agreement plan h j) m s))

  holds : Holds n t agreement plan bad h
  holds = record {
    near = λ i j x y g k a b.
        let p = now i x a in
        let q = now j y b in
        subst₂ (λ (z w : ℕ). (z ≡ w) ⊎ Adjacent (edges_of plan) z w) p.1 q.1
        (near n t agreement plan passes bad given.few h ok i j g k (there i x p) (there j y q));
    validity = λ i x g a.
        let p = now i x a in
        let r = between n t agreement plan passes bad given.few h ok i g (there i x p) in
        let c = r.2 in
        let d = r.3 in (
          c.board,
          d.board,
          r.0,
          r.1,
          c.sound,
          d.sound,
          (c.entered, c.position),
          (d.entered, d.position),
          joined n t agreement plan passes bad given.few h ok r.0 r.1 c d,
          subst (OnPath (Adjacent (edges_of plan)) r.0 r.1) p.1 r.4,
        );
    ending = λ c i g. (
      output_of (st i),
      (ends n t agreement plan passes bad given.few h ok (λ j s. (c.started j s).1.0) (delivered c) i g, refl),
    );
  }

-- Demand 3 on logs.
pub log_demand3 : LogDemand3
log_demand3 = holds
