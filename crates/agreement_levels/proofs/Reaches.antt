-- A board alone makes a message at every level at which its position lies in a component of three or more positions, whatever the plan.
use mathlib.Core.Path.{◌≡◌, sym, ap, ◌∙◌, subst}
use mathlib.Core.Logic.{◌⊎◌, inl, inr}
use mathlib.Core.List.Memᴰ
use mathlib.Core.List.{List, [], Memᴰ}
use Prim.Native.Nat.{ℕ, ◌≤◌}
use native.Mathlib.Omega.{arith}
use Rattle.base.specs.Sets.{count, Sound}
use Rattle.plan.specs.Plan.{Plan}
use Rattle.plan.specs.Positions.{reading_of}
use Rattle.component.specs.Component.{whole_of}
use Rattle.message.specs.declared.Message.{Message}
use Rattle.journal.specs.declared.Record.{Record}
use Rattle.journal.specs.declared.Record.TheVariants.{Start}
use Rattle.party.specs.Party.{Party, new_party}
use Rattle.party_laws.proofs.Laws.{whole_component}
use Rattle.party_life.specs.Life.{lived}
use Rattle.vote_machine.specs.Machine.{Heard, Sent}
use Rattle.vote_machine.proofs.Laws.{made_sent}
use Rattle.log_agreement.proofs.Joint.{Joint, joint}
use Rattle.log_agreement.proofs.Views.{EnteredAt}
use Rattle.agreement.specs.History.{Instance, History}
use Rattle.agreement.specs.Allowed.{Allowed}
use Rattle.agreement.specs.Demand.{Started, Shared}
use Rattle.agreement.specs.Inner.{StartRecorded}
use Rattle.agreement.proofs.Told as tales
use Rattle.agreement.proofs.Tied.{plan_valid_lem, shared_passes}
use Rattle.agreement.proofs.Histories.{told_valid}
use Rattle.agreement.proofs.Boards.{state_of, state_records, records_of_lem, started_state, makes_state}
use Rattle.agreement.proofs.Words.{started_at_lem, started_records, made_records}
use Rattle.agreement_levels.specs.Alone.{alone_instance, nobody}
use Rattle.agreement_levels.specs.Statement.{echo_of, AloneMakes, Reaches}
use Rattle.agreement_levels.proofs.Alone.{Waits, all_taken_lem}
use Rattle.agreement_levels.proofs.Histories.{Told, told}
use Rattle.agreement_levels.proofs.Unanimous.{echoes}

module _ (a : ℕ) (bytes : List ℕ) (plan : Plan) (f : Shared (alone_instance a bytes) plan) (x : ℕ) (rs : List Record)
    (life : Waits a plan x rs []) (w : Told a bytes plan f rs) where
  abbrev v : Instance
  v = alone_instance a bytes

  abbrev h : History
  h = w.h

  abbrev ok : Allowed (alone_instance a bytes) nobody w.h
  ok = w.allowed

  abbrev st : ℕ → Party
  st i = state_of (alone_instance a bytes) plan w.h i

  only : (i : ℕ) → Sound 1 nobody i → i ≡ 0
  only i g = omega (arith, g.0)

  none_bad : count 1 nobody ≤ 0
  unfolding count
  none_bad = omega arith

  J : Joint 1 0 a plan nobody (λ i. state_of (alone_instance a bytes) plan w.h i)
  J = joint 1 0 a plan (shared_passes v plan f) nobody none_bad (tales.told v plan h) (told_valid v plan nobody f h ok)

  -- the board's state is the party of its life
  state_is : state_of (alone_instance a bytes) plan w.h 0 ≡ (lived (new_party 1 0 0 a plan) rs).party
  state_is =
      state_records v plan nobody f h ok 0 (omega arith)
      ∙ ap (λ (ts : List Record). (lived (new_party 1 0 0 a plan) ts).party) (sym (records_of_lem v plan nobody f h ok 0 (omega arith)) ∙ w.records)

  -- so it has heard all that it made
  heard : (m : Message) → Sent (state_of (alone_instance a bytes) plan w.h 0) m → Heard (state_of (alone_instance a bytes) plan w.h 0) 0 m
  heard m s =
      subst (λ (q : Party). Heard q 0 m) (sym state_is)
      (go (life.taken m ((made_sent 1 0 0 a plan tt (plan_valid_lem v plan f 0 (omega arith)) rs life.life m).1 (subst (λ (q : Party). Sent q m) state_is s))))
    where
      go : Heard (lived (new_party 1 0 0 a plan) rs).party 0 m ⊎ Memᴰ m [] → Heard (lived (new_party 1 0 0 a plan) rs).party 0 m
      go (inl y) = y
      go (inr y) = absurd (Memᴰ.not-nil y)

  delivered : (i j : ℕ) (m : Message) → Sound 1 nobody i → Sound 1 nobody j → Sent (state_of (alone_instance a bytes) plan w.h j) m
      → Heard (state_of (alone_instance a bytes) plan w.h i) j m
  delivered i j m g k s =
      subst (λ (z : ℕ). Heard (st z) j m) (sym (only i g))
      (subst (λ (z : ℕ). Heard (st 0) z m) (sym (only j k)) (heard m (subst (λ (z : ℕ). Sent (st z) m) (only j k) s)))

  -- it started at x
  recorded : StartRecorded w.h 0 x
  recorded = (a, subst (λ (ts : List Record). Memᴰ (Start a x) ts) (sym w.records) life.start)

  started : Started w.h 0 x (reading_of plan x)
  started =
      let y = (started_records v plan nobody f h ok 0 x).1 recorded in
      subst (Started h 0 x) (sym (started_at_lem v plan nobody f h ok 0 x y.0 y.1).2) y.1

  start_at_lem : (i : ℕ) → Sound 1 nobody i → EnteredAt (state_of (alone_instance a bytes) plan w.h i) 0 (whole_of plan) x
  start_at_lem i g =
      let y = (started_state v plan nobody f h ok 0 (omega arith) x).0 recorded in
      subst (λ (z : ℕ). EnteredAt (st z) 0 (whole_of plan) x) (sym (only i g))
      (record { entered = y.0; over = sym (whole_component (st 0) ∙ ap (λ (q : Plan). whole_of q) (J.seated 0).on); place = sym y.1 })

  makes : AloneMakes a bytes plan x
  makes = record {
    history = h;
    premises = record { shared = f; few = none_bad; allowed = ok };
    started = started;
    made = λ L d.
        (made_records v plan nobody f h ok 0 (echo_of a plan x L)).1
        ((makes_state v plan nobody f h ok 0 (omega arith) (echo_of a plan x L)).1 (echoes J delivered x start_at_lem L d 0 (omega arith, tt)));
  }

-- On every plan, and from every position.
pub reaches : Reaches
reaches a bytes plan f x on =
    let r = all_taken_lem a plan (plan_valid_lem (alone_instance a bytes) plan f 0 (omega arith)) x on in
    makes a bytes plan f x r.0 r.1 (told a bytes plan f r.0 r.1.life r.1.own)
