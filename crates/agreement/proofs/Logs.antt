-- An allowed history, told over logs, meets what demand 3 asks there; and where all is started and what was made is taken, it is so there.
use mathlib.Core.Path.{◌≡◌, refl}
use mathlib.Core.List.{List, Memᴰ}
use Prim.Native.Nat.{ℕ}
use Rattle.std.specs.Prelude.{Ok}
use Rattle.base.specs.Sets.{Set}
use Rattle.plan.specs.Plan.{Plan}
use Rattle.message.specs.declared.Message.{Message}
use Rattle.message.specs.Message.{message_bytes}
use Rattle.message.specs.Reading.{exact_message}
use Rattle.party.specs.Party.{level_at}
use Rattle.execution.specs.Machine.{Machine}
use Rattle.execution.specs.History.{log}
use Rattle.execution.specs.Inner.{ValidH}
use Rattle.vote_machine.specs.Machine.{Sent, vote_machine}
use Rattle.vote_machine.proofs.Laws.{Passes}
use Rattle.log_agreement.specs.Logs as logs
use Rattle.log_agreement.proofs.Logs.{heard_held, made_tells, valid_allowed}
use Rattle.agreement.specs.History.{Instance, History}
use Rattle.agreement.specs.Allowed.{Sound, Handed, Allowed}
use Rattle.agreement.specs.Demand.{Took, Made, HandedSince, Complete, Shared, Premises}
use Rattle.agreement.specs.Ending.{Delivered, CompleteFromSetUp}
use Rattle.agreement.proofs.Told.{machine_of, told}
use Rattle.agreement.proofs.Tied.{shared_passes}
use Rattle.agreement.proofs.Histories.{told_valid}
use Rattle.agreement.proofs.Boards.{state_of, started_state, took_state, makes_state, sent_read}
use Rattle.agreement.proofs.Words.{started_records, took_records, made_records}

module _ (v : Instance) (plan : Plan) (bad : Set) (h : History) (given : Premises v plan bad h) where
  abbrev f : Shared v plan
  f = given.shared

  abbrev a : Allowed v bad h
  a = given.allowed

  abbrev M : Machine
  M = vote_machine v.n v.t v.agreement plan

  abbrev passes : Passes v.n v.t plan
  passes = shared_passes v plan f

  abbrev ok : ValidH (machine_of v plan) v.n bad (told v plan h)
  ok = told_valid v plan bad f h a

  pub log_premises : logs.Premises v.n v.t v.agreement plan bad (told v plan h)
  log_premises = record {
    boards = passes.boards;
    faults = passes.faults;
    valid = passes.valid;
    few = given.few;
    allowed = valid_allowed v.n v.t v.agreement plan passes bad (told v plan h) ok;
  }

  -- a message of the board's log, in the state that the log gives
  sent : (i : ℕ) (m : Message) → Memᴰ m (logs.messages_by v.n v.t v.agreement plan i (log (machine_of v plan) i (told v plan h))) → Sent (state_of v plan h i) m
  sent i m x = made_tells v.n v.t v.agreement plan passes i (log M i (told v plan h)) m x

  -- what a board's state says it has sent, a call not lost made
  made : (i : ℕ) (m : Message) → Sound v bad i → Sent (state_of v plan h i) m → Made h i m
  made i m g s = (made_records v plan bad f h a i m).1 ((makes_state v plan bad f h a i g.0 m).1 s)

  -- a message that calls of sound boards made, by whichever way it counts as handed over
  given_taken : (Given : ℕ → List ℕ → Type 0) → ((i : ℕ) (m : Message) → Sound v bad i → Made h i m → Given i (message_bytes m))
      → ((i j : ℕ) (bytes : List ℕ) (m : Message) → Sound v bad i → Sound v bad j → Given j bytes → exact_message bytes ≡ Ok m → Took h i j m)
      → (i j : ℕ) (m : Message) → Sound v bad i → Sound v bad j → Made h j m → Took h i j m
  given_taken Given handed taken i j m g k x =
      taken i j (message_bytes m) m g k (handed j m k x)
      (sent_read v plan bad f h a j k.0 m ((makes_state v plan bad f h a j k.0 m).0 ((made_records v plan bad f h a j m).0 x)))

  pub complete_delivered : Complete v bad h → Delivered v bad h
  complete_delivered c = record { started = c.started; taken = given_taken (λ i bytes. HandedSince i bytes h) c.handed c.taken }

  pub set_up_delivered : CompleteFromSetUp v bad h → Delivered v bad h
  set_up_delivered c = record { started = c.started; taken = given_taken (λ i bytes. Handed i bytes h) c.handed c.taken }

  pub log_complete : Delivered v bad h → logs.Complete v.n v.t v.agreement plan bad (told v plan h)
  log_complete d = record {
    started = λ i g.
        let x = d.started i g in
        let s = (started_state v plan bad f h a i g.0 x.0).0 ((started_records v plan bad f h a i x.0).0 (x.1, x.2)) in
        ((level_at (state_of v plan h i) 0).position, (s.0, refl));
    taken = λ i j m g k x.
        heard_held (state_of v plan h i) j m
        ((took_state v plan bad f h a i g.0 j m).0 ((took_records v plan bad f h a i j m).0 (d.taken i j m g k (made j m k (sent j m x)))));
  }
