-- Demand 3 holds of every allowed history: it holds of the history told over logs.
use mathlib.Core.Path.{◌≡◌, refl, sym, ◌∙◌}
use mathlib.Core.Logic.{inl}
use Prim.Native.Nat.{ℕ}
use lib.IntN.{ℤ}
use Rattle.std.specs.Prelude.{Some}
use Rattle.base.specs.Sets.{Set}
use Rattle.plan.specs.Plan.{Plan}
use Rattle.party.specs.Party.{Party, output_of}
use Rattle.log_agreement.specs.Logs as logs
use Rattle.log_agreement.proofs.Theorem.{log_demand3}
use Rattle.agreement.specs.History.{Instance, History}
use Rattle.agreement.specs.Allowed.{Sound, Allowed}
use Rattle.agreement.specs.Demand.{answer_now, StartedWith, Shared, Premises, Holds, Demand3}
use Rattle.agreement.specs.Ending.{Delivered, Ends, Ending}
use Rattle.agreement.proofs.Told.{told}
use Rattle.agreement.proofs.Boards.{state_of, started_state}
use Rattle.agreement.proofs.Answers.{answers_stand, output_answers}
use Rattle.agreement.proofs.Words.{started_records, started_stands}
use Rattle.agreement.proofs.Logs.{log_premises, complete_delivered, set_up_delivered, log_complete}

module _ (v : Instance) (plan : Plan) (bad : Set) (h : History) (given : Premises v plan bad h) where
  abbrev f : Shared v plan
  f = given.shared

  abbrev a : Allowed v bad h
  a = given.allowed

  abbrev st : ℕ → Party
  st i = state_of v plan h i

  -- demand 3 on logs
  on_logs : logs.Holds v.n v.t v.agreement plan bad (told v plan h)
  on_logs = log_demand3 v.n v.t v.agreement plan bad (told v plan h) (log_premises v plan bad h given)

  -- a board that started at x by its log started there with some input of its caller
  input : (i x : ℕ) → Sound v bad i → logs.StartedAt v.n v.t v.agreement plan (told v plan h) i x → (z : ℤ) × StartedWith plan h i x z
  input i x g s =
      let y = (started_records v plan bad f h a i x).1 ((started_state v plan bad f h a i g.0 x).1 s) in
      (y.0, started_stands v plan bad f h a i g.0 x y.0 y.1)

  -- where what was made is taken, every sound board has an answer
  answers : Delivered v bad h → (i : ℕ) → Sound v bad i → (z : ℤ) × (answer_now v h i ≡ Some z)
  answers d i g =
      let r = on_logs.ending (log_complete v plan bad h given d) i g in
      output_answers v plan bad f h a i g.0 (λ e. r.1.0 (sym r.1.1 ∙ e))

  ends : Ends v bad h
  ends = record { since_restore_lem = complete_delivered v plan bad h given; from_set_up_lem = set_up_delivered v plan bad h given; answers = answers }

  holds : Holds v plan bad h
  holds = record {
    near = λ i j y z gi gj p q.
        let r = answers_stand v plan bad f h a i gi.0 y p in
        let s = answers_stand v plan bad f h a j gj.0 z q in
        (output_of (st i), output_of (st j), r.1, s.1, on_logs.near i j (output_of (st i)) (output_of (st j)) gi gj (inl (r.0, refl)) (inl (s.0, refl)));
    validity = λ i y g p.
        let r = answers_stand v plan bad f h a i g.0 y p in
        let b = on_logs.validity i (output_of (st i)) g (inl (r.0, refl)) in
        let x = input b.0 b.2 b.4 b.6 in
        let w = input b.1 b.3 b.5 b.7 in
        (output_of (st i), r.1, (b.0, b.1, b.2, b.3, x.0, w.0, b.4, b.5, x.1, w.1, b.8, b.9));
    ending = λ c. answers (complete_delivered v plan bad h given c);
  }

-- Demand 3.
pub demand3 : Demand3
demand3 = holds

-- What its ending rests on.
pub ending : Ending
ending = ends
