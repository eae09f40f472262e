-- Count answers that are 2g apart, for every g that passes: the run of the script, in which the size of a step stands only in what the boards were given.
use mathlib.Core.Path.{◌≡◌, refl, sym, ap, ap₂, ◌∙◌}
use mathlib.Core.Logic.{inl}
use mathlib.Core.Bool.{Bool, true, false, ◌&&◌}
use mathlib.Core.List.{List, [], ◌∷◌}
use Prim.Native.Nat.{ℕ, zero, suc, ◌<◌}
use native.Mathlib.Omega.{arith}
use lib.Dec.{T, eqb}
use lib.IntN.{ℤ, pos}
use lib.ListN.{length, set}
use borrow.Author.Tests.{eq-eqb}
use Rattle.std.specs.Prelude.{Some}
use Rattle.base.specs.Sets.{Set}
use Rattle.base.specs.Found.{Found}
use Rattle.base.proofs.Bools.{true→T}
use Rattle.rounding.specs.Rounding.{size_passes, nearest_step, count_answer}
use Rattle.rounding.proofs.Clamps.{own_step}
use Rattle.rounding.proofs.Halves.{half_below, half_above, halves_apart}
use Rattle.level.specs.Level.{no_output}
use Rattle.party.specs.Valid.{party_valid}
use Rattle.board_calls.specs.Answers.{position_of, Answer}
use Rattle.board_calls.specs.Calls.{Entry, answered_of}
use Rattle.board_laws.proofs.Counts.{count_on_range, count_is_start, count_answers}
use Rattle.agreement.specs.History.{Instance, StartInput, plain, by_count, start_finds, read_as_count, Stage, running, a_start, Board, after_entry, after_answer}
use Rattle.agreement.specs.Demand.{party_by}
use Rattle.agreement_histories.specs.Scripts.{Action, sets_up, starts_count, reads, reads_count, lent, history_of}
use Rattle.agreement_histories.proofs.Worlds.{World, board_of, beginning, acted, world_after, fits, all_fit}
use Rattle.agreement_histories.proofs.Passing.{ending, listed, answer_in, settled}
use Rattle.agreement_histories.proofs.Delivery.{full, Judges, judging_tests}
use Rattle.agreement_histories.proofs.Computing.{computing}
use Rattle.agreement_counts.specs.Example.{CountsEnd, vote, plan, bad, count, script, BoundReached}
use Rattle.agreement_counts.proofs.Inputs.{inputs_in, count_in}
use Rattle.agreement_counts.proofs.Example.{ends, plan_read}

-- ---- scripts, world by world

-- the actions are allowed, and lead from one world to another
abbrev Leads : Instance → Set → World → List Action → World → Type 0
Leads v bad w script u = (all_fit v bad w script ≡ true) × (world_after v w script ≡ u)

module _ (v : Instance) (bad : Set) where
  nothing : (w : World) → Leads v bad w [] w
  unfolding all_fit world_after
  nothing w = (refl, refl)

  after : (w x u : World) (a : Action) (rest : List Action) → fits v bad w a ≡ true → acted v w a ≡ x → Leads v bad x rest u → Leads v bad w (a ∷ rest) u
  unfolding all_fit world_after
  after w x u a rest f e l =
      (ap₂ ◌&&◌ f (ap (λ (y : World). all_fit v bad y rest) e ∙ l.0), ap (λ (y : World). world_after v y rest) e ∙ l.1)

  judged_by : (script : List Action) (u : World) (l : List Answer) → Leads v bad (beginning v) script u → full v bad u ≡ true
      → listed 0 (length l) (answer_in v u) ≡ l → Judges v bad script l
  judged_by script u l d f s =
      judging_tests v bad (length l) (beginning v) script
      ∙ ap₂ (λ (b : Bool) (w : World). record { lawful = b; whole = full v bad w; said = listed 0 (length l) (answer_in v w) }) d.0 d.1
      ∙ ap₂ (λ (b : Bool) (m : List Answer). record { lawful = true; whole = b; said = m }) f s

-- ---- starts and readings by counts

-- a board is started by this input at the reading z, where its questions find this
abbrev entry : Board → StartInput → ℤ → Found Entry → Board
entry b input z f = after_entry b (a_start (position_of b.party.plan z) input) b.party (lent b.journal) (length b.journal) f

abbrev entered : World → ℕ → StartInput → ℤ → Found Entry → World
entered w i input z f = record {
  boards = set w.boards i (entry (board_of w i) input z f);
  sent = w.sent;
  since = w.since;
}

-- as by a reading, but for the input
abbrev started_at : World → ℕ → StartInput → ℤ → World
started_at w i input z = entered w i input z (start_finds (board_of w i).party (plain z) (lent (board_of w i).journal) (length (board_of w i).journal))

-- board i runs, and answers the reading z of a range
record Answering (w : World) (i : ℕ) (z : ℤ) : Type 0 where
  up : (board_of w i).stage ≡ running
  valid : party_valid (board_of w i).party ≡ true
  range : (board_of w i).party.plan.kind ≡ 2
  position : eqb (position_of (board_of w i).party.plan z) no_output ≡ false
  answer : (answered_of (board_of w i).party).answer ≡ Some z

module _ (v : Instance) (w : World) (i g : ℕ) (c z : ℤ) (ok : T (size_passes g)) (e : nearest_step g c ≡ z) where
  starts_as : (board_of w i).party.plan.kind ≡ 2 → acted v w (starts_count i g c) ≡ started_at w i (by_count g c) z
  starts_as k =
      let b = board_of w i in
      ap (entered w i (by_count g c) (nearest_step g c))
      (count_is_start b.party g c (length (lent b.journal).journal) (length b.journal) (lent b.journal).out ok k)
      ∙ ap (started_at w i (by_count g c)) e

  module _ (a : Answering w i z) where
    -- it reads its own count
    counted : (read_as_count (board_of w i).party g c).answer ≡ Some c
    counted =
        let p = (board_of w i).party in
        count_answers p g c (true→T a.valid) ok
        (λ n. off (sym (count_on_range p.plan g c a.range ∙ ap (position_of p.plan) e) ∙ n)) a.answer
        ∙ ap Some (ap (count_answer g c) (sym e) ∙ own_step g ok c)
      where
        off : position_of (board_of w i).party.plan z ≡ no_output → ⊥
        off n =
            let t : true ≡ false = sym (eq-eqb (position_of (board_of w i).party.plan z) no_output n) ∙ a.position in
            let o : ◌≡◌ {A = ℕ} 0 1 = cc in
            omega arith

    counts : count_in v w i g c ≡ Some c
    counts = ap (λ (s : Stage). (read_as_count (party_by v i (board_of w i) s) g c).answer) a.up ∙ counted

    reads_as : acted v w (reads_count i g c) ≡ acted v w (reads i)
    reads_as = ap read counted ∙ sym (ap read a.answer)
      where
        read : Answer → World
        read x = record { boards = set w.boards i (after_answer (board_of w i) x); sent = w.sent; since = w.since }

-- ---- the run, whatever the inputs

abbrev single : World
single = acted vote (beginning vote) (sets_up 0)

abbrev both : World
both = acted vote single (sets_up 1)

settled_vote : settled vote bad ≡ true
unfolding computing
settled_vote = refl

fits_first : (fits vote bad (beginning vote) (sets_up 0) ≡ true) × (fits vote bad single (sets_up 1) ≡ true)
unfolding computing
fits_first = (refl, refl)

fits_start : (g : ℕ) (c : ℤ) → fits vote bad both (starts_count 0 g c) ≡ true
unfolding computing
fits_start g c = refl

range_both : (board_of both 0).party.plan.kind ≡ 2
unfolding computing
range_both = refl

module _ (a b : StartInput) where
  abbrev one : World
  one = started_at both 0 a (pos 0)

  abbrev two : World
  two = started_at one 1 b (pos 1)

  abbrev three : World
  three = acted vote two (reads 0)

  abbrev last : World
  last = acted vote three (reads 1)

  fits_later : (g : ℕ) (c d : ℤ)
      → (fits vote bad one (starts_count 1 g d) ≡ true) × (fits vote bad two (reads_count 0 g c) ≡ true) × (fits vote bad three (reads_count 1 g d) ≡ true)
  unfolding computing
  fits_later g c d = (refl, refl, refl)

  range_one : (board_of one 1).party.plan.kind ≡ 2
  unfolding computing
  range_one = refl

  answering : Answering two 0 (pos 0) × Answering three 1 (pos 1) × Answering last 0 (pos 0) × Answering last 1 (pos 1)
  unfolding computing
  answering = (
    record { up = refl; valid = refl; range = refl; position = refl; answer = refl },
    record { up = refl; valid = refl; range = refl; position = refl; answer = refl },
    record { up = refl; valid = refl; range = refl; position = refl; answer = refl },
    record { up = refl; valid = refl; range = refl; position = refl; answer = refl },
  )

  delivered : full vote bad last ≡ true
  unfolding computing
  delivered = refl

  said : listed 0 2 (answer_in vote last) ≡ Some (pos 0) ∷ Some (pos 1) ∷ []
  unfolding computing
  said = refl

  inputs_last : (inputs_in (board_of last 0).counted ≡ a ∷ []) × (inputs_in (board_of last 1).counted ≡ b ∷ [])
  unfolding computing inputs_in
  inputs_last = (refl, refl)

-- ---- for every size that passes

module _ (g : ℕ) (ok : T (size_passes g)) where
  abbrev low : ℤ
  low = count g 0

  abbrev high : ℤ
  high = count g 1

  abbrev at_low : StartInput
  at_low = by_count g low

  abbrev at_high : StartInput
  at_high = by_count g high

  abbrev end : World
  end = last at_low at_high

  leads : Leads vote bad (beginning vote) (script g) end
  leads =
      let f = fits_later at_low at_high g low high in
      let r = answering at_low at_high in
      after vote bad (beginning vote) single end (sets_up 0) _ fits_first.0 refl
      (after vote bad single both end (sets_up 1) _ fits_first.1 refl
      (after vote bad both (one at_low at_high) end (starts_count 0 g low) _ (fits_start g low) (starts_as vote both 0 g low (pos 0) ok (half_below g ok) range_both)
      (after vote bad (one at_low at_high) (two at_low at_high) end (starts_count 1 g high) _ f.0
      (starts_as vote (one at_low at_high) 1 g high (pos 1) ok (half_above g ok) (range_one at_low at_high))
      (after vote bad (two at_low at_high) (three at_low at_high) end (reads_count 0 g low) _ f.1
      (reads_as vote (two at_low at_high) 0 g low (pos 0) ok (half_below g ok) r.0)
      (after vote bad (three at_low at_high) end end (reads_count 1 g high) _ f.2
      (reads_as vote (three at_low at_high) 1 g high (pos 1) ok (half_above g ok) r.1)
      (nothing vote bad end))))))

  judged : Judges vote bad (script g) (Some (pos 0) ∷ Some (pos 1) ∷ [])
  judged = judged_by vote bad (script g) end (Some (pos 0) ∷ Some (pos 1) ∷ []) leads (delivered at_low at_high) (said at_low at_high)

  inputs : (i : ℕ) → i < 2 → inputs_in (board_of (ending vote (script g)) i).counted ≡ by_count g (count g i) ∷ []
  inputs zero l = ap (λ (w : World). inputs_in (board_of w 0).counted) leads.1 ∙ (inputs_last at_low at_high).0
  inputs (suc zero) l = ap (λ (w : World). inputs_in (board_of w 1).counted) leads.1 ∙ (inputs_last at_low at_high).1
  inputs (suc (suc i)) l = absurd (omega arith)

  gives : (i : ℕ) → i < 2 → count_in vote (ending vote (script g)) i g (count g i) ≡ Some (count g i)
  gives zero l =
      ap (λ (w : World). count_in vote w 0 g low) leads.1 ∙ counts vote end 0 g low (pos 0) ok (half_below g ok) (answering at_low at_high).2
  gives (suc zero) l =
      ap (λ (w : World). count_in vote w 1 g high) leads.1 ∙ counts vote end 1 g high (pos 1) ok (half_above g ok) (answering at_low at_high).3
  gives (suc (suc i)) l = absurd (omega arith)

  ending_so : CountsEnd vote plan bad g (history_of vote (script g)) (count g) (count g)
  ending_so = ends vote plan bad (script g) (Some (pos 0) ∷ Some (pos 1) ∷ []) judged settled_vote plan_read g (count g) (count g) inputs gives

pub bound_reached : BoundReached
bound_reached g ok =
    let e = ending_so g ok in
    record { ends = e; answers = λ i o. (count g i, e.started i o, inl (e.answers i o)); reached = halves_apart g ok }
