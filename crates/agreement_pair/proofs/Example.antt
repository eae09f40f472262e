-- A pair answer off the line between two sound pairs.
use mathlib.Core.Path.{◌≡◌, refl, sym, ap, ◌∙◌, subst, subst₂, fun_ext}
use mathlib.Core.Logic.{inl, inr}
use mathlib.Core.Bool.{true}
use mathlib.Core.List.{List, [], ◌∷◌, ◌++◌, Memᴰ}
use Prim.Native.Nat.{ℕ, zero, suc, ◌<◌}
use native.Mathlib.Omega.{arith}
use lib.Dec.{leb→le}
use lib.IntN.{ℤ, pos, nat_abs}
use Rattle.std.specs.Prelude.{Some}
use Rattle.base.specs.Found.{found}
use Rattle.plan.specs.Positions.{reading_of}
use Rattle.party.specs.Party.{Party}
use Rattle.board_pair.specs.Pair.{pair_questions}
use Rattle.agreement.specs.History.{Instance, read_answer, calls, History, Board, board_after}
use Rattle.agreement.specs.Demand.{Started, StartedWith, Complete, Premises}
use Rattle.agreement.specs.Ranges.{Between}
use Rattle.agreement.proofs.Words.{started_stands}
use Rattle.agreement_histories.specs.Scripts.{Action, reads, actor, step_of, followed, history_of, Concludes}
use Rattle.agreement_histories.specs.Grades as grades
use Rattle.agreement_histories.proofs.Worlds.{board_of}
use Rattle.agreement_histories.proofs.Passing.{passes, ending, shown}
use Rattle.agreement_histories.proofs.Delivery.{starts_in, Judges}
use Rattle.agreement_histories.proofs.Delivered.{concludes, passed, started, only_there}
use Rattle.agreement_histories.proofs.Computing.{computing}
use Rattle.agreement_pair.specs.History.{Coordinate, first, second, reads_pair, history_in, in_both}
use Rattle.agreement_pair.specs.Demand.{SoundInBoth, pair_now, PairPremises}
use Rattle.agreement_pair.specs.Example.{OnLine, both, InputPair, vote, plan, bad, script, before, record_of, history, input, Inputs, answer, Example}
use Rattle.agreement_pair.proofs.Steps.{alone, read_now}
use Rattle.agreement_pair.proofs.Theorem.{pair_stays}
use Rattle.board_calls.specs.Answers.{Answer}

-- ---- each vote, with both boards' readings at last

abbrev answers : Coordinate → List Answer
answers first = Some (pos 1) ∷ Some (pos 2) ∷ []
answers second = Some (pos 0) ∷ Some (pos 1) ∷ []

abbrev whole : Coordinate → List Action
whole c = script c ++ (reads 0 ∷ reads 1 ∷ [])

judged : (c : Coordinate) → Judges (vote c) (bad c) (whole c) (answers c)
unfolding computing grades.script
judged first = refl
judged second = refl

conclusion : (c : Coordinate) → Concludes (vote c) (plan c) (bad c) (history_of (vote c) (whole c)) (answers c)
unfolding computing
conclusion first = concludes (vote first) (plan first) (bad first) (whole first) _ (judged first) refl refl
conclusion second = concludes (vote second) (plan second) (bad second) (whole second) _ (judged second) refl refl

-- ---- the pair readings

passing : (c : Coordinate) → passes (vote c) (bad c) (script c) ≡ true
unfolding computing grades.script
passing first = refl
passing second = refl

-- board i's record, as the run of the script shows it
abbrev shown_record : ℕ → Coordinate → Party
shown_record i c = (board_of (ending (vote c) (script c)) i).party

shows_record : (i : ℕ) (c : Coordinate) → shown_record i c ≡ record_of i c
shows_record i c = ap (λ (b : Board). b.party) ((shown (vote c) (bad c) (script c) (passing c)).board i)

shown_reading : (i : ℕ) → i < 2 → pair_questions (shown_record i first) (shown_record i second) ≡ found (Some (answer i first, answer i second))
unfolding computing pair_questions grades.script
shown_reading zero l = refl
shown_reading (suc zero) l = refl
shown_reading (suc (suc i)) l = absurd (omega arith)

reading : (i : ℕ) → i < 2 → pair_questions (record_of i first) (record_of i second) ≡ found (Some (answer i first, answer i second))
reading i l =
    subst₂ (λ (p q : Party). pair_questions p q ≡ found (Some (answer i first, answer i second))) (shows_record i first) (shows_record i second)
    (shown_reading i l)

read : (i : ℕ) → i < 2 → Memᴰ (reads_pair (both i) (record_of i)) history
read zero l = Memᴰ.tail (Memᴰ.head refl)
read (suc zero) l = Memᴰ.head refl
read (suc (suc i)) l = absurd (omega arith)

-- one script after the other
followed_more : (v : Instance) (h : History) (l r : List Action) → followed v h (l ++ r) ≡ followed v (followed v h l) r
unfolding followed
followed_more v h [] r = refl
followed_more v h (a ∷ l) r = followed_more v (step_of v (board_after h (actor a)) a ∷ h) l r

history_in_lem : (c : Coordinate) → history_in c history ≡ history_of (vote c) (whole c)
unfolding followed board_after
history_in_lem c =
    read_now c (both 1) (record_of 1) (pos 2) (pos 1) (reading 1 (omega arith)) (reads_pair (both 0) (record_of 0) ∷ in_both before)
    ∙ ap (λ (h : History). calls 1 (read_answer (record_of 1 c)) ∷ h)
    (read_now c (both 0) (record_of 0) (pos 1) (pos 0) (reading 0 (omega arith)) (in_both before)
    ∙ ap (λ (h : History). calls 0 (read_answer (record_of 0 c)) ∷ h) (alone before c))
    ∙ sym (followed_more (vote c) [] (script c) (reads 0 ∷ reads 1 ∷ []))

-- ---- premises, delivery, answers

premises : PairPremises vote plan bad history
premises = record {
  votes = λ c. subst (Premises (vote c) (plan c) (bad c)) (sym (history_in_lem c)) (conclusion c).premises;
  ranges = ranges;
  numbers = apart;
}
  where
    ranges : (c : Coordinate) → (plan c).kind ≡ 2
    ranges first = refl
    ranges second = refl

    apart : ◌≡◌ {A = ℕ} 1 2 → ⊥
    apart e = omega arith

complete : (c : Coordinate) → Complete (vote c) (bad c) (history_in c history)
complete c = subst (Complete (vote c) (bad c)) (sym (history_in_lem c)) (conclusion c).complete

sound : (i : ℕ) → i < 2 → SoundInBoth vote bad (both i)
sound i l first = (l, tt)
sound i l second = (l, tt)

held : (i : ℕ) → i < 2 → pair_now vote history (both i) ≡ Some (answer i first, answer i second)
held i l = pair_stays vote plan bad history premises (both i) (answer i) (sound i l) (inr (record_of i, read i l, reading i l))

-- ---- where the boards started

abbrev start_of : ℕ → Coordinate → ℕ
start_of zero first = 2
start_of zero second = 0
start_of (suc j) first = 0
start_of (suc j) second = 1

starts_at_lem : (j : ℕ) → j < 2 → (c : Coordinate) → starts_in (board_of (ending (vote c) (whole c)) j).counted ≡ start_of j c ∷ []
unfolding computing grades.script
starts_at_lem zero l first = refl
starts_at_lem zero l second = refl
starts_at_lem (suc zero) l first = refl
starts_at_lem (suc zero) l second = refl
starts_at_lem (suc (suc j)) l c = absurd (omega arith)

reads_input : (j : ℕ) → j < 2 → (c : Coordinate) → reading_of (plan c) (start_of j c) ≡ input j c
unfolding computing
reads_input zero l first = refl
reads_input zero l second = refl
reads_input (suc zero) l first = refl
reads_input (suc zero) l second = refl
reads_input (suc (suc j)) l c = absurd (omega arith)

passed_whole : (c : Coordinate) → passes (vote c) (bad c) (whole c) ≡ true
passed_whole c = passed (vote c) (plan c) (bad c) (whole c) (answers c) (judged c)

-- there and nowhere else
input_is : (p : Coordinate → ℤ) (r : InputPair vote plan bad history p) → p ≡ input r.board
input_is p r = fun_ext λ c.
    let j = r.board in
    let s = r.started c in
    let at = only_there (vote c) (bad c) (whole c) (passed_whole c) j (start_of j c) (starts_at_lem j (r.sound first).0 c)
    (r.position c) (p c) (subst (λ (t : History). Started t j (r.position c) (p c)) (history_in_lem c) s.started) in
    sym s.stands.1 ∙ ap (reading_of (plan c)) at ∙ reads_input j (r.sound first).0 c

pub inputs : Inputs
inputs i l = record { board = i; sound = sound i l; position = start_of i; started = there }
  where
    there : (c : Coordinate) → StartedWith (plan c) (history_in c history) i (start_of i c) (input i c)
    there c =
        let (z, s) = started (vote c) (bad c) (whole c) (passed_whole c) i (start_of i c) (starts_at_lem i l c) in
        let w = started_stands (vote c) (plan c) (bad c) (conclusion c).premises.shared (history_of (vote c) (whole c)) (conclusion c).premises.allowed i (sound i l c).0 (start_of i c) z s in
        subst₂ (λ (h : History) (y : ℤ). StartedWith (plan c) h i (start_of i c) y) (sym (history_in_lem c)) (sym w.stands.1 ∙ reads_input i l c) w

-- ---- off the line

-- one pair is a line by itself
point : (a y : ℕ) → Between (pos a) (pos a) (pos y) → a ≡ y
point a y (inl h) = let p = leb→le a y h.0.le in let q = leb→le y a h.1.le in omega arith
point a y (inr h) = let p = leb→le a y h.0.le in let q = leb→le y a h.1.le in omega arith

no_line : (i j k : ℕ) → i < 2 → j < 2 → k < 2 → OnLine (input j) (input k) (answer i) → ⊥
no_line zero zero zero _ _ _ o = let e = point 2 1 (o.between first) in omega arith
no_line zero (suc zero) (suc zero) _ _ _ o = let e = point 0 1 (o.between first) in omega arith
no_line (suc zero) zero zero _ _ _ o = let e = point 0 1 (o.between second) in omega arith
no_line (suc zero) (suc zero) (suc zero) _ _ _ o = let e = point 0 2 (o.between first) in omega arith
no_line zero zero (suc zero) _ _ _ o = let e : ◌≡◌ {A = ℕ} 1 0 = ap nat_abs o.straight in omega arith
no_line zero (suc zero) zero _ _ _ o = let e : ◌≡◌ {A = ℕ} 1 2 = ap nat_abs o.straight in omega arith
no_line (suc zero) zero (suc zero) _ _ _ o = let e : ◌≡◌ {A = ℕ} 0 2 = ap nat_abs o.straight in omega arith
no_line (suc zero) (suc zero) zero _ _ _ o = let e : ◌≡◌ {A = ℕ} 2 0 = ap nat_abs o.straight in omega arith
no_line (suc (suc i)) j k l _ _ o = absurd (omega arith)
no_line zero (suc (suc j)) k _ l _ o = absurd (omega arith)
no_line (suc zero) (suc (suc j)) k _ l _ o = absurd (omega arith)
no_line zero zero (suc (suc k)) _ _ l o = absurd (omega arith)
no_line zero (suc zero) (suc (suc k)) _ _ l o = absurd (omega arith)
no_line (suc zero) zero (suc (suc k)) _ _ l o = absurd (omega arith)
no_line (suc zero) (suc zero) (suc (suc k)) _ _ l o = absurd (omega arith)

pub off_the_line : Example
off_the_line i l = record {
  premises = premises;
  complete = complete;
  sound = sound i l;
  held = held i l;
  read = (record_of i, read i l, reading i l);
  off = λ p q r s o. no_line i r.board s.board l (r.sound first).0 (s.sound first).0
      (subst₂ (λ (a b : Coordinate → ℤ). OnLine a b (answer i)) (input_is p r) (input_is q s) o);
}
