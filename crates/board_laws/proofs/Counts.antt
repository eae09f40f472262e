-- What a start by count and the answer as a count find, in a start's and a reading's words.
use mathlib.Core.Path.{◌≡◌, refl, sym, ap, ◌∙◌}
use mathlib.Core.Bool.{Bool, true, false, not}
use Prim.Native.Nat.{ℕ}
use native.Mathlib.Omega.{arith}
use lib.Dec.{T, eqb, T_not, not_T, eqb→eq}
use lib.IntN.{ℤ}
use borrow.Author.Tests.{eq-eqb}
use Rattle.std.specs.Prelude.{Some, None}
use Rattle.base.specs.Pick.{pick}
use Rattle.base.specs.Verdict.{Verdict}
use Rattle.base.specs.Found.{Found, found, refused}
use Rattle.base.proofs.Bools.{true→T, T→true}
use Rattle.rounding.specs.Rounding.{size_passes, nearest_step, count_answer}
use Rattle.plan.specs.Plan.{Plan}
use Rattle.plan.proofs.Listed.{asked, ask_yes}
use Rattle.level.specs.Level.{no_output}
use Rattle.party.specs.Party.{Party, started, output_of}
use Rattle.party.specs.Valid.{party_valid}
use Rattle.board_calls.specs.Answers.{position_of, answer_of, Answer}
use Rattle.board_calls.specs.Calls.{Entry, at_door, start_at, start_questions, answered_of}
use Rattle.board_calls.specs.Counts.{count_position, start_count_questions, count_of, count_questions, count_gives}
use Rattle.board_laws.proofs.Recorded.{inside}

-- ---- the position of a count

module _ (q : Plan) (g : ℕ) (c : ℤ) where
  pub count_on_range : q.kind ≡ 2 → count_position q g c ≡ position_of q (nearest_step g c)
  count_on_range k = rw (eq-eqb q.kind 2 k)

  -- only a range has one
  pub range_has : (count_position q g c ≡ no_output → ⊥) → q.kind ≡ 2
  range_has d = eqb→eq q.kind 2 (go (eqb q.kind 2) d)
    where
      go : (b : Bool) → (pick b (position_of q (nearest_step g c)) no_output ≡ no_output → ⊥) → T b
      go true d = tt
      go false d = absurd (d refl)

-- what question 12 tells of a position
on_plan_lem : (x : ℕ) → T (not (eqb x no_output)) → x ≡ no_output → ⊥
on_plan_lem x t i = T_not (eqb x no_output) t (true→T (eq-eqb x no_output i))

-- ---- a start by count

module _ (p : Party) (g : ℕ) (c : ℤ) (room used out : ℕ) where
  -- of a size that passes, it is the start of any input at the count's position
  pub count_as_start : T (size_passes g) → (z : ℤ) → position_of p.plan z ≡ count_position p.plan g c
      → start_count_questions p g c room used out ≡ start_questions p z room used out
  unfolding start_count_questions start_questions
  count_as_start s z e =
      ap (at_door p room used out) (ask_yes (size_passes g) 25 0 (start_at p (count_position p.plan g c) room used) s)
      ∙ ap (λ (x : ℕ). at_door p room used out (start_at p x room used)) (sym e)

  -- so on a range that of the nearest step
  pub count_is_start : T (size_passes g) → p.plan.kind ≡ 2 → start_count_questions p g c room used out ≡ start_questions p (nearest_step g c) room used out
  count_is_start s k = count_as_start s (nearest_step g c) (sym (count_on_range p.plan g c k))

  -- and an accepted one is of such a size, on a range
  pub count_start : {e : Entry} → start_count_questions p g c room used out ≡ found e
      → T (size_passes g) × (p.plan.kind ≡ 2) × (start_questions p (nearest_step g c) room used out ≡ found e)
  unfolding start_count_questions
  count_start {e} h =
      let x : ℕ = count_position p.plan g c in
      let a = inside p room used out e _ h in
      let b = asked (size_passes g) 25 0 (start_at p x room used) e a.1 in
      let d = asked (not (started p)) 13 0 _ e b.1 in
      let f = asked (not (eqb x no_output)) 12 0 _ e d.1 in
      let k = range_has p.plan g c (on_plan_lem x f.0) in
      (b.0, k, sym (count_is_start b.0 k) ∙ h)

-- ---- the answer as a count

-- a party that passes question 19 answers as its output says
pub answered_valid : (p : Party) → T (party_valid p) → (answered_of p).answer ≡ answer_of p.plan (output_of p)
unfolding answered_of
answered_valid p v = rw (T→true (party_valid p) v)

-- a count's answer is of a step's
counted : (g : ℕ) (c : ℤ) (x : Answer) {a : ℤ} → count_of g c x ≡ Some a → (y : ℤ) × (x ≡ Some y) × (a ≡ count_answer g c y)
counted g c None e = let z : ◌≡◌ {A = ℕ} 0 1 = cc in absurd (omega arith)
counted g c (Some y) e = (y, refl, cc)

module _ (p : Party) (g : ℕ) (c : ℤ) where
  -- what it finds where every question passes
  pub count_found : T (party_valid p) → T (size_passes g) → (count_position p.plan g c ≡ no_output → ⊥) → count_questions p g c ≡ found (count_of g c (answered_of p).answer)
  unfolding count_questions
  count_found v s d =
      ask_yes (party_valid p) 19 0 _ v
      ∙ ask_yes (size_passes g) 25 0 _ s
      ∙ ask_yes (not (eqb x no_output)) 12 0 _ (not_T (eqb x no_output) (λ t. d (eqb→eq x no_output t)))
      ∙ ap (λ (y : Answer). found (count_of g c y)) (sym (answered_valid p v))
    where
      x : ℕ
      x = count_position p.plan g c

  -- and only there it finds anything
  pub count_passed : {a : Answer} → count_questions p g c ≡ found a
      → T (party_valid p) × T (size_passes g) × (count_position p.plan g c ≡ no_output → ⊥) × (count_of g c (answered_of p).answer ≡ a)
  unfolding count_questions
  count_passed {a} h =
      let x : ℕ = count_position p.plan g c in
      let b = asked (party_valid p) 19 0 _ a h in
      let d = asked (size_passes g) 25 0 _ a b.1 in
      let e = asked (not (eqb x no_output)) 12 0 _ a d.1 in
      let i : found (count_of g c (answer_of p.plan (output_of p))) ≡ found a = e.1 in
      let k : count_of g c (answer_of p.plan (output_of p)) ≡ a = cc in
      (b.0, d.0, on_plan_lem x e.0, ap (count_of g c) (answered_valid p b.0) ∙ k)

  pub count_answered : {a : ℤ} → (count_gives (count_questions p g c)).answer ≡ Some a → (y : ℤ) × ((answered_of p).answer ≡ Some y) × (a ≡ count_answer g c y)
  count_answered {a} h = go (count_questions p g c) refl h
    where
      go : (q : Found Answer) → count_questions p g c ≡ q → (count_gives q).answer ≡ Some a → (y : ℤ) × ((answered_of p).answer ≡ Some y) × (a ≡ count_answer g c y)
      go (found x) e i = counted g c (answered_of p).answer ((count_passed e).3 ∙ i)
      go (refused number place) e i = let z : ◌≡◌ {A = ℕ} 0 1 = cc in absurd (omega arith)

  pub count_refused : {k at : ℕ} → (count_gives (count_questions p g c)).verdict ≡ Verdict.Refused k at → (count_gives (count_questions p g c)).answer ≡ None
  count_refused {k} {at} h = go (count_questions p g c) h
    where
      go : (q : Found Answer) → (count_gives q).verdict ≡ Verdict.Refused k at → (count_gives q).answer ≡ None
      go (found x) i = let z : ◌≡◌ {A = ℕ} 0 1 = cc in absurd (omega arith)
      go (refused number place) i = refl

  pub count_answers : {y : ℤ} → T (party_valid p) → T (size_passes g) → (count_position p.plan g c ≡ no_output → ⊥) → (answered_of p).answer ≡ Some y
      → (count_gives (count_questions p g c)).answer ≡ Some (count_answer g c y)
  count_answers v s d i = ap (λ (q : Found Answer). (count_gives q).answer) (count_found v s d) ∙ ap (count_of g c) i
