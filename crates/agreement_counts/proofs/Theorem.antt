-- Q-6's theorem. A count answer is that of an answer in steps, of the count that its board started with; demand 3 holds of the steps on a range, and by
-- `OnlyCounts` those that sound boards started with are nearest steps of sound counts.
use mathlib.Core.Path.{◌≡◌, refl, sym, ap, ◌∙◌, subst, subst₂}
use mathlib.Core.Logic.{◌⊎◌, inl, inr}
use Prim.Native.Nat.{ℕ, ◌*◌, ◌≤◌}
use native.Mathlib.Omega.{arith}
use lib.Dec.{T}
use lib.IntN.{ℤ}
use lib.Signed.{◌≤ℤ◌}
use Rattle.std.specs.Prelude.{Some}
use Rattle.base.specs.Sets.{Set}
use Rattle.base.specs.Found.{Found, found, refused}
use Rattle.rounding.specs.Rounding.{size_passes, nearest_step, count_answer}
use Rattle.rounding.proofs.Answers.{answers_near, answer_low, answer_high}
use Rattle.plan.specs.Plan.{Plan}
use Rattle.level.specs.Level.{no_output}
use Rattle.party.specs.Party.{Party}
use Rattle.board_calls.specs.Answers.{Answer}
use Rattle.board_calls.specs.Counts.{count_position, count_questions, count_gives}
use Rattle.board_laws.proofs.Counts.{count_on_range, count_answered, count_passed, count_answers}
use Rattle.agreement.specs.History.{Instance, by_count, voted_input, read_as_count, History}
use Rattle.agreement.specs.Allowed.{Sound}
use Rattle.agreement.specs.Starts.{Startable}
use Rattle.agreement.specs.Demand.{StartedBy, party_now, answer_now, Answers, Complete, Premises}
use Rattle.agreement.specs.Ranges.{apart, Input}
use Rattle.agreement.proofs.Boards.{answer_now_lem}
use Rattle.agreement.proofs.Answers.{answers_state}
use Rattle.agreement.proofs.Theorem.{demand3}
use Rattle.agreement.proofs.Ranges.{demand3_range}
use Rattle.agreement_counts.specs.Demand.{StartedByCount, OnlyCounts, SoundCount, count_now, CountAnswers, CountsDemand, CountStays}
use Rattle.agreement_counts.proofs.Starts.{count_asked}
use Rattle.agreement_counts.proofs.Readings.{now_ours, read_ours}

-- ---- a count answer, by the steps

-- it is the count answer of an answer in steps
pub record Stepped (v : Instance) (h : History) (i g : ℕ) (a : ℤ) : Type 0 where
  pub own : ℤ
  pub step : ℤ
  pub started : StartedByCount h i g own
  pub answers : Answers v h i step
  pub gives : a ≡ count_answer g own step

pub stepped : (v : Instance) (h : History) (i g : ℕ) (a : ℤ) → CountAnswers v h i g a → Stepped v h i g a
stepped v h i g a (c, s, inl e) =
    let y = count_answered (party_now v h i) g c e in
    record { own = c; step = y.0; started = s; answers = inl y.1; gives = y.2 }
stepped v h i g a (c, s, inr (p, m, e)) =
    let y = count_answered p g c e in
    record { own = c; step = y.0; started = s; answers = inr (p, inr (g, c, a, m, e), y.1); gives = y.2 }

-- a count reading that gave an answer passed its questions
read_passed : (p : Party) (g : ℕ) (c a : ℤ) → (read_as_count p g c).answer ≡ Some a → T (size_passes g) × (count_position p.plan g c ≡ no_output → ⊥)
read_passed p g c a = go (count_questions p g c) refl
  where
    go : (q : Found Answer) → count_questions p g c ≡ q → (count_gives q).answer ≡ Some a → T (size_passes g) × (count_position p.plan g c ≡ no_output → ⊥)
    go (found x) e i = let w = count_passed p g c e in (w.1, w.2)
    go (refused number place) e i = let o : ◌≡◌ {A = ℕ} 0 1 = cc in absurd (omega arith)

module _ (v : Instance) (plan : Plan) (bad : Set) (h : History) (given : Premises v plan bad h) where
  -- the count answer now, of a step answer now
  count_now_lem : (i g : ℕ) (c y : ℤ) → Sound v bad i → T (size_passes g) → (count_position plan g c ≡ no_output → ⊥) → answer_now v h i ≡ Some y
      → count_now v h i g c ≡ Some (count_answer g c y)
  count_now_lem i g c y o s d e =
      let p = now_ours v plan bad given.shared i o.0 h given.allowed y e in
      count_answers (party_now v h i) g c p.valid s (λ n. d (ap (λ (q : Plan). count_position q g c) (sym p.plans) ∙ n)) e

  -- ---- the demand

  module _ (g : ℕ) (only : OnlyCounts v bad g h) where
    -- a sound count, by a started reading
    input_count : (p : ℤ) → Input v plan bad h p → (c : ℤ) × SoundCount v bad g h c × (nearest_step g c ≡ p)
    input_count p (i, x, o, s) =
        let input = s.started.0 in
        let y = only i x input o s.started.1 in
        (y.0, (i, o, (x, subst (StartedBy h i x) y.1 s.started.1)), sym (ap voted_input y.1) ∙ s.started.2)

    near : (i j : ℕ) (a b : ℤ) → Sound v bad i → Sound v bad j → CountAnswers v h i g a → CountAnswers v h j g b → apart a b ≤ 2 * g
    near i j a b o o' p q =
        let s = stepped v h i g a p in
        let t = stepped v h j g b q in
        let w = count_asked v plan bad given.shared h given.allowed i s.started.0 g s.own s.started.1 in
        let d = (demand3_range v plan bad h given w.1).near i j s.step t.step o o' s.answers t.answers in
        subst₂ (λ (x y : ℤ). apart x y ≤ 2 * g) (sym s.gives) (sym t.gives) (answers_near g w.0 s.own t.own s.step t.step d)

    between : (i : ℕ) (a : ℤ) → Sound v bad i → CountAnswers v h i g a
        → (p : ℤ) × (q : ℤ) × SoundCount v bad g h p × SoundCount v bad g h q × (p ≤ℤ a) × (a ≤ℤ q)
    between i a o r = go (answer_low g ok c y below.0 low) (answer_high g ok c y above.0 high)
      where
        s : Stepped v h i g a
        s = stepped v h i g a r

        c : ℤ
        c = s.own

        y : ℤ
        y = s.step

        asked : Startable plan (by_count g c)
        asked = count_asked v plan bad given.shared h given.allowed i s.started.0 g c s.started.1

        ok : T (size_passes g)
        ok = asked.0

        d : (p : ℤ) × (q : ℤ) × Input v plan bad h p × Input v plan bad h q × (p ≤ℤ y) × (y ≤ℤ q)
        d = (demand3_range v plan bad h given asked.1).validity i y o s.answers

        below : (e : ℤ) × SoundCount v bad g h e × (nearest_step g e ≡ d.0)
        below = input_count d.0 d.2

        above : (e : ℤ) × SoundCount v bad g h e × (nearest_step g e ≡ d.1)
        above = input_count d.1 d.3

        low : nearest_step g below.0 ≤ℤ y
        low = subst (λ (z : ℤ). z ≤ℤ y) (sym below.2) d.4

        high : y ≤ℤ nearest_step g above.0
        high = subst (λ (z : ℤ). y ≤ℤ z) (sym above.2) d.5

        own : SoundCount v bad g h c
        own = (i, o, s.started)

        -- a sound count on each side of it: the other board's, or the own
        go : (below.0 ≤ℤ count_answer g c y) ⊎ (c ≤ℤ count_answer g c y) → (count_answer g c y ≤ℤ above.0) ⊎ (count_answer g c y ≤ℤ c)
            → (p : ℤ) × (q : ℤ) × SoundCount v bad g h p × SoundCount v bad g h q × (p ≤ℤ a) × (a ≤ℤ q)
        go l m = let x = lower l in let z = upper m in (x.0, z.0, x.1, z.1, x.2, z.2)
          where
            lower : (below.0 ≤ℤ count_answer g c y) ⊎ (c ≤ℤ count_answer g c y) → (p : ℤ) × SoundCount v bad g h p × (p ≤ℤ a)
            lower (inl l) = (below.0, below.1, subst (λ (z : ℤ). below.0 ≤ℤ z) (sym s.gives) l)
            lower (inr l) = (c, own, subst (λ (z : ℤ). c ≤ℤ z) (sym s.gives) l)

            upper : (count_answer g c y ≤ℤ above.0) ⊎ (count_answer g c y ≤ℤ c) → (q : ℤ) × SoundCount v bad g h q × (a ≤ℤ q)
            upper (inl l) = (above.0, above.1, subst (λ (z : ℤ). z ≤ℤ above.0) (sym s.gives) l)
            upper (inr l) = (c, own, subst (λ (z : ℤ). z ≤ℤ c) (sym s.gives) l)

    ending : Complete v bad h → (i : ℕ) → Sound v bad i → (c : ℤ) × (a : ℤ) × StartedByCount h i g c × (count_now v h i g c ≡ Some a)
    ending full i o =
        let f = full.started i o in
        let x = f.0 in
        let s = f.2 in
        let y = only i x s.0 o s.1 in
        let b : StartedBy h i x (by_count g y.0) = subst (StartedBy h i x) y.1 s.1 in
        let w = count_asked v plan bad given.shared h given.allowed i x g y.0 b in
        let r = (demand3 v plan bad h given).ending full i o in
        (y.0, count_answer g y.0 r.0, (x, b), count_now_lem i g y.0 r.0 o w.0 (λ n. w.2 (sym (count_on_range plan g y.0 w.1) ∙ n)) r.1)

-- Q-6.
pub counts_demand : CountsDemand
counts_demand v plan bad g h given only = record { near = near v plan bad h given g only; between = between v plan bad h given g only; ending = ending v plan bad h given g only }

-- A count answer once read stays the board's.
pub count_stays : CountStays
count_stays v plan bad h given i g c a p o m e =
    let y = count_answered p g c e in
    let q = read_ours v plan bad given.shared i o.0 h given.allowed p g c a m e in
    let w = read_passed p g c a e in
    let now : answer_now v h i ≡ Some y.0 =
    answer_now_lem v plan bad given.shared h given.allowed i o.0
    ∙ answers_state v plan bad given.shared h given.allowed i o.0 y.0 (inr (p, inr (g, c, a, m, e), y.1)) in
    count_now_lem v plan bad h given i g c y.0 o w.0 (λ n. w.1 (ap (λ (r : Plan). count_position r g c) q.plans ∙ n)) now ∙ ap Some (sym y.2)
