-- The end of the vote: once all is taken and no rule applies, every sound board has an output at each level that all of them have entered.
use mathlib.Core.Path.{◌≡◌, refl, sym, subst}
use mathlib.Core.Logic.{◌⊎◌, inl, inr}
use mathlib.Core.Bool.{Bool, true, false, not, ◌&&◌}
use Prim.Native.Nat.{ℕ, zero, suc, ◌*◌, ◌≤◌, ◌<◌}
use native.Mathlib.Decide.{dec_lt}
use native.Mathlib.Omega.{arith}
use lib.Dec.{T}
use Rattle.base.specs.Sets.{Set, count, Sound}
use Rattle.base.proofs.Bools.{T-left, T-right, T-dec}
use Rattle.base.proofs.Counts.{count_not, count_split, member}
use Rattle.descent.specs.Inner.{Shape, Laws, Levels, Graded, Facts, Reached, Resulted, Answered, Many, Quiet}
use Rattle.descent.proofs.Descent.{Here, Has, Together, shared, together, consensus, side_there, enters, smaller}

-- where each sound board has A or B, a set tells which
tell : (n : ℕ) (bad : Set) (A C : ℕ → Type 0) → ((i : ℕ) → Sound n bad i → A i ⊎ C i)
    → (f : Set) × ((i : ℕ) → Sound n bad i → T (not (f i)) → A i) × ((i : ℕ) → Sound n bad i → T (f i) → C i)
tell n bad A C each = (f, λ i g. at_false i (dec_lt i n) (T-dec (not (bad i))) g, λ i g. at_true i (dec_lt i n) (T-dec (not (bad i))) g)
  where
    second : {i : ℕ} → A i ⊎ C i → Bool
    second (inl a) = false
    second (inr b) = true

    test : (i : ℕ) → Dec (i < n) → Dec (T (not (bad i))) → Bool
    test i (yes l) (yes g) = second (each i (l, g))
    test i (yes l) (no g) = false
    test i (no l) g = false

    f : Set
    f i = test i (dec_lt i n) (T-dec (not (bad i)))

    first : {i : ℕ} (r : A i ⊎ C i) → T (not (second r)) → A i
    first (inl a) p = a
    first (inr b) p = absurd p

    other : {i : ℕ} (r : A i ⊎ C i) → T (second r) → C i
    other (inl a) p = absurd p
    other (inr b) p = b

    at_false : (i : ℕ) (d : Dec (i < n)) (e : Dec (T (not (bad i)))) → Sound n bad i → T (not (test i d e)) → A i
    at_false i (yes l) (yes g) h p = first (each i (l, g)) p
    at_false i (yes l) (no g) h p = absurd (g h.1)
    at_false i (no l) g h p = absurd (l h.0)

    at_true : (i : ℕ) (d : Dec (i < n)) (e : Dec (T (not (bad i)))) → Sound n bad i → T (test i d e) → C i
    at_true i (yes l) (yes g) h p = other (each i (l, g)) p
    at_true i (yes l) (no g) h p = absurd p
    at_true i (no l) g h p = absurd p

module _ (P : Shape) (B : Levels P) (n : ℕ) (bad : Set) (W : Laws P) (whole : P.Comp) (top : P.Proper whole) (F : Facts P B n bad whole)
    (t : ℕ) (third : 3 * t < n) (few : count n bad ≤ t) (Q : Quiet P B n bad t) where
  -- all sound boards are over c at level L
  abbrev AllIn : ℕ → P.Comp → Type 0
  AllIn L c = (i : ℕ) → Sound n bad i → (x : ℕ) × Here P B n bad i L c x

  abbrev AllAnswered : ℕ → Type 0
  AllAnswered L = (i : ℕ) → Sound n bad i → Answered P B n bad i L

  abbrev Value : ℕ → ℕ → Type 0
  Value L i = (v : ℕ) × (a : Bool) × B.Result i L v a

  -- there is a sound board
  someone : (i : ℕ) × Sound n bad i
  someone = let r = member n (λ j. not (bad j)) (omega (arith, count_not n bad)) in (r.0, (r.1, r.2))

  -- a large level with all sound boards in it; `is_none` tells which of them have the result none
  module _ (L : ℕ) (c : P.Comp) (three : 3 ≤ P.size c) (all : AllIn L c) (is_none : Set)
      (value : (i : ℕ) → Sound n bad i → T (not (is_none i)) → Value L i) (none : (i : ℕ) → Sound n bad i → T (is_none i) → B.None i L) where
    agrees : Graded P B n bad L c
    agrees = consensus P B n bad W whole top F (all someone.0 someone.1).1 three

    -- every sound board has the value k, or none
    module _ (k a : ℕ) (b : Bool) (has : Has P B n bad a L k b) where
      the_value : (i : ℕ) → Sound n bad i → T (not (is_none i)) → (d : Bool) × B.Result i L k d
      the_value i g p =
          let r = value i g p in
          (r.1, subst (λ z. B.Result i L z r.1) (agrees.agree i a r.0 k r.1 b g has.sound r.2 has.result) r.2)

      -- where some sound board has none, at grade 1
      the_grade : (i j : ℕ) → Sound n bad i → Sound n bad j → B.None j L → T (not (is_none i)) → B.Result i L k false
      the_grade i j g h v p = go (the_value i g p)
        where
          go : (d : Bool) × B.Result i L k d → B.Result i L k false
          go (true, r) = absurd (agrees.unsure i j k g h r v)
          go (false, r) = r

    -- each sound board by its result: an answer for a value and for none
    by_result : (A : ℕ → Type 0) → ((i : ℕ) → Sound n bad i → T (not (is_none i)) → A i) → ((i : ℕ) → Sound n bad i → T (is_none i) → A i)
        → (i : ℕ) → Sound n bad i → A i
    by_result A f e i g = go (is_none i) refl
      where
        go : (b : Bool) → is_none i ≡ b → A i
        go true q = e i g (subst T (sym q) tt)
        go false q = f i g (subst (λ z. T (not z)) (sym q) tt)

    none_answers : (i : ℕ) → Sound n bad i → T (is_none i) → Answered P B n bad i L
    none_answers i g p = let x = all i g in Q.by_none i L c x.0 g x.1.entered three (none i g p)

    -- value 0: all output the centre
    zero_answers : (a : ℕ) (b : Bool) → Has P B n bad a L 0 b → AllAnswered L
    zero_answers a b has = by_result (λ i. Answered P B n bad i L) (λ i g p.
        let x = all i g in
        let r = the_value 0 a b has i g p in
        Q.by_zero i L c x.0 r.0 g x.1.entered three r.1) none_answers

    -- more than t have a value, and it is k: all go on to side k, and bring the output up from there
    module _ (k a : ℕ) (b : Bool) (has : Has P B n bad a L k b) (low : 1 ≤ k) (many : t < count n (λ j. not (bad j) && not (is_none j))) where
      goes_on : (i : ℕ) → Sound n bad i → Reached P B n bad i (suc L)
      goes_on = by_result (λ i. Reached P B n bad i (suc L))
          (λ i g p. let x = all i g in let r = the_value k a b has i g p in Q.onward i L c x.0 k r.0 g x.1.entered three r.1 low)
          (λ i g p.
          let x = all i g in
          let s = side_there P B n bad W whole top F x.1 three has low in
          Q.led i L c x.0 s.0 k g x.1.entered s.1 (none i g p) (
            (λ j. not (bad j) && not (is_none j)),
            many,
            λ j l q.
                let h : Sound n bad j = (l, T-left (not (bad j)) (not (is_none j)) q) in
                (h, the_grade k a b has j i h g (none i g p) (T-right (not (bad j)) (not (is_none j)) q)),
          ))

      all_next : AllIn (suc L) (P.side c k)
      all_next i g =
          let r = goes_on i g in
          let h : Here P B n bad i (suc L) r.0 r.1 = record { sound = g; entered = r.2 } in
          let e : r.0 ≡ P.side c k = enters P B n bad W whole top F (all i g).1 three has h in
          (r.1, subst (λ z. Here P B n bad i (suc L) z r.1) e h)

      from_below : AllAnswered (suc L) → AllAnswered L
      from_below ans = by_result (λ i. Answered P B n bad i L)
          (λ i g p. let x = all i g in let r = the_value k a b has i g p in Q.from_below i L c x.0 k r.0 g x.1.entered three r.1 low (ans i g)) none_answers

    -- the level answers, if every side that all go on to does
    level : ((k : ℕ) → AllIn (suc L) (P.side c k) → AllAnswered (suc L)) → AllAnswered L
    level ih = go (dec_lt t (count n (λ j. not (bad j) && is_none j)))
      where
        go : Dec (t < count n (λ j. not (bad j) && is_none j)) → AllAnswered L
        go (yes m) = λ i g.
            let x = all i g in
            Q.by_many i L c x.0 g x.1.entered three (
              (λ j. not (bad j) && is_none j),
              m,
              λ j l q.
                  let h : Sound n bad j = (l, T-left (not (bad j)) (is_none j) q) in
                  (h, none j h (T-right (not (bad j)) (is_none j) q)),
            )
        go (no m) = by_value r.0 r.1 h r.2
          where
            many : t < count n (λ j. not (bad j) && not (is_none j))
            many = omega (arith, count_not n bad, count_split n (λ j. not (bad j)) is_none)

            w : (j : ℕ) × (j < n) × T (not (bad j) && not (is_none j))
            w = member n (λ j. not (bad j) && not (is_none j)) (omega (arith, many))

            h : Sound n bad w.0
            h = (w.1, T-left (not (bad w.0)) (not (is_none w.0)) w.2)

            r : Value L w.0
            r = value w.0 h (T-right (not (bad w.0)) (not (is_none w.0)) w.2)

            by_value : (k : ℕ) (b : Bool) → Sound n bad w.0 → B.Result w.0 L k b → AllAnswered L
            by_value zero b g v = zero_answers w.0 b (record { sound = g; result = v })
            by_value (suc k) b g v =
                let has : Has P B n bad w.0 L (suc k) b = record { sound = g; result = v } in
                let low : 1 ≤ suc k = omega arith in
                from_below (suc k) w.0 b has low many (ih (suc k) (all_next (suc k) w.0 b has low many))

  answered : (f L : ℕ) (c : P.Comp) → P.size c < f → AllIn L c → AllAnswered L
  answered zero L c l all = absurd (omega arith)
  answered (suc f) L c l all = go (dec_lt 2 (P.size c)) (answered f)
    where
      Deeper : Type 0
      Deeper = (L : ℕ) (c : P.Comp) → P.size c < f → AllIn L c → AllAnswered L

      s : Here P B n bad someone.0 L c (all someone.0 someone.1).0
      s = (all someone.0 someone.1).1

      go : Dec (2 < P.size c) → Deeper → AllAnswered L
      go (no d) ih = λ i g. let x = all i g in Q.on_entry i L c x.0 g x.1.entered (omega arith)
      go (yes three) ih =
          let w = together P B n bad W whole top F L in
          let m = tell n bad (Value L) (λ i. B.None i L) (Q.result L c (w.proper s) three (shared P B n bad w s) (λ j g. (c, (all j g).0, (all j g).1.entered))) in
          level L c three all m.0 m.1 m.2 (λ k next.
          ih (suc L) (P.side c k) (omega (arith, smaller P B n bad W whole top F s (next someone.0 someone.1).1)) next)

  -- If all sound boards have entered level 0, each has an answer.
  pub answers : ((i : ℕ) → Sound n bad i → Reached P B n bad i 0) → (i : ℕ) → Sound n bad i → Answered P B n bad i 0
  answers started = answered (suc (P.size whole)) 0 whole (omega arith) (λ i g.
      let r = started i g in
      let h : Here P B n bad i 0 r.0 r.1 = record { sound = g; entered = r.2 } in
      (r.1, subst (λ z. Here P B n bad i 0 z r.1) (F.first i r.0 r.1 g r.2).0 h))
