-- What is known of the levels passed, and the chart in the end.
use mathlib.Core.Path.{◌≡◌, refl, sym, ap, ◌∙◌, subst, subst₂}
use mathlib.Core.Bool.{Bool, true, false, not, ◌&&◌, ◌||◌}
use mathlib.Core.List.{List}
use Prim.Native.Nat.{ℕ, zero, suc, ◌+◌, ◌-◌, ◌*◌, ◌≤◌, ◌<◌}
use native.Mathlib.Nat.{not-suc-le-zero}
use native.Mathlib.Decide.{ℕ_discrete, dec_lt}
use native.Mathlib.Numerals.{add-one}
use native.Mathlib.Omega.{arith}
use lib.Dec.{T, eqb, leb, ltb, leb→le, le→leb, ltb→lt}
use lib.ListN.{length, get_or, set, length-set}
use lib.Seq.{get_or-set_same, get_or-set_other}
use borrow.Author.Tests.{lt-ltb, le-ltb}
use Rattle.base.specs.Pick.{pick}
use Rattle.base.specs.Sets.{Set}
use Rattle.base.specs.Limits.{level_count}
use Rattle.base.proofs.Bools.{T_and, T-left, T-right, T→true, true→T, not-T→false, false→not-T, T-ext}
use Rattle.plan.specs.Plan.{Plan}
use Rattle.plan.specs.Valid.{plan_valid}
use Rattle.component.specs.declared.Component.{Component}
use Rattle.component.specs.declared.Survey.{Survey}
use Rattle.component.specs.Component.{whole_of, size_of, centre_of, degree_of, side_of}
use Rattle.component.specs.Inner.{Lent, members, OfPlan, Numbered, survey_of}
use Rattle.level.specs.Level.{Level, not_yet, slot_count, value_count}
use Rattle.level.specs.declared.Level as Code
use Rattle.level.specs.Tie.{as_level}
use Rattle.party.specs.Party.{Party, level_at, component_of, sending}
use Rattle.party.specs.declared.Chart.{Chart}
use Rattle.party.specs.Inner.{no_survey, Charts, Sends, Keeps, Filled}
use Rattle.party.specs.Tie.{sets_at}
use Rattle.party.specs.Valid.{every_level, settings_pass, sets_pass, output_passes, value_passes, place_passes, results_pass, level_passes, party_valid}
use Rattle.party_laws.proofs.Laws.{valid→, sending_three, entered_sending}
use Rattle.party_laws.proofs.Components as components
use Rattle.party_fields.specs.Inner.{output_fits, is_unresolved, entry_fits}
use Rattle.party_fields.proofs.Sets.{pass_all}
use Rattle.party_fields.proofs.Entries.{below→, →below}
use Rattle.party_inspect.specs.Inner.{results_fit, part_fits, part_of, survey_before, entered_fits, Deepest, Ready, Settles}
use Rattle.party_inspect.proofs.Entries.{entry_plan}

-- the chart of the levels below i
pub record ChartsTo (p : Party) (i : ℕ) (d : Chart) : Type 0 where
  pub full : length d.surveys ≡ level_count
  pub sends : (j : ℕ) → j < i → sending p j ≡ ltb j d.sending
  pub most : d.sending ≤ i
  pub surveys : (j : ℕ) → j < d.sending → get_or d.surveys j no_survey ≡ survey_of p.plan (component_of p j) (level_at p j).position
  pub component : (j : ℕ) → d.sending ≡ suc j → OfPlan p.plan (component_of p j)
  -- the component of the last that sends is kept until a next level is entered
  pub deepest : (j : ℕ) → d.sending ≡ suc j → (suc j < i → (level_at p (suc j)).entered ≡ false) → members p.plan d.deepest ≡ component_of p j
  pub numbers : (j : ℕ) → d.sending ≡ suc j → (suc j < i → (level_at p (suc j)).entered ≡ false) → Numbered p.plan d.deepest

-- nothing passes with a test that fails
and_false : (b : Bool) → b && false ≡ false
and_false true = refl
and_false false = refl

and_assoc : (a b c : Bool) → (a && b) && c ≡ a && (b && c)
and_assoc true b c = refl
and_assoc false b c = refl

-- no level
pub charts_start : (p : Party) (d : Chart) → length d.surveys ≡ level_count → d.sending ≡ 0 → ChartsTo p 0 d
charts_start p d n e = record {
  full = n;
  sends = λ j h. absurd (not-suc-le-zero h);
  most = omega arith;
  surveys = λ j h. absurd (omega arith);
  component = λ j q. absurd (omega arith);
  deepest = λ j q _. absurd (omega arith);
  numbers = λ j q _. absurd (omega arith);
}

module _ (p : Party) (i : ℕ) (d : Chart) (C : ChartsTo p i d) where
  -- the last level noted sends
  last_sends : (j : ℕ) → d.sending ≡ suc j → T (sending p j)
  last_sends j e = true→T (C.sends j (omega (arith, C.most)) ∙ lt-ltb j d.sending (omega arith))

  last_survey : (j : ℕ) → d.sending ≡ suc j → survey_before d (suc j) ≡ survey_of p.plan (component_of p j) (level_at p j).position
  last_survey j e = let m : suc j - 1 ≡ j = omega arith in ap (λ (k : ℕ). get_or d.surveys k no_survey) m ∙ C.surveys j (omega arith)

  last_centre : (j : ℕ) → d.sending ≡ suc j → (survey_before d (suc j)).centre ≡ centre_of p.plan (component_of p j)
  unfolding survey_of
  last_centre j e = ap (λ (s : Survey). s.centre) (last_survey j e)

  last_degree : (j : ℕ) → d.sending ≡ suc j → (survey_before d (suc j)).degree ≡ degree_of p.plan (component_of p j)
  unfolding survey_of
  last_degree j e = ap (λ (s : Survey). s.degree) (last_survey j e)

  -- what the next level needs
  pub charts_ready : T (plan_valid p.plan) → Lent p.plan → i < level_count → Ready p.plan d i
  charts_ready v r h = record { valid = v; lent = r; exists = h; before = before }
    where
      before : (j : ℕ) → i ≡ suc j → d.sending ≡ suc j → Deepest p.plan d i
      before j e q =
          let m = sym (C.deepest j q (λ l. absurd (omega arith))) in
          subst (Deepest p.plan d) (sym e)
          (record {
            surveyed = record {
              of = subst (OfPlan p.plan) m (C.component j q);
              three = subst (λ (S : Set). 3 ≤ size_of p.plan S) m (sending_three p j (last_sends j q));
              numbers = C.numbers j q (λ l. absurd (omega arith));
            };
            centre = last_centre j q ∙ ap (centre_of p.plan) m;
            degree = last_degree j q ∙ ap (degree_of p.plan) m;
          })

-- ---- question 19 of a level, by the side through which it is entered

-- its entry
entry_at : Party → ℕ → ℕ → Bool
entry_at p zero k = eqb k 0
entry_at p (suc j) k = sending p j && (leb 1 k && leb k (degree_of p.plan (component_of p j)))

-- its component
part_at : Party → ℕ → ℕ → Set
part_at p zero k = whole_of p.plan
part_at p (suc j) k = side_of p.plan (component_of p j) k

-- the level's place and results
place_at : Party → ℕ → Level → Bool
place_at p i l =
    (not l.entered || (entry_at p i l.side && part_at p i l.side l.position))
    && pick (l.entered && leb 3 (size_of p.plan (part_at p i l.side)))
    (value_passes (degree_of p.plan (part_at p i l.side)) l.first && value_passes (degree_of p.plan (part_at p i l.side)) l.result)
    (eqb l.first not_yet && eqb l.result not_yet)

part_at_lem : (p : Party) (i : ℕ) → component_of p i ≡ part_at p i (level_at p i).side
unfolding component_of part_at
part_at_lem p zero = refl
part_at_lem p (suc j) = refl

place_at_lem : (p : Party) (i : ℕ) → place_passes p i && results_pass p i ≡ place_at p i (level_at p i)
unfolding component_of sending entry_at part_at place_at
place_at_lem p zero = refl
place_at_lem p (suc j) = refl

-- ---- the test of the next level is question 19's

-- the entry
entry_same : (p : Party) (i : ℕ) (d : Chart) → ChartsTo p i d → (k : ℕ)
    → entry_fits d.sending (survey_before d i).degree i k ≡ entry_at p i k
unfolding entry_fits entry_at
entry_same p zero d C k = refl
entry_same p (suc j) d C k = T-ext (entry_fits d.sending (survey_before d (suc j)).degree (suc j) k) (sending p j && (leb 1 k && leb k n)) there back
  where
    n : ℕ
    n = degree_of p.plan (component_of p j)

    there : T (entry_fits d.sending (survey_before d (suc j)).degree (suc j) k) → T (sending p j && (leb 1 k && leb k n))
    there t =
        let b = below→ d.sending (survey_before d (suc j)).degree j k t in
        T_and (sending p j) (leb 1 k && leb k n) (last_sends p (suc j) d C j b.sends)
        (T_and (leb 1 k) (leb k n) (le→leb 1 k b.low) (le→leb k n (subst (λ (x : ℕ). k ≤ x) (last_degree p (suc j) d C j b.sends) b.high)))

    back : T (sending p j && (leb 1 k && leb k n)) → T (entry_fits d.sending (survey_before d (suc j)).degree (suc j) k)
    back t =
        let s = T-left (sending p j) (leb 1 k && leb k n) t in
        let r = T-right (sending p j) (leb 1 k && leb k n) t in
        let l : j < d.sending = ltb→lt j d.sending (subst T (C.sends j (omega arith)) s) in
        let e : d.sending ≡ suc j = omega (arith, C.most) in
        →below d.sending (survey_before d (suc j)).degree j k (record {
          sends = e;
          low = leb→le 1 k (T-left (leb 1 k) (leb k n) r);
          high = subst (λ (x : ℕ). k ≤ x) (sym (last_degree p (suc j) d C j e)) (leb→le k n (T-right (leb 1 k) (leb k n) r));
        })

-- the component
part_same : (p : Party) (i : ℕ) (d : Chart) → ChartsTo p i d → (k : ℕ)
    → T (entry_fits d.sending (survey_before d i).degree i k) → part_of p.plan d.deepest i k ≡ part_at p i k
unfolding part_of part_at
part_same p zero d C k t = refl
part_same p (suc j) d C k t =
    ap (λ (S : Set). side_of p.plan S k) (C.deepest j (below→ d.sending (survey_before d (suc j)).degree j k t).sends (λ l. absurd (omega arith)))

-- a level that is entered comes after the last that sends
next_level : (p : Party) (i : ℕ) (d : Chart) → ChartsTo p i d → (k : ℕ)
    → T (entry_fits d.sending (survey_before d i).degree i k) → d.sending ≡ i
next_level p zero d C k t = omega (arith, C.most)
next_level p (suc j) d C k t = (below→ d.sending (survey_before d (suc j)).degree j k t).sends

-- S matters only where the entry passes
over_same : (p : Plan) (l : Code.Level) (S R : Set) (entry : Bool) → (T entry → S ≡ R) → entry && part_fits p S l ≡ entry && part_fits p R l
over_same p l S R false h = refl
over_same p l S R true h = ap (λ (M : Set). part_fits p M l) (h tt)

-- an entered level's place and results, one after the other
opened : (p : Party) (i : ℕ) (heard : List ℕ) (l : Code.Level) → l.entered ≡ true
    → place_at p i (as_level heard l) ≡ entry_at p i l.side && part_fits p.plan (part_at p i l.side) l
unfolding place_at part_fits results_fit
opened p i heard l e = rw e (and_assoc (entry_at p i l.side) (part_at p i l.side l.position) (results_fit p.plan (part_at p i l.side) l))

-- l is what the code has of level i, and heard its sets
module _ (p : Party) (i : ℕ) (heard : List ℕ) (l : Code.Level) (same : level_at p i ≡ as_level heard l) where
  abbrev place : Bool
  place = place_at p i (as_level heard l)

  tests : level_passes p i ≡ (sets_pass p.n heard && output_fits p.plan.count l.output) && place
  unfolding level_passes
  tests =
      ap (λ (b : Bool). (sets_pass p.n (level_at p i).sets && output_passes p (level_at p i)) && b) (place_at_lem p i)
      ∙ ap (λ (m : Level). (sets_pass p.n m.sets && output_passes p m) && place_at p i m) same

  -- the output lies elsewhere
  pub output_fails : (b : Bool) → b ≡ output_fits p.plan.count l.output → b ≡ false → level_passes p i ≡ false
  output_fails b h f =
      tests ∙ ap (λ (x : Bool). (sets_pass p.n heard && x) && place) (sym h ∙ f)
      ∙ ap (λ (x : Bool). x && place) (and_false (sets_pass p.n heard))

  module _ (t : T (sets_pass p.n heard)) (b : Bool) (h : b ≡ output_fits p.plan.count l.output) (f : b ≡ true) where
    decides : level_passes p i ≡ place
    decides =
        tests ∙ ap (λ (x : Bool). (x && output_fits p.plan.count l.output) && place) (T→true (sets_pass p.n heard) t)
        ∙ ap (λ (x : Bool). x && place) (sym h ∙ f)

    -- a level that is not entered
    pub level_out : l.entered ≡ false → level_passes p i ≡ is_unresolved l
    unfolding place_at
    level_out e = decides ∙ rw e

    -- a level that is
    pub level_entered : l.entered ≡ true → (d : Chart) → ChartsTo p i d → level_passes p i ≡ entered_fits p.plan d i l
    unfolding entered_fits
    level_entered e d C =
        decides ∙ opened p i heard l e
        ∙ ap (λ (x : Bool). x && part_fits p.plan (part_at p i l.side) l) (sym (entry_same p i d C l.side))
        ∙ sym (over_same p.plan l (part_of p.plan d.deepest i l.side) (part_at p i l.side) (entry_fits d.sending (survey_before d i).degree i l.side) (part_same p i d C l.side))

-- an entered level that passes: its entry does
passes_entry : (p : Plan) (d : Chart) (i : ℕ) (l : Code.Level) → T (entered_fits p d i l) → T (entry_fits d.sending (survey_before d i).degree i l.side)
unfolding entered_fits
passes_entry p d i l t = T-left (entry_fits d.sending (survey_before d i).degree i l.side) (part_fits p (part_of p d.deepest i l.side) l) t

-- ---- the next level is noted

module _ (p : Party) (i : ℕ) (d : Chart) (C : ChartsTo p i d) where
  -- a level that is not entered does not send
  not_sending : (level_at p i).entered ≡ false → sending p i ≡ false
  unfolding sending
  not_sending e = rw e

  -- the levels up to one that does not send
  still : sending p i ≡ false → (j : ℕ) → j < suc i → sending p j ≡ ltb j d.sending
  still e j h = at (ℕ_discrete j i)
    where
      at : Dec (j ≡ i) → sending p j ≡ ltb j d.sending
      at (yes q) = ap (sending p) q ∙ e ∙ sym (le-ltb j d.sending (omega (arith, C.most)))
      at (no q) = C.sends j (omega arith)

  pub charts_out : (level_at p i).entered ≡ false → ChartsTo p (suc i) d
  charts_out e = record {
    full = C.full;
    sends = still (not_sending e);
    most = omega (arith, C.most);
    surveys = C.surveys;
    component = C.component;
    deepest = λ j q h. C.deepest j q (λ l. h (omega arith));
    numbers = λ j q h. C.numbers j q (λ l. h (omega arith));
  }

  -- an entered level of one or two positions: its component takes the place of the last
  charts_small : (c : Component) → (level_at p i).entered ≡ true → d.sending ≡ i → sending p i ≡ false
      → ChartsTo p (suc i) (record { sending = d.sending; surveys = d.surveys; deepest = c })
  charts_small c e n f = record {
    full = C.full;
    sends = still f;
    most = omega arith;
    surveys = C.surveys;
    component = C.component;
    deepest = λ j q h. absurd (gone j q (h (omega arith)));
    numbers = λ j q h. absurd (gone j q (h (omega arith)));
  }
    where
      gone : (j : ℕ) → d.sending ≡ suc j → (level_at p (suc j)).entered ≡ false → ⊥
      gone j q z = false→not-T z (true→T (ap (λ (k : ℕ). (level_at p k).entered) (sym q ∙ n) ∙ e))

  -- a level that sends
  charts_large : (after : Chart) → i < level_count → d.sending ≡ i → T (sending p i) → OfPlan p.plan (component_of p i)
      → Sends p.plan (component_of p i) (level_at p i).position i d after → ChartsTo p (suc i) after
  charts_large after room n t o s = record {
    full = ap length s.surveys ∙ length-set d.surveys i mine ∙ C.full;
    sends = λ j h. at j (ℕ_discrete j i) h ∙ sym (lt-ltb j after.sending (omega (arith, s.sending)));
    most = omega (arith, s.sending);
    surveys = λ j h. ap (λ (l : List Survey). get_or l j no_survey) s.surveys ∙ survey j (ℕ_discrete j i) (omega (arith, s.sending));
    component = λ j q. subst (λ (k : ℕ). OfPlan p.plan (component_of p k)) (this j q) o;
    deepest = λ j q h. s.deepest ∙ ap (component_of p) (this j q);
    numbers = λ j q h. s.numbers;
  }
    where
      mine : Survey
      mine = survey_of p.plan (component_of p i) (level_at p i).position

      this : (j : ℕ) → after.sending ≡ suc j → i ≡ j
      this j q = omega (arith, s.sending)

      at : (j : ℕ) → Dec (j ≡ i) → j < suc i → sending p j ≡ true
      at j (yes q) h = ap (sending p) q ∙ T→true (sending p i) t
      at j (no q) h = C.sends j (omega arith) ∙ lt-ltb j d.sending (omega arith)

      survey : (j : ℕ) → Dec (j ≡ i) → j < suc i
          → get_or (set d.surveys i (survey_of p.plan (component_of p i) (level_at p i).position)) j no_survey ≡ survey_of p.plan (component_of p j) (level_at p j).position
      survey j (yes q) h =
          subst (λ (k : ℕ). get_or (set d.surveys i (survey_of p.plan (component_of p i) (level_at p i).position)) k no_survey ≡ survey_of p.plan (component_of p k) (level_at p k).position) (sym q)
          (get_or-set_same d.surveys i (survey_of p.plan (component_of p i) (level_at p i).position) no_survey (omega (arith, C.full)))
      survey j (no q) h = get_or-set_other d.surveys i j (survey_of p.plan (component_of p i) (level_at p i).position) no_survey q ∙ C.surveys j (omega arith)

  -- an entered level that passes
  pub charts_entered : (heard : List ℕ) (l : Code.Level) → level_at p i ≡ as_level heard l → l.entered ≡ true → Ready p.plan d i
      → (r : Bool) (after : Chart) → r ≡ true → Settles p.plan (entered_fits p.plan d i l) (part_of p.plan d.deepest i l.side) l.position i d r after
      → ChartsTo p (suc i) after
  charts_entered heard l same e y r after f z = go (dec_lt (size_of p.plan (component_of p i)) 3)
    where
      entry : T (entry_fits d.sending (survey_before d i).degree i l.side)
      entry = passes_entry p.plan d i l (true→T (sym z.passes ∙ f))

      -- its component
      S : part_of p.plan d.deepest i l.side ≡ component_of p i
      S = part_same p i d C l.side entry ∙ ap (λ (m : Level). part_at p i m.side) (sym same) ∙ sym (part_at_lem p i)

      in_it : (level_at p i).entered ≡ true
      in_it = ap (λ (m : Level). m.entered) same ∙ e

      next : d.sending ≡ i
      next = next_level p i d C l.side entry

      go : Dec (size_of p.plan (component_of p i) < 3) → ChartsTo p (suc i) after
      go (yes k) =
          let b = z.small (true→T f) (subst (λ (M : Set). size_of p.plan M < 3) (sym S) k) in
          let q : record { sending = d.sending; surveys = d.surveys; deepest = after.deepest } ≡ after =
          λ w. record { sending = sym b.sending w; surveys = sym b.surveys w; deepest = after.deepest } in
          subst (ChartsTo p (suc i)) q (charts_small after.deepest in_it next (not-T→false (sending p i) (λ t. omega (arith, sending_three p i t))))
      go (no k) =
          let b = z.large (true→T f) (subst (λ (M : Set). 3 ≤ size_of p.plan M) (sym S) (omega arith)) in
          charts_large after y.exists next (entered_sending p i (true→T in_it) (omega arith)) (subst (OfPlan p.plan) S (entry_plan p.plan d i l.side y entry))
          (subst₂ (λ (M : Set) (x : ℕ). Sends p.plan M x i d after) S (ap (λ (m : Level). m.position) (sym same)) b)

-- ---- the whole record

-- the levels below i pass, and what is known of them
pub record Passed (p : Party) (i : ℕ) (d : Chart) : Type 0 where
  pub levels : T (every_level i (level_passes p))
  pub chart : ChartsTo p i d
  pub echoed : (j : ℕ) → j < i → length (level_at p j).echoed ≡ value_count

every_at : (k : ℕ) (f : Set) → T (every_level k f) → (i : ℕ) → i < k → T (f i)
unfolding every_level
every_at zero f t i h = absurd (not-suc-le-zero h)
every_at (suc k) f t i h = go (ℕ_discrete i k) (every_at k f (T-left (every_level k f) (f k) t) i)
  where
    go : Dec (i ≡ k) → (i < k → T (f i)) → T (f i)
    go (yes q) r = subst (λ (j : ℕ). T (f j)) (sym q) (T-right (every_level k f) (f k) t)
    go (no q) r = r (omega arith)

module _ (p : Party) where
  -- the settings, the plan or a level do not pass
  pub settings_fail : settings_pass p ≡ false → false ≡ party_valid p
  unfolding party_valid
  settings_fail e = rw e

  pub plan_fails : plan_valid p.plan ≡ false → false ≡ party_valid p
  unfolding party_valid
  plan_fails e = sym (ap (λ (b : Bool). (settings_pass p && b) && every_level level_count (level_passes p)) e ∙ ap (λ (b : Bool). b && every_level level_count (level_passes p)) (and_false (settings_pass p)))

  -- where the record passes, every level does
  pub level_holds : T (party_valid p) → (i : ℕ) → i < level_count → T (level_passes p i)
  unfolding party_valid
  level_holds t i h = every_at level_count (level_passes p) (T-right (settings_pass p && plan_valid p.plan) (every_level level_count (level_passes p)) t) i h

  pub level_fails : (i : ℕ) → i < level_count → level_passes p i ≡ false → false ≡ party_valid p
  level_fails i h f = sym (not-T→false (party_valid p) (λ t. false→not-T f (level_holds t i h)))

  -- s are the sets of all levels
  module _ (s : List ℕ) (of : (i : ℕ) → i < level_count → (level_at p i).sets ≡ sets_at s i) where
    sets_of : T (party_valid p) → (i : ℕ) → i < level_count → T (sets_pass p.n (sets_at s i))
    unfolding level_passes
    sets_of t i h =
        let a : Bool = sets_pass p.n (level_at p i).sets in
        let b : Bool = output_passes p (level_at p i) in
        subst (λ (m : List ℕ). T (sets_pass p.n m)) (of i h) (T-left a b (T-left (a && b) (place_passes p i && results_pass p i) (level_holds t i h)))

    pub sets_fail : length s ≡ slot_count * level_count → sets_pass p.n s ≡ false → false ≡ party_valid p
    sets_fail n f = sym (not-T→false (party_valid p) (λ t. false→not-T f (pass_all p.n slot_count level_count s n (sets_of t))))

  -- ---- the levels one by one

  pub passed_start : (d : Chart) → length d.surveys ≡ level_count → d.sending ≡ 0 → Passed p 0 d
  unfolding every_level
  passed_start d n e = record {
    levels = tt;
    chart = charts_start p d n e;
    echoed = λ j h. absurd (not-suc-le-zero h);
  }

  -- a level passes
  pub passed_next : (i : ℕ) (d : Chart) → Passed p i d → T (level_passes p i) → length (level_at p i).echoed ≡ value_count
      → (after : Chart) → ChartsTo p (suc i) after → Passed p (i + 1) after
  unfolding every_level
  passed_next i d P t q after C =
      subst (λ (k : ℕ). Passed p k after) (sym (add-one i))
      (record {
        levels = T_and (every_level i (level_passes p)) (level_passes p i) P.levels t;
        chart = C;
        echoed = λ j h. at j (ℕ_discrete j i) h;
      })
    where
      at : (j : ℕ) → Dec (j ≡ i) → j < suc i → length (level_at p j).echoed ≡ value_count
      at j (yes w) h = ap (λ (k : ℕ). length (level_at p k).echoed) w ∙ q
      at j (no d) h = P.echoed j (omega arith)

  -- ---- all levels pass

  module _ (d : Chart) (P : Passed p level_count d) where
    pub all_pass : T (settings_pass p) → T (plan_valid p.plan) → T (party_valid p)
    unfolding party_valid
    all_pass s v =
        T_and (settings_pass p && plan_valid p.plan) (every_level level_count (level_passes p)) (T_and (settings_pass p) (plan_valid p.plan) s v) P.levels

    module _ (full : length p.levels ≡ level_count) where
      pub all_filled : Filled p
      all_filled = record { levels = full; echoed = P.echoed }

      pub all_charted : T (party_valid p) → Charts p d
      all_charted v = record {
        sends = P.chart.sends;
        last = go (dec_lt d.sending level_count);
        surveys = P.chart.surveys;
        deepest = λ j q e. P.chart.deepest j q (λ _. e);
        numbered = λ j q e. P.chart.numbers j q (λ _. e);
      }
        where
          go : Dec (d.sending < level_count) → d.sending < level_count
          go (yes h) = h
          go (no h) =
              let j : ℕ = level_count - 1 in
              let s : T (sending p j) = true→T (P.chart.sends j (omega arith) ∙ lt-ltb j d.sending (omega arith)) in
              absurd (omega (arith, components.sending_level p (valid→ p v) full j s))
