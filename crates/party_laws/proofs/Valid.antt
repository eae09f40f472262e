-- Question 19 taken apart: the settings, the plan, and for each level what its record holds and where it lies.
use mathlib.Core.Path.{◌≡◌, sym, subst}
use mathlib.Core.Logic.{◌⊎◌, inl, inr}
use mathlib.Core.Bool.{Bool, true, false, not, ◌&&◌, ◌||◌}
use mathlib.Core.List.{List, [], ◌∷◌}
use Prim.Native.Nat.{ℕ, zero, suc, ◌^◌, ◌≤◌, ◌<◌}
use native.Mathlib.Decide.{ℕ_discrete}
use native.Mathlib.Nat.{le_refl, not-suc-le-zero}
use native.Mathlib.Omega.{arith}
use lib.Dec.{T, leb, ltb, eqb, leb→le, le→leb, ltb→lt, lt→ltb, eqb→eq, eqb_refl, T_not}
use lib.Pow.{pow_pos}
use lib.ListN.{get_or}
use Rattle.base.specs.Pick.{pick}
use Rattle.base.specs.Sets.{Set}
use Rattle.base.specs.Limits.{level_count}
use Rattle.base.proofs.Bools.{T_and, T-left, T-right, or_split, or_left, or_right}
use Rattle.settings.proofs.Laws.{Passed, fit→, →fit}
use Rattle.plan.specs.Valid.{plan_valid}
use Rattle.component.specs.Component.{degree_of}
use Rattle.message.specs.Message.{none_value}
use Rattle.level.specs.Level.{Level, not_yet, no_output}
use Rattle.party.specs.Party.{Party, level_at, component_of, sending}
use Rattle.party.specs.Valid.{every_level, settings_pass, sets_pass, output_passes, value_passes, results_pass, entry_passes, place_passes, level_passes, party_valid}

-- ---- the parts

-- what stands in a place for a result: a value of at most d, none, or nothing yet
abbrev pub Value : ℕ → ℕ → Type 0
Value d v = (v ≤ d) ⊎ ((v ≡ none_value) ⊎ (v ≡ not_yet))

-- an output: none yet, or a position of a plan of so many
abbrev pub Output : ℕ → ℕ → Type 0
Output count x = (x ≡ no_output) ⊎ (x < count)

-- what a level's record holds, among n boards, on a plan of `count` positions; where the level sends, its degree is d
pub record Contents (n count d : ℕ) (sends : Bool) (l : Level) : Type 0 where
  pub sets : (j : ℕ) → get_or l.sets j 0 < 2 ^ n
  pub output : Output count l.output
  pub results : T sends → Value d l.first × Value d l.result
  pub blank : (T sends → ⊥) → (l.first ≡ not_yet) × (l.result ≡ not_yet)

-- how level i was entered: level 0 by no side, each next by a side of the level before, which sends
abbrev pub Entry : Party → ℕ → Type 0
Entry p zero = (level_at p 0).side ≡ 0
Entry p (suc i) = T (sending p i) × (1 ≤ (level_at p (suc i)).side) × ((level_at p (suc i)).side ≤ degree_of p.plan (component_of p i))

-- where an entered level lies
abbrev pub Place : Party → ℕ → Type 0
Place p i = T (level_at p i).entered → Entry p i × T (component_of p i (level_at p i).position)

-- what level i's record holds
abbrev pub Holds : Party → ℕ → Type 0
Holds p i = Contents p.n p.plan.count (degree_of p.plan (component_of p i)) (sending p i) (level_at p i)

-- "n 1 to 16", "3t below n", "own number below n"
abbrev pub Settings : Party → Type 0
Settings p = Passed p.n p.t p.own

-- question 19
pub record Valid (p : Party) : Type 0 where
  pub settings : Settings p
  pub plan : T (plan_valid p.plan)
  pub holds : (i : ℕ) → i < level_count → Holds p i
  pub place : (i : ℕ) → i < level_count → Place p i

-- ---- each part by its test

every→ : (k : ℕ) (f : Set) → T (every_level k f) → (i : ℕ) → i < k → T (f i)
unfolding every_level
every→ zero f h i l = absurd (not-suc-le-zero l)
every→ (suc k) f h i l = go (ℕ_discrete i k) (every→ k f (T-left (every_level k f) (f k) h) i)
  where
    go : Dec (i ≡ k) → (i < k → T (f i)) → T (f i)
    go (yes e) ih = subst (λ (j : ℕ). T (f j)) (sym e) (T-right (every_level k f) (f k) h)
    go (no d) ih = ih (omega arith)

→every : (k : ℕ) (f : Set) → ((i : ℕ) → i < k → T (f i)) → T (every_level k f)
unfolding every_level
→every zero f h = tt
→every (suc k) f h = T_and (every_level k f) (f k) (→every k f (λ i l. h i (omega arith))) (h k (le_refl (suc k)))

sets→ : (n : ℕ) (ms : List ℕ) → T (sets_pass n ms) → (j : ℕ) → get_or ms j 0 < 2 ^ n
unfolding sets_pass
sets→ n [] h j = pow_pos n
sets→ n (m ∷ ms) h zero = ltb→lt m (2 ^ n) (T-left (ltb m (2 ^ n)) (sets_pass n ms) h)
sets→ n (m ∷ ms) h (suc j) = sets→ n ms (T-right (ltb m (2 ^ n)) (sets_pass n ms) h) j

→sets : (n : ℕ) (ms : List ℕ) → ((j : ℕ) → get_or ms j 0 < 2 ^ n) → T (sets_pass n ms)
unfolding sets_pass
→sets n [] h = tt
→sets n (m ∷ ms) h = T_and (ltb m (2 ^ n)) (sets_pass n ms) (lt→ltb m (2 ^ n) (h 0)) (→sets n ms (λ j. h (suc j)))

equal : (a b : ℕ) → a ≡ b → T (eqb a b)
equal a b e = subst (λ (x : ℕ). T (eqb a x)) e (eqb_refl a)

output→ : (count x : ℕ) → T (eqb x no_output || ltb x count) → Output count x
output→ count x h = go (or_split (eqb x no_output) (ltb x count) h)
  where
    go : T (eqb x no_output) ⊎ T (ltb x count) → Output count x
    go (inl e) = inl (eqb→eq x no_output e)
    go (inr e) = inr (ltb→lt x count e)

→output : (count x : ℕ) → Output count x → T (eqb x no_output || ltb x count)
→output count x (inl e) = or_left (eqb x no_output) (ltb x count) (equal x no_output e)
→output count x (inr e) = or_right (eqb x no_output) (ltb x count) (lt→ltb x count e)

value→ : (d v : ℕ) → T (value_passes d v) → Value d v
value→ d v h = go (or_split (leb v d) (eqb v none_value || eqb v not_yet) h)
  where
    rest : T (eqb v none_value) ⊎ T (eqb v not_yet) → Value d v
    rest (inl e) = inr (inl (eqb→eq v none_value e))
    rest (inr e) = inr (inr (eqb→eq v not_yet e))

    go : T (leb v d) ⊎ T (eqb v none_value || eqb v not_yet) → Value d v
    go (inl e) = inl (leb→le v d e)
    go (inr e) = rest (or_split (eqb v none_value) (eqb v not_yet) e)

→value : (d v : ℕ) → Value d v → T (value_passes d v)
→value d v (inl e) = or_left (leb v d) (eqb v none_value || eqb v not_yet) (le→leb v d e)
→value d v (inr (inl e)) =
    or_right (leb v d) (eqb v none_value || eqb v not_yet) (or_left (eqb v none_value) (eqb v not_yet) (equal v none_value e))
→value d v (inr (inr e)) =
    or_right (leb v d) (eqb v none_value || eqb v not_yet) (or_right (eqb v none_value) (eqb v not_yet) (equal v not_yet e))

module _ (d v w : ℕ) where
  results→ : (s : Bool) → T (pick s (value_passes d v && value_passes d w) (eqb v not_yet && eqb w not_yet)) → T s → Value d v × Value d w
  results→ true h t = (value→ d v (T-left (value_passes d v) (value_passes d w) h), value→ d w (T-right (value_passes d v) (value_passes d w) h))
  results→ false h t = absurd t

  blank→ : (s : Bool) → T (pick s (value_passes d v && value_passes d w) (eqb v not_yet && eqb w not_yet)) → (T s → ⊥) → (v ≡ not_yet) × (w ≡ not_yet)
  blank→ true h t = absurd (t tt)
  blank→ false h t = (eqb→eq v not_yet (T-left (eqb v not_yet) (eqb w not_yet) h), eqb→eq w not_yet (T-right (eqb v not_yet) (eqb w not_yet) h))

  →results : (s : Bool) → (T s → Value d v × Value d w) → ((T s → ⊥) → (v ≡ not_yet) × (w ≡ not_yet))
      → T (pick s (value_passes d v && value_passes d w) (eqb v not_yet && eqb w not_yet))
  →results true f g = T_and (value_passes d v) (value_passes d w) (→value d v (f tt).0) (→value d w (f tt).1)
  →results false f g =
      let e = g (λ x. x) in
      T_and (eqb v not_yet) (eqb w not_yet) (equal v not_yet e.0) (equal w not_yet e.1)

entry→ : (p : Party) (i : ℕ) → T (entry_passes p i) → Entry p i
entry→ p zero h = eqb→eq (level_at p 0).side 0 h
entry→ p (suc i) h =
    let k : ℕ = (level_at p (suc i)).side in
    let d : ℕ = degree_of p.plan (component_of p i) in
    let r = T-right (sending p i) (leb 1 k && leb k d) h in
    (T-left (sending p i) (leb 1 k && leb k d) h, leb→le 1 k (T-left (leb 1 k) (leb k d) r), leb→le k d (T-right (leb 1 k) (leb k d) r))

→entry : (p : Party) (i : ℕ) → Entry p i → T (entry_passes p i)
→entry p zero h = equal (level_at p 0).side 0 h
→entry p (suc i) h =
    let k : ℕ = (level_at p (suc i)).side in
    let d : ℕ = degree_of p.plan (component_of p i) in
    T_and (sending p i) (leb 1 k && leb k d) h.0 (T_and (leb 1 k) (leb k d) (le→leb 1 k h.1) (le→leb k d h.2))

place→ : (p : Party) (i : ℕ) → T (place_passes p i) → Place p i
place→ p i h t = go (or_split (not (level_at p i).entered) _ h)
  where
    c : Bool
    c = component_of p i (level_at p i).position

    go : T (not (level_at p i).entered) ⊎ T (entry_passes p i && c) → Entry p i × T c
    go (inl e) = absurd (T_not (level_at p i).entered e t)
    go (inr e) = (entry→ p i (T-left (entry_passes p i) c e), T-right (entry_passes p i) c e)

→place : (p : Party) (i : ℕ) → Place p i → T (place_passes p i)
→place p i h = go (level_at p i).entered h
  where
    c : Bool
    c = component_of p i (level_at p i).position

    go : (b : Bool) → (T b → Entry p i × T c) → T (not b || (entry_passes p i && c))
    go true f = T_and (entry_passes p i) c (→entry p i (f tt).0) (f tt).1
    go false f = tt

-- ---- a level, and the whole

module _ (p : Party) (i : ℕ) where
  abbrev sets : Bool
  sets = sets_pass p.n (level_at p i).sets

  abbrev out : Bool
  out = output_passes p (level_at p i)

  holds→ : T (level_passes p i) → Holds p i
  unfolding level_passes
  holds→ h =
      let a = T-left (sets && out) (place_passes p i && results_pass p i) h in
      let b = T-right (place_passes p i) (results_pass p i) (T-right (sets && out) (place_passes p i && results_pass p i) h) in
      let d : ℕ = degree_of p.plan (component_of p i) in
      record {
        sets = sets→ p.n (level_at p i).sets (T-left sets out a);
        output = output→ p.plan.count (level_at p i).output (T-right sets out a);
        results = results→ d (level_at p i).first (level_at p i).result (sending p i) b;
        blank = blank→ d (level_at p i).first (level_at p i).result (sending p i) b;
      }

  lies→ : T (level_passes p i) → Place p i
  unfolding level_passes
  lies→ h = place→ p i (T-left (place_passes p i) (results_pass p i) (T-right (sets && out) (place_passes p i && results_pass p i) h))

  →level : Holds p i → Place p i → T (level_passes p i)
  unfolding level_passes
  →level h g =
      T_and (sets && out) (place_passes p i && results_pass p i)
      (T_and sets out (→sets p.n (level_at p i).sets h.sets) (→output p.plan.count (level_at p i).output h.output))
      (T_and (place_passes p i) (results_pass p i) (→place p i g)
      (→results (degree_of p.plan (component_of p i)) (level_at p i).first (level_at p i).result (sending p i) h.results h.blank))

module _ (p : Party) where
  pub settings→ : T (settings_pass p) → Settings p
  settings→ = fit→ p.n p.t p.own

  pub →settings : Settings p → T (settings_pass p)
  →settings = →fit p.n p.t p.own

  pub valid→ : T (party_valid p) → Valid p
  unfolding party_valid
  valid→ h =
      let head : Bool = settings_pass p && plan_valid p.plan in
      let all : Bool = every_level level_count (level_passes p) in
      let a = T-left head all h in
      let b = every→ level_count (level_passes p) (T-right head all h) in
      record {
        settings = settings→ (T-left (settings_pass p) (plan_valid p.plan) a);
        plan = T-right (settings_pass p) (plan_valid p.plan) a;
        holds = λ i l. holds→ p i (b i l);
        place = λ i l. lies→ p i (b i l);
      }

  pub →valid : Valid p → T (party_valid p)
  unfolding party_valid
  →valid v =
      T_and (settings_pass p && plan_valid p.plan) (every_level level_count (level_passes p))
      (T_and (settings_pass p) (plan_valid p.plan) (→settings v.settings) v.plan)
      (→every level_count (level_passes p) (λ i l. →level p i (v.holds i l) (v.place i l)))
