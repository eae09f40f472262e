-- Question 19 is kept where a level's record changes and where a level is entered.
use mathlib.Core.Path.{◌≡◌, sym, ap, ◌∙◌, subst, transport⁻¹}
use mathlib.Core.Logic.{inr}
use mathlib.Core.Bool.{Bool, true, false, ◌&&◌}
use Prim.Native.Nat.{ℕ, zero, suc, ◌^◌, ◌≤◌, ◌<◌}
use native.Mathlib.Decide.{ℕ_discrete, dec_lt}
use native.Mathlib.Omega.{arith}
use lib.Dec.{T, leb}
use lib.ListN.{length, get_or}
use Rattle.base.specs.Pick.{pick}
use Rattle.base.specs.Sets.{Set}
use Rattle.base.specs.Limits.{level_count}
use Rattle.plan.specs.Valid.{plan_valid}
use Rattle.component.specs.Component.{size_of, degree_of}
use Rattle.level.specs.Level.{Level, not_yet, with_entry}
use Rattle.party.specs.Party.{Party, level_at, with_level, component_of, sending, entering}
use Rattle.party_laws.specs.Inner.{SameBoard}
use Rattle.party_laws.proofs.Levels.{level_all, level_field, board_with, component_side, entry_level, entry_other, entry_above, board_entering}
use Rattle.party_laws.proofs.Valid.{Output, Contents, Entry, Place, Holds, Settings, Valid}
use Rattle.party_laws.proofs.Components.{sending_entered, entered_down}

-- ---- what a level's validity rests on

-- level i sends in q as in p
pub sending_same : (p q : Party) (i : ℕ) → q.plan ≡ p.plan → component_of q i ≡ component_of p i → (level_at q i).entered ≡ (level_at p i).entered
    → sending q i ≡ sending p i
unfolding sending
sending_same p q i e c f = λ k. f k && leb 3 (size_of (e k) (c k))

-- the two parties agree on level i's component, and on whether it sends
record Agree (p q : Party) (i : ℕ) : Type 0 where
  component : component_of q i ≡ component_of p i
  sends : sending q i ≡ sending p i

module _ (p q : Party) (b : SameBoard p q) where
  settings_same : Settings p → Settings q
  settings_same s = record {
    some = omega (arith, b.n, s.some);
    most = omega (arith, b.n, s.most);
    faults = omega (arith, b.n, b.t, s.faults);
    own = omega (arith, b.n, b.own, s.own);
  }

  plan_same : T (plan_valid p.plan) → T (plan_valid q.plan)
  plan_same h = subst (λ x. T (plan_valid x)) (sym b.plan) h

  entry_same : (i : ℕ) → ((j : ℕ) → j < i → Agree p q j) → (level_at q i).side ≡ (level_at p i).side → Entry p i → Entry q i
  entry_same zero f e h = e ∙ h
  entry_same (suc i) f e h =
      let a : Agree p q i = f i (omega arith) in
      (subst T (sym a.sends) h.0, subst (λ k. 1 ≤ k) (sym e) h.1, transport⁻¹ (λ k. e k ≤ degree_of (b.plan k) (a.component k)) h.2)

  place_same : (i : ℕ) → ((j : ℕ) → j < i → Agree p q j) → component_of q i ≡ component_of p i → (level_at q i).entered ≡ (level_at p i).entered
      → (level_at q i).side ≡ (level_at p i).side → (level_at q i).position ≡ (level_at p i).position → Place p i → Place q i
  place_same i f c e s x h t =
      let r = h (subst T e t) in
      (entry_same i f s r.0, transport⁻¹ (λ k. T (c k (x k))) r.1)

  holds_same : (i : ℕ) → Agree p q i → Contents p.n p.plan.count (degree_of p.plan (component_of p i)) (sending p i) (level_at q i) → Holds q i
  holds_same i a h = transport⁻¹ (λ k. Contents (b.n k) (b.plan k).count (degree_of (b.plan k) (a.component k)) (a.sends k) (level_at q i)) h

-- ---- a record changes

-- m was entered as l was, if it was
pub record SameEntry (l m : Level) : Type 0 where
  pub entered : m.entered ≡ l.entered
  pub side : m.side ≡ l.side
  pub position : m.position ≡ l.position

pub update_valid : (p : Party) → Valid p → (i : ℕ) (l : Level) → i < length p.levels → SameEntry (level_at p i) l
    → Contents p.n p.plan.count (degree_of p.plan (component_of p i)) (sending p i) l → Valid (with_level p i l)
update_valid p v i l h s c = record {
  settings = settings_same p q b v.settings;
  plan = plan_same p q b v.plan;
  holds = λ j k.
      holds_same p q b j (agree j)
      (level_all p i l h (λ m r. m < level_count → Contents p.n p.plan.count (degree_of p.plan (component_of p m)) (sending p m) r)
      (λ _. c) (λ m d. v.holds m) j k);
  place = λ j k. place_same p q b j (λ m _. agree m) (agree j).component (entered j) (side j) (position j) (v.place j k);
}
  where
    q : Party
    q = with_level p i l

    b : SameBoard p (with_level p i l)
    b = board_with p i l

    entered : (j : ℕ) → (level_at (with_level p i l) j).entered ≡ (level_at p j).entered
    entered = level_field p i l (λ m. m.entered) s.entered

    side : (j : ℕ) → (level_at (with_level p i l) j).side ≡ (level_at p j).side
    side = level_field p i l (λ m. m.side) s.side

    position : (j : ℕ) → (level_at (with_level p i l) j).position ≡ (level_at p j).position
    position = level_field p i l (λ m. m.position) s.position

    agree : (j : ℕ) → Agree p (with_level p i l) j
    agree j =
        let e = component_side p i l s.side j in
        record { component = e; sends = sending_same p (with_level p i l) j b.plan e (entered j) }

-- ---- a level is entered

-- where a level did not send, nothing stands in its places for results, whatever is entered
unsent : (n count d d' : ℕ) (s s' : Bool) (l m : Level) → Contents n count d s l → (T s → ⊥) → m.sets ≡ l.sets → m.first ≡ l.first → m.result ≡ l.result
    → Output count m.output → Contents n count d' s' m
unsent n count d d' s s' l m c h e f r o =
    let g : m.first ≡ not_yet = f ∙ (c.blank h).0 in
    let k : m.result ≡ not_yet = r ∙ (c.blank h).1 in
    record { sets = λ j. subst (λ x. get_or x j 0 < 2 ^ n) (sym e) (c.sets j); output = o; results = λ _. (inr (inr g), inr (inr k)); blank = λ _. (g, k) }

module _ (p : Party) (v : Valid p) (full : length p.levels ≡ level_count) (i : ℕ) (S : Set) (k x : ℕ) (below : i < level_count)
    (new : T (level_at p i).entered → ⊥) where
  abbrev q : Party
  q = entering p i S k x

  -- the levels above stay as they are
  above : (j : ℕ) → j < i → Agree p q j
  above j h =
      let c = entry_above p i S k x j h in
      record {
        component = c;
        sends = sending_same p q j (board_entering p i S k x).plan c (ap (λ (l : Level). l.entered) (entry_other p i S k x j (λ e. omega arith)));
      }

  pub enter_valid : component_of (entering p i S k x) i ≡ S → Entry (entering p i S k x) i → x < p.plan.count → T (S x) → Valid (entering p i S k x)
  enter_valid c y h t = record {
    settings = settings_same p q b v.settings;
    plan = plan_same p q b v.plan;
    holds = λ j l. holds j l (ℕ_discrete j i) (dec_lt j i);
    place = λ j l. place j l (ℕ_discrete j i) (dec_lt j i);
  }
    where
      b : SameBoard p q
      b = board_entering p i S k x

      new_level : level_at q i ≡ with_entry (level_at p i) k x (pick (leb 3 (size_of p.plan S)) (level_at p i).output x)
      new_level = entry_level p i S k x (omega arith)

      -- a level that is not entered does not send
      silent : (j : ℕ) → (T (level_at p j).entered → ⊥) → T (sending p j) → ⊥
      silent j d s = d (sending_entered p j s)

      later : (j : ℕ) → i < j → T (level_at p j).entered → ⊥
      later j l s = new (entered_down p v full i j (omega arith) s)

      output : (r : Bool) → Output p.plan.count (pick r (level_at p i).output x)
      output true = (v.holds i below).output
      output false = inr h

      -- a level j that did not send, with the sets and results that it had
      quiet : (j : ℕ) → j < level_count → (T (level_at p j).entered → ⊥) → (level_at q j).sets ≡ (level_at p j).sets → (level_at q j).first ≡ (level_at p j).first
          → (level_at q j).result ≡ (level_at p j).result → Output p.plan.count (level_at q j).output → Holds q j
      quiet j l d s f r o =
          transport⁻¹ (λ z. Contents (b.n z) (b.plan z).count (degree_of q.plan (component_of q j)) (sending q j) (level_at q j))
          (unsent p.n p.plan.count (degree_of p.plan (component_of p j)) (degree_of q.plan (component_of q j)) (sending p j) (sending q j)
          (level_at p j) (level_at q j) (v.holds j l) (silent j d) s f r o)

      new_holds : Holds q i
      new_holds =
          quiet i below new (ap (λ (l : Level). l.sets) new_level) (ap (λ (l : Level). l.first) new_level) (ap (λ (l : Level). l.result) new_level)
          (subst (λ (l : Level). Output p.plan.count l.output) (sym new_level) (output (leb 3 (size_of p.plan S))))

      holds : (j : ℕ) → j < level_count → Dec (j ≡ i) → Dec (j < i) → Holds q j
      holds j l (yes e) d = subst (Holds q) (sym e) new_holds
      holds j l (no e) (yes d) =
          holds_same p q b j (above j d)
          (subst (Contents p.n p.plan.count (degree_of p.plan (component_of p j)) (sending p j)) (sym (entry_other p i S k x j e)) (v.holds j l))
      holds j l (no e) (no d) =
          let o = entry_other p i S k x j e in
          quiet j l (later j (omega arith)) (ap (λ (m : Level). m.sets) o) (ap (λ (m : Level). m.first) o) (ap (λ (m : Level). m.result) o)
          (subst (λ (m : Level). Output p.plan.count m.output) (sym o) (v.holds j l).output)

      place : (j : ℕ) → j < level_count → Dec (j ≡ i) → Dec (j < i) → Place q j
      place j l (yes e) d =
          subst (Place q) (sym e) (λ _. (y, transport⁻¹ (λ z. T (c z (new_level z).position)) t))
      place j l (no e) (yes d) =
          let o = entry_other p i S k x j e in
          place_same p q b j (λ m a. above m (omega arith)) (above j d).component (ap (λ (m : Level). m.entered) o) (ap (λ (m : Level). m.side) o)
          (ap (λ (m : Level). m.position) o) (v.place j l)
      place j l (no e) (no d) = λ h. absurd (later j (omega arith) (subst (λ (m : Level). T m.entered) (entry_other p i S k x j e) h))
