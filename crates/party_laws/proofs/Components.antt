-- The components of a valid party's levels.
use mathlib.Core.Path.{◌≡◌, sym, subst}
use mathlib.Core.Logic.{inl, inr}
use Prim.Native.Nat.{ℕ, zero, suc, ◌-◌, ◌≤◌, ◌<◌}
use native.Mathlib.Decide.{ℕ_discrete, dec_lt}
use native.Mathlib.Omega.{arith}
use lib.Dec.{T, leb, leb→le, le→leb}
use lib.ListN.{length, get_or-eq_default}
use Rattle.base.specs.Limits.{max_degree, level_count}
use Rattle.base.proofs.Bools.{T_and, T-left, T-right, T-dec}
use Rattle.component.specs.Component.{size_of, degree_of, port_of}
use Rattle.component.specs.Inner.{OfPlan}
use Rattle.component_laws.proofs.Laws.{degree_most, degree_some, port_most, Nested, whole, side, nested_plan, nested_level}
use Rattle.level.specs.Level.{Level, no_level, not_yet}
use Rattle.level.specs.Inner.{InLimits}
use Rattle.party.specs.Party.{Party, level_at, component_of, sending, context_of}
use Rattle.party_laws.proofs.Valid.{Valid, Value, Entry}

-- ---- what it is to send

module _ (p : Party) (i : ℕ) where
  pub sending_entered : T (sending p i) → T (level_at p i).entered
  unfolding sending
  sending_entered h = T-left (level_at p i).entered (leb 3 (size_of p.plan (component_of p i))) h

  pub sending_three : T (sending p i) → 3 ≤ size_of p.plan (component_of p i)
  unfolding sending
  sending_three h = leb→le 3 (size_of p.plan (component_of p i)) (T-right (level_at p i).entered (leb 3 (size_of p.plan (component_of p i))) h)

  pub entered_sending : T (level_at p i).entered → 3 ≤ size_of p.plan (component_of p i) → T (sending p i)
  unfolding sending
  entered_sending h k = T_and (level_at p i).entered (leb 3 (size_of p.plan (component_of p i))) h (le→leb 3 (size_of p.plan (component_of p i)) k)

  -- there is no entered level past the last
  pub entered_below : T (level_at p i).entered → i < length p.levels
  unfolding level_at
  entered_below h = go (dec_lt i (length p.levels))
    where
      go : Dec (i < length p.levels) → i < length p.levels
      go (yes k) = k
      go (no k) = absurd (subst (λ (l : Level). T l.entered) (get_or-eq_default p.levels no_level {n = i} (omega arith)) h)

-- ---- the levels' components

module _ (p : Party) (v : Valid p) (full : length p.levels ≡ level_count) where
  pub entered_level : (i : ℕ) → T (level_at p i).entered → i < level_count
  entered_level i h = omega (arith, entered_below p i h)

  -- an entered level's entry, and its position
  pub entered_entry : (i : ℕ) → T (level_at p i).entered → Entry p i
  entered_entry i h = (v.place i (entered_level i h) h).0

  pub entered_place : (i : ℕ) → T (level_at p i).entered → T (component_of p i (level_at p i).position)
  entered_place i h = (v.place i (entered_level i h) h).1

  -- the level before an entered one sends
  pub entered_before : (i : ℕ) → T (level_at p (suc i)).entered → T (sending p i)
  entered_before i h = (entered_entry (suc i) h).0

  -- levels that send are a prefix
  pub sending_before : (i : ℕ) → T (sending p (suc i)) → T (sending p i)
  sending_before i h = entered_before i (sending_entered p (suc i) h)

  -- and so are those that are entered
  pub entered_down : (i j : ℕ) → i ≤ j → T (level_at p j).entered → T (level_at p i).entered
  entered_down i zero l h = subst (λ (k : ℕ). T (level_at p k).entered) (omega arith) h
  entered_down i (suc j) l h = go (ℕ_discrete i (suc j)) (entered_down i j)
    where
      go : Dec (i ≡ suc j) → (i ≤ j → T (level_at p j).entered → T (level_at p i).entered) → T (level_at p i).entered
      go (yes e) ih = subst (λ (k : ℕ). T (level_at p k).entered) (sym e) h
      go (no d) ih = ih (omega arith) (sending_entered p j (entered_before j h))

  -- an entered level's component is nested in those before it
  pub entered_nested : (i : ℕ) → T (level_at p i).entered → Nested p.plan i (component_of p i)
  unfolding component_of
  entered_nested zero h = whole
  entered_nested (suc i) h =
      let e = entered_entry (suc i) h in
      side (entered_nested i (sending_entered p i e.0)) (sending_three p i e.0) (level_at p (suc i)).side e.1 e.2

  pub entered_plan : (i : ℕ) → T (level_at p i).entered → OfPlan p.plan (component_of p i)
  entered_plan i h = nested_plan p.plan v.plan (entered_nested i h)

  -- no level past the last but one sends
  pub sending_level : (i : ℕ) → T (sending p i) → suc i < level_count
  sending_level i h = nested_level p.plan v.plan (entered_nested i (sending_entered p i h)) (sending_three p i h)

  -- ---- the degree and the port

  pub level_degree : (i : ℕ) → degree_of p.plan (component_of p i) ≤ max_degree
  level_degree i = degree_most p.plan v.plan (component_of p i)

  pub sending_degree : (i : ℕ) → T (sending p i) → 1 ≤ degree_of p.plan (component_of p i)
  sending_degree i h = degree_some p.plan (component_of p i) (entered_plan i (sending_entered p i h)) (omega (arith, sending_three p i h))

  pub entered_port : (i : ℕ) → T (level_at p i).entered
      → port_of p.plan (component_of p i) (level_at p i).position ≤ degree_of p.plan (component_of p i)
  entered_port i h = port_most p.plan (component_of p i) (entered_plan i h) (level_at p i).position (entered_place i h)

  -- ---- values

  pub level_value : (i v : ℕ) → Value (degree_of p.plan (component_of p i)) v → v ≤ not_yet
  level_value i v (inl h) = omega (arith, level_degree i)
  level_value i v (inr (inl e)) = omega arith
  level_value i v (inr (inr e)) = omega arith

  -- the first result and the result of every level
  pub level_results : (i : ℕ) → i < level_count
      → Value (degree_of p.plan (component_of p i)) (level_at p i).first × Value (degree_of p.plan (component_of p i)) (level_at p i).result
  level_results i l = go (T-dec (sending p i))
    where
      go : Dec (T (sending p i))
          → Value (degree_of p.plan (component_of p i)) (level_at p i).first × Value (degree_of p.plan (component_of p i)) (level_at p i).result
      go (yes h) = (v.holds i l).results h
      go (no h) = let e = (v.holds i l).blank h in (inr (inr e.0), inr (inr e.1))

  -- what the rules ask of a level's record and context
  pub level_limits : (i : ℕ) → i < level_count → InLimits (context_of p i) (level_at p i)
  unfolding context_of
  level_limits i l = record {
    degree = level_degree i;
    faults = omega (arith, v.settings.faults);
    boards = v.settings.most;
    first = level_value i (level_at p i).first (level_results i l).0;
  }
