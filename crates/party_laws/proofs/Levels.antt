-- A party with one level replaced: its other levels, and the components of all.
use mathlib.Core.Path.{◌≡◌, refl, sym, ap, ◌∙◌, subst}
use mathlib.Core.List.{List}
use Prim.Native.Nat.{ℕ, zero, suc, ◌+◌, ◌≤◌, ◌<◌}
use native.Mathlib.Decide.{ℕ_discrete, dec_lt}
use native.Mathlib.Numerals.{add-one}
use native.Mathlib.Omega.{arith}
use lib.Dec.{leb}
use lib.ListN.{length, get_or, length-set}
use lib.Seq.{get_or-set_same, get_or-set_other, set-get_or, set_out}
use Rattle.base.specs.Pick.{pick}
use Rattle.base.specs.Sets.{Set, count}
use Rattle.plan.specs.Plan.{Plan}
use Rattle.component.specs.Component.{whole_of, size_of, side_of}
use Rattle.level.specs.Level.{Level, no_level, with_entry}
use Rattle.party.specs.Party.{Party, level_at, with_level, component_of, entering}
use Rattle.party.specs.Run.{descend}
use Rattle.party_laws.specs.Inner.{SameBoard}

-- ---- one level replaced

pub level_same : (p : Party) (i : ℕ) (l : Level) → i < length p.levels → level_at (with_level p i l) i ≡ l
unfolding level_at with_level
level_same p i l h = get_or-set_same p.levels i l no_level h

pub level_other : (p : Party) (i : ℕ) (l : Level) (j : ℕ) → (j ≡ i → ⊥) → level_at (with_level p i l) j ≡ level_at p j
unfolding level_at with_level
level_other p i l j d = get_or-set_other p.levels i j l no_level d

-- past the last level nothing is replaced
pub level_past : (p : Party) (i : ℕ) (l : Level) → length p.levels ≤ i → (j : ℕ) → level_at (with_level p i l) j ≡ level_at p j
unfolding level_at with_level
level_past p i l h j = ap (λ (s : List Level). get_or s j no_level) (set_out p.levels i l h)

-- what holds of the new level, and of the old ones elsewhere, holds of all
pub level_all : (p : Party) (i : ℕ) (l : Level) → i < length p.levels → (P : ℕ → Level → Type 0) → P i l → ((j : ℕ) → (j ≡ i → ⊥) → P j (level_at p j))
    → (j : ℕ) → P j (level_at (with_level p i l) j)
level_all p i l h P new old j = go (ℕ_discrete j i)
  where
    go : Dec (j ≡ i) → P j (level_at (with_level p i l) j)
    go (yes e) = subst (λ (k : ℕ). P k (level_at (with_level p i l) k)) (sym e) (subst (P i) (sym (level_same p i l h)) new)
    go (no d) = subst (P j) (sym (level_other p i l j d)) (old j d)

-- a field that the new level shares with the old one is as it was everywhere
pub level_field {ℓ} : {A : Type ℓ} (p : Party) (i : ℕ) (l : Level) (f : Level → A) → f l ≡ f (level_at p i) → (j : ℕ) → f (level_at (with_level p i l) j) ≡ f (level_at p j)
level_field p i l f e j = go (ℕ_discrete j i) (dec_lt i (length p.levels))
  where
    go : Dec (j ≡ i) → Dec (i < length p.levels) → f (level_at (with_level p i l) j) ≡ f (level_at p j)
    go (no d) h = ap f (level_other p i l j d)
    go (yes d) (yes h) =
        ap (λ (k : ℕ). f (level_at (with_level p i l) k)) d ∙ ap f (level_same p i l h) ∙ e ∙ ap (λ (k : ℕ). f (level_at p k)) (sym d)
    go (yes d) (no h) = ap f (level_past p i l (omega arith) j)

-- a level put back where it was
pub level_back : (p : Party) (i : ℕ) → with_level p i (level_at p i) ≡ p
unfolding level_at with_level
level_back p i k = record {
  n = p.n;
  t = p.t;
  own = p.own;
  agreement = p.agreement;
  plan = p.plan;
  levels = set-get_or p.levels i no_level k;
}

-- ---- one board in one vote

pub board_refl : (p : Party) → SameBoard p p
board_refl p = record { n = refl; t = refl; own = refl; agreement = refl; plan = refl; levels = refl }

pub board_trans : (p q r : Party) → SameBoard p q → SameBoard q r → SameBoard p r
board_trans p q r a b = record {
  n = b.n ∙ a.n;
  t = b.t ∙ a.t;
  own = b.own ∙ a.own;
  agreement = b.agreement ∙ a.agreement;
  plan = b.plan ∙ a.plan;
  levels = b.levels ∙ a.levels;
}

pub board_with : (p : Party) (i : ℕ) (l : Level) → SameBoard p (with_level p i l)
unfolding with_level
board_with p i l = record { n = refl; t = refl; own = refl; agreement = refl; plan = refl; levels = length-set p.levels i l }

-- ---- components

-- the component of a level rests on the sides of the levels 1 to it
pub component_same : (p q : Party) → q.plan ≡ p.plan → (i : ℕ) → ((j : ℕ) → 1 ≤ j → j ≤ i → (level_at q j).side ≡ (level_at p j).side)
    → component_of q i ≡ component_of p i
unfolding component_of
component_same p q e zero h = ap (λ (x : Plan). whole_of x) e
component_same p q e (suc i) h =
    let c : component_of q i ≡ component_of p i = component_same p q e i (λ j a b. h j a (omega arith)) in
    let s : (level_at q (suc i)).side ≡ (level_at p (suc i)).side = h (suc i) (omega arith) (omega arith) in
    λ k. side_of (e k) (c k) (s k)

-- a level replaced by one with the same side leaves every component as it was
pub component_side : (p : Party) (i : ℕ) (l : Level) → l.side ≡ (level_at p i).side → (j : ℕ) → component_of (with_level p i l) j ≡ component_of p j
component_side p i l e j = component_same p (with_level p i l) (board_with p i l).plan j (λ k _ _. level_field p i l (λ m. m.side) e k)

-- a level replaced leaves the components above it as they were
pub component_above : (p : Party) (i : ℕ) (l : Level) (j : ℕ) → j < i → component_of (with_level p i l) j ≡ component_of p j
component_above p i l j h =
    component_same p (with_level p i l) (board_with p i l).plan j (λ k _ b. ap (λ (m : Level). m.side) (level_other p i l k (λ e. omega arith)))

-- ---- a level entered

-- the record of the level that is entered
pub entry_level : (p : Party) (i : ℕ) (S : Set) (k x : ℕ) → i < length p.levels
    → level_at (entering p i S k x) i ≡ with_entry (level_at p i) k x (pick (leb 3 (size_of p.plan S)) (level_at p i).output x)
unfolding entering
entry_level p i S k x h = level_same p i _ h

pub entry_other : (p : Party) (i : ℕ) (S : Set) (k x j : ℕ) → (j ≡ i → ⊥) → level_at (entering p i S k x) j ≡ level_at p j
unfolding entering
entry_other p i S k x j d = level_other p i _ j d

pub board_entering : (p : Party) (i : ℕ) (S : Set) (k x : ℕ) → SameBoard p (entering p i S k x)
unfolding entering
board_entering p i S k x = board_with p i _

-- the components above it stay
pub entry_above : (p : Party) (i : ℕ) (S : Set) (k x j : ℕ) → j < i → component_of (entering p i S k x) j ≡ component_of p j
unfolding entering
entry_above p i S k x j h = component_above p i _ j h

-- level 0 is over the whole plan as before
pub entry_whole : (p : Party) (i : ℕ) (S : Set) (k x : ℕ) → component_of (entering p i S k x) 0 ≡ whole_of p.plan
unfolding component_of
entry_whole p i S k x = ap (λ (y : Plan). whole_of y) (board_entering p i S k x).plan

-- its own component is the side said
pub entry_component : (p : Party) (i : ℕ) (S : Set) (k x : ℕ) → suc i < length p.levels
    → component_of (entering p (suc i) S k x) (suc i) ≡ side_of p.plan (component_of p i) k
unfolding component_of
entry_component p i S k x h j =
    side_of ((board_entering p (suc i) S k x).plan j) (entry_above p (suc i) S k x i (omega arith) j) (entry_level p (suc i) S k x h j).side

pub descend_component : (p : Party) (i k x : ℕ) → i + 1 < length p.levels → component_of (descend p i k x) (i + 1) ≡ side_of p.plan (component_of p i) k
descend_component p i k x h =
    let S : Set = side_of p.plan (component_of p i) k in
    subst (λ (j : ℕ). j < length p.levels → component_of (entering p j S k x) j ≡ S) (sym (add-one i)) (entry_component p i S k x) h

-- level 0 is over the whole plan
pub whole_component : (p : Party) → component_of p 0 ≡ whole_of p.plan
unfolding component_of
whole_component p = refl

-- and each next over a side
pub next_component : (p : Party) (i : ℕ) → component_of p (suc i) ≡ side_of p.plan (component_of p i) (level_at p (suc i)).side
unfolding component_of
next_component p i = refl
