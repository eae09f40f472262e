-- What one rule makes of each level.
use mathlib.Core.Path.{◌≡◌, refl, sym, ap, ◌∙◌, subst, transport⁻¹}
use mathlib.Core.Logic.{◌⊎◌, inl, inr}
use mathlib.Core.Bool.{Bool, true, false, not, ◌||◌}
use Prim.Native.Nat.{ℕ, suc, ◌+◌, ◌<◌}
use native.Mathlib.Decide.{ℕ_discrete}
use native.Mathlib.Numerals.{add-one}
use native.Mathlib.Omega.{arith}
use lib.Dec.{T, eqb, eqb→eq, eqb_refl, T_not}
use lib.ListN.{length}
use Rattle.base.specs.Pick.{pick}
use Rattle.base.specs.Sets.{Set}
use Rattle.base.proofs.Bools.{T-right}
use Rattle.component.specs.Component.{side_of}
use Rattle.level.specs.Level.{Level}
use Rattle.level.specs.declared.Context.{Context}
use Rattle.level.specs.Rules.{Effect}
use Rattle.level.specs.Rules.{Nothing, Quiet, Send, Enter, SendEnter}
use Rattle.level.specs.Rules.{Applied, applies, lowest_rule}
use Rattle.level_laws.proofs.Grows.{Unmoved, lowest_unmoved}
use Rattle.level_laws.proofs.Messages.{Valued, After, enters, Enters, by_sure, by_unsure, by_sides, Entry, lowest_enters}
use Rattle.level_laws.proofs.Counted.{sided_reached}
use Rattle.party.specs.Party.{Party, level_at, with_level, component_of, sending, context_of}
use Rattle.party.specs.Run.{rule_at, open_at, descend, gate, after_rule, step_at}
use Rattle.party_laws.proofs.Laws.{level_same, level_other, level_field, level_back, entry_level, entry_other, descend_component}
use Rattle.party_laws.proofs.Laws.{Formed, Fresh, sending_entered, sending_level, entered_level, open_sending, formed_step, step_kept, step_grown}
use Rattle.vote_machine.specs.Inner.{Way, stays, moves, leads, follows, EntryBy, Regular, Le}
use Rattle.vote_machine.proofs.Order.{kept_le, le_same}
use Rattle.vote_machine.proofs.Changes as changes
use Rattle.vote_machine.proofs.Changes.{Change, Changed}
use Rattle.vote_machine.proofs.Calls.{next_as, entering_change}

-- at a level that sends the values are below none, and the port is one
pub valued : (p : Party) → Formed p → (i : ℕ) → T (level_at p i).entered → Valued (context_of p i)
unfolding context_of
valued p w i h = let e = entered_level p w i h in record { port = e.port; degree = omega (arith, e.degree) }

-- the rule leaves the record m and has the effect e: it changes its level's record, or leaves it and enters the next level
data Ruled (p : Party) (i : ℕ) : Level → Effect → Party → Type 0 where
  changing : (m : Level) (e : Effect) → enters e ≡ false → Ruled p i m e (with_level p i m)
  entering_next : (k x : ℕ) (e : Effect) → enters e ≡ true → (T (level_at p (i + 1)).entered → ⊥)
      → Way p.plan (component_of p i) p.n p.t (level_at p i) k x → Ruled p i (level_at p i) e (descend p i k x)

module _ (p : Party) (r : Regular p) (i : ℕ) (on : T (sending p i)) where
  abbrev l : Level
  l = level_at p i

  abbrev c : Context
  c = context_of p i

  abbrev W : ℕ → ℕ → Type 0
  W k x = Way p.plan (component_of p i) p.n p.t (level_at p i) k x

  -- ---- the rules that enter the next level

  enter : (k x : ℕ) (e : Effect) → enters e ≡ true → T (not (context_of p i).next_entered) → W k x
      → Ruled p i (level_at p i) e (descend (with_level p i (level_at p i)) i k x)
  unfolding context_of
  enter k x e f new w =
      subst (λ (q : Party). Ruled p i l e (descend q i k x)) (sym (level_back p i)) (entering_next k x e f (T_not (level_at p (i + 1)).entered new) w)

  -- rule 10 at grade 2
  sure_way : (k : ℕ) → (level_at p i).result ≡ k → T (level_at p i).sure → W k (pick (eqb (context_of p i).port k) (level_at p i).position (gate p i k))
  unfolding context_of
  sure_way k e s = go (eqb c.port k) refl
    where
      go : (b : Bool) → eqb c.port k ≡ b → W k (pick b (level_at p i).position (gate p i k))
      go true z = stays e s (eqb→eq c.port k (subst T (sym z) tt)) refl
      go false z = moves e s (λ y. subst T z (subst (λ (v : ℕ). T (eqb c.port v)) y (eqb_refl c.port))) refl

  enters_ruled : (e : Effect) → Enters (context_of p i) (level_at p i) e → Ruled p i (level_at p i) e (after_rule p i (level_at p i) e)
  unfolding after_rule context_of
  enters_ruled e (by_sure k x low high s new) = enter k (pick (eqb c.port k) (level_at p i).position (gate p i k)) (Enter k (eqb c.port k)) refl new (sure_way k x s)
  enters_ruled e (by_unsure k x low high s new) = enter k (gate p i k) (SendEnter k) refl new (leads x s refl)
  enters_ruled e (by_sides k x low high s new) =
      enter k (gate p i k) (Enter k false) refl new
      (follows x ((sided_reached (context_of p i) l (valued p r.formed i (sending_entered p i on)) (r.law i on).heard k low high).0 s) refl)

  -- ---- all rules

  entry_ruled : (m : Level) (e : Effect) → Entry (context_of p i) (level_at p i) m e → Ruled p i m e (after_rule p i m e)
  entry_ruled m e x = subst (λ (z : Level). Ruled p i z e (after_rule p i z e)) (sym x.same) (enters_ruled e x.reason)

  effect_ruled : (m : Level) (e : Effect) → T (applies e) → (T (enters e) → Entry (context_of p i) (level_at p i) m e) → Ruled p i m e (after_rule p i m e)
  unfolding after_rule
  effect_ruled m Nothing a f = absurd a
  effect_ruled m Quiet a f = changing m Quiet refl
  effect_ruled m (Send b) a f = changing m (Send b) refl
  effect_ruled m (Enter k keep) a f = entry_ruled m (Enter k keep) (f tt)
  effect_ruled m (SendEnter k) a f = entry_ruled m (SendEnter k) (f tt)

-- ---- each level after it

or_none_lem : (a b : Bool) → b ≡ false → a ≡ a || b
or_none_lem true b e = refl
or_none_lem false b e = sym e

or_some : (a b : Bool) → b ≡ true → true ≡ a || b
or_some true b e = refl
or_some false b e = sym e

module _ (p : Party) (r : Regular p) (i : ℕ) (on : T (sending p i)) (q : Party) (o : Le p q) where
  -- what the rules at the level see after a rule with the effect e, which is the lowest one's
  after : (e : Effect) → e ≡ (lowest_rule (context_of p i) (level_at p i)).effect → (level_at q (i + 1)).entered ≡ (level_at p (i + 1)).entered || enters e
      → After (context_of p i) (lowest_rule (context_of p i) (level_at p i)).effect (context_of q i)
  unfolding context_of
  after e f g = record {
    same = le_same p q o i (sending_entered p i on);
    entered = subst (λ (z : Effect). (level_at q (i + 1)).entered ≡ (level_at p (i + 1)).entered || enters z) f g;
  }

  -- the record of the level itself
  ruled_here : (m : Level) (e : Effect) → m ≡ (lowest_rule (context_of p i) (level_at p i)).level → e ≡ (lowest_rule (context_of p i) (level_at p i)).effect
      → level_at q i ≡ m → (level_at q (i + 1)).entered ≡ (level_at p (i + 1)).entered || enters e → (j : ℕ) → j ≡ i → Change p q (λ j. j ≡ i) j
  ruled_here m e em ee h g j d = subst (Change p q (λ j. j ≡ i)) (sym d) (changes.ruled refl on (h ∙ em) (after e ee g))

module _ (p : Party) (r : Regular p) (i : ℕ) (on : T (sending p i)) where
  abbrev R : ℕ → Type 0
  R j = j ≡ i

  -- its record changed
  module _ (m : Level) (e : Effect) (em : m ≡ (lowest_rule (context_of p i) (level_at p i)).level) (ee : e ≡ (lowest_rule (context_of p i) (level_at p i)).effect)
      (f : enters e ≡ false) (o : Le p (with_level p i m)) (w : Formed (with_level p i m)) (u : Fresh (with_level p i m)) where
    same_entered : (j : ℕ) → (level_at (with_level p i m) j).entered ≡ (level_at p j).entered
    same_entered = level_field p i m (λ l. l.entered) (subst (Unmoved (level_at p i)) (sym em) (lowest_unmoved (context_of p i) (level_at p i))).entered

    changing_own : level_at (with_level p i m) i ≡ m
    changing_own = level_same p i m (omega (arith, (sending_level p r.formed i on).last, r.formed.full))

    changing_next : (level_at (with_level p i m) (i + 1)).entered ≡ (level_at p (i + 1)).entered || enters e
    changing_next = same_entered (i + 1) ∙ or_none_lem (level_at p (i + 1)).entered (enters e) f

    changing_each : (j : ℕ) → Change p (with_level p i m) (λ j. j ≡ i) j
    changing_each j = go (ℕ_discrete j i)
      where
        go : Dec (j ≡ i) → Change p (with_level p i m) (λ j. j ≡ i) j
        go (yes d) = ruled_here p r i on (with_level p i m) o m e em ee changing_own changing_next j d
        go (no d) = changes.same (level_other p i m j d) (next_as p (with_level p i m) j (same_entered (j + 1)))

    changing_changed : Changed p (with_level p i m) (λ j. j ≡ i)
    changing_changed = record { le = o; formed = w; fresh = u; each = λ j _. changing_each j; entry = λ j h. inl (subst T (same_entered (suc j)) h) }

  -- the next level was entered
  module _ (k x : ℕ) (e : Effect) (em : level_at p i ≡ (lowest_rule (context_of p i) (level_at p i)).level) (ee : e ≡ (lowest_rule (context_of p i) (level_at p i)).effect)
      (f : enters e ≡ true) (new : T (level_at p (i + 1)).entered → ⊥) (way : Way p.plan (component_of p i) p.n p.t (level_at p i) k x)
      (o : Le p (descend p i k x)) (w : Formed (descend p i k x)) (u : Fresh (descend p i k x)) where
    abbrev S : Set
    S = side_of p.plan (component_of p i) k

    abbrev q : Party
    q = descend p i k x

    next_here : i + 1 < length p.levels
    next_here = omega (arith, (sending_level p r.formed i on).next, r.formed.full)

    own_level : level_at (descend p i k x) i ≡ level_at p i
    own_level = entry_other p (i + 1) S k x i (λ d. omega arith)

    next_entered_lem : (level_at (descend p i k x) (i + 1)).entered ≡ (level_at p (i + 1)).entered || enters e
    next_entered_lem = ap (λ (l : Level). l.entered) (entry_level p (i + 1) S k x next_here) ∙ or_some (level_at p (i + 1)).entered (enters e) f

    entering_each : (j : ℕ) → Change p (descend p i k x) (λ j. j ≡ i) j
    entering_each j = go (ℕ_discrete j i) (ℕ_discrete j (i + 1))
      where
        go : Dec (j ≡ i) → Dec (j ≡ i + 1) → Change p (descend p i k x) (λ j. j ≡ i) j
        go (yes d) z = ruled_here p r i on q o (level_at p i) e em ee own_level next_entered_lem j d
        go (no d) (yes z) = subst (Change p q R) (sym z) (entering_change p (i + 1) S k x next_here (descend_component p i k x next_here) R new)
        go (no d) (no z) =
            changes.same (entry_other p (i + 1) S k x j z)
            (next_as p q j (ap (λ (l : Level). l.entered) (entry_other p (i + 1) S k x (j + 1) (λ y. d (omega arith)))))

    entry_way : EntryBy (descend p i k x) i
    entry_way =
        let b = o.board in
        let s = o.component i (sending_entered p i on) in
        let g = entry_level p (i + 1) S k x next_here in
        let side : (level_at q (suc i)).side ≡ k = subst (λ (z : ℕ). (level_at q z).side ≡ k) (add-one i) (ap (λ (l : Level). l.side) g) in
        let place : (level_at q (suc i)).position ≡ x = subst (λ (z : ℕ). (level_at q z).position ≡ x) (add-one i) (ap (λ (l : Level). l.position) g) in
        transport⁻¹ (λ z. Way (b.plan z) (s z) (b.n z) (b.t z) (own_level z) (side z) (place z)) way

    entering_entry : (j : ℕ) → T (level_at (descend p i k x) (suc j)).entered → T (level_at p (suc j)).entered ⊎ EntryBy (descend p i k x) j
    entering_entry j h = go (ℕ_discrete j i)
      where
        go : Dec (j ≡ i) → T (level_at p (suc j)).entered ⊎ EntryBy (descend p i k x) j
        go (yes d) = inr (subst (EntryBy q) (sym d) entry_way)
        go (no d) = inl (subst (λ (l : Level). T l.entered) (entry_other p (i + 1) S k x (suc j) (λ y. d (omega arith))) h)

    entering_changed : Changed p (descend p i k x) (λ j. j ≡ i)
    entering_changed = record { le = o; formed = w; fresh = u; each = λ j _. entering_each j; entry = entering_entry }

  -- the record of the level itself, and what its rules see
  ruled_own : (m : Level) (e : Effect) (q : Party) → m ≡ (lowest_rule (context_of p i) (level_at p i)).level → e ≡ (lowest_rule (context_of p i) (level_at p i)).effect
      → Le p q → Formed q → Fresh q → Ruled p i m e q
      → (level_at q i ≡ (lowest_rule (context_of p i) (level_at p i)).level)
      × After (context_of p i) (lowest_rule (context_of p i) (level_at p i)).effect (context_of q i)
  ruled_own m e q em ee o w u (changing m' e' f) =
      (changing_own m e em ee f o w u ∙ em, after p r i on q o e ee (changing_next m e em ee f o w u))
  ruled_own m e q em ee o w u (entering_next k x e' f new way) =
      (own_level k x e em ee f new way o w u ∙ em, after p r i on q o e ee (next_entered_lem k x e em ee f new way o w u))

  ruled_changed : (m : Level) (e : Effect) (q : Party) → m ≡ (lowest_rule (context_of p i) (level_at p i)).level → e ≡ (lowest_rule (context_of p i) (level_at p i)).effect
      → Le p q → Formed q → Fresh q → Ruled p i m e q → Changed p q (λ j. j ≡ i)
  ruled_changed m e q em ee o w u (changing m' e' f) = changing_changed m e em ee f o w u
  ruled_changed m e q em ee o w u (entering_next k x e' f new way) = entering_changed k x e em ee f new way o w u

-- one rule, at a level where one applies
module _ (p : Party) (r : Regular p) (i : ℕ) (h : T (open_at p i)) where
  abbrev a : Applied
  a = lowest_rule (context_of p i) (level_at p i)

  step_le : Le p (step_at p i)
  step_le = kept_le p (step_at p i) r.formed (step_kept p i h).0 (step_grown p r.formed.full r.fresh i h).0

  step_ruled : Ruled p i (lowest_rule (context_of p i) (level_at p i)).level (lowest_rule (context_of p i) (level_at p i)).effect (step_at p i)
  unfolding rule_at open_at
  step_ruled =
      let on = open_sending p i h in
      effect_ruled p r i on a.level a.effect (T-right (sending p i) (applies a.effect) h) (lowest_enters (context_of p i) (level_at p i) (r.law i on))

  pub step_changed : Changed p (step_at p i) (λ j. j ≡ i)
  step_changed =
      ruled_changed p r i (open_sending p i h) a.level a.effect (step_at p i) refl refl step_le (formed_step p r.formed i h)
      (step_grown p r.formed.full r.fresh i h).1 step_ruled

  pub step_own : (level_at (step_at p i) i ≡ (lowest_rule (context_of p i) (level_at p i)).level)
      × After (context_of p i) (lowest_rule (context_of p i) (level_at p i)).effect (context_of (step_at p i) i)
  step_own =
      ruled_own p r i (open_sending p i h) a.level a.effect (step_at p i) refl refl step_le (formed_step p r.formed i h)
      (step_grown p r.formed.full r.fresh i h).1 step_ruled
