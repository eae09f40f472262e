-- The parts into which a component falls when c is taken out.
use mathlib.Core.Path.{◌≡◌, refl, sym, ◌∙◌, subst}
use mathlib.Core.Logic.{◌⊎◌, inl, inr}
use Prim.Native.Nat.{ℕ}
use native.Mathlib.Decide.{ℕ_discrete}
use lib.Dec.{T}
use Rattle.base.specs.Sets.{Set}
use Rattle.base.proofs.Bools.{T_and, T-left, T-right, T-dec}
use Rattle.tree.specs.Walk.{Walk, here, step, Not, OnPath}
use Rattle.tree.specs.Edges.{Edges, Adjacent}
use Rattle.tree.specs.Inner.{In, Acyclic}
use Rattle.tree.specs.Component.{without, part}
use Rattle.tree.proofs.Walks.{mono, first, last, join, back, cut, gate}
use Rattle.tree.proofs.Edges.{flip}
use Rattle.tree.proofs.Without.{to_without, without_in, without_not}
use Rattle.tree.proofs.Labels.{joined_label, joined_walk, walk_joined, label_inside, label_outside}
use Rattle.tree.proofs.Acyclic.{bridge}
use Rattle.tree.proofs.Components.{Component}

-- a part is what walks without c join to w
module _ (E : Edges) (S : Set) (c w x : ℕ) where
  pub part_without : T (part E S c w x) → T (without S c x)
  unfolding part
  part_without p = T-left (without S c x) _ p

  pub part_walk : T (without S c w) → T (part E S c w x) → Walk (Adjacent E) (In (without S c)) x w
  unfolding part
  part_walk b p = joined_walk (without S c) E x w (part_without p) b (T-right (without S c x) _ p)

  pub walk_part : Walk (Adjacent E) (In (without S c)) x w → T (part E S c w x)
  unfolding part
  walk_part v = T_and (without S c x) _ (first (Adjacent E) v) (walk_joined (without S c) E x w v)

-- only a position of the set without c has a part
pub part_whose : (E : Edges) (S : Set) (c w x : ℕ) → T (part E S c w x) → T (without S c w)
unfolding part
part_whose E S c w x p = go (T-dec (A w))
  where
    A : Set
    A = without S c

    go : Dec (T (A w)) → T (A w)
    go (yes b) = b
    go (no d) = subst (In A) (joined_label A E x w (T-right (A x) _ p) ∙ label_outside A E w d) (label_inside A E x (part_without E S c w x p))

-- a walk in S that avoids c
pub in_without : (E : Edges) (S : Set) {c x y : ℕ} → Walk (Adjacent E) (λ v. T (S v) × Not c v) x y → Walk (Adjacent E) (In (without S c)) x y
in_without E S {c} w = mono (Adjacent E) (λ z r. to_without S c z r.0 r.1) w

module _ (E : Edges) (ok : Acyclic E) where
  abbrev W : (ℕ → Type 0) → ℕ → ℕ → Type 0
  W P x y = Walk (Adjacent E) P x y

  rev : {P : ℕ → Type 0} {x y : ℕ} → W P x y → W P y x
  rev w = back (Adjacent E) (flip E) w

  meet_or : (S : Set) {Q : ℕ → Type 0} {u y : ℕ} → W Q u y → (x : ℕ) → W (In S) x y → W (λ v. T (S v) × Q v) x y ⊎ W (λ v. Q v × Not x v) u y
  meet_or S {Q} (here {x = y} q) x v = go (ℕ_discrete x y)
    where
      go : Dec (x ≡ y) → W (λ v. T (S v) × Q v) x y ⊎ W (λ v. Q v × Not x v) y y
      go (yes e) = inl (subst (λ z. W (λ v. T (S v) × Q v) z y) (sym e) (here (last (Adjacent E) v, q)))
      go (no d) = inr (here (q, λ e. d (sym e)))
  meet_or S {Q} (step {x = u} {y = z} {z = y} q e w) x v = go (ℕ_discrete u x) (meet_or S w)
    where
      R : ℕ → Type 0
      R = λ v. T (S v) × Q v

      turn : ((x : ℕ) → W (In S) x y → W R x y ⊎ W (λ v. Q v × Not x v) z y) → W (In S) u y → W (λ v. Q v × Not u v) z y → Dec (T (S z)) → W R u y
      turn ih v a (yes s) = elim (ih z (step s (flip E u z e) v)) [ inl b ↦ step (first (Adjacent E) v, q) e b | inr b ↦ absurd ((first (Adjacent E) b).1 refl) ]
      turn ih v a (no s) = absurd (bridge E ok u z y e (rev (mono (Adjacent E) (λ _ r. r.1) a)) (rev (mono (Adjacent E) (λ t p i. s (subst (In S) i p)) v)))

      go : Dec (u ≡ x) → ((x : ℕ) → W (In S) x y → W R x y ⊎ W (λ v. Q v × Not x v) z y) → W R x y ⊎ W (λ v. Q v × Not x v) u y
      go d ih = elim (ih x v) [ inl b ↦ inl b | inr a ↦ case d a ]
        where
          case : Dec (u ≡ x) → W (λ v. Q v × Not x v) z y → W R x y ⊎ W (λ v. Q v × Not x v) u y
          case (yes i) a = inl (subst (λ t. W R t y) i (turn ih (subst (λ t. W (In S) t y) (sym i) v) (subst (λ t. W (λ v. Q v × Not t v) z y) (sym i) a) (T-dec (S z))))
          case (no i) a = inr (step (q, i) e a)

  -- a walk in S and one that meets Q, between the same ends: one that does both
  pub meet : (S : Set) {Q : ℕ → Type 0} {x y : ℕ} → Walk (Adjacent E) (In S) x y → Walk (Adjacent E) Q x y → Walk (Adjacent E) (λ v. T (S v) × Q v) x y
  meet S {Q} {x} {y} v w = elim (meet_or S w x v) [ inl b ↦ b | inr a ↦ absurd ((first (Adjacent E) a).1 refl) ]

  module _ (n : ℕ) (S : Set) (C : Component E n S) (c : ℕ) where
    -- two members of different parts have c on their path
    pub apart : (x y : ℕ) → T (S x) → T (S y) → (T (part E S c y x) → ⊥) → OnPath (Adjacent E) x y c
    apart x y p q d v = d (walk_part E S c y x (in_without E S (meet S (C.connected x y p q) v)))

    -- every other member is in the part of a neighbour of c
    pub beside : (x : ℕ) → T (S c) → T (without S c x) → (w : ℕ) × Adjacent E c w × T (without S c w) × T (part E S c w x)
    beside x sc p =
        let r = gate (Adjacent E) (C.connected x c (without_in S c x p) sc) (without_not S c x p) in
        let v : W (In (without S c)) x r.0 = in_without E S r.2 in
        (r.0, flip E r.0 c r.1, last (Adjacent E) v, walk_part E S c r.0 x v)

    -- a part has one neighbour of c only
    pub one_neighbour : (w w' : ℕ) → Adjacent E c w → Adjacent E c w' → T (without S c w) → T (part E S c w w') → w ≡ w'
    one_neighbour w w' e e' b p = go (ℕ_discrete w w')
      where
        go : Dec (w ≡ w') → w ≡ w'
        go (yes i) = i
        go (no d) = absurd (bridge E ok c w w' e (mono (Adjacent E) (λ z q. without_not S c z q) (part_walk E S c w w' b p))
            (step (λ i. d (sym i)) (flip E c w' e') (here (λ i. without_not S c w b (sym i)))))

    -- the neighbour is on every path from its part to the outside
    pub gated : (w x y : ℕ) → Adjacent E c w → T (without S c w) → T (part E S c w x) → T (S y) → (T (part E S c w y) → ⊥) → OnPath (Adjacent E) x y w
    gated w x y e b p q d v = go (cut (Adjacent E) c (meet S (C.connected x y (without_in S c x (part_without E S c w x p)) q) v))
      where
        R : ℕ → Type 0
        R = λ v. T (S v) × Not w v

        xw : W (In (without S c)) x w
        xw = part_walk E S c w x b p

        go : (W R x c × W R c y) ⊎ W (λ v. R v × Not c v) x y → ⊥
        go (inl (a, _)) = bridge E ok c w x e (mono (Adjacent E) (λ z r. without_not S c z r) xw) (mono (Adjacent E) (λ z r. r.1) a)
        go (inr a) = d (walk_part E S c w y (join (Adjacent E) (rev (mono (Adjacent E) (λ z r. to_without S c z r.0.0 r.1) a)) xw))

    -- a part is a component
    pub part_component : (w : ℕ) → T (without S c w) → Component E n (part E S c w)
    part_component w b = record {
      member = (w, walk_part E S c w w (here b));
      below = λ x p. C.below x (without_in S c x (part_without E S c w x p));
      connected = λ x y p q. stay (join (Adjacent E) (part_walk E S c w x b p) (rev (part_walk E S c w y b q))) (part_walk E S c w y b q);
    }
      where
        stay : {x y : ℕ} → W (In (without S c)) x y → W (In (without S c)) y w → W (In (part E S c w)) x y
        stay (here {x = x} p) v = here (walk_part E S c w x v)
        stay (step {x = x} p e u) v = step (walk_part E S c w x (step p e (join (Adjacent E) u v))) e (stay u v)
