-- What a round leaves of each component of a forest.
use mathlib.Core.Path.{◌≡◌, refl, sym, ap, ◌∙◌, subst, fun_ext}
use mathlib.Core.Bool.{◌&&◌}
use Prim.Native.Nat.{ℕ, zero, suc, ◌≤◌, ◌<◌}
use native.Mathlib.Decide.{ℕ_discrete}
use native.Mathlib.Omega.{arith}
use lib.Dec.{T, eqb, leb→le, le→leb, eqb→eq, eqb_refl, ltb→lt, T_not, not_T}
use Rattle.base.specs.Sets.{Set, count}
use Rattle.base.proofs.Bools.{T_and, T-left, T-right, T-ext}
use Rattle.base.proofs.Counts.{count_mono}
use Rattle.tree.specs.Walk.{Walk, here, step, Not}
use Rattle.tree.specs.Edges.{Edges, Adjacent}
use Rattle.tree.specs.Inner.{In, Acyclic}
use Rattle.tree.specs.Component.{upto, without, part, centre, side, port}
use Rattle.tree.proofs.Walks.{mono, join, back}
use Rattle.tree.proofs.Edges.{flip}
use Rattle.tree.proofs.Without.{to_without, without_in, without_not}
use Rattle.tree.proofs.Components.{Component}
use Rattle.tree.proofs.Parts.{part_without, part_whose, part_walk, walk_part}
use Rattle.tree.proofs.Sides.{port_low, port_side}
use Rattle.tree_rounds.specs.Inner.{block_of, in_large, split, after_rounds}
use Rattle.tree_rounds.proofs.Blocks.{block_in, block_walk, walk_block, block_own, block_same, block_component}

-- ---- components of three or more positions

module _ (E : Edges) (n : ℕ) (A : Set) (x : ℕ) where
  pub large_in : T (in_large E n A x) → T (A x)
  unfolding in_large
  large_in h = T-left (A x) _ h

  pub large_three : T (in_large E n A x) → 3 ≤ count n (block_of E A x)
  unfolding in_large
  large_three h = leb→le 3 (count n (block_of E A x)) (T-right (A x) _ h)

  pub to_large : T (A x) → 3 ≤ count n (block_of E A x) → T (in_large E n A x)
  unfolding in_large
  to_large p three = T_and (A x) _ p (le→leb 3 (count n (block_of E A x)) three)

-- ---- one round

-- what is left was there
pub split_in : (E : Edges) (n : ℕ) (A : Set) (x : ℕ) → T (split E n A x) → T (A x)
unfolding split
split_in E n A x h = T-left (A x) _ h

module _ (E : Edges) (n : ℕ) (A : Set) (x : ℕ) where
  -- a round leaves every position but the centre
  pub split_leaves : T (A x) → (y : ℕ) → T (block_of E A x y) → Not (centre E n (block_of E A x)) y → T (split E n A y)
  unfolding split
  split_leaves p y h d = T_and (A y) _ (block_in E A x y h) (not_T (in_large E n A y && eqb y c) (λ k.
      d (eqb→eq y c (T-right (in_large E n A y) _ k) ∙ ap (centre E n) (block_same E A x y h))))
    where
      c : ℕ
      c = centre E n (block_of E A y)

  -- and takes the centre of a component of three or more
  pub split_takes : T (in_large E n A x) → (y : ℕ) → T (block_of E A x y) → T (split E n A y) → Not (centre E n (block_of E A x)) y
  unfolding split
  split_takes g y h s i = T_not (in_large E n A y && eqb y (centre E n (block_of E A y))) (T-right (A y) _ s)
      (T_and (in_large E n A y) _ large (subst (λ z. T (eqb y z)) (i ∙ ap (centre E n) (sym e)) (eqb_refl y)))
    where
      e : block_of E A y ≡ block_of E A x
      e = block_same E A x y h

      large : T (in_large E n A y)
      large = to_large E n A y (block_in E A x y h) (subst (λ (S : Set). 3 ≤ count n S) (sym e) (large_three E n A x g))

  -- so the component of x that is left is its part without the centre
  pub split_part : T (in_large E n A x) → T (split E n A x) → block_of E (split E n A) x ≡ part E (block_of E A x) (centre E n (block_of E A x)) x
  split_part g s = fun_ext (λ y. T-ext (block_of E (split E n A) x y) (part E C c x y)
      (λ h. walk_part E C c x y (inner (block_walk E (split E n A) x y s h)))
      (λ h. walk_block E (split E n A) x y (mono (Adjacent E) (λ z r. split_leaves a z (without_in C c z r) (without_not C c z r)) (part_walk E C c x y b h))))
    where
      C : Set
      C = block_of E A x

      c : ℕ
      c = centre E n C

      a : T (A x)
      a = large_in E n A x g

      b : T (without C c x)
      b = to_without C c x (block_own E A x a) (split_takes g x (block_own E A x a) s)

      before : {y : ℕ} → Walk (Adjacent E) (In (split E n A)) y x → T (C y)
      before {y} w = walk_block E A x y (mono (Adjacent E) (split_in E n A) w)

      inner : {y : ℕ} → Walk (Adjacent E) (In (split E n A)) y x → Walk (Adjacent E) (In (without C c)) y x
      inner (here p) = here b
      inner (step {x = y} p e w) = step (to_without C c y (before (step p e w)) (split_takes g y (before (step p e w)) p)) e (inner w)

  -- a component of three or more after a round was one before it
  pub large_before : T (in_large E n (split E n A) x) → T (in_large E n A x)
  large_before h = to_large E n A x a (omega (
    arith,
    large_three E n (split E n A) x h,
    count_mono n (block_of E (split E n A) x) (block_of E A x)
        (λ y l r. walk_block E A x y (mono (Adjacent E) (split_in E n A) (block_walk E (split E n A) x y s r))),
  ))
    where
      s : T (split E n A x)
      s = large_in E n (split E n A) x h

      a : T (A x)
      a = split_in E n A x s

-- ---- parts are sides

-- the part of a position is that of each of its members
pub part_same : (E : Edges) (S : Set) (c w x : ℕ) → T (part E S c w x) → part E S c w ≡ part E S c x
part_same E S c w x h = fun_ext (λ y. T-ext (part E S c w y) (part E S c x y)
    (λ r. walk_part E S c x y (join (Adjacent E) (part_walk E S c w y b r) (back (Adjacent E) (flip E) v)))
    (λ r. walk_part E S c w y (join (Adjacent E) (part_walk E S c x y (part_without E S c w x h) r) v)))
  where
    b : T (without S c w)
    b = part_whose E S c w x h

    v : Walk (Adjacent E) (In (without S c)) x w
    v = part_walk E S c w x b h

module _ (E : Edges) (ok : Acyclic E) (n : ℕ) where
  -- the part of x without the centre is the side of its port
  pub part_side : (S : Set) → Component E n S → (x : ℕ) → T (S x) → Not (centre E n S) x → part E S (centre E n S) x ≡ side E n S (port E n S x)
  unfolding side
  part_side S C x p d = sym (part_same E S (centre E n S) _ x (port_side E ok n S C x (port E n S x) p (port_low E ok n S C x p d) refl))

  -- the component of x that a round leaves is the side that holds x
  pub split_side : (A : Set) → ((y : ℕ) → T (A y) → y < n) → (x : ℕ) → T (in_large E n A x) → T (split E n A x)
      → block_of E (split E n A) x ≡ side E n (block_of E A x) (port E n (block_of E A x) x)
  split_side A b x g s =
      let a : T (A x) = large_in E n A x g in
      let i : T (block_of E A x x) = block_own E A x a in
      split_part E n A x g s ∙ part_side (block_of E A x) (block_component E A n b x a) x i (split_takes E n A x g x i s)

-- ---- many rounds

-- every position left is below n
pub after_below : (E : Edges) (n L x : ℕ) → T (after_rounds E n L x) → x < n
unfolding after_rounds upto
after_below E n zero x h = ltb→lt x n h
after_below E n (suc L) x h = after_below E n L x (split_in E n (after_rounds E n L) x h)

-- a component of three or more after some rounds was one after fewer
pub large_earlier : (E : Edges) (n L M x : ℕ) → L ≤ M → T (in_large E n (after_rounds E n M) x) → T (in_large E n (after_rounds E n L) x)
unfolding after_rounds
large_earlier E n L zero x l h = let i : zero ≡ L = omega arith in subst (λ z. T (in_large E n (after_rounds E n z) x)) i h
large_earlier E n L (suc M) x l h = go (ℕ_discrete (suc M) L) (large_earlier E n L M x)
  where
    go : Dec (suc M ≡ L) → (L ≤ M → T (in_large E n (after_rounds E n M) x) → T (in_large E n (after_rounds E n L) x)) → T (in_large E n (after_rounds E n L) x)
    go (yes i) ih = subst (λ z. T (in_large E n (after_rounds E n z) x)) i h
    go (no d) ih = ih (omega arith) (large_before E n (after_rounds E n M) x h)
