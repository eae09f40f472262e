-- The rounds that take a plan's positions apart follow its chains of sides: what L rounds leave of the component of x is its chain at level L, as long as it
-- has three positions or more.
use mathlib.Core.Path.{◌≡◌, sym, ap, ◌∙◌, subst, fun_ext}
use Prim.Native.Nat.{ℕ, zero, suc, ◌≤◌, ◌<◌}
use native.Mathlib.Decide.{dec_lt}
use native.Mathlib.Omega.{arith}
use lib.Dec.{T}
use Rattle.base.specs.Sets.{Set, count}
use Rattle.base.proofs.Any.{below_some, some_below}
use Rattle.base.proofs.Bools.{T-ext}
use Rattle.tree.specs.Walk.{Not}
use Rattle.tree.specs.Edges.{Edges}
use Rattle.tree.specs.Component.{without, neighbour, side}
use Rattle.tree.proofs.Without.{without_not}
use Rattle.tree.proofs.Parts.{part_without}
use Rattle.tree_rounds.specs.Inner.{block_of, in_large, any_large, split, after_rounds, Rounds}
use Rattle.tree_rounds.proofs.Blocks.{block_in, walk_block, block_own}
use Rattle.tree_rounds.proofs.Split.{large_in, large_three, to_large, split_leaves, split_side, after_below, large_earlier}
use Rattle.plan.specs.Plan.{Plan}
use Rattle.plan.specs.Positions.{edges_of}
use Rattle.plan.specs.Valid.{plan_valid}
use Rattle.component.specs.Component.{whole_of, centre_of, port_of, side_of}
use Rattle.component_laws.proofs.Laws.{acyclic, whole_plan}
use Rattle.plan_levels.proofs.Chains.{deep_before}
use Rattle.plan_levels.specs.Statement.{chain_at, Deep, Deepest}

-- what L rounds leave of a plan's positions
abbrev left_of : Plan → ℕ → Set
left_of p L = after_rounds (edges_of p) p.count L

-- x lies in a component of three or more of them
abbrev large_at : Plan → ℕ → ℕ → Type 0
large_at p L x = T (in_large (edges_of p) p.count (left_of p L) x)

-- a position of a side lies in the component, and is not its centre
side_without : (p : Plan) (S : Set) (k x : ℕ) → T (side_of p S k x) → T (without S (centre_of p S) x)
unfolding side
side_without p S k x h = part_without (edges_of p) S (centre_of p S) (neighbour (edges_of p) p.count S k) x h

-- a position whose chain holds it at the next level is not the centre
deep_centre : (p : Plan) (x L : ℕ) → Deep p x (suc L) → Not (centre_of p (chain_at p x L)) x
unfolding chain_at
deep_centre p x L d = without_not S (centre_of p S) x (side_without p S (port_of p S x) x d.lies)
  where
    S : Set
    S = chain_at p x L

module _ (p : Plan) (ok : T (plan_valid p)) where
  abbrev E : Edges
  E = edges_of p

  abbrev n : ℕ
  n = p.count

  -- before the first round there is one component
  whole_block : (x : ℕ) → T (whole_of p x) → block_of E (whole_of p) x ≡ whole_of p
  whole_block x q = fun_ext (λ y. T-ext (block_of E (whole_of p) x y) (whole_of p y)
      (block_in E (whole_of p) x y) (λ r. walk_block E (whole_of p) x y ((whole_plan p ok).joins y x r q)))

  -- a round leads from a level to the next
  next : (L x : ℕ) → large_at p L x → T (left_of p (suc L) x) → block_of E (left_of p L) x ≡ chain_at p x L → block_of E (left_of p (suc L)) x ≡ chain_at p x (suc L)
  unfolding after_rounds chain_at
  next L x h s e = split_side E (acyclic p ok) n (left_of p L) (after_below E n L) x h s ∙ ap (λ (S : Set). side_of p S (port_of p S x)) e

  earlier : (L x : ℕ) → large_at p (suc L) x → large_at p L x
  earlier L x = large_earlier E n L (suc L) x (omega arith)

  -- the component of x after L rounds is its chain at level L
  pub block_chain : (L x : ℕ) → T (in_large (edges_of p) p.count (after_rounds (edges_of p) p.count L) x)
      → block_of (edges_of p) (after_rounds (edges_of p) p.count L) x ≡ chain_at p x L
  unfolding after_rounds chain_at
  block_chain zero x h = whole_block x (large_in E n (whole_of p) x h)
  block_chain (suc L) x h = next L x (earlier L x h) (large_in E n (left_of p (suc L)) x h) (block_chain L x (earlier L x h))

  pub round_deep : (x L : ℕ) → T (in_large (edges_of p) p.count (after_rounds (edges_of p) p.count L) x) → Deep p x L
  round_deep x L h = record {
    lies = subst (λ (S : Set). T (S x)) (block_chain L x h) (block_own E (left_of p L) x (large_in E n (left_of p L) x h));
    three = subst (λ (S : Set). 3 ≤ count n S) (block_chain L x h) (large_three E n (left_of p L) x h);
  }

  -- a chain of three positions or more shows after as many rounds
  shows : (x L : ℕ) → T (left_of p L x) → block_of E (left_of p L) x ≡ chain_at p x L → Deep p x L → large_at p L x
  shows x L a e d = to_large E n (left_of p L) x a (subst (λ (S : Set). 3 ≤ count n S) (sym e) d.three)

  deeper : (x L : ℕ) → Deep p x (suc L) → large_at p L x → large_at p (suc L) x
  unfolding after_rounds
  deeper x L d h = shows x (suc L) left (next L x h left e) d
    where
      e : block_of E (left_of p L) x ≡ chain_at p x L
      e = block_chain L x h

      a : T (left_of p L x)
      a = large_in E n (left_of p L) x h

      left : T (split E n (left_of p L) x)
      left = split_leaves E n (left_of p L) x a x (block_own E (left_of p L) x a)
          (subst (λ (S : Set). Not (centre_of p S) x) (sym e) (deep_centre p x L d))

  pub deep_round : (x L : ℕ) → Deep p x L → T (in_large (edges_of p) p.count (after_rounds (edges_of p) p.count L) x)
  unfolding after_rounds chain_at
  deep_round x zero d = shows x zero d.lies (whole_block x d.lies) d
  deep_round x (suc L) d = deeper x L d (deep_round x L (deep_before p ok x L d))

  -- the number of rounds is the number of sending levels of the deepest component
  pub rounds_deepest : (r : ℕ) → Rounds (edges_of p) p.count r → Deepest p r
  unfolding any_large
  rounds_deepest r R = record {
    most = λ x L d. go x L d (dec_lt L r);
    reached = λ L e. let m = below_some n (in_large E n (left_of p L)) (R.each L (omega arith)) in (m.0, round_deep m.0 L m.2);
  }
    where
      go : (x L : ℕ) → Deep p x L → Dec (L < r) → L < r
      go x L d (yes l) = l
      go x L d (no k) =
          let h : large_at p r x = large_earlier E n r L x (omega arith) (deep_round x L d) in
          absurd (R.done (some_below n (in_large E n (left_of p r)) x (after_below E n r x (large_in E n (left_of p r) x h)) h))
