-- Neighbours of the centre in rising order, ports and sides.
use mathlib.Core.Path.{◌≡◌, refl, sym, ap, ◌∙◌, subst}
use mathlib.Core.Logic.{◌⊎◌, inl, inr}
use mathlib.Core.Bool.{Bool, true, false, ◌&&◌}
use Prim.Native.Nat.{ℕ, suc, ◌*◌, ◌≤◌, ◌<◌}
use native.Mathlib.Decide.{ℕ_discrete, dec_lt}
use native.Mathlib.Omega.{arith}
use lib.Dec.{T, eqb, eqb→eq, eqb_refl}
use Rattle.base.specs.Pick.{pick}
use Rattle.base.specs.Sets.{Set, count}
use Rattle.base.proofs.Bools.{T_and, T-left, T-right}
use Rattle.base.proofs.Counts.{count_pos}
use Rattle.base.proofs.Smallest.{sought, found}
use Rattle.base.proofs.Ranks.{count_grow, rank_rises, same_rank, at_rank}
use Rattle.tree.specs.Walk.{Walk, here, Not, OnPath}
use Rattle.tree.specs.Edges.{Edges, Adjacent}
use Rattle.tree.specs.Inner.{In, Acyclic}
use Rattle.tree.specs.Component.{without, part, centre, neighbours, degree, rank, neighbour, side, gateway, port}
use Rattle.tree.proofs.Walks.{first, last, join, back}
use Rattle.tree.proofs.Edges.{flip, adjacent→, adjacent←}
use Rattle.tree.proofs.Without.{to_without, without_in, without_not}
use Rattle.tree.proofs.Acyclic.{irreflexive}
use Rattle.tree.proofs.Components.{Component}
use Rattle.tree.proofs.Parts.{part_without, part_whose, part_walk, walk_part, beside, one_neighbour, gated, apart, part_component}
use Rattle.tree.proofs.Centres.{centre_light}

module _ (E : Edges) (ok : Acyclic E) (n : ℕ) (S : Set) (C : Component E n S) where
  abbrev c : ℕ
  c = centre E n S

  -- the centre is a member
  pub centre_member : T (S (centre E n S))
  centre_member = (centre_light E ok n S C).member

  -- the centre's neighbours are adjacent to it, members, and not it
  neighbours_adjacent : (w : ℕ) → T (neighbours E n S w) → Adjacent E c w
  unfolding neighbours
  neighbours_adjacent w h = adjacent→ E c w (T-right (S w) _ h)

  neighbours_in : (w : ℕ) → T (neighbours E n S w) → T (S w)
  unfolding neighbours
  neighbours_in w h = T-left (S w) _ h

  neighbours_without : (w : ℕ) → T (neighbours E n S w) → T (without S c w)
  neighbours_without w h = to_without S c w (neighbours_in w h) (λ e. irreflexive E ok c (subst (Adjacent E c) e (neighbours_adjacent w h)))

  -- w is a neighbour of the centre, and its part holds x
  record Gateway (x w : ℕ) : Type 0 where
    place : T (neighbours E n S w)
    holds : T (part E S (centre E n S) w x)

  -- every other member has such a gateway
  gateway_is : (x : ℕ) → T (without S c x) → Gateway x (gateway E n S x)
  unfolding gateway neighbours
  gateway_is x b =
      let r = beside E ok n S C c x centre_member b in
      let s : T (S r.0) = without_in S c r.0 r.2 in
      let k : T (neighbours E n S r.0) = T_and (S r.0) _ s (adjacent← E c r.0 r.1) in
      let f = found n (λ w. neighbours E n S w && part E S c w x) r.0 (C.below r.0 s) (T_and (neighbours E n S r.0) _ k r.3) in
      record { place = T-left (neighbours E n S (gateway E n S x)) _ f.0; holds = T-right (neighbours E n S (gateway E n S x)) _ f.0 }

  -- it is the only one
  gateway_one : (x w : ℕ) → Gateway x w → gateway E n S x ≡ w
  gateway_one x w g =
      let t = gateway_is x (part_without E S c w x g.holds) in
      let u : ℕ = gateway E n S x in
      let a : Walk (Adjacent E) (In (without S c)) x u = part_walk E S c u x (neighbours_without u t.place) t.holds in
      let b : Walk (Adjacent E) (In (without S c)) w x = back (Adjacent E) (flip E) (part_walk E S c w x (neighbours_without w g.place) g.holds) in
      one_neighbour E ok n S C c u w (neighbours_adjacent u t.place) (neighbours_adjacent w g.place) (neighbours_without u t.place) (walk_part E S c u w (join (Adjacent E) b a))

  -- neighbours are numbered from 1 to the degree
  rank_range : (w : ℕ) → T (neighbours E n S w) → (1 ≤ rank E n S w) × (rank E n S w ≤ degree E n S)
  unfolding rank degree
  rank_range w h = (count_pos (suc w) (neighbours E n S) w (omega arith) h, count_grow (neighbours E n S) (suc w) n (C.below w (neighbours_in w h)))

  -- the neighbour of w's rank is w
  pub neighbour_rank : (w : ℕ) → T (neighbours E n S w) → neighbour E n S (rank E n S w) ≡ w
  unfolding neighbour rank
  neighbour_rank w h =
      let N : Set = neighbours E n S in
      let k : ℕ = rank E n S w in
      let v : ℕ = neighbour E n S k in
      let f = found n (λ v. N v && eqb (rank E n S v) k) w (C.below w (neighbours_in w h)) (T_and (N w) _ h (eqb_refl k)) in
      same_rank N v w (T-left (N v) _ f.0) h (eqb→eq (rank E n S v) k (T-right (N v) _ f.0))

  module _ (k : ℕ) (low : 1 ≤ k) (high : k ≤ degree E n S) where
    -- neighbour k is a neighbour, of rank k
    neighbour_is : T (neighbours E n S (neighbour E n S k)) × (rank E n S (neighbour E n S k) ≡ k)
    unfolding neighbour rank degree
    neighbour_is =
        let N : Set = neighbours E n S in
        let r = at_rank n N k low high in
        let v : ℕ = neighbour E n S k in
        let f = found n (λ v. N v && eqb (rank E n S v) k) r.0 r.1 (T_and (N r.0) _ r.2 (subst (λ z. T (eqb z k)) (sym r.3) (eqb_refl k))) in
        (T-left (N v) _ f.0, eqb→eq (rank E n S v) k (T-right (N v) _ f.0))

    pub neighbour_member : T (S (neighbour E n S k))
    neighbour_member = neighbours_in (neighbour E n S k) neighbour_is.0

    pub neighbour_adjacent : Adjacent E (centre E n S) (neighbour E n S k)
    neighbour_adjacent = neighbours_adjacent (neighbour E n S k) neighbour_is.0

    neighbour_without : T (without S c (neighbour E n S k))
    neighbour_without = neighbours_without (neighbour E n S k) neighbour_is.0

    -- neighbour k lies in side k
    pub neighbour_side : T (side E n S k (neighbour E n S k))
    unfolding side
    neighbour_side = walk_part E S c (neighbour E n S k) (neighbour E n S k) (here neighbour_without)

    -- side k is a component
    pub side_component : Component E n (side E n S k)
    unfolding side
    side_component = part_component E ok n S C c (neighbour E n S k) neighbour_without

    -- of at most half the positions
    pub side_halves : count n (side E n S k) * 2 ≤ count n S
    unfolding side
    side_halves = (centre_light E ok n S C).halves (neighbour E n S k) neighbour_member (without_not S c (neighbour E n S k) neighbour_without)

    -- neighbour k is the gateway of side k's members
    side_gateway : (x : ℕ) → T (side E n S k x) → Gateway x (neighbour E n S k)
    unfolding side
    side_gateway x h = record { place = neighbour_is.0; holds = h }

  -- a side's members are members other than the centre
  side_without : (k x : ℕ) → T (side E n S k x) → T (without S c x)
  unfolding side
  side_without k x h = part_without E S c (neighbour E n S k) x h

  pub side_member : (k x : ℕ) → T (side E n S k x) → T (S x)
  side_member k x h = without_in S c x (side_without k x h)

  pub side_centre : (k : ℕ) → T (side E n S k (centre E n S)) → ⊥
  side_centre k h = without_not S c c (side_without k c h) refl

  -- other numbers have an empty side
  pub side_range : (k x : ℕ) → T (side E n S k x) → (1 ≤ k) × (k ≤ degree E n S)
  unfolding side neighbour
  side_range k x h = go (T-left (N v) _ hit) (eqb→eq (rank E n S v) k (T-right (N v) _ hit))
    where
      N : Set
      N = neighbours E n S

      v : ℕ
      v = neighbour E n S k

      hit : T (N v && eqb (rank E n S v) k)
      hit = (sought n (λ w. N w && eqb (rank E n S w) k)).hit (C.below v (without_in S c v (part_whose E S c v x h)))

      go : T (N v) → rank E n S v ≡ k → (1 ≤ k) × (k ≤ degree E n S)
      go p e = rw e at (rank_range v p)

  -- ---- ports

  -- the centre has port 0
  pub port_centre : port E n S (centre E n S) ≡ 0
  unfolding port
  port_centre = go (eqb c c) refl
    where
      go : (d : Bool) → eqb c c ≡ d → pick d 0 (rank E n S (gateway E n S c)) ≡ 0
      go true e = refl
      go false e = absurd (subst T e (eqb_refl c))

  -- any other member its gateway's number
  port_other : (x : ℕ) → T (without S c x) → port E n S x ≡ rank E n S (gateway E n S x)
  unfolding port
  port_other x b = go (eqb x c) refl
    where
      go : (d : Bool) → eqb x c ≡ d → pick d 0 (rank E n S (gateway E n S x)) ≡ rank E n S (gateway E n S x)
      go true e = absurd (without_not S c x b (eqb→eq x c (subst T (sym e) tt)))
      go false e = refl

  port_without : (x : ℕ) → T (S x) → 1 ≤ port E n S x → T (without S c x)
  port_without x p l = to_without S c x p (λ i. absurd (omega (arith, port_centre, ap (port E n S) i)))

  port_range : (x : ℕ) → T (without S c x) → (1 ≤ port E n S x) × (port E n S x ≤ degree E n S)
  port_range x b = rw (port_other x b) (rank_range (gateway E n S x) (gateway_is x b).place)

  -- the port is positive away from the centre
  pub port_low : (x : ℕ) → T (S x) → Not (centre E n S) x → 1 ≤ port E n S x
  port_low x p d = (port_range x (to_without S c x p d)).0

  -- and at most the centre's degree
  pub port_high : (x : ℕ) → T (S x) → port E n S x ≤ degree E n S
  port_high x p = go (ℕ_discrete x c)
    where
      go : Dec (x ≡ c) → port E n S x ≤ degree E n S
      go (yes i) = omega (arith, port_centre, ap (port E n S) i)
      go (no d) = (port_range x (to_without S c x p d)).1

  -- port 0 is the centre
  pub port_zero : (x : ℕ) → T (S x) → port E n S x ≡ 0 → x ≡ centre E n S
  port_zero x p e = go (ℕ_discrete x c)
    where
      go : Dec (x ≡ c) → x ≡ c
      go (yes i) = i
      go (no d) = absurd (omega (arith, port_low x p d))

  -- the port's neighbour is the gateway
  port_neighbour : (x : ℕ) → T (without S c x) → neighbour E n S (port E n S x) ≡ gateway E n S x
  port_neighbour x b = ap (neighbour E n S) (port_other x b) ∙ neighbour_rank (gateway E n S x) (gateway_is x b).place

  -- a member lies in the side of its port
  pub port_side : (x k : ℕ) → T (S x) → 1 ≤ k → port E n S x ≡ k → T (side E n S k x)
  unfolding side
  port_side x k p l e =
      let b : T (without S c x) = port_without x p (omega arith) in
      let i : neighbour E n S k ≡ gateway E n S x = ap (neighbour E n S) (sym e) ∙ port_neighbour x b in
      subst (λ w. T (part E S c w x)) (sym i) (gateway_is x b).holds

  -- and in no other
  pub side_port : (k x : ℕ) → T (side E n S k x) → port E n S x ≡ k
  side_port k x h =
      let (low, high) = side_range k x h in
      port_other x (side_without k x h) ∙ ap (rank E n S) (gateway_one x (neighbour E n S k) (side_gateway k low high x h)) ∙ (neighbour_is k low high).1

  -- neighbour k has port k
  pub neighbour_port : (k : ℕ) → 1 ≤ k → k ≤ degree E n S → port E n S (neighbour E n S k) ≡ k
  neighbour_port k low high = side_port k (neighbour E n S k) (neighbour_side k low high)

  -- every member is the centre, or lies in just one side
  pub centre_or_side : (x : ℕ) → T (S x)
      → (x ≡ centre E n S) ⊎ ((k : ℕ) × (1 ≤ k) × (k ≤ degree E n S) × T (side E n S k x) × ((j : ℕ) → T (side E n S j x) → j ≡ k))
  centre_or_side x p = go (ℕ_discrete x c)
    where
      k : ℕ
      k = port E n S x

      go : Dec (x ≡ c) → (x ≡ c) ⊎ ((k : ℕ) × (1 ≤ k) × (k ≤ degree E n S) × T (side E n S k x) × ((j : ℕ) → T (side E n S j x) → j ≡ k))
      go (yes i) = inl i
      go (no d) = let l : 1 ≤ k = port_low x p d in inr (k, l, port_high x p, port_side x k p l refl, λ j h. sym (side_port j x h))

  -- neighbours stand in rising order
  pub neighbour_rises : (j k : ℕ) → 1 ≤ j → j < k → k ≤ degree E n S → neighbour E n S j < neighbour E n S k
  unfolding rank
  neighbour_rises j k low l high = go (ℕ_discrete a b) (dec_lt a b)
    where
      a : ℕ
      a = neighbour E n S j

      b : ℕ
      b = neighbour E n S k

      p : T (neighbours E n S a) × (rank E n S a ≡ j)
      p = neighbour_is j low (omega arith)

      q : T (neighbours E n S b) × (rank E n S b ≡ k)
      q = neighbour_is k (omega arith) high

      go : Dec (a ≡ b) → Dec (a < b) → a < b
      go (yes i) d = absurd (omega (arith, p.1, q.1, ap (rank E n S) i))
      go (no i) (yes d) = d
      go (no i) (no d) = absurd (omega (arith, p.1, q.1, rank_rises (neighbours E n S) b a p.0 (omega arith)))

  -- ---- what lies on the path

  -- different ports: the centre is on the path
  pub ports_path : (x y : ℕ) → T (S x) → T (S y) → (port E n S x ≡ port E n S y → ⊥) → OnPath (Adjacent E) x y (centre E n S)
  ports_path x y p q d = go (ℕ_discrete x c) (ℕ_discrete y c)
    where
      go : Dec (x ≡ c) → Dec (y ≡ c) → OnPath (Adjacent E) x y c
      go (yes i) j = λ w. first (Adjacent E) w i
      go (no i) (yes j) = λ w. last (Adjacent E) w j
      go (no i) (no j) = apart E ok n S C c x y p q (λ r.
          let g : ℕ = gateway E n S y in
          let b : T (without S c y) = to_without S c y q j in
          let t = gateway_is y b in
          let w : Walk (Adjacent E) (In (without S c)) x g = join (Adjacent E) (part_walk E S c y x b r) (part_walk E S c g y (neighbours_without g t.place) t.holds) in
          let s : gateway E n S x ≡ g = gateway_one x g (record { place = t.place; holds = walk_part E S c g x w }) in
          d (port_other x (to_without S c x p i) ∙ ap (rank E n S) s ∙ sym (port_other y b)))

  -- one inside side k, the other outside: neighbour k is on the path
  pub neighbour_path : (x y k : ℕ) → T (S x) → T (S y) → 1 ≤ k → port E n S x ≡ k → (port E n S y ≡ k → ⊥) → OnPath (Adjacent E) x y (neighbour E n S k)
  unfolding side
  neighbour_path x y k p q low e d =
      let high : k ≤ degree E n S = omega (arith, port_high x p) in
      gated E ok n S C c (neighbour E n S k) x y (neighbour_adjacent k low high) (neighbour_without k low high) (port_side x k p low e) q
      (λ r. d (side_port k y r))
