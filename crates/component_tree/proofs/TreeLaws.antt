-- Components of a tree: what the passes over its rows find is the centre, its neighbours, and the ports of all positions.
use mathlib.Core.Path.{◌≡◌, refl, sym, ap, ◌∙◌, subst, fun_ext}
use mathlib.Core.List.{List}
use mathlib.Core.Bool.{Bool, true, false, not, ◌&&◌, ◌||◌}
use Prim.Native.Nat.{ℕ, suc, ◌≤◌, ◌<◌}
use native.Mathlib.Decide.{ℕ_discrete, dec_lt}
use native.Mathlib.Omega.{arith}
use lib.Dec.{T, eqb, eqb→eq, eqb_refl, ltb, not_T}
use lib.ListN.{length, get_or, set, replicate, length-set}
use lib.Seq.{get_or-set_same, get_or-set_other}
use borrow.Author.Tests.{eq-eqb, ne_eqb, lt-ltb, le-ltb}
use Rattle.base.specs.Limits.{max_vertices}
use Rattle.base.specs.Pick.{pick, smallest}
use Rattle.base.specs.Sets.{Set, bit, count}
use Rattle.base.proofs.Bools.{T_and, T-left, T-right, T→true, not-T→false, T-dec}
use Rattle.base.proofs.Counts.{member, count_le, count_lt, count_pos}
use Rattle.base.proofs.Ranks.{count_grow}
use Rattle.tree.specs.Edges.{Edges, Adjacent, label, joined, adjacent}
use Rattle.tree.specs.Inner.{Acyclic, unshown}
use Rattle.tree.specs.Component.{without, part, centre, neighbours, degree, rank, neighbour, side, port}
use Rattle.tree.proofs.Edges.{adjacent→, adjacent←}
use Rattle.tree.proofs.Acyclic.{irreflexive}
use Rattle.tree.proofs.Without.{to_without}
use Rattle.tree.proofs.Parts.{one_neighbour}
use Rattle.tree.proofs.Sides.{centre_member, neighbour_member, neighbour_adjacent, neighbour_rank, neighbour_port, port_centre, port_low, port_high, port_side}
use Rattle.tree.proofs.Growth.{grown_acyclic}
use Rattle.tree.proofs.GrowthLight.{centre_unshown}
use Rattle.tree.proofs.Components as X
use Rattle.marks.specs.Marks.{marked, numbered}
use Rattle.marks.proofs.Marks.{marked_same, marked_other, blank, mark_bit}
use Rattle.component_tree.specs.Inner.{tree, OfTree, Ports, Apart}
use Rattle.component_tree.proofs.Passes.{Ranked}

-- ---- the marks without c

unmark : (ins : List ℕ) (c : ℕ) → c < length ins → marked (set ins c 0) ≡ without (marked ins) c
unfolding without
unmark ins c l = fun_ext (λ x. go x (ℕ_discrete x c))
  where
    and_true : (a : Bool) → a ≡ a && true
    and_true true = refl
    and_true false = refl

    and_false : (a : Bool) → false ≡ a && false
    and_false true = refl
    and_false false = refl

    go : (x : ℕ) → Dec (x ≡ c) → marked (set ins c 0) x ≡ marked ins x && not (eqb x c)
    go x (yes e) = rw (eq-eqb x c e, e) (marked_same ins c 0 l ∙ and_false (marked ins c))
    go x (no d) = rw (ne_eqb x c d) (marked_other ins c x 0 d ∙ and_true (marked ins x))

module _ {ps cs : List ℕ} {n : ℕ} {S : Set} (O : OfTree ps cs n S) where
  abbrev E : Edges
  E = tree ps cs n

  ok : Acyclic (tree ps cs n)
  ok = grown_acyclic (tree ps cs n) O.grows.grown

  C : X.Component (tree ps cs n) n S
  C = let r = member n S O.some in record { member = (r.0, r.2); below = O.below; connected = O.joins }

  -- ---- the centre

  pub tree_centre : {c : ℕ} → c ≡ smallest n (unshown (tree ps cs n) n S) → c ≡ centre (tree ps cs n) n S
  tree_centre e = e ∙ sym (centre_unshown n S (tree ps cs n) O.grows.grown O.grows.below O.grows.some C)

  -- its neighbours' ranks are their ports
  rank_port : (w : ℕ) → T (neighbours (tree ps cs n) n S w) → rank (tree ps cs n) n S w ≡ port (tree ps cs n) n S w
  unfolding rank degree neighbours
  rank_port w h =
      let N : Set = neighbours E n S in
      let low : 1 ≤ count (suc w) N = count_pos (suc w) N w (omega arith) h in
      let high : count (suc w) N ≤ count n N = count_grow N (suc w) n (O.below w (T-left (S w) _ h)) in
      sym (neighbour_port E ok n S C (count (suc w) N) low high) ∙ ap (port E n S) (neighbour_rank E ok n S C w h)

  -- there are fewer than positions
  pub degree_most : degree (tree ps cs n) n S < n
  unfolding degree neighbours
  degree_most =
      let c : ℕ = centre E n S in
      let d : T (neighbours E n S c) → ⊥ = λ h. irreflexive E ok c (adjacent→ E c c (T-right (S c) _ h)) in
      omega (
        arith,
        count_lt n (neighbours E n S) (λ _. true) (λ _ _ _. tt) c (O.below c (centre_member E ok n S C)) tt (not_T (neighbours E n S c) d),
        count_le n (λ _. true),
      )

  -- neighbour k is beside the centre
  module _ (k : ℕ) (low : 1 ≤ k) (most : k ≤ degree (tree ps cs n) n S) where
    pub neighbour_is : T (neighbours (tree ps cs n) n S (neighbour (tree ps cs n) n S k))
    unfolding neighbours
    neighbour_is =
        let w : ℕ = neighbour E n S k in
        T_and (S w) _ (neighbour_member E ok n S C k low most) (adjacent← E (centre E n S) w (neighbour_adjacent E ok n S C k low most))

  module _ {c : ℕ} (at : c ≡ centre (tree ps cs n) n S) where
    inside : T (S c)
    inside = subst (λ (z : ℕ). T (S z)) (sym at) (centre_member E ok n S C)

    pub centre_below : c < n
    centre_below = O.below c inside

    -- its neighbours in the set, and that they are not it
    beside : (w : ℕ) → T (neighbours (tree ps cs n) n S w) → Adjacent (tree ps cs n) c w × T (without S c w)
    unfolding neighbours
    beside w h =
        let a : Adjacent E c w = adjacent→ E c w (rw at (T-right (S w) _ h)) in
        (a, to_without S c w (T-left (S w) _ h) (λ e. irreflexive E ok c (subst (Adjacent E c) e a)))

-- ---- the numbers that the passes find: of the marks `ins`, and of those without the centre's

module _ (ps cs : List ℕ) (n : ℕ) (ins : List ℕ) (O : OfTree ps cs n (marked ins)) (c : ℕ) (at : c ≡ centre (tree ps cs n) n (marked ins)) (room : n ≤ length (set ins c 0)) where
  abbrev T' : Edges
  T' = tree ps cs n

  abbrev M : Set
  M = marked ins

  place : c < length ins
  place = omega (arith, centre_below O at, simp length-set at room)

  out : marked (set ins c 0) ≡ without (marked ins) c
  out = unmark ins c place

  pub out_at : get_or (set ins c 0) c 0 ≡ 0
  out_at = get_or-set_same ins c 0 0 place

  -- the centre's neighbours, where nothing was marked
  pub near_is : (near : List ℕ) (z : ℕ) → ((x : ℕ) → marked near x ≡ (marked (replicate z 0) x || (marked (set ins c 0) x && adjacent (tree ps cs n) c x)))
      → marked near ≡ neighbours (tree ps cs n) n (marked ins)
  unfolding neighbours
  near_is near z h = fun_ext (λ x. h x ∙ ap (λ (b : Bool). b || (marked (set ins c 0) x && adjacent T' c x)) (blank z x) ∙ go x (ℕ_discrete x c) ∙ ap (λ (y : ℕ). M x && adjacent T' y x) at)
    where
      and_false : (a b : Bool) → a && false ≡ b && false
      and_false true true = refl
      and_false true false = refl
      and_false false true = refl
      and_false false false = refl

      go : (x : ℕ) → Dec (x ≡ c) → marked (set ins c 0) x && adjacent T' c x ≡ M x && adjacent T' c x
      go x (yes e) = rw (not-T→false (adjacent T' c x) (λ t. irreflexive T' (ok O) c (subst (Adjacent T' c) e (adjacent→ T' c x t)))) (and_false (marked (set ins c 0) x) (M x))
      go x (no d) = ap (λ (b : Bool). b && adjacent T' c x) (marked_other ins c x 0 d)

  module _ (labels near : List ℕ) (told : (x : ℕ) → x < n → get_or labels x 0 ≡ label (marked (set ins c 0)) (tree ps cs n) x) (is : marked near ≡ neighbours (tree ps cs n) n (marked ins)) where
    label_is : (x : ℕ) → x < n → get_or labels x 0 ≡ label (without (marked ins) c) (tree ps cs n) x
    label_is x l = told x l ∙ ap (λ (R : Set). label R T' x) out

    pub degree_is : {r : ℕ} → r ≡ count n (marked near) → r ≡ degree (tree ps cs n) n (marked ins)
    unfolding degree
    degree_is e = e ∙ ap (count n) is

    -- a part has one neighbour only, so that its label says which
    pub apart : Apart near labels n
    unfolding part joined
    apart w x lw lx tw tx e =
        let a = beside O at w (subst (λ (R : Set). T (R w)) is tw) in
        let b = beside O at x (subst (λ (R : Set). T (R x)) is tx) in
        let j : label (without M c) T' x ≡ label (without M c) T' w = sym (label_is x lx) ∙ sym e ∙ label_is w lw in
        one_neighbour T' (ok O) n M (C O) c w x a.0 b.0 a.1 (T_and (without M c x) _ b.1 (rw j (eqb_refl (label (without M c) T' w))))

    pub few : count n (marked near) < max_vertices
    few = omega (arith, degree_is refl, degree_most O, O.most)

    module _ (table : List ℕ) (ranked : Ranked near labels n table) where
      -- at the label of a member other than the centre stands its number
      number_at : (x : ℕ) → T (marked ins x) → (x ≡ c → ⊥) → get_or table (get_or labels x 0) 0 ≡ suc (port (tree ps cs n) n (marked ins) x)
      unfolding side part joined rank
      number_at x s d =
          let k : ℕ = port T' n M x in
          let low : 1 ≤ k = port_low T' (ok O) n M (C O) x s (λ e. d (e ∙ sym at)) in
          let high : k ≤ degree T' n M = port_high T' (ok O) n M (C O) x s in
          let w : ℕ = neighbour T' n M k in
          let near-w : T (neighbours T' n M w) = neighbour_is O k low high in
          let p : T (part T' M c w x) = subst (λ (z : ℕ). T (part T' M z w x)) (sym at) (port_side T' (ok O) n M (C O) x k s low refl) in
          let lw : w < n = O.below w (neighbour_member T' (ok O) n M (C O) k low high) in
          let j : label (without M c) T' x ≡ label (without M c) T' w = eqb→eq (label (without M c) T' x) (label (without M c) T' w) (T-right (without M c x) _ p) in
          ap (λ (z : ℕ). get_or table z 0) (label_is x (O.below x s) ∙ j ∙ sym (label_is w lw))
          ∙ ranked w lw (subst (λ (R : Set). T (R w)) (sym is) near-w)
          ∙ ap (λ (R : Set). suc (count (suc w) R)) is
          ∙ ap suc (rank_port O w near-w ∙ neighbour_port T' (ok O) n M (C O) k low high)

      pub ports_are : (numbers : List ℕ) → c < length numbers → ((x : ℕ) → get_or ins x 0 ≤ 1)
          → ((x : ℕ) → get_or numbers x 0 ≡ pick (ltb x n) (pick (marked (set ins c 0) x) (get_or table (get_or labels x 0) 0) 0) (get_or (set ins c 0) x 0))
          → Ports (tree ps cs n) n (marked ins) (set numbers c 1)
      ports_are numbers lc flat h x = go (ℕ_discrete x c)
        where
          away : (x ≡ c → ⊥) → Dec (x < n) → Dec (T (M x))
              → pick (ltb x n) (pick (marked (set ins c 0) x) (get_or table (get_or labels x 0) 0) 0) (get_or (set ins c 0) x 0) ≡ pick (M x) (suc (port T' n M x)) 0
          away d (yes l) (yes s) = rw (lt-ltb x n l, marked_other ins c x 0 d, T→true (M x) s) (number_at x s d)
          away d (yes l) (no s) = rw (lt-ltb x n l, marked_other ins c x 0 d, not-T→false (M x) s)
          away d (no l) (yes s) = absurd (l (O.below x s))
          away d (no l) (no s) =
              rw (le-ltb x n (omega arith), not-T→false (M x) s) (get_or-set_other ins c x 0 0 d ∙ mark_bit ins x (flat x) ∙ ap bit (not-T→false (M x) s))

          go : Dec (x ≡ c) → get_or (set numbers c 1) x 0 ≡ pick (M x) (suc (port T' n M x)) 0
          go (yes e) =
              rw (e, T→true (M c) (inside O at)) (get_or-set_same numbers c 1 0 lc ∙ ap suc (sym (ap (port T' n M) at ∙ port_centre T' (ok O) n M (C O))))
          go (no d) = get_or-set_other numbers c x 1 0 d ∙ h x ∙ away d (dec_lt x n) (T-dec (M x))

-- ---- where the numbers stand: the set is that of the positions with a number

module _ (ps cs : List ℕ) (n : ℕ) (ports : List ℕ) (O : OfTree ps cs n (numbered ports)) (numbers : Ports (tree ps cs n) n (numbered ports) ports) where
  abbrev F : Edges
  F = tree ps cs n

  abbrev P : Set
  P = numbered ports

  number_in : (x : ℕ) → T (numbered ports x) → get_or ports x 0 ≡ suc (port (tree ps cs n) n (numbered ports) x)
  number_in x s = numbers x ∙ rw (T→true (P x) s)

  -- a number other than 0 is that of a member
  member_at : (x k : ℕ) → get_or ports x 0 ≡ suc k → T (numbered ports x)
  unfolding numbered
  member_at x k e = not_T (eqb (get_or ports x 0) 0) (λ h. omega (arith, eqb→eq (get_or ports x 0) 0 h))

  port_at_lem : (x k : ℕ) → get_or ports x 0 ≡ suc k → port (tree ps cs n) n (numbered ports) x ≡ k
  port_at_lem x k e = omega (arith, number_in x (member_at x k e))

  module _ (c : ℕ) (at : c ≡ centre (tree ps cs n) n (numbered ports)) (k : ℕ) (low : 1 ≤ k) (most : k ≤ degree (tree ps cs n) n (numbered ports)) where
    -- neighbour k is beside the centre
    pub neighbour_beside : T (adjacent (tree ps cs n) c (neighbour (tree ps cs n) n (numbered ports) k))
    neighbour_beside = rw at (adjacent← F (centre F n P) (neighbour F n P k) (neighbour_adjacent F (ok O) n P (C O) k low most))

    -- and has the number k + 1
    pub neighbour_number : get_or ports (neighbour (tree ps cs n) n (numbered ports) k) 0 ≡ suc k
    neighbour_number = number_in (neighbour F n P k) (neighbour_member F (ok O) n P (C O) k low most) ∙ ap suc (neighbour_port F (ok O) n P (C O) k low most)

    -- nothing else does
    pub neighbour_one : (x : ℕ) → T (adjacent (tree ps cs n) c x) → get_or ports x 0 ≡ suc k → x ≡ neighbour (tree ps cs n) n (numbered ports) k
    unfolding neighbours
    neighbour_one x a e =
        let h : T (neighbours F n P x) = T_and (P x) _ (member_at x k e) (subst (λ (z : ℕ). T (adjacent F z x)) at a) in
        sym (neighbour_rank F (ok O) n P (C O) x h) ∙ ap (neighbour F n P) (rank_port O x h ∙ port_at_lem x k e)
