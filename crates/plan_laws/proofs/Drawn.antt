-- "an edge of the plan" is an edge that the plan's bytes draw: `edges_of` of a tree is the rows that are kept, and these join what the listed edges join.
-- The edges of a range are those of the path along it: `edges_range` of Shape.antt; its readings are those that its bytes say.
use mathlib.Core.Path.{◌≡◌, refl, sym, ap, ◌∙◌, subst}
use mathlib.Core.Logic.{◌↔◌}
use mathlib.Core.Bool.{Bool, true, false, ◌&&◌}
use mathlib.Core.List.{List, []}
use Prim.Native.Nat.{ℕ, ◌+◌, ◌-◌, ◌^◌, ◌≤◌, ◌<◌}
use native.Mathlib.Omega.{arith}
use lib.Dec.{eqb, leb, leb→le, eqb→eq}
use lib.IntN.{ℤ, pos, ◌+ℤ◌}
use Rattle.std.specs.Prelude.{Ok}
use lib.ListN.{length, replicate}
use Rattle.base.specs.Pick.{pick}
use Rattle.base.specs.Limits.{max_rows, max_vertices, max_width, max_reading}
use Rattle.base.proofs.Bools.{T-left, true→T}
use Rattle.varint.specs.Varint.{AllBytes}
use Rattle.varint.specs.Reading.{value, varint_at}
use Rattle.varint.proofs.RoundTrip.{varint_was_written}
use Rattle.signed.specs.Signed.{unzigzag, signed_of, signed_at, from_offset, offset_of_zigzag}
use Rattle.signed.proofs.RoundTrip.{zigzag_unzigzag, unzigzag_mag}
use Rattle.tree.specs.Edges.{Edges, Adjacent}
use Rattle.tree.specs.Growth.{growth_order}
use Rattle.tree.proofs.GrowthOrder.{order_adjacent}
use Rattle.tree.proofs.GrowthComplete.{tree_length, tree_adjacent}
use Rattle.base.specs.Found.{Found, found, refused}
use Rattle.edges.specs.Inner.{Listed, edges_of_tree}
use Rattle.edges.specs.Rows.{rows}
use Rattle.edges.proofs.Rows.{column_rows}
use Rattle.plan.specs.Plan.{Plan}
use Rattle.plan.specs.Positions.{edges_of, reading_of, column, tree_plan, range_plan}
use Rattle.plan.specs.Reading.{ended, tree_from, range_from, plan_from, plan_of}
use Rattle.plan_laws.proofs.Shape.{edges_tree}
use Rattle.plan_laws.proofs.Readings.{reading_sum, low_reading}
use Rattle.plan.proofs.Listed.{asked, grouped, Passing, passing_acyclic, passing_below, after, made, edges_made}

-- the bytes s draw the tree p
pub record Drawn (s : List ℕ) (p : Plan) : Type 0 where
  pub second : ℕ
  pub third : ℕ
  pub listed : Edges
  -- kind 1, then the vertex count
  pub kind : varint_at s 0 ≡ value 1 second
  pub count : varint_at s second ≡ value p.count third
  -- then these edges, to the end of the bytes
  pub edges : edges_of_tree p.count s third ≡ found (record { edges = listed; past = length s })
  -- they join two positions where the plan's edges do, and nowhere else
  pub same : (x y : ℕ) → Adjacent listed x y ↔ Adjacent (edges_of p) x y

-- the edges of a tree's plan are its rows
tree_edges : (v : ℕ) (F : Edges) → length F ≡ v - 1 → edges_of (tree_plan v F) ≡ F
tree_edges v F n =
    edges_tree (tree_plan v F) refl
    ∙ ap (rows (tree_plan v F).parent (tree_plan v F).child) (sym n)
    ∙ column_rows F (replicate (max_rows - length (column (λ e. e.one) F)) 0) (replicate (max_rows - length (column (λ e. e.two) F)) 0)

-- v - 1 edges that pass: the kept ones join the same positions
same_adjacent : (v : ℕ) (E : Edges) → 1 ≤ v → Passing v E → length E ≡ v - 1 → (x y : ℕ) → Adjacent E x y ↔ Adjacent (edges_of (tree_plan v (growth_order E))) x y
same_adjacent v E a h m x y =
    let below = passing_below v E h in
    let acyclic = passing_acyclic v E h in
    subst (λ (F : Edges). Adjacent E x y ↔ Adjacent F x y) (sym (tree_edges v (growth_order E) (tree_length v E a below acyclic m)))
    (tree_adjacent v E a below acyclic m x y, order_adjacent E x y)

same_found : {A : Type 0} {x y : A} → found x ≡ found y → x ≡ y
same_found e = cc

-- a listed tree, from its vertex count on
tree_drawn : (s : List ℕ) (at : ℕ) (p : Plan) → varint_at s 0 ≡ value 1 at → tree_from s at ≡ found p → Drawn s p
tree_drawn s at p k e =
    let one = grouped at (varint_at s at) _ p e in
    let v = one.0 in
    let six = asked (leb 1 v && leb v max_vertices) 6 at _ p one.3 in
    go v one.1 one.2 (leb→le 1 v (T-left (leb 1 v) (leb v max_vertices) six.0)) (edges_of_tree v s one.1) refl
    (sym (edges_made v (v - 1) s one.1 [] (λ E end. ended s end (tree_plan v (growth_order E)))) ∙ six.1)
  where
    drawn_by : (v next : ℕ) → varint_at s at ≡ value v next → 1 ≤ v → (E : Edges) (end : ℕ) → edges_of_tree v s next ≡ found (record { edges = E; past = end })
        → end ≡ length s → Passing v E → length E ≡ v - 1 → Drawn s (tree_plan v (growth_order E))
    drawn_by v next c a E end i last h m = record {
      second = at;
      third = next;
      listed = E;
      kind = k;
      count = c;
      edges = i ∙ ap (λ (n : ℕ). found (record { edges = E; past = n })) last;
      same = same_adjacent v E a h m;
    }

    go : (v next : ℕ) → varint_at s at ≡ value v next → 1 ≤ v → (l : Found Listed) → edges_of_tree v s next ≡ l
        → made l (λ E end. ended s end (tree_plan v (growth_order E))) ≡ found p → Drawn s p
    go v next c a (refused number place) i x = let z : ◌≡◌ {A = ℕ} 0 1 = cc in absurd (omega arith)
    go v next c a (found l) i x =
        let eleven = asked (eqb l.past (length s)) 11 l.past (found (tree_plan v (growth_order l.edges))) p x in
        let all = after v s (λ E end. found (record { edges = E; past = end })) l (v - 1) next [] tt i in
        let w : record { edges = all.edges; past = all.past } ≡ l = same_found all.last in
        let f : all.edges ≡ l.edges = ap (λ (y : Listed). y.edges) w in
        subst (Drawn s) (same_found eleven.1)
        (drawn_by v next c a l.edges l.past i (eqb→eq l.past (length s) eleven.0)
        (subst (Passing v) f all.passing) (omega (arith, ap length f, all.many)))

-- what a range that is found is made of: the varint of its low reading, where that ends, and its width
range_read : (s : List ℕ) (at : ℕ) (p : Plan) → range_from s at ≡ found p
    → (v : ℕ) × (next : ℕ) × (width : ℕ) × (varint_at s at ≡ value v next) × (varint_at s next ≡ value width (length s)) × (range_plan (offset_of_zigzag v) width ≡ p)
range_read s at p e =
    let one = grouped at (varint_at s at) _ p e in
    let two = grouped one.1 (varint_at s one.1) _ p one.3 in
    let low = offset_of_zigzag one.0 in
    let ten = asked (leb two.0 max_width && leb (low + two.0) max_reading) 10 one.1 _ p two.3 in
    let eleven = asked (eqb two.1 (length s)) 11 two.1 (found (range_plan low two.0)) p ten.1 in
    (one.0, one.1, two.0, one.2, two.2 ∙ ap (value two.0) (eqb→eq two.1 (length s) eleven.0), same_found eleven.1)

-- a range is not a tree
range_kind : (s : List ℕ) (at : ℕ) (p : Plan) → range_from s at ≡ found p → p.kind ≡ 2
range_kind s at p e = ap (λ (q : Plan). q.kind) (sym (range_read s at p e).5)

-- nor a tree a range
tree_kind : (s : List ℕ) (at : ℕ) (p : Plan) → tree_from s at ≡ found p → p.kind ≡ 1
tree_kind s at p e =
    let one = grouped at (varint_at s at) _ p e in
    let v = one.0 in
    let six = asked (leb 1 v && leb v max_vertices) 6 at _ p one.3 in
    let all = after v s (λ E end. ended s end (tree_plan v (growth_order E))) p (v - 1) one.1 [] tt six.1 in
    let eleven = asked (eqb all.past (length s)) 11 all.past (found (tree_plan v (growth_order all.edges))) p all.last in
    ap (λ (q : Plan). q.kind) (sym (same_found eleven.1))

-- what a plan that is found was read as, by the kind that stands first
data ReadAs (s : List ℕ) (p : Plan) : Type 0 where
  tree : (next : ℕ) → varint_at s 0 ≡ value 1 next → tree_from s next ≡ found p → ReadAs s p
  range : (next : ℕ) → varint_at s 0 ≡ value 2 next → range_from s next ≡ found p → ReadAs s p

read_as : (s : List ℕ) (p : Plan) → plan_of s ≡ found p → ReadAs s p
unfolding plan_from
read_as s p e =
    let one = grouped 0 (varint_at s 0) _ p e in
    go one.0 one.1 one.2 (eqb one.0 1) refl (eqb one.0 2) refl one.3
  where
    at : (kind next k : ℕ) → varint_at s 0 ≡ value kind next → eqb kind k ≡ true → varint_at s 0 ≡ value k next
    at kind next k i t = i ∙ ap (λ (z : ℕ). value z next) (eqb→eq kind k (true→T t))

    go : (kind next : ℕ) → varint_at s 0 ≡ value kind next → (a : Bool) → eqb kind 1 ≡ a → (b : Bool) → eqb kind 2 ≡ b
        → pick a (tree_from s next) (pick b (range_from s next) (refused 5 0)) ≡ found p → ReadAs s p
    go kind next i true t b r e = tree next (at kind next 1 i t) e
    go kind next i false t true r e = range next (at kind next 2 i r) e
    go kind next i false t false r e = let z : ◌≡◌ {A = ℕ} 0 1 = cc in absurd (omega arith)

-- the bytes of every tree that is found
pub drawn : (s : List ℕ) (p : Plan) → plan_of s ≡ found p → p.kind ≡ 1 → Drawn s p
drawn s p e k = go (read_as s p e)
  where
    go : ReadAs s p → Drawn s p
    go (tree next i t) = tree_drawn s next p i t
    go (range next i r) = let z = range_kind s next p r in absurd (omega arith)

-- ---- ranges

-- the bytes s draw the range p
pub record DrawnRange (s : List ℕ) (p : Plan) : Type 0 where
  pub second : ℕ
  pub third : ℕ
  pub low : ℤ
  pub width : ℕ
  -- kind 2, then the signed low reading, then the width, to the end of the bytes
  pub kind : varint_at s 0 ≡ value 2 second
  pub first : signed_at s second ≡ Ok (record { value = low; next = third })
  pub last : varint_at s third ≡ value width (length s)
  -- positions 0 to width; "Position p of a range is reading low + p"
  pub count : p.count ≡ width + 1
  pub readings : (x : ℕ) → reading_of p x ≡ low +ℤ pos x

-- the number that a varint of 32 bits stands for, by offset binary
low_number : (v : ℕ) → v < 2 ^ 32 → from_offset (offset_of_zigzag v) ≡ unzigzag v
low_number v h = ap (λ (u : ℕ). from_offset (offset_of_zigzag u)) (sym (zigzag_unzigzag v)) ∙ low_reading (unzigzag v) (unzigzag_mag v h)

range_drawn : (s : List ℕ) (at : ℕ) (p : Plan) → AllBytes s → varint_at s 0 ≡ value 2 at → range_from s at ≡ found p → DrawnRange s p
range_drawn s at p all k e = go (range_read s at p e)
  where
    go : (v : ℕ) × (next : ℕ) × (width : ℕ) × (varint_at s at ≡ value v next) × (varint_at s next ≡ value width (length s)) × (range_plan (offset_of_zigzag v) width ≡ p)
        → DrawnRange s p
    go (v, next, width, i, j, f) =
        subst (DrawnRange s) f
        (record {
          second = at;
          third = next;
          low = unzigzag v;
          width = width;
          kind = k;
          first = ap signed_of i;
          last = j;
          count = refl;
          readings = λ x. reading_sum (range_plan (offset_of_zigzag v) width) refl x ∙ ap (λ (z : ℤ). z +ℤ pos x) (low_number v (varint_was_written s at v next all i).0);
        })

-- the bytes of every range that is found
pub drawn_range : (s : List ℕ) (p : Plan) → AllBytes s → plan_of s ≡ found p → p.kind ≡ 2 → DrawnRange s p
drawn_range s p all e k = go (read_as s p e)
  where
    go : ReadAs s p → DrawnRange s p
    go (tree next i t) = let z = tree_kind s next p t in absurd (omega arith)
    go (range next i r) = range_drawn s next p all i r
