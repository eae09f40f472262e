-- Question 19: "whose plan part a plan reading gives". The test passes exactly the parts that are read from some bytes.
use mathlib.Core.Path.{◌≡◌, refl, sym, ap, ap₂, ◌∙◌, subst}
use mathlib.Core.Logic.{◌↔◌}
use mathlib.Core.List.{List, [], ◌∷◌, ◌++◌, append_assoc, append-nil}
use mathlib.Core.Bool.{Bool, true, false, ◌&&◌}
use Prim.Native.Nat.{ℕ, zero, suc, ◌+◌, ◌-◌, ◌/◌, ◌%◌, ◌≤◌, ◌<◌, ◌^◌}
use native.Mathlib.Omega.{arith}
use lib.Dec.{T, eqb, ltb, leb, leb→le, le→leb}
use lib.ListN.{length, replicate, length-append, length-replicate}
use lib.IntN.{pos, negsuc}
use borrow.Author.Tests.{eq-eqb, ltb-true}
use Rattle.base.specs.Limits.{offset_zero, max_vertices, max_rows, max_width, max_reading}
use Rattle.base.specs.Pick.{pick}
use Rattle.base.proofs.Bools.{T_and, T-left, T-right, true→T}
use Rattle.varint.specs.Varint.{AllBytes, pieces, varint_bytes}
use Rattle.varint.specs.Reading.{varint_at}
use Rattle.varint.proofs.Laws.{all_bytes_append}
use Rattle.varint.proofs.RoundTrip.{varint_read_at}
use Rattle.signed.specs.Signed.{zigzag, offset, from_offset, offset_of_zigzag}
use Rattle.signed.proofs.RoundTrip.{unzigzag_zigzag, offset_from, offset_unzigzag}
use Rattle.tree.specs.Edges.{Edges}
use Rattle.tree.specs.Growth.{reached, growth_order}
use Rattle.tree.proofs.Growth.{grown_acyclic}
use Rattle.tree.proofs.GrowthOrder.{order_again, order_grown, order_below}
use Rattle.tree.proofs.GrowthComplete.{tree_length, tree_edges_at}
use Rattle.edges.specs.Rows.{rows}
use Rattle.edges.proofs.Rows.{rows_length, column_rows}
use Rattle.base.specs.Found.{Found, found, refused}
use Rattle.edges.specs.Reading.{edges_from}
use Rattle.plan.specs.Plan.{Plan}
use Rattle.plan.specs.Positions.{column, padded, tree_plan, range_plan}
use Rattle.plan.specs.Bytes.{edge_bytes, tree_bytes}
use Rattle.plan.specs.Reading.{ended, tree_from, range_from, plan_from, plan_of}
use Rattle.plan.specs.Valid.{all_zero, plan_valid}
use Rattle.plan_laws.specs.Statement.{Sized, Given}
use Rattle.plan_laws.proofs.Parts.{TreeParts, RangeParts, tree_parts, tree_made, range_parts, range_made, valid_tree, valid_range}
use Rattle.plan_laws.proofs.Shape.{GrownRows, fit_grown, grown_fit, grown_before, room_before, Kinds, tree, range, kinds, Shape, shape}
use Rattle.plan.proofs.Listed.{asked, ask_yes, grouped, Passing, passing_acyclic, passing_below, passing_degrees, after, edges_read}
use Rattle.plan_laws.proofs.Padding.{zeros, zeros_all, column_one, column_two, refill, filled_rest, filled_length}

-- ---- bytes

pieces_bytes : (f v : ℕ) → AllBytes (pieces f v)
unfolding pieces
pieces_bytes zero v zero = omega arith
pieces_bytes zero v (suc i) = omega arith
pieces_bytes (suc f) v i = go (ltb v 128) refl (pieces_bytes f (v / 128)) i
  where
    go : (b : Bool) → ltb v 128 ≡ b → AllBytes (pieces f (v / 128)) → AllBytes (pick b (v ∷ []) ((v % 128 + 128) ∷ pieces f (v / 128)))
    go true e h zero = omega (arith, ltb-true v 128 e)
    go true e h (suc i) = omega arith
    go false e h zero = omega arith
    go false e h (suc i) = h i

edge_bytes_lem : (F : Edges) → AllBytes (edge_bytes F)
unfolding edge_bytes
edge_bytes_lem [] = λ i. omega arith
edge_bytes_lem (e ∷ F) = all_bytes_append (edge_bytes F) (varint_bytes e.one ++ varint_bytes e.two) (edge_bytes_lem F) (all_bytes_append (varint_bytes e.one) (varint_bytes e.two) (pieces_bytes 4 e.one) (pieces_bytes 4 e.two))

-- ---- a tree

-- rows in growth order pass questions 7 to 9 as edges in that order
grown_passing : (v : ℕ) (F : Edges) → GrownRows v F → Passing v F
grown_passing v [] h = tt
grown_passing v (e ∷ F) h =
    let r = room_before v e F h in (
      record {
        one_below = h.below.0;
        two_below = h.below.1;
        apart = λ i. h.grown.1 (subst (λ (x : ℕ). T (reached F x)) i h.grown.0);
        not_joined_lem = (grown_acyclic (e ∷ F) h.grown).0;
        one_room = r.0;
        two_room = r.1;
      },
      grown_passing v F (grown_before v e F h),
    )

pub tree_bytes_lem : (v : ℕ) (F : Edges) → AllBytes (tree_bytes v F)
tree_bytes_lem v F = all_bytes_append (varint_bytes 1) (varint_bytes v ++ edge_bytes F) (pieces_bytes 4 1) (all_bytes_append (varint_bytes v) (edge_bytes F) (pieces_bytes 4 v) (edge_bytes_lem F))

tree_ended : (v : ℕ) (s : List ℕ) (at : ℕ) (F : Edges) → v ≤ 2 ^ 32 → length F ≡ v - 1 → GrownRows v F → (pre : List ℕ) → s ≡ pre ++ edge_bytes F → at ≡ length pre
    → edges_from v (v - 1) s at [] (λ E end. ended s end (tree_plan v (growth_order E))) ≡ found (tree_plan v F)
unfolding edges_from
tree_ended v s at F l m h pre es ea =
    ap₂ (λ (k a : ℕ). edges_from v k s a [] done) many ea
    ∙ edges_read v 0 s done F pre [] l (grown_passing v F h) (es ∙ ap (λ (t : List ℕ). pre ++ t) (sym (append-nil (edge_bytes F))))
    ∙ ask_yes (eqb past (length s)) 11 past (found (tree_plan v (growth_order F))) (true→T (eq-eqb past (length s) (sym (ap length es ∙ length-append pre (edge_bytes F)))))
    ∙ ap (λ (G : Edges). found (tree_plan v G)) (order_again F h.grown)
  where
    done : Edges → ℕ → Found Plan
    done E end = ended s end (tree_plan v (growth_order E))

    past : ℕ
    past = length pre + length (edge_bytes F)

    many : v - 1 ≡ length F + 0
    many = omega arith

tree_read : (v : ℕ) (F : Edges) → 1 ≤ v → v ≤ max_vertices → length F ≡ v - 1 → GrownRows v F → plan_of (tree_bytes v F) ≡ found (tree_plan v F)
unfolding plan_from
tree_read v F a b m h =
    rw (varint_read_at 1 s [] (varint_bytes v ++ edge_bytes F) 0 (omega arith) refl refl)
    (rw (varint_read_at v s (varint_bytes 1) (edge_bytes F) (0 + length (varint_bytes 1)) (omega arith) refl (omega arith))
    (ask_yes (leb 1 v && leb v max_vertices) 6 (0 + length (varint_bytes 1)) _ (T_and (leb 1 v) (leb v max_vertices) (le→leb 1 v a) (le→leb v max_vertices b))
    ∙ tree_ended v s (0 + length (varint_bytes 1) + length (varint_bytes v)) F (omega arith) m h (varint_bytes 1 ++ varint_bytes v) (sym (append_assoc (varint_bytes 1) (varint_bytes v) (edge_bytes F)))
    (sym (simp length-append (omega arith)))))
  where
    s : List ℕ
    s = varint_bytes 1 ++ (varint_bytes v ++ edge_bytes F)

-- a plan part of a tree that passes is the plan of its rows
tree_same : (p : Plan) → Sized p → p.kind ≡ 1 → TreeParts p → tree_plan p.count (rows p.parent p.child (p.count - 1)) ≡ p
tree_same p z k t =
    λ i. record { kind = sym k i; count = p.count; low = sym t.no_low i; parent = parents i; child = children i }
  where
    m : ℕ
    m = p.count - 1

    fits : m ≤ max_rows
    fits = omega (arith, t.most)

    parents : padded (column (λ e. e.one) (rows p.parent p.child m)) ≡ p.parent
    parents = ap padded (column_one p.parent p.child m (omega (arith, z.parents))) ∙ refill max_rows m p.parent z.parents fits t.parents

    children : padded (column (λ e. e.two) (rows p.parent p.child m)) ≡ p.child
    children = ap padded (column_two p.parent p.child m (omega (arith, z.children))) ∙ refill max_rows m p.child z.children fits t.children

-- the plan of rows in growth order passes
tree_passes : (v : ℕ) (F : Edges) → 1 ≤ v → v ≤ max_vertices → length F ≡ v - 1 → GrownRows v F → T (plan_valid (tree_plan v F))
tree_passes v F a b m h = subst T (valid_tree (tree_plan v F) refl refl) (tree_made (tree_plan v F) parts)
  where
    ps : List ℕ
    ps = padded (column (λ e. e.one) F)

    cs : List ℕ
    cs = padded (column (λ e. e.two) F)

    same : F ≡ rows ps cs (v - 1)
    same = sym (ap (rows ps cs) (sym m) ∙ column_rows F (replicate (max_rows - length (column (λ e. e.one) F)) 0) (replicate (max_rows - length (column (λ e. e.two) F)) 0))

    parts : TreeParts (tree_plan v F)
    parts =
        record {
          some = a;
          most = b;
          no_low = refl;
          fit = grown_fit v ps cs (v - 1) (subst (GrownRows v) same h);
          parents = filled_rest max_rows (v - 1) (λ e. e.one) F m;
          children = filled_rest max_rows (v - 1) (λ e. e.two) F m;
        }

-- ---- a range

low_group : ℕ → ℕ
low_group low = zigzag (from_offset low)

-- the group of a low reading stands for it
low_read : (low : ℕ) → low < 2 ^ 32 → offset_of_zigzag (low_group low) ≡ low
unfolding low_group
low_read low h = sym (offset_unzigzag (zigzag (from_offset low))) ∙ ap offset (unzigzag_zigzag (from_offset low)) ∙ offset_from low h

low_fits : (low : ℕ) → low < 2 ^ 32 → low_group low < 2 ^ 32
unfolding low_group
low_fits low h = go (leb offset_zero low) refl
  where
    go : (b : Bool) → leb offset_zero low ≡ b → zigzag (pick b (pos (low - offset_zero)) (negsuc (offset_zero - 1 - low))) < 2 ^ 32
    go true e = omega arith
    go false e = omega arith

range_bytes : ℕ → ℕ → List ℕ
range_bytes low width = varint_bytes 2 ++ (varint_bytes (low_group low) ++ varint_bytes width)

range_bytes_lem : (low width : ℕ) → AllBytes (range_bytes low width)
unfolding range_bytes
range_bytes_lem low width =
    all_bytes_append (varint_bytes 2) (varint_bytes (low_group low) ++ varint_bytes width) (pieces_bytes 4 2)
    (all_bytes_append (varint_bytes (low_group low)) (varint_bytes width) (pieces_bytes 4 (low_group low)) (pieces_bytes 4 width))

range_read : (low width : ℕ) → width ≤ max_width → low + width ≤ max_reading → plan_of (range_bytes low width) ≡ found (range_plan low width)
unfolding range_bytes plan_from
range_read low width a b =
    rw (varint_read_at 2 s [] (varint_bytes z ++ varint_bytes width) 0 (omega arith) refl refl)
    (rw (varint_read_at z s (varint_bytes 2) (varint_bytes width) (0 + length (varint_bytes 2)) (low_fits low (omega arith)) refl (omega arith))
    (rw (varint_read_at width s (varint_bytes 2 ++ varint_bytes z) [] second (omega arith) whole (sym (simp length-append (omega arith))), low_read low (omega arith))
    (ask_yes (leb width max_width && leb (low + width) max_reading) 10 second _ (T_and (leb width max_width) (leb (low + width) max_reading) (le→leb width max_width a) (le→leb (low + width) max_reading b))
    ∙ ask_yes (eqb (second + length (varint_bytes width)) (length s)) 11 (second + length (varint_bytes width)) (found (range_plan low width))
    (true→T (eq-eqb (second + length (varint_bytes width)) (length s) (sym (simp length-append (omega arith))))))))
  where
    z : ℕ
    z = low_group low

    s : List ℕ
    s = varint_bytes 2 ++ (varint_bytes z ++ varint_bytes width)

    second : ℕ
    second = 0 + length (varint_bytes 2) + length (varint_bytes z)

    whole : s ≡ (varint_bytes 2 ++ varint_bytes z) ++ (varint_bytes width ++ [])
    whole = sym (append_assoc (varint_bytes 2) (varint_bytes z) (varint_bytes width ++ []) ∙ ap (λ (t : List ℕ). varint_bytes 2 ++ (varint_bytes z ++ t)) (append-nil (varint_bytes width)))

range_same : (p : Plan) → Sized p → p.kind ≡ 2 → RangeParts p → range_plan p.low (p.count - 1) ≡ p
range_same p z k t =
    λ i. record { kind = sym k i; count = count i; low = p.low; parent = sym (rest p.parent z.parents t.parents) i; child = sym (rest p.child z.children t.children) i }
  where
    count : p.count - 1 + 1 ≡ p.count
    count = omega (arith, t.some)

    rest : (l : List ℕ) → length l ≡ max_rows → T (all_zero l) → l ≡ replicate max_rows 0
    rest l e h = zeros l h ∙ ap (λ (n : ℕ). replicate n 0) e

range_passes : (low width : ℕ) → width ≤ max_width → low + width ≤ max_reading → T (plan_valid (range_plan low width))
range_passes low width a b =
    subst T (valid_range (range_plan low width) refl refl)
    (range_made (range_plan low width) (record { some = omega arith; most = omega arith; high = omega arith; parents = zeros_all max_rows; children = zeros_all max_rows }))

-- ---- what is found

-- a plan that is found has columns of the right size and passes
pub record Good (p : Plan) : Type 0 where
  pub sized : Sized p
  pub passes : T (plan_valid p)

tree_found : (s : List ℕ) (at : ℕ) (p : Plan) → tree_from s at ≡ found p → Good p
tree_found s at p e =
    let one = grouped at (varint_at s at) _ p e in
    let v = one.0 in
    let six = asked (leb 1 v && leb v max_vertices) 6 at _ p one.3 in
    let a = leb→le 1 v (T-left (leb 1 v) (leb v max_vertices) six.0) in
    let b = leb→le v max_vertices (T-right (leb 1 v) (leb v max_vertices) six.0) in
    let all = after v s (λ E end. ended s end (tree_plan v (growth_order E))) p (v - 1) one.1 [] tt six.1 in
    let eleven = asked (eqb all.past (length s)) 11 all.past (found (tree_plan v (growth_order all.edges))) p all.last in
    let i : tree_plan v (growth_order all.edges) ≡ p = same_found eleven.1 in
    subst Good i (good v all.edges a b (omega (arith, all.many)) all.passing)
  where
    same_found : {x y : Plan} → found x ≡ found y → x ≡ y
    same_found e = cc

    good : (v : ℕ) (E : Edges) → 1 ≤ v → v ≤ max_vertices → length E ≡ v - 1 → Passing v E → Good (tree_plan v (growth_order E))
    good v E a b m h =
        let F : Edges = growth_order E in
        let n : length F ≡ v - 1 = tree_length v E a (passing_below v E h) (passing_acyclic v E h) m in
        let g : GrownRows v F =
        record {
          grown = order_grown E;
          below = order_below v E (passing_below v E h);
          degrees = λ x. omega (arith, tree_edges_at v E a (passing_below v E h) (passing_acyclic v E h) m x, passing_degrees v E h x);
        }
        in
        record {
          sized = record { parents = filled_length max_rows (λ e. e.one) F (omega arith); children = filled_length max_rows (λ e. e.two) F (omega arith) };
          passes = tree_passes v F a b n g;
        }

range_found : (s : List ℕ) (at : ℕ) (p : Plan) → range_from s at ≡ found p → Good p
range_found s at p e =
    let one = grouped at (varint_at s at) _ p e in
    let two = grouped one.1 (varint_at s one.1) _ p one.3 in
    let low = offset_of_zigzag one.0 in
    let width = two.0 in
    let ten = asked (leb width max_width && leb (low + width) max_reading) 10 one.1 _ p two.3 in
    let eleven = asked (eqb two.1 (length s)) 11 two.1 (found (range_plan low width)) p ten.1 in
    let i : range_plan low width ≡ p = same_found eleven.1 in
    subst Good i
    (record {
      sized = record { parents = length-replicate {A = ℕ} max_rows 0; children = length-replicate {A = ℕ} max_rows 0 };
      passes = range_passes low width (leb→le width max_width (T-left (leb width max_width) (leb (low + width) max_reading) ten.0))
          (leb→le (low + width) max_reading (T-right (leb width max_width) (leb (low + width) max_reading) ten.0));
    })
  where
    same_found : {x y : Plan} → found x ≡ found y → x ≡ y
    same_found e = cc

pub found_good : (s : List ℕ) (p : Plan) → plan_of s ≡ found p → Good p
unfolding plan_from
found_good s p e =
    let one = grouped 0 (varint_at s 0) _ p e in
    go one.0 one.1 (eqb one.0 1) (eqb one.0 2) one.3
  where
    go : (kind next : ℕ) (a b : Bool) → pick a (tree_from s next) (pick b (range_from s next) (refused 5 0)) ≡ found p → Good p
    go kind next true b e = tree_found s next p e
    go kind next false true e = range_found s next p e
    go kind next false false e = let z : ◌≡◌ {A = ℕ} 0 1 = cc in absurd (omega arith)

-- ---- the test passes exactly what a plan reading gives

valid_given : (p : Plan) → Sized p → T (plan_valid p) → Given p
valid_given p z h = go (kinds p h)
  where
    go : Kinds p → Given p
    go (tree k v) =
        let t = tree_parts p v in
        let F : Edges = rows p.parent p.child (p.count - 1) in (
          tree_bytes p.count F,
          tree_bytes_lem p.count F,
          tree_read p.count F t.some t.most (rows_length p.parent p.child (p.count - 1)) (fit_grown p.count p.parent p.child (p.count - 1) t.fit)
              ∙ ap found (tree_same p z k t),
        )
    go (range k v) =
        let t = range_parts p v in (
          range_bytes p.low (p.count - 1),
          range_bytes_lem p.low (p.count - 1),
          range_read p.low (p.count - 1) (omega (arith, t.most)) t.high ∙ ap found (range_same p z k t),
        )

pub given : (p : Plan) → Sized p → T (plan_valid p) ↔ Given p
given p z = (valid_given p z, λ g. (found_good g.0 p g.2).passes)

-- so every plan that a plan reading gives is a tree or a path within the limits
pub given_shape : (p : Plan) → Given p → Shape p
given_shape p g = shape p (found_good g.0 p g.2).passes
