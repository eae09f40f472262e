-- The edges of a list: none, and one more.
use mathlib.Core.Path.{◌≡◌, refl, sym, ap, ap₂, ◌∙◌, subst}
use mathlib.Core.List.{List, [], ◌∷◌}
use mathlib.Core.Bool.{Bool, true, false, ◌||◌}
use Prim.Native.Nat.{ℕ, zero, suc, ◌+◌, ◌≤◌, ◌<◌}
use native.Mathlib.Numerals.{add-one}
use native.Mathlib.Omega.{arith}
use lib.Dec.{eqb}
use lib.ListN.{length, get_or, set, length-set}
use lib.Seq.{get_or-set_same, get_or-set_other}
use borrow.Author.Tests.{eqb-true}
use Rattle.base.specs.Sets.{bit}
use Rattle.base.specs.Limits.{max_degree, max_vertices}
use Rattle.tree.specs.Edges.{Edges, edges_at, Below}
use Rattle.union_find.specs.Inner.{Unions}
use Rattle.edges.specs.Rows.{rows}
use Rattle.edges.specs.Inner.{fault_in, Degrees, TreeSoFar}
use Rattle.edges.specs.Columns.{edges_in, tree_so_far, Columns, Listing}
use Rattle.edges.specs.declared.EdgeList.TheInside.{Inside}
use Rattle.edges.proofs.Rows.{rows_length}
use Rattle.edges.proofs.OneEdge.{Passed, passed, fault_agrees}

-- a store at i leaves the first i rows as they were
rows_set : (ps cs : List ℕ) (i a b k : ℕ) → k ≤ i → rows (set ps i a) (set cs i b) k ≡ rows ps cs k
unfolding rows
rows_set ps cs i a b zero l = refl
rows_set ps cs i a b (suc k) l =
    ap₂ ◌∷◌
    (ap₂ (λ (x y : ℕ). record { one = x; two = y }) (get_or-set_other ps i k a 0 (λ e. omega arith)) (get_or-set_other cs i k b 0 (λ e. omega arith)))
    (rows_set ps cs i a b k (omega arith))

-- one row more
pub rows_more : (ps cs : List ℕ) (i a b : ℕ) → i < length ps → i < length cs → rows (set ps i a) (set cs i b) (i + 1) ≡ record { one = a; two = b } ∷ rows ps cs i
unfolding rows
rows_more ps cs i a b k l =
    ap (rows (set ps i a) (set cs i b)) (add-one i)
    ∙ ap₂ ◌∷◌
    (ap₂ (λ (x y : ℕ). record { one = x; two = y }) (get_or-set_same ps i a 0 k) (get_or-set_same cs i b 0 l))
    (rows_set ps cs i a b i (omega arith))

-- a list of no edges
pub no_rows : (ps cs : List ℕ) → rows ps cs 0 ≡ []
unfolding rows
no_rows ps cs = refl

pub none_listed : (l : Inside) → l.vertices ≤ max_vertices → l.count ≡ 0 → Columns l → Unions l.vertices [] l.up l.weight → Degrees l.vertices [] l.degree → Listing l
none_listed l k e c u d =
    let i : edges_in l ≡ [] = ap (rows l.one l.two) e ∙ no_rows l.one l.two in
    record {
      within = k;
      most = omega arith;
      columns = c;
      below = subst (λ (E : Edges). Below l.vertices E) (sym i) tt;
      unions = subst (λ (E : Edges). Unions l.vertices E l.up l.weight) (sym i) u;
      degrees = subst (λ (E : Edges). Degrees l.vertices E l.degree) (sym i) d;
    }

-- what a list is to its callers: how many edges, and what they ask of a further one
module _ (l : Inside) {t : TreeSoFar} (seen : tree_so_far l ≡ t) where
  pub many : length t.edges ≡ l.count
  many = ap (λ (x : TreeSoFar). length x.edges) (sym seen) ∙ rows_length l.one l.two l.count

  pub room_for_one : length t.edges + 1 < t.vertices → l.count + 1 < l.vertices
  room_for_one h = omega (arith, many, ap (λ (x : TreeSoFar). x.vertices) seen)

  pub passes : (a b : ℕ) → fault_in t.vertices t.edges a b ≡ 0 → fault_in l.vertices (edges_in l) a b ≡ 0
  passes a b e = ap (λ (x : TreeSoFar). fault_in x.vertices x.edges a b) seen ∙ e

-- an edge that has no fault passes
pub edge_passed : (l : Inside) → Listing l → (a b : ℕ) → fault_in l.vertices (edges_in l) a b ≡ 0 → Passed l.vertices l.degree a b
edge_passed l h a b e =
    passed l.vertices l.up l.degree a b (fault_agrees l.vertices (edges_in l) l.up l.weight l.degree h.unions h.degrees a b ∙ e)

module _ (v : ℕ) (E : Edges) (degree : List ℕ) (a b : ℕ) (d : Degrees v E degree) (p : Passed v degree a b) where
  degree_most : (x y : ℕ) → x < v → y ≡ bit (eqb x a || eqb x b) + get_or degree x 0 → y ≤ max_degree
  degree_most x y l c = go (eqb x a) (eqb x b) refl refl c
    where
      go : (q r : Bool) → eqb x a ≡ q → eqb x b ≡ r → y ≡ bit (q || r) + get_or degree x 0 → y ≤ max_degree
      go true r i k c = omega (arith, ap (λ (z : ℕ). get_or degree z 0) (eqb-true x a i), p.one_room)
      go false true i k c = omega (arith, ap (λ (z : ℕ). get_or degree z 0) (eqb-true x b k), p.two_room)
      go false false i k c = omega (arith, d.most x l)

  degrees_more : (degree' : List ℕ) → ((x : ℕ) → get_or degree' x 0 ≡ bit (eqb x a || eqb x b) + get_or degree x 0)
      → Degrees v (record { one = a; two = b } ∷ E) degree'
  unfolding edges_at
  degrees_more degree' e =
      record {
        counted = λ x k. e x ∙ ap (λ (z : ℕ). bit (eqb x a || eqb x b) + z) (d.counted x k);
        most = λ x k. degree_most x (get_or degree' x 0) k (e x);
      }

-- one edge more
module _ (l : Inside) (h : Listing l) (a b : ℕ) (k : l.count + 1 < l.vertices) (e : fault_in l.vertices (edges_in l) a b ≡ 0) (up weight degree : List ℕ) where
  abbrev more : Inside
  more = record { vertices = l.vertices; count = l.count + 1; one = set l.one l.count a; two = set l.two l.count b; up = up; weight = weight; degree = degree }

  pub more_in : edges_in more ≡ record { one = a; two = b } ∷ edges_in l
  more_in = rows_more l.one l.two l.count a b (omega (arith, h.within, h.columns.one)) (omega (arith, h.within, h.columns.two))

  pub more_listed : length up ≡ length l.up → length weight ≡ length l.weight → length degree ≡ length l.degree
      → ((E : Edges) → Unions l.vertices E l.up l.weight → Unions l.vertices (record { one = a; two = b } ∷ E) up weight)
      → ((x : ℕ) → get_or degree x 0 ≡ bit (eqb x a || eqb x b) + get_or l.degree x 0)
      → Listing more
  more_listed i j m u d =
      let p : Passed l.vertices l.degree a b = edge_passed l h a b e in
      record {
        within = h.within;
        most = omega (arith, h.within);
        columns = record {
          one = omega (arith, length-set l.one l.count a, h.columns.one);
          two = omega (arith, length-set l.two l.count b, h.columns.two);
          up = omega (arith, i, h.columns.up);
          weight = omega (arith, j, h.columns.weight);
          degree = omega (arith, m, h.columns.degree);
        };
        below = subst (λ (E : Edges). Below l.vertices E) (sym more_in) (p.apart.one_below, p.apart.two_below, h.below);
        unions = subst (λ (E : Edges). Unions l.vertices E up weight) (sym more_in) (u (edges_in l) h.unions);
        degrees = subst (λ (E : Edges). Degrees l.vertices E degree) (sym more_in) (degrees_more l.vertices (edges_in l) l.degree a b h.degrees p degree d);
      }
