-- Undoing the latest edge, of edges in columns.
use mathlib.Core.Path.{◌≡◌, sym, ap, subst}
use mathlib.Core.List.{List, ◌∷◌}
use Prim.Native.Nat.{ℕ, ◌+◌, ◌≤◌, ◌<◌}
use native.Mathlib.Numerals.{add-one}
use native.Mathlib.Omega.{arith}
use lib.ListN.{length, get_or, set, length-set}
use Rattle.base.specs.Pick.{pick}
use Rattle.base.specs.Sets.{bit}
use Rattle.tree.specs.Edges.{Edge, Edges, Below}
use Rattle.tree.specs.Inner.{Acyclic}
use Rattle.union_find.specs.Inner.{together, Rooted}
use Rattle.edges.specs.Rows.{rows}
use Rattle.edges.proofs.Rows.{rows_length}
use Rattle.cycles.specs.Inner.{needed}
use Rattle.cycle_ends.specs.Inner.{shifted}
use Rattle.cycle_search.specs.Inner.{Columns, cut, Undoes, Kept, Undoable, SameNeed}
use Rattle.cycle_search.proofs.Undoing.{l_below, h_below, x_below, y_below, cut_rooted, kept_after, mark_of, need_after}

-- a store leaves a column as long as it was
pub long : {n : ℕ} (f : List ℕ) (i v : ℕ) → n ≤ length f → n ≤ length (set f i v)
long f i v h = omega (arith, length-set f i v)

-- edge m is undone: the root that it moved, the root that this went under, the sets then, and a column then
module _ (n : ℕ) (moved up : List ℕ) (e : Edge) (m : ℕ) where
  abbrev pub lower : ℕ
  lower = get_or moved m 0

  abbrev pub upper : ℕ
  upper = get_or up lower 0

  abbrev pub after : List ℕ
  after = cut lower up

  abbrev pub shifted_by : List ℕ → List ℕ
  shifted_by f = shifted n after lower upper e.one e.two f

  -- what comes of it, where e is the latest of the edges F, and E are those before it
  pub record Undone (F E : Edges) (from to : List ℕ) : Type 0 where
    pub lower_below : lower < n
    pub upper_below : upper < n
    pub one_below : e.one < n
    pub first_below : get_or from upper 0 < n
    pub second_below : get_or to upper 0 < n
    pub rooted : Rooted n after
    pub undoes : Undoes n moved E after
    pub kept : Kept n after (shifted_by from) (shifted_by to)
    pub asked : (G : Edges) (a b : ℕ) → SameNeed n G a b F up from to
        → (pick (together n after (get_or from upper 0) (get_or to upper 0)) 0 1 ≡ bit (needed G a b m)) × SameNeed n G a b E after (shifted_by from) (shifted_by to)

undone : (n : ℕ) (moved : List ℕ) (e : Edge) (E : Edges) (up from to : List ℕ) → Below n (e ∷ E) → Acyclic (e ∷ E) → Undoes n moved (e ∷ E) up → Kept n up from to
    → Columns n up from to → Undone n moved up e (length E) (e ∷ E) E from to
undone n moved e E up from to b k u q c =
    let lu : n ≤ length up = c.up_long in
    let lf : n ≤ length from = c.from_long in
    let lt : n ≤ length to = c.to_long in
    record {
      lower_below = l_below n moved e E up u k b lu;
      upper_below = h_below n moved e E up u k b lu;
      one_below = b.0;
      first_below = x_below n moved e E up u k b lu from to lf lt q;
      second_below = y_below n moved e E up u k b lu from to lf lt q;
      rooted = cut_rooted n moved e E up u k b lu;
      undoes = u.2;
      kept = kept_after n moved e E up u k b lu from to lf lt q;
      asked = λ G a b' h. (mark_of n moved e E up u k b lu from to lf lt q G a b' h, need_after n moved e E up u k b lu from to lf lt q G a b' h);
    }

-- edge i of the columns
abbrev pub row : List ℕ → List ℕ → ℕ → Edge
row one two i = record { one = get_or one i 0; two = get_or two i 0 }

pub rows_next : (one two : List ℕ) (i : ℕ) → rows one two (i + 1) ≡ row one two i ∷ rows one two i
unfolding rows
rows_next one two i = ap (rows one two) (add-one i)

module _ (n : ℕ) (one two moved : List ℕ) (i : ℕ) (up from to : List ℕ) (h : Undoable n (i + 1) one two moved up from to) where
  next : rows one two (i + 1) ≡ row one two i ∷ rows one two i
  next = rows_next one two i

  pub undone_row : Undone n moved up (row one two i) i (rows one two (i + 1)) (rows one two i) from to
  undone_row =
      subst (λ (F : Edges). Undone n moved up (row one two i) i F (rows one two i) from to) (sym next)
      (subst (λ (m : ℕ). Undone n moved up (row one two i) m (row one two i ∷ rows one two i) (rows one two i) from to) (rows_length one two i)
      (undone n moved (row one two i) (rows one two i) up from to (subst (Below n) next h.below) (subst Acyclic next h.acyclic) (subst (λ (F : Edges). Undoes n moved F up) next h.undoes)
      h.kept h.columns))

  -- the edges before it can be undone
  pub undoable_before :
      Undoable n i one two moved (after n moved up (row one two i) i) (shifted_by n moved up (row one two i) i from) (shifted_by n moved up (row one two i) i to)
  undoable_before =
      record {
        one_long = omega (arith, h.one_long);
        two_long = omega (arith, h.two_long);
        moved_long = omega (arith, h.moved_long);
        columns = record {
          up_long = long up _ _ h.columns.up_long;
          from_long = long (set from _ _) _ _ (long from _ _ h.columns.from_long);
          to_long = long (set to _ _) _ _ (long to _ _ h.columns.to_long);
        };
        below = (subst (Below n) next h.below).2;
        acyclic = (subst Acyclic next h.acyclic).1;
        undoes = undone_row.undoes;
        kept = undone_row.kept;
      }
