-- The rejected edge and those before it, in columns; and all of them marked.
use mathlib.Core.Path.{◌≡◌, sym, ap, ◌∙◌, subst}
use mathlib.Core.List.{List, ◌∷◌}
use mathlib.Core.Bool.{true}
use Prim.Native.Nat.{ℕ, zero, suc, ◌+◌, ◌≤◌, ◌<◌}
use native.Mathlib.Decide.{ℕ_discrete}
use native.Mathlib.Omega.{arith}
use lib.Dec.{T}
use lib.ListN.{length, get_or, set}
use lib.Seq.{get_or-set_same, get_or-set_other}
use Rattle.base.specs.Sets.{bit}
use Rattle.tree.specs.Edges.{Edges, all, joined, Below}
use Rattle.tree.specs.Inner.{Acyclic}
use Rattle.union_find.specs.Inner.{root}
use Rattle.edges.specs.Rows.{rows}
use Rattle.edges.proofs.Rows.{rows_length}
use Rattle.cycles.specs.Cycles.{on_cycle}
use Rattle.cycles.specs.Statement.{Rejected}
use Rattle.cycles.specs.Inner.{needed}
use Rattle.cycles.proofs.Steps.{rejected_acyclic, latest_on, before_on}
use Rattle.cycle_search.specs.Inner.{Columns, Undoes, Undoable, SameNeed}
use Rattle.cycle_search.proofs.Sets.{sets_of}
use Rattle.cycle_search.proofs.Columns.{long, row, rows_next}
use Rattle.cycle_search.proofs.Starting.{starts_kept, starts_need}

pub rejected_some : (one two : List ℕ) (m : ℕ) → Rejected (rows one two m) → 0 < m
unfolding rows
rejected_some one two zero r = absurd r
rejected_some one two (suc m) r = omega arith

-- edge j, the latest, is rejected
pub record Latest (n : ℕ) (one two : List ℕ) (j : ℕ) : Type 0 where
  pub below : Below n (rows one two j)
  pub one_below : get_or one j 0 < n
  pub two_below : get_or two j 0 < n
  pub acyclic : Acyclic (rows one two j)
  pub joins : T (joined all (rows one two j) (get_or one j 0) (get_or two j 0))
  pub on_before : (i : ℕ) → i < j → on_cycle (rows one two (j + 1)) i ≡ needed (rows one two j) (get_or one j 0) (get_or two j 0) i
  pub on_latest : on_cycle (rows one two (j + 1)) j ≡ true

pub latest : (n : ℕ) (one two : List ℕ) (j : ℕ) → Below n (rows one two (j + 1)) → Rejected (rows one two (j + 1)) → Latest n one two j
latest n one two j b r =
    let e : rows one two (j + 1) ≡ row one two j ∷ rows one two j = rows_next one two j in
    let l : length (rows one two j) ≡ j = rows_length one two j in
    let c : Below n (row one two j ∷ rows one two j) = subst (Below n) e b in
    let q : Rejected (row one two j ∷ rows one two j) = subst Rejected e r in
    record {
      below = c.2;
      one_below = c.0;
      two_below = c.1;
      acyclic = rejected_acyclic (row one two j) (rows one two j) q;
      joins = q.0;
      on_before = λ i h. rw e (before_on (row one two j) (rows one two j) q i (omega (arith, l)));
      on_latest = rw e (ap (on_cycle (row one two j ∷ rows one two j)) (sym l) ∙ latest_on (row one two j) (rows one two j) q);
    }

-- what is kept before the first edge is undone
module _ (n : ℕ) (one two : List ℕ) (j : ℕ) (moved up from to : List ℕ) (h : Latest n one two j) (u : Undoes n moved (rows one two j) up)
    (own : (x : ℕ) → x < n → (get_or from x 0 ≡ x) × (get_or to x 0 ≡ x)) (c : Columns n up from to) where
  abbrev top : ℕ
  top = root n up (get_or one j 0)

  pub latest_undoable : j ≤ length one → j ≤ length two → j ≤ length moved
      → Undoable n j one two moved up (set from top (get_or one j 0)) (set to top (get_or two j 0))
  latest_undoable lo lt lm =
      record {
        one_long = lo;
        two_long = lt;
        moved_long = lm;
        columns = record { up_long = c.up_long; from_long = long from _ _ c.from_long; to_long = long to _ _ c.to_long };
        below = h.below;
        acyclic = h.acyclic;
        undoes = u;
        kept = starts_kept n (rows one two j) up (sets_of n moved (rows one two j) up u) h.below (get_or one j 0) (get_or two j 0) h.one_below h.two_below h.joins
            from to c.from_long c.to_long (λ x l. (own x l).0) (λ x l. (own x l).1);
      }

  pub latest_need : SameNeed n (rows one two j) (get_or one j 0) (get_or two j 0) (rows one two j) up (set from top (get_or one j 0)) (set to top (get_or two j 0))
  latest_need =
      starts_need n (rows one two j) up (sets_of n moved (rows one two j) up u) h.below (get_or one j 0) (get_or two j 0) h.one_below h.two_below h.joins
      from to c.from_long c.to_long (λ x l. (own x l).0) (λ x l. (own x l).1)

-- the edges from i on are marked
abbrev pub Marked : Edges → ℕ → ℕ → ℕ → ℕ → List ℕ → Type 0
Marked G a b i m marks = (j : ℕ) → i ≤ j → j < m → get_or marks j 0 ≡ bit (needed G a b j)

pub marked_more : (G : Edges) (a b i m : ℕ) (marks : List ℕ) (r : ℕ) → i < length marks → r ≡ bit (needed G a b i) → Marked G a b (i + 1) m marks → Marked G a b i m (set marks i r)
marked_more G a b i m marks r fits e h j l k = go (ℕ_discrete j i)
  where
    go : Dec (j ≡ i) → get_or (set marks i r) j 0 ≡ bit (needed G a b j)
    go (yes q) = rw q (get_or-set_same marks i r 0 fits ∙ e)
    go (no d) = get_or-set_other marks i j r 0 d ∙ h j (omega arith) k

-- the edges before the latest are marked, and then the latest
pub all_marked : (n : ℕ) (one two marks : List ℕ) (j : ℕ) → Latest n one two j → j < length marks
    → ((i : ℕ) → i < j → get_or marks i 0 ≡ bit (needed (rows one two j) (get_or one j 0) (get_or two j 0) i))
    → (i : ℕ) → i < j + 1 → get_or (set marks j 1) i 0 ≡ bit (on_cycle (rows one two (j + 1)) i)
all_marked n one two marks j h fits f i l = go (ℕ_discrete i j)
  where
    go : Dec (i ≡ j) → get_or (set marks j 1) i 0 ≡ bit (on_cycle (rows one two (j + 1)) i)
    go (yes q) = rw (q, h.on_latest) (get_or-set_same marks j 1 0 fits)
    go (no d) = get_or-set_other marks j i 1 0 d ∙ f i (omega arith) ∙ ap bit (sym (h.on_before i (omega arith)))
