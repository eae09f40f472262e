-- The edges that the call gives of a drawing's plan are the drawing's.
use mathlib.Core.Path.{◌≡◌, refl, sym, ap, ◌∙◌, subst}
use mathlib.Core.List.{List, [], ◌++◌, append_assoc, append-nil}
use mathlib.Core.Bool.{Bool, true, false}
use Prim.Native.Nat.{ℕ, zero, suc, ◌+◌, ◌-◌, ◌≤◌, ◌<◌, ◌^◌}
use native.Mathlib.Decide.{ℕ_discrete}
use native.Mathlib.Omega.{arith}
use lib.Dec.{eqb}
use lib.ListN.{length, get_or, replicate, get_or-append}
use borrow.Author.Tests.{eqb-true}
use Rattle.base.specs.Pick.{pick}
use Rattle.base.specs.Limits.{max_rows}
use Rattle.base.specs.Found.{Found, found, refused}
use Rattle.varint.specs.Varint.{varint_bytes}
use Rattle.varint.specs.Reading.{varint_at}
use Rattle.varint.proofs.Laws.{same_value}
use Rattle.varint.proofs.RoundTrip.{varint_read_at}
use Rattle.tree.specs.Edges.{Edge, Edges, Below}
use Rattle.cycles.specs.Cycles.{chosen, on_cycle}
use Rattle.edges.specs.Rows.{column}
use Rattle.edges.proofs.Rows.{column_length}
use Rattle.plan.specs.Plan.{Plan}
use Rattle.plan.specs.Positions.{padded}
use Rattle.plan.specs.Bytes.{edge_bytes}
use Rattle.plan.specs.Reading.{plan_of}
use Rattle.plan_laws.proofs.Given.{tree_bytes_lem}
use Rattle.drawing.specs.Drawing.{drawn_plan}
use Rattle.plan_cycle.specs.Cycle.{numbers, edges_to_rejected, cycle_among, cycle_by, no_cycle}
use Rattle.plan_cycle.proofs.Lists.{numbers_length}
use Rattle.plan_cycle.proofs.Opening.{begin}
use Rattle.plan_cycle.proofs.Begin.{edges_begin}
use Rattle.plan_cycle.proofs.Sequence.{first_edges, written_first}
use Rattle.plan_cycle.proofs.Unique.{rejected_first}
use Rattle.plan_cycle.proofs.Along.{to_rejected}
use Rattle.drawing_cycle.specs.Statement.{AsDrawn, Statement}
use Rattle.drawing_cycle.proofs.Listed.{column_before, listed_at}

-- ---- the first edges of some bytes

length_first : (s : List ℕ) (at n : ℕ) → length (first_edges s at n) ≡ n
unfolding first_edges
length_first s at zero = refl
length_first s at (suc n) = ap suc (length_first s at n)

-- the first n are among the first m
column_first : (f : Edge → ℕ) (s : List ℕ) (at n m i : ℕ) → i < n → n ≤ m → get_or (column f (first_edges s at n)) i 0 ≡ get_or (column f (first_edges s at m)) i 0
unfolding first_edges
column_first f s at n zero i l h = absurd (omega arith)
column_first f s at n (suc m) i l h = go (ℕ_discrete n (suc m)) (column_first f s at n m i l)
  where
    go : Dec (n ≡ suc m) → (n ≤ m → get_or (column f (first_edges s at n)) i 0 ≡ get_or (column f (first_edges s at m)) i 0)
        → get_or (column f (first_edges s at n)) i 0 ≡ get_or (column f (first_edges s at (suc m))) i 0
    go (yes e) rec = ap (λ (k : ℕ). get_or (column f (first_edges s at k)) i 0) e
    go (no d) rec = rec (omega arith) ∙ sym (column_before f _ (first_edges s at m) i (omega (arith, length_first s at m)))

-- ---- what is given of a plan refused by 8

padded_at : (l : List ℕ) (k : ℕ) → k < length l → get_or (padded l) k 0 ≡ get_or l k 0
padded_at l k h = get_or-append l (replicate (max_rows - length l) 0) 0 k h

-- the vertex count is what was written
count_written : (s : List ℕ) (v w : ℕ) (p q : List ℕ) → v < 2 ^ 32 → w < 2 ^ 32 → s ≡ varint_bytes 1 ++ (varint_bytes v ++ p) → s ≡ varint_bytes 1 ++ (varint_bytes w ++ q) → v ≡ w
count_written s v w p q k l i j =
    let a = varint_read_at v s (varint_bytes 1) p (length (varint_bytes 1)) k i refl in
    let b = varint_read_at w s (varint_bytes 1) q (length (varint_bytes 1)) l j refl in
    same_value (sym a ∙ b)

module _ (E : Edges) (m : length E ≤ max_rows) (b : Below (2 ^ 32) E) (place : ℕ) (e : plan_of (drawn_plan E) ≡ refused 8 place) where
  -- all edges drawn are read
  all_first : first_edges (drawn_plan E) (begin (drawn_plan E)) (length E) ≡ E
  all_first =
      ap (λ (at : ℕ). first_edges (drawn_plan E) at (length E)) (edges_begin (drawn_plan E) place (length E + 1) (edge_bytes E) e refl)
      ∙ (written_first (drawn_plan E) (2 ^ 32) E (varint_bytes 1 ++ varint_bytes (length E + 1)) [] (omega arith) b (simp (append_assoc, append-nil))).1

  -- those up to the rejected one are no more
  few : length (edges_to_rejected (drawn_plan E) place) ≤ length E
  few =
      let r = to_rejected (drawn_plan E) place e in
      let x = r.starts (tree_bytes_lem (length E + 1) E) in
      let v = count_written (drawn_plan E) r.vertices (length E + 1) (edge_bytes (edges_to_rejected (drawn_plan E) place) ++ x.rest) (edge_bytes E)
      (omega (arith, r.within)) (omega arith) (x.bytes ∙ simp append_assoc) refl in
      omega (arith, r.among, v)

  -- and are the first ones
  same_ends : (f : Edge → ℕ) (i : ℕ) → i < length (edges_to_rejected (drawn_plan E) place) → get_or (column f (edges_to_rejected (drawn_plan E) place)) i 0 ≡ get_or (column f E) i 0
  same_ends f i l =
      let j = rejected_first (drawn_plan E) place e in
      let n : length (edges_to_rejected (drawn_plan E) place) ≡ j.0 = ap length j.1 ∙ length_first (drawn_plan E) (begin (drawn_plan E)) j.0 in
      ap (λ (F : Edges). get_or (column f F) i 0) j.1
      ∙ column_first f (drawn_plan E) (begin (drawn_plan E)) j.0 (length E) i (omega arith) (omega (arith, few))
      ∙ ap (λ (F : Edges). get_or (column f F) i 0) all_first

  given : (k : ℕ) → k < (cycle_among (edges_to_rejected (drawn_plan E) place)).count → AsDrawn E (cycle_among (edges_to_rejected (drawn_plan E) place)) k
  given k l =
      let F : Edges = edges_to_rejected (drawn_plan E) place in
      let C : Edges = chosen (on_cycle F) F in
      let i : ℕ = get_or (numbers (on_cycle F) F) k 0 in
      let n : get_or (padded (numbers (on_cycle F) F)) k 0 ≡ i = padded_at (numbers (on_cycle F) F) k (omega (arith, numbers_length (on_cycle F) F)) in
      let one = listed_at (on_cycle F) (λ d. d.one) F k l in
      let two = listed_at (on_cycle F) (λ d. d.two) F k l in
      record {
        number = rw n (omega (arith, one.0, few));
        one = rw n (padded_at (column (λ d. d.one) C) k (omega (arith, column_length (λ d. d.one) C)) ∙ one.1 ∙ same_ends (λ d. d.one) i one.0);
        two = rw n (padded_at (column (λ d. d.two) C) k (omega (arith, column_length (λ d. d.two) C)) ∙ two.1 ∙ same_ends (λ d. d.two) i two.0);
      }

-- ---- any plan

pub shows : Statement
shows E m b k l = go (plan_of (drawn_plan E)) refl l
  where
    by : Found Plan → Type 0
    by r = k < (cycle_by (drawn_plan E) r).count → AsDrawn E (cycle_by (drawn_plan E) r) k

    eighth : (number place : ℕ) → plan_of (drawn_plan E) ≡ refused number place → (t : Bool) → eqb number 8 ≡ t
        → k < (pick t (cycle_among (edges_to_rejected (drawn_plan E) place)) no_cycle).count → AsDrawn E (pick t (cycle_among (edges_to_rejected (drawn_plan E) place)) no_cycle) k
    eighth number place e true i = given E m b place (e ∙ ap (λ (n : ℕ). refused n place) (eqb-true number 8 i)) k
    eighth number place e false i = λ h. absurd (omega arith)

    go : (r : Found Plan) → plan_of (drawn_plan E) ≡ r → by r
    go (found p) e h = absurd (omega arith)
    go (refused number place) e h = eighth number place e (eqb number 8) refl h
