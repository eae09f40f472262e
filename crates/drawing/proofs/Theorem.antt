-- The plan of a drawing is that of its edges, each edge is kept with its line, and a refusal's place leads to its edge.
use mathlib.Core.Path.{◌≡◌, refl, sym, ap, ap₂, ◌∙◌, subst}
use mathlib.Core.List.{List, [], ◌∷◌, ◌++◌}
use Prim.Native.Nat.{ℕ, ◌+◌, ◌≤◌, ◌<◌, ◌^◌}
use native.Mathlib.Decide.{dec_lt}
use native.Mathlib.Omega.{arith}
use lib.ListN.{length, get_or, set, length-set}
use lib.Seq.{get_or-set_same, get_or-set_other}
use borrow.Author.Tests.{lt-ltb, le-ltb, le-leb, lt-leb}
use Rattle.base.specs.Limits.{max_vertices, max_rows}
use Rattle.base.specs.Found.{refused}
use Rattle.varint.specs.Varint.{varint_bytes}
use Rattle.varint.proofs.RoundTrip.{varint_read_at}
use Rattle.tree.specs.Edges.{Edge, Edges, Below}
use Rattle.edges.specs.Rows.{rows}
use Rattle.edges.proofs.Further.{no_rows, rows_more}
use Rattle.plan.specs.Bytes.{edge_bytes, tree_bytes}
use Rattle.plan.specs.Reading.{plan_from, plan_of}
use Rattle.drawing.specs.Drawing.{Drawing, drawn, with_edge, kept_of, plan_bytes, drawn_plan}
use Rattle.drawing.specs.Statement.{AtEdge, drawing_of, Statement}
use Rattle.drawing.proofs.Plans.{kept_all, kind_short}
use Rattle.drawing.proofs.Refusals.{number_second, plan_judged}

-- an edge is kept, or is one too many
kept_more : (d : Drawing) (line a b : ℕ) → d.count < max_rows
    → with_edge d line a b ≡ drawn (d.count + 1) (set d.lines d.count line) (set d.one d.count a) (set d.two d.count b)
unfolding with_edge
kept_more d line a b h = rw (lt-ltb d.count max_rows h)

too_many : (d : Drawing) (line a b : ℕ) → max_rows ≤ d.count → (with_edge d line a b).count ≡ max_rows + 1
unfolding with_edge
too_many d line a b h = rw (le-ltb d.count max_rows h)

-- the columns have their length, and hold the edges and their lines
record Holds (line : ℕ → ℕ) (E : Edges) (d : Drawing) : Type 0 where
  count : d.count ≡ length E
  lines_long : length d.lines ≡ max_rows
  one_long : length d.one ≡ max_rows
  two_long : length d.two ≡ max_rows
  edges : rows d.one d.two d.count ≡ E
  lines : (i : ℕ) → i < length E → get_or d.lines i 0 ≡ line i

holds_none : (line : ℕ → ℕ) (lines one two : List ℕ) → length lines ≡ max_rows → length one ≡ max_rows → length two ≡ max_rows → Holds line [] (drawn 0 lines one two)
holds_none line lines one two n p q = record { count = refl; lines_long = n; one_long = p; two_long = q; edges = no_rows one two; lines = λ i h. absurd (omega arith) }

holds_more : (line : ℕ → ℕ) (e : Edge) (E : Edges) (d : Drawing) → length E < max_rows → Holds line E d → Holds line (e ∷ E) (with_edge d (line (length E)) e.one e.two)
holds_more line e E d l h =
    let c = h.count in
    let n = h.lines_long in
    let p = h.one_long in
    let q = h.two_long in
    subst (Holds line (e ∷ E)) (sym (kept_more d (line (length E)) e.one e.two (omega arith)))
    (record {
      count = omega (arith, c);
      lines_long = length-set d.lines d.count (line (length E)) ∙ n;
      one_long = length-set d.one d.count e.one ∙ p;
      two_long = length-set d.two d.count e.two ∙ q;
      edges = rows_more d.one d.two d.count e.one e.two (omega arith) (omega arith) ∙ ap (λ (F : Edges). e ∷ F) h.edges;
      lines = λ i k. line_at i k (dec_lt i (length E));
    })
  where
    line_at : (i : ℕ) → i < length (e ∷ E) → Dec (i < length E) → get_or (set d.lines d.count (line (length E))) i 0 ≡ line i
    line_at i k (yes p) = get_or-set_other d.lines d.count i (line (length E)) 0 (λ q. omega (arith, h.count)) ∙ h.lines i p
    line_at i k (no p) =
        let s : i ≡ length E = omega arith in
        let t : i ≡ d.count = omega (arith, h.count) in
        ap (λ (x : ℕ). get_or (set d.lines d.count (line (length E))) x 0) t
        ∙ get_or-set_same d.lines d.count (line (length E)) 0 (omega (arith, h.count, h.lines_long)) ∙ ap line (sym s)

holds : (d : Drawing) (line : ℕ → ℕ) (E : Edges) → Holds line [] d → length E ≤ max_rows → Holds line E (drawing_of d line E)
unfolding drawing_of
holds d line [] h l = h
holds d line (e ∷ E) h l = holds_more line e E (drawing_of d line E) (omega arith) (holds d line E h (omega arith))

the_plan : (line : ℕ → ℕ) (E : Edges) (d : Drawing) → length E ≤ max_rows → Holds line E d → plan_bytes d.count d.one d.two ≡ drawn_plan E
the_plan line E d l h =
    ap₂ tree_bytes (ap (λ (n : ℕ). n + 1) h.count) (ap (rows d.one d.two) (kept_all d.count (omega (arith, h.count))) ∙ h.edges)

-- which is refused at an edge only
at_edge : (line : ℕ → ℕ) (E : Edges) (d : Drawing) → length E ≤ max_rows → Holds line E d → Below (2 ^ 32) E → (number place : ℕ) → plan_of (drawn_plan E) ≡ refused number place
    → AtEdge d.count d.one d.two number place
at_edge line E d l h b number place e =
    plan_judged d.count d.one d.two (omega (arith, h.count)) (subst (Below (2 ^ 32)) (sym h.edges) b) number place
    (ap₂ (λ (n : ℕ) (F : Edges). plan_of (tree_bytes (n + 1) F)) h.count h.edges ∙ e)

-- past the most, the count stays
full_count : (d : Drawing) (line : ℕ → ℕ) (E : Edges) → Holds line [] d → max_rows < length E → (drawing_of d line E).count ≡ max_rows + 1
unfolding drawing_of
full_count d line [] h l = absurd (omega arith)
full_count d line (e ∷ E) h l = too_many (drawing_of d line E) (line (length E)) e.one e.two (full (dec_lt max_rows (length E)) (full_count d line E h))
  where
    full : Dec (max_rows < length E) → (max_rows < length E → (drawing_of d line E).count ≡ max_rows + 1) → max_rows ≤ (drawing_of d line E).count
    full (yes p) rest = omega (arith, rest p)
    full (no p) rest = omega (arith, (holds d line E h (omega arith)).count)

-- a tree of too many vertices, whatever follows
too_large : (v : ℕ) (E : Edges) → max_vertices < v → v < 2 ^ 32 → plan_of (tree_bytes v E) ≡ refused 6 1
unfolding plan_from
too_large v E l h =
    let t = tree_bytes v E in
    rw (varint_read_at 1 t [] (varint_bytes v ++ edge_bytes E) 0 (omega arith) refl refl)
    (rw (varint_read_at v t (varint_bytes 1) (edge_bytes E) (0 + length (varint_bytes 1)) h refl (omega arith))
    (rw (le-leb 1 v (omega arith), lt-leb v max_vertices l) (ap (refused 6) (omega (arith, kind_short)))))

pub draws : Statement
draws lines one two n p q line E =
    record {
      plan = λ l. the_plan line E d l (few l);
      lines = λ l. (few l).lines;
      refusals = λ l. at_edge line E d l (few l);
      number = number_second d.one d.two d.count;
      many = λ l.
          let c = full_count (drawn 0 lines one two) line E start l in too_large (d.count + 1) (rows d.one d.two (kept_of d.count)) (omega (arith, c)) (omega (arith, c));
      whole = λ l k. too_large (length E + 1) E (omega arith) k;
    }
  where
    start : Holds line [] (drawn 0 lines one two)
    start = holds_none line lines one two n p q

    d : Drawing
    d = drawing_of (drawn 0 lines one two) line E

    few : length E ≤ max_rows → Holds line E d
    few = holds (drawn 0 lines one two) line E start
