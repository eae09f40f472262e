-- Laws of a plan that is written edge by edge.
use mathlib.Core.Path.{◌≡◌, refl, sym, ap, ◌∙◌}
use mathlib.Core.List.{List, [], ◌++◌, append_assoc}
use Prim.Native.Nat.{ℕ, ◌+◌, ◌≤◌, ◌<◌}
use native.Mathlib.Decide.{dec_lt}
use native.Mathlib.Numerals.{add-one}
use native.Mathlib.Omega.{arith}
use lib.Dec.{eqb}
use lib.ListN.{length, get_or, length-append}
use borrow.Author.Tests.{lt-ltb, le-ltb}
use Rattle.base.specs.Sets.{Set}
use Rattle.base.specs.Limits.{max_rows}
use Rattle.varint.specs.Varint.{pieces, varint_bytes}
use Rattle.edges.specs.Rows.{rows}
use Rattle.plan.specs.Bytes.{edge_bytes}
use Rattle.drawing.specs.Drawing.{kept_of}

-- how many edges are kept
pub kept_all : (n : ℕ) → n ≤ max_rows → kept_of n ≡ n
kept_all n l = go (dec_lt n max_rows)
  where
    go : Dec (n < max_rows) → kept_of n ≡ n
    go (yes p) = rw (lt-ltb n max_rows p)
    go (no p) = rw (le-ltb n max_rows (omega arith)) (omega arith)

-- the kind of a tree is one byte
pub kind_short : length (varint_bytes 1) ≡ 1
unfolding pieces
kind_short = refl

-- no edge is written yet
pub no_edges : (ps cs : List ℕ) → edge_bytes (rows ps cs 0) ≡ []
unfolding edge_bytes rows
no_edges ps cs = refl

-- the two ends of one edge more
pub edge_more : (ps cs : List ℕ) (i : ℕ) → (edge_bytes (rows ps cs i) ++ varint_bytes (get_or ps i 0)) ++ varint_bytes (get_or cs i 0) ≡ edge_bytes (rows ps cs (i + 1))
unfolding edge_bytes rows
edge_more ps cs i = rw (add-one i) (append_assoc (edge_bytes (rows ps cs i)) (varint_bytes (get_or ps i 0)) (varint_bytes (get_or cs i 0)))

pub edge_length : (ps cs : List ℕ) (i : ℕ)
    → length (edge_bytes (rows ps cs (i + 1))) ≡ (length (edge_bytes (rows ps cs i)) + length (varint_bytes (get_or ps i 0))) + length (varint_bytes (get_or cs i 0))
edge_length ps cs i = sym (ap length (edge_more ps cs i)) ∙ simp length-append

-- does the second end of edge k stand at the place, where the edges begin at h?
abbrev pub stands : ℕ → List ℕ → List ℕ → ℕ → Set
stands h ps cs place = λ k. eqb ((h + length (edge_bytes (rows ps cs k))) + length (varint_bytes (get_or ps k 0))) place
