-- The edges that are read one after the other, whatever comes after them.
use mathlib.Core.Path.{◌≡◌, refl, sym, ap, ap₂, ◌∙◌}
use mathlib.Core.List.{List, [], ◌∷◌, ◌++◌, append_assoc}
use mathlib.Core.Bool.{Bool, true, false}
use Prim.Native.Nat.{ℕ, zero, suc, ◌+◌, ◌≤◌, ◌^◌}
use native.Mathlib.Omega.{arith}
use lib.Dec.{eqb}
use lib.ListN.{length, length-append}
use Rattle.base.specs.Pick.{pick}
use Rattle.varint.specs.Varint.{varint_bytes}
use Rattle.varint.specs.Reading.{value, varint_at}
use Rattle.varint.proofs.RoundTrip.{varint_read_at}
use Rattle.tree.specs.Edges.{Edge, Edges, Below}
use Rattle.plan.specs.Bytes.{edge_bytes}
use Rattle.plan_cycle.specs.Cycle.{past_at, edge_at, edges_up_to}

-- the place past k edges from `at` on
unfoldable pub place_after : List ℕ → ℕ → ℕ → ℕ
place_after s at zero = at
place_after s at (suc k) = past_at s (past_at s (place_after s at k))

-- those edges, the latest first
unfoldable pub first_edges : List ℕ → ℕ → ℕ → Edges
first_edges s at zero = []
first_edges s at (suc k) = edge_at s (place_after s at k) ∷ first_edges s at k

-- the edges up to a refused place are some of them
pub up_to_first : (k j : ℕ) (s : List ℕ) (place at : ℕ) → (n : ℕ) × (edges_up_to k s place (place_after s at j) (first_edges s at j) ≡ first_edges s at n)
unfolding edges_up_to place_after first_edges
up_to_first zero j s place at = (j, refl)
up_to_first (suc k) j s place at = go (eqb (past_at s (place_after s at j)) place) (up_to_first k (suc j) s place at)
  where
    next : Edges
    next = edges_up_to k s place (place_after s at (suc j)) (first_edges s at (suc j))

    go : (b : Bool) → (n : ℕ) × (next ≡ first_edges s at n) → (n : ℕ) × (pick b (first_edges s at (suc j)) next ≡ first_edges s at n)
    go true r = (suc j, refl)
    go false r = r

-- ---- edges that were written

edge_read : (s : List ℕ) (at a b second next : ℕ) → varint_at s at ≡ value a second → varint_at s second ≡ value b next
    → (edge_at s at ≡ record { one = a; two = b }) × (past_at s (past_at s at) ≡ next)
edge_read s at a b second next i j = rw (i, j) (refl, refl)

-- written edges are read back, and the place past them is reached
pub written_first : (s : List ℕ) (v : ℕ) (E : Edges) (pre post : List ℕ) → v ≤ 2 ^ 32 → Below v E → s ≡ pre ++ (edge_bytes E ++ post)
    → (place_after s (length pre) (length E) ≡ length pre + length (edge_bytes E)) × (first_edges s (length pre) (length E) ≡ E)
unfolding edge_bytes place_after first_edges
written_first s v [] pre post l h i = (omega arith, refl)
written_first s v (e ∷ E) pre post l h i =
    let ih = written_first s v E pre (ends ++ post) l h.2 (i ∙ ap (λ (t : List ℕ). pre ++ t) (append_assoc (edge_bytes E) ends post)) in
    let r = edge_read s at e.one e.two (at + length first) (at + length first + length second)
    (varint_read_at e.one s (pre ++ edge_bytes E) (second ++ post) at (omega (arith, h.0)) (i ∙ simp append_assoc) (sym (length-append pre (edge_bytes E))))
    (varint_read_at e.two s ((pre ++ edge_bytes E) ++ first) post (at + length first) (omega (arith, h.1)) (i ∙ simp append_assoc) (simp length-append)) in (
      ap (λ (p : ℕ). past_at s (past_at s p)) ih.0 ∙ r.1 ∙ simp length-append (omega arith),
      ap₂ (λ (f : Edge) (F : Edges). f ∷ F) (ap (edge_at s) ih.0 ∙ r.0) ih.1,
    )
  where
    at : ℕ
    at = length pre + length (edge_bytes E)

    first : List ℕ
    first = varint_bytes e.one

    second : List ℕ
    second = varint_bytes e.two

    ends : List ℕ
    ends = first ++ second
