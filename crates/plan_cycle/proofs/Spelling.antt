-- The groups of a plan as they are written.
use mathlib.Core.Path.{◌≡◌, sym, ap, ap₂, ◌∙◌}
use mathlib.Core.List.{List, [], ◌∷◌, ◌++◌, append_assoc}
use Prim.Native.Nat.{ℕ, ◌+◌, ◌-◌}
use native.Mathlib.Omega.{arith}
use lib.ListN.{drop, take-append-drop}
use lib.Seq.{drop-drop}
use Rattle.varint.specs.Varint.{varint_bytes, AllBytes}
use Rattle.varint.proofs.RoundTrip.{varint_was_written}
use Rattle.tree.specs.Edges.{Edges}
use Rattle.plan.specs.Bytes.{edge_bytes, tree_bytes}
use Rattle.plan_cycle.specs.Cycle.{value_at, past_at, edge_at}
use Rattle.plan_cycle.proofs.Refusals.{Whole}

-- a whole group stands before what is past it
written : (s : List ℕ) (at : ℕ) → AllBytes s → Whole s at → drop at s ≡ varint_bytes (value_at s at) ++ drop (past_at s at) s
written s at all e =
    let next : ℕ = past_at s at in
    let w = varint_was_written s at (value_at s at) next all e in
    let past : at + (next - at) ≡ next = omega (arith, w.1) in
    sym (take-append-drop (next - at) (drop at s)) ∙ ap₂ ◌++◌ w.3 (drop-drop (next - at) at s ∙ ap (λ (k : ℕ). drop k s) past)

-- the bytes up to `at` are those of a tree with the edges E
abbrev pub Spelled : List ℕ → ℕ → Edges → ℕ → Type 0
Spelled s v E at = AllBytes s → s ≡ tree_bytes v E ++ drop at s

-- the kind and the vertex count
pub spelled_start : (s : List ℕ) → Whole s 0 → Whole s (past_at s 0) → value_at s 0 ≡ 1 → Spelled s (value_at s (past_at s 0)) [] (past_at s (past_at s 0))
unfolding edge_bytes
spelled_start s one two k all =
    written s 0 all one ∙ ap₂ ◌++◌ (ap varint_bytes k) (written s (past_at s 0) all two) ∙ simp append_assoc

-- and an edge more
pub spelled_more : (s : List ℕ) (v at : ℕ) (E : Edges) → Whole s at → Whole s (past_at s at) → Spelled s v E at → Spelled s v (edge_at s at ∷ E) (past_at s (past_at s at))
unfolding edge_bytes
spelled_more s v at E one two h all =
    h all
    ∙ ap (λ (l : List ℕ). tree_bytes v E ++ l) (written s at all one ∙ ap (λ (l : List ℕ). varint_bytes (value_at s at) ++ l) (written s (past_at s at) all two))
    ∙ simp append_assoc
