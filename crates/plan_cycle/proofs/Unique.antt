-- The edges up to the rejected one are the only ones with which the bytes start and of which only the last joins ends already joined.
use mathlib.Core.Path.{◌≡◌, sym, ap, ◌∙◌, subst}
use mathlib.Core.List.{List, ◌++◌, append_assoc}
use Prim.Native.Nat.{ℕ, ◌^◌}
use native.Mathlib.Omega.{arith}
use lib.ListN.{length}
use Rattle.base.specs.Limits.{max_rows}
use Rattle.base.specs.Found.{refused}
use Rattle.varint.specs.Varint.{varint_bytes}
use Rattle.tree.specs.Edges.{Edges, Below}
use Rattle.cycles.specs.Statement.{Rejected}
use Rattle.plan.specs.Bytes.{edge_bytes}
use Rattle.plan.specs.Reading.{plan_of}
use Rattle.plan_cycle.specs.Cycle.{edges_to_rejected}
use Rattle.plan_cycle.specs.Statement.{Starts}
use Rattle.plan_cycle.proofs.Opening.{begin}
use Rattle.plan_cycle.proofs.Along.{to_rejected}
use Rattle.plan_cycle.proofs.Sequence.{place_after, first_edges, up_to_first, written_first}
use Rattle.plan_cycle.proofs.First.{rejected_once}
use Rattle.plan_cycle.proofs.Begin.{edges_begin}

module _ (s : List ℕ) (place : ℕ) (e : plan_of s ≡ refused 8 place) where
  -- edges with which the bytes start are the first that are read
  starts_first : (v : ℕ) (F : Edges) → Below (2 ^ 32) F → Starts s v F → first_edges s (begin s) (length F) ≡ F
  starts_first v F b x =
      ap (λ (at : ℕ). first_edges s at (length F)) (edges_begin s place v (edge_bytes F ++ x.rest) e (x.bytes ∙ simp append_assoc))
      ∙ (written_first s (2 ^ 32) F (varint_bytes 1 ++ varint_bytes v) x.rest (omega arith) b (x.bytes ∙ simp append_assoc)).1

  -- and so are those up to the rejected one
  pub rejected_first : (n : ℕ) × (edges_to_rejected s place ≡ first_edges s (begin s) n)
  unfolding place_after first_edges
  rejected_first = up_to_first max_rows 0 s place (begin s)

  pub unique_edges : (v : ℕ) (F : Edges) → Below (2 ^ 32) F → Starts s v F → Rejected F → F ≡ edges_to_rejected s place
  unique_edges v F b x r =
      let i = starts_first v F b x in
      let j = rejected_first in
      sym i ∙ ap (first_edges s (begin s)) (rejected_once s (begin s) (length F) j.0 (subst Rejected (sym i) r) (subst Rejected j.1 (to_rejected s place e).rejected)) ∙ sym j.1
