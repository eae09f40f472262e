-- The edges up to the rejected one, written into columns.
use mathlib.Core.Path.{◌≡◌, sym, ◌∙◌}
use mathlib.Core.List.{List, ◌∷◌}
use Prim.Native.Nat.{ℕ, ◌+◌, ◌≤◌, ◌<◌}
use native.Mathlib.Omega.{arith}
use lib.ListN.{length, set, length-set}
use Rattle.base.specs.Found.{refused}
use Rattle.base.specs.Limits.{max_vertices, max_rows}
use Rattle.edges.specs.Rows.{rows}
use Rattle.edges.proofs.Rows.{rows_length}
use Rattle.edges.proofs.Further.{no_rows, rows_more}
use Rattle.plan.specs.Reading.{plan_of}
use Rattle.plan_cycle.specs.Cycle.{value_at, past_at, edge_at, edges_to_rejected}
use Rattle.plan_cycle.proofs.Along.{Along, along_start, along_room, along_next, along_end}

-- the first i rows of the columns are the edges before the one that stands at `at`
pub record Collected (s : List ℕ) (place at : ℕ) (one two : List ℕ) (i : ℕ) : Type 0 where
  pub along : Along s place at (rows one two i)
  pub ones : max_rows ≤ length one
  pub twos : max_rows ≤ length two

pub collected_start : {s : List ℕ} {place count at : ℕ} {one two : List ℕ} → count ≡ past_at s 0 → at ≡ past_at s count
    → (plan_of s ≡ refused 8 place) × (max_rows ≤ length one) × (max_rows ≤ length two) → Collected s place at one two 0
collected_start {s} {place} {one = one} {two = two} n f h =
    record { along = rw (f, n, no_rows one two) (along_start s place h.0); ones = h.1; twos = h.2 }

module _ {s : List ℕ} {place at : ℕ} {one two : List ℕ} {i : ℕ} (h : Collected s place at one two i) where
  -- there is room for the edge
  pub collected_room : i < max_rows
  collected_room = omega (arith, (along_room h.along).0, rows_length one two i)

  -- and its ends are vertices
  pub collected_edge : (value_at s at < max_vertices) × (value_at s (past_at s at) < max_vertices)
  collected_edge = let r = along_room h.along in (r.1, r.2)

  module _ {a b second : ℕ} (e : second ≡ past_at s at) (p : a ≡ value_at s at) (q : b ≡ value_at s second) where
    row_more : rows (set one i a) (set two i b) (i + 1) ≡ edge_at s at ∷ rows one two i
    row_more =
        rw (p, q, e) (rows_more one two i (value_at s at) (value_at s (past_at s at)) (omega (arith, collected_room, h.ones)) (omega (arith, collected_room, h.twos)))

    -- it is not the rejected one
    pub collected_next : {next : ℕ} → next ≡ past_at s second → (second ≡ place → ⊥) → Collected s place next (set one i a) (set two i b) (i + 1)
    collected_next n d =
        record {
          along = rw (row_more, n, e) (along_next h.along (λ k. d (e ∙ k)));
          ones = simp length-set h.ones;
          twos = simp length-set h.twos;
        }

    -- it is
    pub collected_end : second ≡ place → rows (set one i a) (set two i b) (i + 1) ≡ edges_to_rejected s place
    collected_end k = row_more ∙ along_end h.along (sym e ∙ k)
