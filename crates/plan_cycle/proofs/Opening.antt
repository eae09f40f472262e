-- How a plan refused by 8 opens: with the kind of a tree and its vertex count.
use mathlib.Core.Path.{◌≡◌, refl}
use mathlib.Core.List.{List, []}
use mathlib.Core.Bool.{Bool, true, false, ◌&&◌}
use Prim.Native.Nat.{ℕ, ◌-◌, ◌≤◌}
use native.Mathlib.Omega.{arith}
use lib.Dec.{eqb, leb, leb→le}
use borrow.Author.Tests.{eqb-true}
use Rattle.base.specs.Pick.{pick}
use Rattle.base.specs.Limits.{max_vertices}
use Rattle.base.specs.Found.{refused, ask}
use Rattle.base.proofs.Bools.{T-left, T-right}
use Rattle.varint.specs.Reading.{varint_at}
use Rattle.edges.specs.Reading.{edges_from}
use Rattle.plan.specs.Reading.{tree_from, range_from, plan_from, plan_of}
use Rattle.plan_groups.specs.Groups.{tree_end}
use Rattle.plan_cycle.specs.Cycle.{value_at, past_at}
use Rattle.plan_cycle.proofs.Refusals.{passed, Whole, whole, range_never}
use Rattle.plan_cycle.proofs.Turn.{Refuses}

-- the vertex count, and where the edges begin
abbrev pub count_of : List ℕ → ℕ
count_of s = value_at s (past_at s 0)

abbrev pub begin : List ℕ → ℕ
begin s = past_at s (past_at s 0)

pub record Opened (s : List ℕ) (place : ℕ) : Type 0 where
  pub kind_whole : Whole s 0
  pub kind : value_at s 0 ≡ 1
  pub count_whole : Whole s (past_at s 0)
  pub some : 1 ≤ count_of s
  pub within : count_of s ≤ max_vertices
  -- the refusal is that of an edge
  pub refusal : Refuses (count_of s) (count_of s - 1) s place (begin s) []

tree_only : (s : List ℕ) (k next : ℕ) {place : ℕ} → pick (eqb k 1) (tree_from s next) (pick (eqb k 2) (range_from s next) (refused 5 0)) ≡ refused 8 place → (k ≡ 1) × (tree_from s next ≡ refused 8 place)
tree_only s k next {place} e = go (eqb k 1) (eqb k 2) refl e
  where
    go : (x y : Bool) → eqb k 1 ≡ x → pick x (tree_from s next) (pick y (range_from s next) (refused 5 0)) ≡ refused 8 place → (k ≡ 1) × (tree_from s next ≡ refused 8 place)
    go true y i e = (eqb-true k 1 i, e)
    go false true i e = absurd (range_never s next e)
    go false false i e = let z : ◌≡◌ {A = ℕ} 5 8 = cc in absurd (omega arith)

pub opened : (s : List ℕ) (place : ℕ) → plan_of s ≡ refused 8 place → Opened s place
unfolding plan_from
opened s place e =
    let one = whole 0 (varint_at s 0) (λ k next. pick (eqb k 1) (tree_from s next) (pick (eqb k 2) (range_from s next) (refused 5 0))) e in
    let t = tree_only s (value_at s 0) at one.1 in
    let two = whole at (varint_at s at) (λ v next. ask (leb 1 v && leb v max_vertices) 6 at (edges_from v (v - 1) s next [] (tree_end v s))) t.1 in
    let q = passed (leb 1 v && leb v max_vertices) 6 at (edges_from v (v - 1) s (begin s) [] (tree_end v s)) (λ i. omega arith) two.1 in
    record {
      kind_whole = one.0;
      kind = t.0;
      count_whole = two.0;
      some = leb→le 1 v (T-left (leb 1 v) (leb v max_vertices) q.0);
      within = leb→le v max_vertices (T-right (leb 1 v) (leb v max_vertices) q.0);
      refusal = q.1;
    }
  where
    at : ℕ
    at = past_at s 0

    v : ℕ
    v = count_of s
