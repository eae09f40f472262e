-- What the test of a plan part tells of a row.
use mathlib.Core.List.{List}
use mathlib.Core.Bool.{not, ◌&&◌}
use Prim.Native.Nat.{ℕ, ◌<◌}
use lib.Dec.{T, ltb, ltb→lt, lt→ltb, T_not, not_T}
use lib.ListN.{get_or}
use Rattle.base.specs.Limits.{max_degree}
use Rattle.base.proofs.Bools.{T_and, T-left, T-right}
use Rattle.tree.specs.Edges.{Edges, edges_at}
use Rattle.tree.specs.Growth.{reached}
use Rattle.edges.specs.Rows.{rows}
use Rattle.plan.specs.Valid.{row_fits}

-- a row from p to c fits after the rows F
pub record Fitting (v : ℕ) (F : Edges) (p c : ℕ) : Type 0 where
  pub from_below : p < v
  pub to_below : c < v
  pub from_reached : T (reached F p)
  pub to_new : T (reached F c) → ⊥
  pub from_room : edges_at F p < max_degree
  pub to_room : edges_at F c < max_degree

module _ (v : ℕ) (ps cs : List ℕ) (i : ℕ) where
  pub fitting : T (row_fits v ps cs i) → Fitting v (rows ps cs i) (get_or ps i 0) (get_or cs i 0)
  unfolding row_fits
  fitting h =
      let F : Edges = rows ps cs i in
      let p : ℕ = get_or ps i 0 in
      let c : ℕ = get_or cs i 0 in
      let l = T-left ((ltb p v && ltb c v) && (reached F p && not (reached F c))) (ltb (edges_at F p) max_degree && ltb (edges_at F c) max_degree) h in
      let r = T-right ((ltb p v && ltb c v) && (reached F p && not (reached F c))) (ltb (edges_at F p) max_degree && ltb (edges_at F c) max_degree) h in
      let a = T-left (ltb p v && ltb c v) (reached F p && not (reached F c)) l in
      let b = T-right (ltb p v && ltb c v) (reached F p && not (reached F c)) l in
      record {
        from_below = ltb→lt p v (T-left (ltb p v) (ltb c v) a);
        to_below = ltb→lt c v (T-right (ltb p v) (ltb c v) a);
        from_reached = T-left (reached F p) (not (reached F c)) b;
        to_new = T_not (reached F c) (T-right (reached F p) (not (reached F c)) b);
        from_room = ltb→lt (edges_at F p) max_degree (T-left (ltb (edges_at F p) max_degree) (ltb (edges_at F c) max_degree) r);
        to_room = ltb→lt (edges_at F c) max_degree (T-right (ltb (edges_at F p) max_degree) (ltb (edges_at F c) max_degree) r);
      }

  pub fitted : Fitting v (rows ps cs i) (get_or ps i 0) (get_or cs i 0) → T (row_fits v ps cs i)
  unfolding row_fits
  fitted f =
      let F : Edges = rows ps cs i in
      let p : ℕ = get_or ps i 0 in
      let c : ℕ = get_or cs i 0 in
      T_and ((ltb p v && ltb c v) && (reached F p && not (reached F c))) (ltb (edges_at F p) max_degree && ltb (edges_at F c) max_degree)
      (T_and (ltb p v && ltb c v) (reached F p && not (reached F c))
      (T_and (ltb p v) (ltb c v) (lt→ltb p v f.from_below) (lt→ltb c v f.to_below))
      (T_and (reached F p) (not (reached F c)) f.from_reached (not_T (reached F c) f.to_new)))
      (T_and (ltb (edges_at F p) max_degree) (ltb (edges_at F c) max_degree) (lt→ltb (edges_at F p) max_degree f.from_room) (lt→ltb (edges_at F c) max_degree f.to_room))
