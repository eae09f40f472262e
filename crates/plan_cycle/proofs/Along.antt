-- The way through a plan refused by 8, edge by edge, up to the rejected one.
use mathlib.Core.Path.{◌≡◌, refl, sym, ◌∙◌, subst}
use mathlib.Core.List.{List, [], ◌∷◌}
use Prim.Native.Nat.{ℕ, zero, suc, ◌+◌, ◌-◌, ◌≤◌, ◌<◌}
use native.Mathlib.Decide.{ℕ_discrete}
use native.Mathlib.Omega.{arith}
use lib.ListN.{length, drop}
use borrow.Author.Tests.{eq-eqb, ne_eqb}
use Rattle.base.specs.Limits.{max_vertices, max_rows}
use Rattle.base.specs.Found.{refused}
use Rattle.tree.specs.Edges.{Edges, Below}
use Rattle.tree.specs.Inner.{Acyclic}
use Rattle.tree.proofs.Edges.{below_more}
use Rattle.cycles.proofs.Closes.{acyclic_open}
use Rattle.plan.specs.Reading.{plan_of}
use Rattle.plan_cycle.specs.Cycle.{value_at, past_at, edge_at, edges_up_to, edges_to_rejected}
use Rattle.plan_cycle.specs.Statement.{UpToRejected}
use Rattle.plan_cycle.proofs.Spelling.{Spelled, spelled_start, spelled_more}
use Rattle.plan_cycle.proofs.Turn.{Refuses, Turn, next_turn, closing, following}
use Rattle.plan_cycle.proofs.Opening.{count_of, begin, opened}

-- E are the edges before `at`, none of which is rejected, and the rejected one is further on
pub record Along (s : List ℕ) (place at : ℕ) (E : Edges) : Type 0 where
  pub vertices : ℕ
  pub left : ℕ
  pub within : vertices ≤ max_vertices
  pub room : length E + left < vertices
  pub below : Below vertices E
  pub acyclic : Acyclic E
  pub refusal : Refuses vertices left s place at E
  pub same : edges_up_to (max_rows - length E) s place at E ≡ edges_to_rejected s place
  pub spelled : Spelled s vertices E at

-- before the first edge
pub along_start : (s : List ℕ) (place : ℕ) → plan_of s ≡ refused 8 place → Along s place (begin s) []
along_start s place e =
    let o = opened s place e in
    record {
      vertices = count_of s;
      left = count_of s - 1;
      within = o.within;
      room = omega (arith, o.some);
      below = tt;
      acyclic = tt;
      refusal = o.refusal;
      same = refl;
      spelled = spelled_start s o.kind_whole o.count_whole o.kind;
    }

-- ---- from edge to edge

-- one edge more is not the last
up_to_more : (s : List ℕ) (place at n m : ℕ) (E : Edges) → n ≡ suc m → (past_at s at ≡ place → ⊥) → edges_up_to n s place at E ≡ edges_up_to m s place (past_at s (past_at s at)) (edge_at s at ∷ E)
unfolding edges_up_to
up_to_more s place at n m E i d = rw (i, ne_eqb (past_at s at) place d)

up_to_end : (s : List ℕ) (place at n m : ℕ) (E : Edges) → n ≡ suc m → past_at s at ≡ place → edges_up_to n s place at E ≡ edge_at s at ∷ E
unfolding edges_up_to
up_to_end s place at n m E i d = rw (i, eq-eqb (past_at s at) place d)

module _ {s : List ℕ} {place at : ℕ} {E : Edges} (x : Along s place at E) where
  the_turn : (j : ℕ) × (x.left ≡ suc j) × Turn x.vertices j s place at E
  the_turn = next_turn x.vertices s place x.left at E x.refusal

  -- there is room for the edge, and its ends are vertices
  pub along_room : (length E < max_rows) × (value_at s at < max_vertices) × (value_at s (past_at s at) < max_vertices)
  along_room =
      let t = the_turn in
      (omega (arith, x.room, x.within, t.1), omega (arith, x.within, t.2.one_below), omega (arith, x.within, t.2.two_below))

  one_left : max_rows - length E ≡ suc (max_rows - suc (length E))
  one_left = omega (arith, along_room.0)

  -- the edge is not the rejected one
  pub along_next : (past_at s at ≡ place → ⊥) → Along s place (past_at s (past_at s at)) (edge_at s at ∷ E)
  along_next d =
      let t = the_turn in
      let f = following t.2 d in
      record {
        vertices = x.vertices;
        left = t.0;
        within = x.within;
        room = omega (arith, x.room, t.1);
        below = (t.2.one_below, t.2.two_below, x.below);
        acyclic = (f.0, x.acyclic);
        refusal = f.1;
        same = sym (up_to_more s place at (max_rows - length E) (max_rows - suc (length E)) E one_left d) ∙ x.same;
        spelled = spelled_more s x.vertices at E t.2.one_whole t.2.two_whole x.spelled;
      }

  module _ (i : past_at s at ≡ place) where
    -- it is
    pub along_end : edge_at s at ∷ E ≡ edges_to_rejected s place
    along_end = sym (up_to_end s place at (max_rows - length E) (max_rows - suc (length E)) E one_left i) ∙ x.same

    along_rejected : UpToRejected s (edge_at s at ∷ E)
    along_rejected =
        let t = the_turn in
        record {
          vertices = x.vertices;
          starts = λ all. record { rest = drop (past_at s (past_at s at)) s; bytes = spelled_more s x.vertices at E t.2.one_whole t.2.two_whole x.spelled all };
          within = x.within;
          among = omega (arith, x.room, t.1);
          below = (t.2.one_below, t.2.two_below, x.below);
          rejected = (closing t.2 i, acyclic_open E x.acyclic);
        }

-- ---- to the rejected one

to_end : (k : ℕ) (s : List ℕ) (place at : ℕ) (E : Edges) → length E + k ≡ max_rows → Along s place at E → UpToRejected s (edges_to_rejected s place)
to_end zero s place at E e x = absurd (omega (arith, (along_room x).0))
to_end (suc k) s place at E e x = go (ℕ_discrete (past_at s at) place) (to_end k s place (past_at s (past_at s at)) (edge_at s at ∷ E) (omega arith))
  where
    go : Dec (past_at s at ≡ place) → (Along s place (past_at s (past_at s at)) (edge_at s at ∷ E) → UpToRejected s (edges_to_rejected s place)) → UpToRejected s (edges_to_rejected s place)
    go (yes i) rec = subst (UpToRejected s) (along_end x i) (along_rejected x i)
    go (no d) rec = rec (along_next x d)

module _ (s : List ℕ) (place : ℕ) (e : plan_of s ≡ refused 8 place) where
  pub to_rejected : UpToRejected s (edges_to_rejected s place)
  to_rejected = to_end max_rows s place (begin s) [] (omega arith) (along_start s place e)

  pub rejected_below : Below max_vertices (edges_to_rejected s place)
  rejected_below = below_more to_rejected.vertices max_vertices (edges_to_rejected s place) to_rejected.within to_rejected.below
