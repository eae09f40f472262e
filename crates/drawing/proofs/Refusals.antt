-- By what, and where, the plan of a drawing is refused; and which edge stands there.
use mathlib.Core.Path.{◌≡◌, refl, sym, ap, ◌∙◌, subst}
use mathlib.Core.Logic.{◌⊎◌, inl, inr, ⊎_elim}
use mathlib.Core.Bool.{Bool, true, false, ◌&&◌}
use mathlib.Core.List.{List, [], ◌++◌, append_assoc, append-nil}
use Prim.Native.Nat.{ℕ, zero, suc, ◌+◌, ◌-◌, ◌≤◌, ◌<◌, ◌^◌}
use native.Mathlib.Decide.{dec_lt}
use native.Mathlib.Numerals.{add-one}
use native.Mathlib.Omega.{arith}
use lib.Dec.{eqb, leb, eqb→eq, le→leb}
use lib.ListN.{length, get_or, length-append}
use borrow.Author.Tests.{eq-eqb}
use Rattle.base.specs.Limits.{max_vertices, max_rows}
use Rattle.base.specs.Found.{Found, found, refused, ask}
use Rattle.base.proofs.Bools.{T_and, true→T}
use Rattle.base.proofs.Smallest.{smallest_is}
use Rattle.varint.specs.Varint.{varint_bytes}
use Rattle.varint.proofs.Lengths.{length_limits}
use Rattle.varint.proofs.RoundTrip.{varint_read_at}
use Rattle.tree.specs.Edges.{Below}
use Rattle.tree.specs.Growth.{growth_order}
use Rattle.edges.specs.Rows.{rows}
use Rattle.edges.specs.Reading.{ends_apart, not_joined, room_at_ends, edges_from}
use Rattle.edges.proofs.Rows.{row_below}
use Rattle.plan.specs.Bytes.{edge_bytes, tree_bytes}
use Rattle.plan.specs.Plan.{Plan}
use Rattle.plan.specs.Positions.{tree_plan}
use Rattle.plan.specs.Reading.{ended, plan_from, plan_of}
use Rattle.plan.proofs.Listed.{ask_yes}
use Rattle.drawing.specs.Drawing.{kept_of, second_at, number_at}
use Rattle.drawing.specs.Statement.{AtEdge}
use Rattle.drawing.proofs.Plans.{kept_all, edge_length}

module _ (ps cs : List ℕ) where
  -- ---- the edge whose second end stands at a place

  one_more : (k : ℕ) → length (edge_bytes (rows ps cs (suc k))) ≡ (length (edge_bytes (rows ps cs k)) + length (varint_bytes (get_or ps k 0))) + length (varint_bytes (get_or cs k 0))
  one_more k = rw (← add-one k) (edge_length ps cs k)

  -- an edge's second end stands before the edges that follow
  later : (j k : ℕ) → j < k → length (edge_bytes (rows ps cs j)) + length (varint_bytes (get_or ps j 0)) < length (edge_bytes (rows ps cs k))
  later j zero l = absurd (omega arith)
  later j (suc k) l = go (dec_lt j k) (later j k)
    where
      go : Dec (j < k) → (j < k → length (edge_bytes (rows ps cs j)) + length (varint_bytes (get_or ps j 0)) < length (edge_bytes (rows ps cs k)))
          → length (edge_bytes (rows ps cs j)) + length (varint_bytes (get_or ps j 0)) < length (edge_bytes (rows ps cs (suc k)))
      go (yes p) rest = omega (arith, rest p, one_more k)
      go (no p) rest =
          let e : j ≡ k = omega arith in
          subst (λ (i : ℕ). length (edge_bytes (rows ps cs i)) + length (varint_bytes (get_or ps i 0)) < length (edge_bytes (rows ps cs (suc k)))) (sym e)
          (omega (arith, one_more k, (length_limits (get_or cs k 0)).0))

  pub number_second : (n k : ℕ) → k < kept_of n → number_at n ps cs (second_at n ps cs k) ≡ k
  number_second n k l =
      smallest_is (kept_of n) (λ j. eqb (second_at n ps cs j) (second_at n ps cs k)) k l (true→T (eq-eqb (second_at n ps cs k) (second_at n ps cs k) refl))
      (λ j m p. omega (arith, later j k m, eqb→eq (second_at n ps cs j) (second_at n ps cs k) p))

  -- ---- the bytes of the edges, from one of them on

  -- the next j edges from edge i on
  tail : ℕ → ℕ → List ℕ
  tail i zero = []
  tail i (suc j) = varint_bytes (get_or ps i 0) ++ (varint_bytes (get_or cs i 0) ++ tail (suc i) j)

  pass : (pre : List ℕ) (i j : ℕ) → (pre ++ edge_bytes (rows ps cs i)) ++ tail i (suc j) ≡ (pre ++ edge_bytes (rows ps cs (suc i))) ++ tail (suc i) j
  unfolding tail edge_bytes rows
  pass pre i j = simp append_assoc

  tail_all : (pre : List ℕ) (i j : ℕ) → (pre ++ edge_bytes (rows ps cs i)) ++ tail i j ≡ pre ++ edge_bytes (rows ps cs (i + j))
  unfolding tail
  tail_all pre i zero = append-nil (pre ++ edge_bytes (rows ps cs i)) ∙ ap (λ (k : ℕ). pre ++ edge_bytes (rows ps cs k)) (omega arith)
  tail_all pre i (suc j) = pass pre i j ∙ tail_all pre (suc i) j ∙ ap (λ (k : ℕ). pre ++ edge_bytes (rows ps cs k)) (omega arith)

-- ---- reading them

-- 7, 8 or 9, at the second end of one of n edges, which begin at h
record Stops (ps cs : List ℕ) (h n number place : ℕ) : Type 0 where
  low : 7 ≤ number
  high : number ≤ 9
  edge : ℕ
  within : edge < n
  second : place ≡ (h + length (edge_bytes (rows ps cs edge))) + length (varint_bytes (get_or ps edge 0))

-- the three questions of an edge, and then the rest
questions : (p q r : Bool) (second : ℕ) (rest : Found Plan) (number place : ℕ) → ask p 7 second (ask q 8 second (ask r 9 second rest)) ≡ refused number place
    → ((7 ≤ number) × (number ≤ 9) × (place ≡ second)) ⊎ (rest ≡ refused number place)
questions false q r second rest number place e = let n : 7 ≡ number = cc in let k : second ≡ place = cc in inl (omega arith, omega arith, omega arith)
questions true false r second rest number place e = let n : 8 ≡ number = cc in let k : second ≡ place = cc in inl (omega arith, omega arith, omega arith)
questions true true false second rest number place e = let n : 9 ≡ number = cc in let k : second ≡ place = cc in inl (omega arith, omega arith, omega arith)
questions true true true second rest number place e = inr e

module _ (ps cs pre : List ℕ) (v n : ℕ) (small : (i : ℕ) → i < n → (get_or ps i 0 < 2 ^ 32) × (get_or cs i 0 < 2 ^ 32)) where
  edges_judged : (s : List ℕ) (j i at number place : ℕ) → i + j ≡ n → s ≡ (pre ++ edge_bytes (rows ps cs i)) ++ tail ps cs i j → at ≡ length pre + length (edge_bytes (rows ps cs i))
      → edges_from v j s at (rows ps cs i) (λ F end. ended s end (tree_plan v (growth_order F))) ≡ refused number place → Stops ps cs (length pre) n number place
  unfolding edges_from rows tail
  edges_judged s zero i at number place m es ea e =
      let all : at ≡ length s = omega (arith, simp length-append at (ap length es)) in
      let whole = ask_yes (eqb at (length s)) 11 at (found (tree_plan v (growth_order (rows ps cs i)))) (true→T (eq-eqb at (length s) all)) in
      let z : ◌≡◌ {A = ℕ} 0 1 = cc in absurd (omega arith)
  edges_judged s (suc j) i at number place m es ea e =
      let a : ℕ = get_or ps i 0 in
      let b : ℕ = get_or cs i 0 in
      let f : List ℕ = pre ++ edge_bytes (rows ps cs i) in
      let t : List ℕ = tail ps cs (suc i) j in
      let second : ℕ = at + length (varint_bytes a) in
      let next : ℕ = second + length (varint_bytes b) in
      let l = small i (omega arith) in
      let long = length-append pre (edge_bytes (rows ps cs i)) in
      let one_read = varint_read_at a s f (varint_bytes b ++ t) at l.0 es (omega arith) in
      let two-read = varint_read_at b s (f ++ varint_bytes a) t second l.1 (es ∙ sym (append_assoc f (varint_bytes a) (varint_bytes b ++ t))) (omega (arith, length-append f (varint_bytes a))) in
      ⊎_elim
      (λ x. record { low = x.0; high = x.1; edge = i; within = omega arith; second = omega arith })
      (λ r. edges_judged s j (suc i) next number place (omega arith) (es ∙ pass ps cs pre i j) (omega (arith, one_more ps cs i)) r)
      (questions (ends_apart v a b) (not_joined (rows ps cs i) a b) (room_at_ends (rows ps cs i) a b) second (edges_from v j s next (rows ps cs (suc i)) (λ F end. ended s end (tree_plan v (growth_order F)))) number place (rw (one_read, two-read) at e))

-- ---- the plan of at most as many edges as it can have

pub plan_judged : (n : ℕ) (ps cs : List ℕ) → n ≤ max_rows → Below (2 ^ 32) (rows ps cs n) → (number place : ℕ) → plan_of (tree_bytes (n + 1) (rows ps cs n)) ≡ refused number place
    → AtEdge n ps cs number place
unfolding plan_from rows edge_bytes
plan_judged n ps cs l h number place e =
    let x : List ℕ = varint_bytes 1 in
    let y : List ℕ = varint_bytes (n + 1) in
    let t : List ℕ = edge_bytes (rows ps cs n) in
    let s : List ℕ = x ++ (y ++ t) in
    let at : ℕ = 0 + length x + length y in
    let kind = varint_read_at 1 s [] (y ++ t) 0 (omega arith) refl refl in
    let count = varint_read_at (n + 1) s x t (0 + length x) (omega arith) refl (omega arith) in
    let six = ask_yes (leb 1 (n + 1) && leb (n + 1) max_vertices) 6 (0 + length x) (edges_from (n + 1) (n + 1 - 1) s at [] (λ F end. ended s end (tree_plan (n + 1) (growth_order F)))) (T_and (leb 1 (n + 1)) (leb (n + 1) max_vertices) (le→leb 1 (n + 1) (omega arith)) (le→leb (n + 1) max_vertices (omega arith))) in
    let same : 0 + (n + 1 - 1) ≡ n = omega arith in
    let all : s ≡ ((x ++ y) ++ edge_bytes (rows ps cs 0)) ++ tail ps cs 0 (n + 1 - 1) =
    sym (append_assoc x y t) ∙ sym (tail_all ps cs (x ++ y) 0 (n + 1 - 1) ∙ ap (λ (k : ℕ). (x ++ y) ++ edge_bytes (rows ps cs k)) same)
    in
    let long = length-append x y in
    let j = edges_judged ps cs (x ++ y) (n + 1) n (λ i k. row_below (2 ^ 32) ps cs n i k h) s (n + 1 - 1) 0 at number place (omega arith) all (omega arith) (sym six ∙ (rw (kind, count) at e)) in
    record { low = j.low; high = j.high; edge = j.edge; within = omega (arith, kept_all n l); second = omega arith }
