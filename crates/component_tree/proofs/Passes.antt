-- Passes over positions: ranks written at labels; and over rows: the search for a neighbour.
use mathlib.Core.Path.{◌≡◌, refl, sym, ap, ◌∙◌, subst}
use mathlib.Core.Logic.{◌⊎◌, inl, inr}
use mathlib.Core.List.{List}
use mathlib.Core.Bool.{◌&&◌}
use Prim.Native.Nat.{ℕ, zero, suc, ◌+◌, ◌≤◌, ◌<◌}
use native.Mathlib.Decide.{ℕ_discrete}
use native.Mathlib.Numerals.{add-one}
use native.Mathlib.Omega.{arith}
use lib.Dec.{T, eqb, eqb→eq, eqb_refl}
use lib.ListN.{length, get_or, set}
use lib.Seq.{get_or-set_same, get_or-set_other}
use borrow.Author.Tests.{eq-eqb, ne_eqb}
use Rattle.base.specs.Limits.{max_vertices}
use Rattle.base.specs.Pick.{pick}
use Rattle.base.specs.Sets.{bit, count}
use Rattle.base.proofs.Bools.{T_and, T-left, T-right, or_split, or_left, or_right}
use Rattle.base.proofs.Ranks.{count_grow, count_member}
use Rattle.tree.specs.Edges.{ends, adjacent}
use Rattle.edges.specs.Rows.{rows}
use Rattle.marks.specs.Marks.{marked}
use Rattle.marks.proofs.Marks.{on, off}
use Rattle.tree_pass.proofs.Rows.{row}
use Rattle.component_tree.specs.Inner.{Apart, found}

-- ---- ranks

-- how many of the positions before x are marked
pub counted_start : (near : List ℕ) → 0 ≡ count 0 (marked near)
unfolding count
counted_start near = refl

pub counted_more : (near : List ℕ) (x k k' : ℕ) → k ≡ count x (marked near) → k' ≡ k + bit (eqb (get_or near x 0) 1) → k' ≡ count (x + 1) (marked near)
unfolding count marked
counted_more near x k k' e i = rw (add-one x) (omega arith)

-- of the members before x each has its rank and one more at its label
abbrev pub Ranked : List ℕ → List ℕ → ℕ → List ℕ → Type 0
Ranked near labels x table = (w : ℕ) → w < x → T (marked near w) → get_or table (get_or labels w 0) 0 ≡ suc (count (suc w) (marked near))

pub ranked_start : (near labels table : List ℕ) → Ranked near labels 0 table
ranked_start near labels table w l t = absurd (omega arith)

module _ (near labels : List ℕ) (n : ℕ) (apart : Apart near labels n) (x k : ℕ) (l : x < n) (e : k ≡ count x (marked near)) where
  -- the next rank fits
  pub rank_room : count n (marked near) < max_vertices → get_or near x 0 ≡ 1 → k + 2 ≤ max_vertices
  rank_room few i = omega (arith, count_member (marked near) x (on near x i), count_grow (marked near) (suc x) n l)

  pub ranked_more : (table table' : List ℕ) (a : ℕ) → a ≡ get_or labels x 0 → a < length table → table' ≡ pick (eqb (get_or near x 0) 1) (set table a (k + 2)) table
      → Ranked near labels x table → Ranked near labels (x + 1) table'
  ranked_more table table' a i b j h w lw t = rw j (go (ℕ_discrete w x) (ℕ_discrete (get_or near x 0) 1))
    where
      go : Dec (w ≡ x) → Dec (get_or near x 0 ≡ 1) → get_or (pick (eqb (get_or near x 0) 1) (set table a (k + 2)) table) (get_or labels w 0) 0 ≡ suc (count (suc w) (marked near))
      go (yes p) (yes q) =
          let m = count_member (marked near) x (on near x q) in
          rw (eq-eqb (get_or near x 0) 1 q, p, ← i) (get_or-set_same table a (k + 2) 0 b ∙ omega (arith, m))
      go (yes p) (no q) = absurd (off near x q (subst (λ (z : ℕ). T (marked near z)) p t))
      go (no p) (yes q) =
          rw (eq-eqb (get_or near x 0) 1 q)
          (get_or-set_other table a (get_or labels w 0) (k + 2) 0 (λ r. p (apart w x (omega arith) l t (on near x q) (r ∙ i))) ∙ h w (omega arith) t)
      go (no p) (no q) = rw (ne_eqb (get_or near x 0) 1 q) (h w (omega arith) t)

-- ---- the search over rows

-- a row is among the first m
adjacent_row : (ps cs : List ℕ) (c x i m : ℕ) → i < m → T (ends (row ps cs i) c x) → T (adjacent (rows ps cs m) c x)
unfolding adjacent rows
adjacent_row ps cs c x i zero l h = absurd (omega arith)
adjacent_row ps cs c x i (suc m) l h = go (ℕ_discrete i m) (adjacent_row ps cs c x i m)
  where
    go : Dec (i ≡ m) → (i < m → T (ends (row ps cs i) c x) → T (adjacent (rows ps cs m) c x)) → T (adjacent (rows ps cs (suc m)) c x)
    go (yes e) ih = or_left (ends (row ps cs m) c x) _ (subst (λ (z : ℕ). T (ends (row ps cs z) c x)) e h)
    go (no d) ih = or_right (ends (row ps cs m) c x) _ (ih (omega arith) h)

-- w is the one position u beside c with the number a, if the first i rows join it to c
abbrev pub Sought : List ℕ → List ℕ → ℕ → ℕ → ℕ → ℕ → Type 0
Sought ps cs c u i w = T (adjacent (rows ps cs i) c u) → w ≡ u

pub sought_start : (ps cs : List ℕ) (c u w : ℕ) → Sought ps cs c u 0 w
unfolding adjacent rows
sought_start ps cs c u w h = absurd h

module _ (ps cs ports : List ℕ) (c a u m : ℕ) (here : get_or ports u 0 ≡ a) (one : (x : ℕ) → T (adjacent (rows ps cs m) c x) → get_or ports x 0 ≡ a → x ≡ u) where
  pub sought_more : (i w w' p v : ℕ) → i < m → p ≡ get_or ps i 0 → v ≡ get_or cs i 0 → w' ≡ found ports c a p v w → Sought ps cs c u i w → Sought ps cs c u (i + 1) w'
  unfolding found adjacent rows ends
  sought_more i w w' p v l j k e h t =
      rw (e, j, k) (go (ℕ_discrete c s) (ℕ_discrete c r) (ℕ_discrete (get_or ports r 0) a) (ℕ_discrete (get_or ports s 0) a) (told (or_split (ends (row ps cs i) c u) _ (rw (add-one i) at t))))
    where
      s : ℕ
      s = get_or ps i 0

      r : ℕ
      r = get_or cs i 0

      -- an end beside c with the number
      hit : (x : ℕ) → T (ends (row ps cs i) c x) → get_or ports x 0 ≡ a → x ≡ u
      hit x q y = one x (adjacent_row ps cs c x i m l q) y

      number : (x : ℕ) → x ≡ u → get_or ports x 0 ≡ a
      number x q = ap (λ (z : ℕ). get_or ports z 0) q ∙ here

      told : T (ends (row ps cs i) c u) ⊎ T (adjacent (rows ps cs i) c u) → (((c ≡ s) × (u ≡ r)) ⊎ ((c ≡ r) × (u ≡ s))) ⊎ T (adjacent (rows ps cs i) c u)
      told (inl q) = inl (elim (or_split (eqb c s && eqb u r) _ q) [
        | inl y ↦ inl (eqb→eq c s (T-left (eqb c s) _ y), eqb→eq u r (T-right (eqb c s) _ y))
        | inr y ↦ inr (eqb→eq c r (T-left (eqb c r) _ y), eqb→eq u s (T-right (eqb c r) _ y))
      ])
      told (inr q) = inr q

      go : Dec (c ≡ s) → Dec (c ≡ r) → Dec (get_or ports r 0 ≡ a) → Dec (get_or ports s 0 ≡ a) → (((c ≡ s) × (u ≡ r)) ⊎ ((c ≡ r) × (u ≡ s))) ⊎ T (adjacent (rows ps cs i) c u)
          → pick (eqb c s) (pick (eqb (get_or ports r 0) a) r w) (pick (eqb c r) (pick (eqb (get_or ports s 0) a) s w) w) ≡ u
      go (yes x) y (yes z) q d = rw (eq-eqb c s x, eq-eqb (get_or ports r 0) a z) (hit r (or_left (eqb c s && eqb r r) _ (T_and (eqb c s) _ (rw x (eqb_refl s)) (eqb_refl r))) z)
      go (yes x) y (no z) q (inl (inl d)) = absurd (z (number r (sym d.1)))
      go (yes x) y (no z) q (inl (inr d)) = absurd (z (number r (sym d.0 ∙ x ∙ sym d.1)))
      go (yes x) y (no z) q (inr d) = rw (eq-eqb c s x, ne_eqb (get_or ports r 0) a z) (h d)
      go (no x) (yes y) z (yes q) d = rw (ne_eqb c s x, eq-eqb c r y, eq-eqb (get_or ports s 0) a q) (hit s (or_right (eqb c s && eqb s r) _ (T_and (eqb c r) _ (rw y (eqb_refl r)) (eqb_refl s))) q)
      go (no x) (yes y) z (no q) (inl (inl d)) = absurd (x d.0)
      go (no x) (yes y) z (no q) (inl (inr d)) = absurd (q (number s (sym d.1)))
      go (no x) (yes y) z (no q) (inr d) = rw (ne_eqb c s x, eq-eqb c r y, ne_eqb (get_or ports s 0) a q) (h d)
      go (no x) (no y) z q (inl (inl d)) = absurd (x d.0)
      go (no x) (no y) z q (inl (inr d)) = absurd (y d.0)
      go (no x) (no y) z q (inr d) = rw (ne_eqb c s x, ne_eqb c r y) (h d)
