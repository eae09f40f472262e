-- Whether rows fit, by what is noted of the rows before; and columns that are 0.
use mathlib.Core.Path.{◌≡◌, refl, sym, ap, ◌∙◌, subst, subst₂}
use mathlib.Core.List.{List, [], ◌∷◌}
use mathlib.Core.Bool.{Bool, true, false, ◌&&◌, ◌||◌}
use Prim.Native.Nat.{ℕ, zero, suc, ◌+◌, ◌≤◌, ◌<◌}
use native.Mathlib.Decide.{ℕ_discrete}
use native.Mathlib.Omega.{arith}
use native.Mathlib.Numerals.{add-one}
use lib.Bits.{bit_or, or_add_and, and_le_l, and_le_r}
use lib.Dec.{T, eqb, eqb→eq, eqb_refl}
use lib.ListN.{length, get_or, set, drop, length-set, drop_of_length-le}
use lib.Seq.{get_or-set_same, get_or-set_other, drop-cons}
use borrow.Author.Tests.{eq-eqb}
use Rattle.base.specs.Limits.{max_degree}
use Rattle.base.specs.Sets.{bit}
use Rattle.base.proofs.Bools.{T_and, T-left, T-right, T-ext, T→true, not-T→false, true→T, false→not-T}
use Rattle.tree.specs.Edges.{Edges, edges_at}
use Rattle.tree.specs.Growth.{reached}
use Rattle.edges.specs.Rows.{rows}
use Rattle.plan_growth.specs.Inner.{edge}
use Rattle.plan_growth.proofs.Columns.{bit_one, one_bit}
use Rattle.plan.specs.Valid.{row_fits, rows_fit, all_zero}
use Rattle.plan_laws.proofs.Fitting.{Fitting, fitting, fitted}
use Rattle.plan_test.specs.Inner.{Noted}

-- the row from p to c is noted
module _ {v : ℕ} {F : Edges} {seen many : List ℕ} (n : Noted v F seen many) {p c : ℕ} (f : Fitting v F p c) where
  apart : p ≡ c → ⊥
  apart e = f.to_new (subst (λ (x : ℕ). T (reached F x)) e f.from_reached)

  mark_more : (x : ℕ) → x < v → (b : Bool) → eqb x c ≡ b → get_or (set seen c 1) x 0 ≡ bit (b || reached F x)
  mark_more x l true e = rw (eqb→eq x c (true→T e)) (get_or-set_same seen c 1 0 (omega (arith, f.to_below, n.places.0)))
  mark_more x l false e = get_or-set_other seen c x 1 0 (λ z. false→not-T e (subst (λ (y : ℕ). T (eqb x y)) z (eqb_refl x))) ∙ n.marks x l

  count_more : (x : ℕ) → x < v → (a b : Bool) → eqb x p ≡ a → eqb x c ≡ b
      → get_or (set (set many p (get_or many p 0 + 1)) c (get_or many c 0 + 1)) x 0 ≡ bit (a || b) + edges_at F x
  count_more x l true true d e = absurd (apart (sym (eqb→eq x p (true→T d)) ∙ eqb→eq x c (true→T e)))
  count_more x l false true d e =
      let i : x ≡ c = eqb→eq x c (true→T e) in
      rw i (get_or-set_same (set many p (get_or many p 0 + 1)) c (get_or many c 0 + 1) 0 (simp length-set (omega (arith, f.to_below, n.places.1)))
      ∙ omega (arith, n.counts c f.to_below))
  count_more x l true false d e =
      let i : x ≡ p = eqb→eq x p (true→T d) in
      rw i (get_or-set_other (set many p (get_or many p 0 + 1)) c p (get_or many c 0 + 1) 0 apart
      ∙ get_or-set_same many p (get_or many p 0 + 1) 0 (omega (arith, f.from_below, n.places.1))
      ∙ omega (arith, n.counts p f.from_below))
  count_more x l false false d e =
      get_or-set_other (set many p (get_or many p 0 + 1)) c x (get_or many c 0 + 1) 0 (λ z. false→not-T e (subst (λ (y : ℕ). T (eqb x y)) z (eqb_refl x)))
      ∙ get_or-set_other many p x (get_or many p 0 + 1) 0 (λ z. false→not-T d (subst (λ (y : ℕ). T (eqb x y)) z (eqb_refl x)))
      ∙ omega (arith, n.counts x l)

  noted_more : Noted v (edge p c ∷ F) (set seen c 1) (set (set many p (get_or many p 0 + 1)) c (get_or many c 0 + 1))
  unfolding reached edges_at
  noted_more =
      record {
        places = simp length-set n.places;
        marks = λ x l. mark_more x l (eqb x c) refl;
        counts = λ x l. count_more x l (eqb x p) (eqb x c) refl refl;
      }

-- whether row i fits, by what is noted of the rows before
module _ {v : ℕ} (ps cs : List ℕ) (i : ℕ) {seen many : List ℕ} (n : Noted v (rows ps cs i) seen many) {p c : ℕ} (ep : p ≡ get_or ps i 0) (ec : c ≡ get_or cs i 0) where
  -- the row does not fit
  pub no_fit : {X : Type 0} → (p < v → c < v → get_or seen p 0 ≡ 1 → (get_or seen c 0 ≡ 1 → ⊥) → get_or many p 0 < max_degree → get_or many c 0 < max_degree → ⊥)
      → (false ≡ row_fits v ps cs i) × (T false → X)
  no_fit k = (sym (not-T→false (row_fits v ps cs i) (λ t. against (subst₂ (Fitting v (rows ps cs i)) (sym ep) (sym ec) (fitting v ps cs i t)))), λ t. absurd t)
    where
      against : Fitting v (rows ps cs i) p c → ⊥
      against f =
          k f.from_below f.to_below (n.marks p f.from_below ∙ one_bit (reached (rows ps cs i) p) f.from_reached)
          (λ e. f.to_new (bit_one (reached (rows ps cs i) c) (sym (n.marks c f.to_below) ∙ e)))
          (omega (arith, n.counts p f.from_below, f.from_room)) (omega (arith, n.counts c f.to_below, f.to_room))

  -- the row fits, and is noted
  pub fit : p < v → c < v → get_or seen p 0 ≡ 1 → (get_or seen c 0 ≡ 1 → ⊥) → get_or many p 0 < max_degree → get_or many c 0 < max_degree
      → (true ≡ row_fits v ps cs i) × (T true → Noted v (rows ps cs (suc i)) (set seen c 1) (set (set many p (get_or many p 0 + 1)) c (get_or many c 0 + 1)))
  unfolding rows
  fit a b d e h g = (
    sym (T→true (row_fits v ps cs i) (fitted v ps cs i (subst₂ (Fitting v (rows ps cs i)) ep ec f))),
    λ t. subst₂ (λ (x y : ℕ). Noted v (edge x y ∷ rows ps cs i) (set seen c 1) (set (set many p (get_or many p 0 + 1)) c (get_or many c 0 + 1))) ep ec (noted_more n f),
  )
    where
      f : Fitting v (rows ps cs i) p c
      f =
          record {
            from_below = a;
            to_below = b;
            from_reached = bit_one (reached (rows ps cs i) p) (sym (n.marks p a) ∙ d);
            to_new = λ t. e (n.marks c b ∙ one_bit (reached (rows ps cs i) c) t);
            from_room = omega (arith, n.counts p a);
            to_room = omega (arith, n.counts c b);
          }

-- ---- all rows

pub none_fit : (v : ℕ) (ps cs : List ℕ) → rows_fit v ps cs 0 ≡ true
unfolding rows_fit
none_fit v ps cs = refl

pub more_fit : (v : ℕ) (ps cs : List ℕ) (i : ℕ) {r : Bool} → r ≡ true → r ≡ row_fits v ps cs i → rows_fit v ps cs i ≡ true → rows_fit v ps cs (i + 1) ≡ true
unfolding rows_fit
more_fit v ps cs i t e h = rw (add-one i, h) (sym e ∙ t)

-- a row that does not fit
pub stop_fit : (v : ℕ) (ps cs : List ℕ) (i m : ℕ) {r : Bool} → i < m → r ≡ false → r ≡ row_fits v ps cs i → false ≡ rows_fit v ps cs m
unfolding rows_fit
stop_fit v ps cs i zero l t e = absurd (omega arith)
stop_fit v ps cs i (suc m) {r} l t e = go (ℕ_discrete i m) (stop_fit v ps cs i m)
  where
    and_false : (b : Bool) → false ≡ b && false
    and_false true = refl
    and_false false = refl

    go : Dec (i ≡ m) → (i < m → r ≡ false → r ≡ row_fits v ps cs i → false ≡ rows_fit v ps cs m) → false ≡ rows_fit v ps cs m && row_fits v ps cs m
    go (yes k) ih = and_false (rows_fit v ps cs m) ∙ ap (λ (b : Bool). rows_fit v ps cs m && b) (sym t ∙ e ∙ ap (row_fits v ps cs) k)
    go (no k) ih = ap (λ (b : Bool). b && row_fits v ps cs m) (ih (omega arith) t e)

pub end_fit : (v : ℕ) (ps cs : List ℕ) (i m : ℕ) → i ≡ m → rows_fit v ps cs i ≡ true → true ≡ rows_fit v ps cs m
end_fit v ps cs i m e h = sym h ∙ ap (rows_fit v ps cs) e

-- ---- nothing but 0

-- two numbers or-ed are 0 where both are
or_zero : (a b : ℕ) → eqb (bit_or a b) 0 ≡ eqb a 0 && eqb b 0
or_zero a b =
    T-ext (eqb (bit_or a b) 0) (eqb a 0 && eqb b 0)
    (λ t. T_and (eqb a 0) (eqb b 0) (true→T (eq-eqb a 0 (low (eqb→eq (bit_or a b) 0 t)).0)) (true→T (eq-eqb b 0 (low (eqb→eq (bit_or a b) 0 t)).1)))
    (λ t. true→T (eq-eqb (bit_or a b) 0 (both (eqb→eq a 0 (T-left (eqb a 0) (eqb b 0) t)) (eqb→eq b 0 (T-right (eqb a 0) (eqb b 0) t)))))
  where
    low : bit_or a b ≡ 0 → (a ≡ 0) × (b ≡ 0)
    low e = (omega (arith, or_add_and a b, and_le_r a b), omega (arith, or_add_and a b, and_le_l a b))

    both : a ≡ 0 → b ≡ 0 → bit_or a b ≡ 0
    both p q = omega (arith, or_add_and a b)

pub zero_start : (l : List ℕ) → all_zero l ≡ eqb 0 0 && all_zero l
zero_start l = refl

pub zero_next : (l : List ℕ) (a i : ℕ) → i < length l → eqb a 0 && all_zero (drop i l) ≡ eqb (bit_or a (get_or l i 0)) 0 && all_zero (drop (i + 1) l)
unfolding all_zero
zero_next l a i h = rw (add-one i, drop-cons l i 0 h, or_zero a (get_or l i 0)) (sym (and_assoc (eqb a 0) (eqb (get_or l i 0) 0) (all_zero (drop (suc i) l))))
  where
    and_assoc : (a b c : Bool) → (a && b) && c ≡ a && (b && c)
    and_assoc true b c = refl
    and_assoc false b c = refl

pub zero_end : (l : List ℕ) (a i : ℕ) → length l ≤ i → eqb a 0 ≡ eqb a 0 && all_zero (drop i l)
unfolding all_zero
zero_end l a i h = rw (drop_of_length-le l h) (and_true (eqb a 0))
  where
    and_true : (b : Bool) → b ≡ b && true
    and_true true = refl
    and_true false = refl

-- ---- notes

pub note_start : {v : ℕ} {seen many : List ℕ} (ps cs : List ℕ) → Noted v [] seen many → Noted v (rows ps cs 0) seen many
unfolding rows
note_start ps cs h = h

pub note_more : {v : ℕ} {seen many : List ℕ} (ps cs : List ℕ) (i : ℕ) {r : Bool} → r ≡ true → (T r → Noted v (rows ps cs (suc i)) seen many) → Noted v (rows ps cs (i + 1)) seen many
note_more ps cs i t h = rw (add-one i) (h (true→T t))
