-- Laws of the search for the smallest number that passes a test.
use mathlib.Core.Path.{◌≡◌, refl, sym, subst}
use mathlib.Core.Bool.{Bool, true, false, ◌||◌}
use Prim.Native.Nat.{ℕ, zero, suc, ◌≤◌, ◌<◌}
use native.Mathlib.Decide.{ℕ_discrete, dec_le, dec_lt}
use native.Mathlib.Omega.{arith}
use lib.Dec.{T, ltb, lt→ltb, ltb→lt}
use Rattle.base.specs.Pick.{pick, smallest}
use Rattle.base.specs.Sets.{Set}

pub record Sought (n : ℕ) (f : Set) (r : ℕ) : Type 0 where
  pub none : (i : ℕ) → i < r → T (f i) → ⊥
  pub most : r ≤ n
  pub hit : r < n → T (f r)

pub sought : (n : ℕ) (f : Set) → Sought n f (smallest n f)
unfolding smallest
sought zero f = record { none = λ i l p. omega arith; most = omega arith; hit = λ l. absurd (omega arith) }
sought (suc n) f = go (sought n f) (dec_lt (smallest n f) n) (f n) refl (ltb (smallest n f) n || f n) refl
  where
    r : ℕ
    r = smallest n f

    or_one : (a b : Bool) → T a → T (a || b)
    or_one true b p = tt
    or_one false b p = absurd p

    or_two : (a b : Bool) → T b → T (a || b)
    or_two true b p = tt
    or_two false b p = p

    or_no : (a b : Bool) → (T a → ⊥) → (T b → ⊥) → T (a || b) → ⊥
    or_no true b p q h = p h
    or_no false b p q h = q h

    go : Sought n f r → Dec (r < n) → (b : Bool) → f n ≡ b → (d : Bool) → ltb r n || f n ≡ d → Sought (suc n) f (pick d r (suc n))
    go s (yes l) b e true h = record { none = s.none; most = omega (arith, s.most); hit = λ _. s.hit l }
    go s (yes l) b e false h = absurd (subst T h (or_one (ltb r n) (f n) (lt→ltb r n l)))
    go s (no l) true e true h = let i : r ≡ n = omega (arith, s.most) in record { none = s.none; most = omega (arith, s.most); hit = λ _. subst (λ (z : ℕ). T (f z)) (sym i) (subst T (sym e) tt) }
    go s (no l) true e false h = absurd (subst T h (or_two (ltb r n) (f n) (subst T (sym e) tt)))
    go s (no l) false e true h = absurd (or_no (ltb r n) (f n) (λ p. l (ltb→lt r n p)) (λ p. subst T e p) (subst T (sym h) tt))
    go s (no l) false e false h = record { none = λ i k p. miss i k p (ℕ_discrete i n); most = omega arith; hit = λ k. absurd (omega arith) }
      where
        miss : (i : ℕ) → i < suc n → T (f i) → Dec (i ≡ n) → ⊥
        miss i k p (yes q) = subst T e (subst (λ (z : ℕ). T (f z)) q p)
        miss i k p (no q) = s.none i (omega (arith, s.most)) p

-- where some number passes, the search has it
pub found : (n : ℕ) (f : Set) (x : ℕ) → x < n → T (f x) → T (f (smallest n f)) × (smallest n f < n) × (smallest n f ≤ x)
found n f x l p =
    let s : Sought n f (smallest n f) = sought n f in
    let k : smallest n f ≤ x = at s (dec_le (smallest n f) x) in
    (s.hit (omega arith), omega arith, k)
  where
    at : Sought n f (smallest n f) → Dec (smallest n f ≤ x) → smallest n f ≤ x
    at s (yes h) = h
    at s (no h) = absurd (s.none x (omega arith) p)

-- the search ends at x, where x passes and none before it does
pub smallest_is : (n : ℕ) (f : Set) (x : ℕ) → x < n → T (f x) → ((i : ℕ) → i < x → T (f i) → ⊥) → smallest n f ≡ x
smallest_is n f x l p d = go (found n f x l p) (ℕ_discrete (smallest n f) x)
  where
    go : T (f (smallest n f)) × (smallest n f < n) × (smallest n f ≤ x) → Dec (smallest n f ≡ x) → smallest n f ≡ x
    go r (yes e) = e
    go r (no e) = absurd (d (smallest n f) (omega arith) r.0)

-- tests that agree below n have the same smallest number
pub smallest_same : (n : ℕ) (f g : Set) → ((i : ℕ) → i < n → f i ≡ g i) → smallest n f ≡ smallest n g
unfolding smallest
smallest_same zero f g h = refl
smallest_same (suc n) f g h = rw (smallest_same n f g (λ i l. h i (omega arith)), h n (omega arith))
