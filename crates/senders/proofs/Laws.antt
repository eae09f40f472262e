-- Laws of sets of senders: which boards are in them, and how many.
use mathlib.Core.Path.{◌≡◌, refl, sym, ap, ap₂, ◌∙◌, subst}
use mathlib.Core.Logic.{◌⊎◌, inl, inr}
use mathlib.Core.Bool.{Bool, true, false, ◌||◌}
use Prim.Native.Nat.{ℕ, zero, suc, ◌+◌, ◌*◌, ◌/◌, ◌%◌, ◌^◌, ◌≤◌, ◌<◌, max}
use native.Mathlib.Nat.{le_refl, mod-lt, zero-lt-suc, pow-suc, div-one, one-mul, add-zero, mod-eq_of_lt, not-suc-le-zero}
use native.Mathlib.Numerals.{one-add, add-one}
use native.Mathlib.Decide.{ℕ_discrete}
use native.Mathlib.Omega.{arith}
use lib.Dec.{T, eqb, eqb→eq, eqb_refl, eqb-zero-suc, eqb-suc-zero, eqb-suc-suc}
use lib.Pow.{pow-lt, pow_pos, split, shr-shr}
use lib.Bits.{bit_and, or_step, or_lt, or_add_and, and_block, and_mask, and_zero_r}
use lib.Count.{ones, ones_step, ones-le}
use Rattle.base.specs.Pick.{pick}
use Rattle.base.specs.Sets.{Set, bit, count}
use Rattle.base.proofs.Bools.{or_split, or_left, or_right, false→not-T}
use Rattle.base.proofs.Counts.{count_mono}
use Rattle.base.proofs.Loops.{count_low}
use Rattle.senders.specs.Senders.{is_in, with_sender, union, size, union_over}

-- 1 << s, in a word of w digits
pub one_shifted : (w s : ℕ) → s < w → (1 * 2 ^ s) % 2 ^ w ≡ 2 ^ s
one_shifted w s h = ap (λ (x : ℕ). x % 2 ^ w) (one-mul (2 ^ s)) ∙ mod-eq_of_lt (pow-lt h)

-- ---- members, one digit at a time

pub in_low : (m : ℕ) → is_in m 0 ≡ eqb (m % 2) 1
unfolding is_in
in_low m = ap (λ (x : ℕ). eqb (x % 2) 1) (div-one m)

pub in_high : (m s : ℕ) → is_in m (suc s) ≡ is_in (m / 2) s
unfolding is_in
in_high m s = ap (λ (x : ℕ). eqb ((m / 2 ^ x) % 2) 1) (sym (one-add s)) ∙ ap (λ (x : ℕ). eqb (x % 2) 1) (sym (shr-shr m 1 s))

digit_bit : (d : ℕ) → d < 2 → bit (eqb d 1) ≡ d
digit_bit zero h = refl
digit_bit (suc zero) h = refl
digit_bit (suc (suc d)) h = absurd (omega arith)

digit_or : (x y : ℕ) → x < 2 → y < 2 → eqb (max x y) 1 ≡ eqb x 1 || eqb y 1
digit_or zero zero p q = refl
digit_or zero (suc zero) p q = refl
digit_or zero (suc (suc y)) p q = absurd (omega arith)
digit_or (suc zero) zero p q = refl
digit_or (suc zero) (suc zero) p q = refl
digit_or (suc zero) (suc (suc y)) p q = absurd (omega arith)
digit_or (suc (suc x)) y p q = absurd (omega arith)

-- ---- who is in a set

-- nobody is in the empty set
pub in_empty : (s : ℕ) → is_in 0 s ≡ false
in_empty zero = in_low 0
in_empty (suc s) = in_high 0 s ∙ in_empty s

pub in_union : (a b s : ℕ) → is_in (union a b) s ≡ is_in a s || is_in b s
in_union a b zero =
    let e : union a b % 2 ≡ max (a % 2) (b % 2) = omega (arith, or_step a b) in
    in_low (union a b) ∙ ap (λ (x : ℕ). eqb x 1) e ∙ digit_or (a % 2) (b % 2) (omega arith) (omega arith)
    ∙ ap₂ ◌||◌ (sym (in_low a)) (sym (in_low b))
in_union a b (suc s) =
    let e : union a b / 2 ≡ union (a / 2) (b / 2) = omega (arith, or_step a b) in
    in_high (union a b) s ∙ ap (λ (x : ℕ). is_in x s) e ∙ in_union (a / 2) (b / 2) s
    ∙ ap₂ ◌||◌ (sym (in_high a s)) (sym (in_high b s))

-- the set of one board
in_one : (i j : ℕ) → is_in (2 ^ i) j ≡ eqb j i
in_one zero zero = in_low 1
in_one zero (suc j) = in_high 1 j ∙ in_empty j ∙ sym (eqb-suc-zero j)
in_one (suc i) zero =
    let e : 2 ^ suc i % 2 ≡ 0 = omega (arith, pow-suc 2 i) in
    in_low (2 ^ suc i) ∙ ap (λ (x : ℕ). eqb x 1) e ∙ sym (eqb-zero-suc i)
in_one (suc i) (suc j) =
    let e : 2 ^ suc i / 2 ≡ 2 ^ i = omega (arith, pow-suc 2 i) in
    in_high (2 ^ suc i) j ∙ ap (λ (x : ℕ). is_in x j) e ∙ in_one i j ∙ sym (eqb-suc-suc j i)

pub in_with : (m s j : ℕ) → is_in (with_sender m s) j ≡ is_in m j || eqb j s
unfolding with_sender
in_with m s j = in_union m (2 ^ s) j ∙ ap (λ (x : Bool). is_in m j || x) (in_one s j)

-- ---- sets stay below a power of two

pub with_lt : (k m s : ℕ) → m < 2 ^ k → s < k → with_sender m s < 2 ^ k
unfolding with_sender
with_lt k m s h l = or_lt k m (2 ^ s) h (pow-lt l)

pub union_lt : (k a b : ℕ) → a < 2 ^ k → b < 2 ^ k → union a b < 2 ^ k
union_lt k a b = or_lt k a b

pub over_lt : (k : ℕ) (p : Set) (f : ℕ → ℕ) (j : ℕ) → ((v : ℕ) → v < j → f v < 2 ^ k) → union_over p f j < 2 ^ k
unfolding union_over
over_lt k p f zero h = pow_pos k
over_lt k p f (suc j) h = go (p j) (over_lt k p f j (λ v l. h v (omega arith)))
  where
    go : (b : Bool) → union_over p f j < 2 ^ k → pick b (union (union_over p f j) (f j)) (union_over p f j) < 2 ^ k
    go true r = or_lt k (union_over p f j) (f j) r (h j (le_refl (suc j)))
    go false r = r

-- ---- a union over values

-- a value below k that passes and in whose set s is
abbrev pub Shown : Set → (ℕ → ℕ) → ℕ → ℕ → Type 0
Shown p f k s = (v : ℕ) × (v < k) × T (p v) × T (is_in (f v) s)

-- who is in the union is in the set of a value that passes
pub over_in : (p : Set) (f : ℕ → ℕ) (k s : ℕ) → T (is_in (union_over p f k) s) → Shown p f k s
unfolding union_over
over_in p f zero s h = absurd (false→not-T (in_empty s) h)
over_in p f (suc k) s h = go (over_in p f k s) (p k) refl h
  where
    up : Shown p f k s → Shown p f (suc k) s
    up w = (w.0, omega (arith, w.1), w.2, w.3)

    either : (T (is_in (union_over p f k) s) → Shown p f k s) → T (p k) → T (is_in (union_over p f k) s) ⊎ T (is_in (f k) s) → Shown p f (suc k) s
    either rec q (inl x) = up (rec x)
    either rec q (inr x) = (k, le_refl (suc k), q, x)

    go : (T (is_in (union_over p f k) s) → Shown p f k s) → (b : Bool) → p k ≡ b
        → T (is_in (pick b (union (union_over p f k) (f k)) (union_over p f k)) s) → Shown p f (suc k) s
    go rec true e x = either rec (subst T (sym e) tt) (or_split (is_in (union_over p f k) s) (is_in (f k) s) (subst T (in_union (union_over p f k) (f k) s) x))
    go rec false e x = up (rec x)

-- who is in the set of a value that passes is in the union
pub in_over : (p : Set) (f : ℕ → ℕ) (k s v : ℕ) → v < k → T (p v) → T (is_in (f v) s) → T (is_in (union_over p f k) s)
unfolding union_over
in_over p f zero s v l q x = absurd (not-suc-le-zero l)
in_over p f (suc k) s v l q x = go (λ h. in_over p f k s v h q x) (ℕ_discrete v k) (p k) refl
  where
    both : T (is_in (union_over p f k) s || is_in (f k) s) → T (is_in (union (union_over p f k) (f k)) s)
    both h = subst T (sym (in_union (union_over p f k) (f k) s)) h

    go : (v < k → T (is_in (union_over p f k) s)) → Dec (v ≡ k) → (b : Bool) → p k ≡ b
        → T (is_in (pick b (union (union_over p f k) (f k)) (union_over p f k)) s)
    go below (yes e) true i = both (or_right (is_in (union_over p f k) s) (is_in (f k) s) (subst (λ (z : ℕ). T (is_in (f z) s)) e x))
    go below (yes e) false i = absurd (false→not-T i (subst (λ (z : ℕ). T (p z)) e q))
    go below (no d) true i = both (or_left (is_in (union_over p f k) s) (is_in (f k) s) (below (omega arith)))
    go below (no d) false i = below (omega arith)

-- a union that goes up from 0
pub over_none : (p : Set) (f : ℕ → ℕ) → union_over p f 0 ≡ 0
unfolding union_over
over_none p f = refl

pub over_next : (p : Set) (f : ℕ → ℕ) (v : ℕ) → union_over p f (v + 1) ≡ pick (p v) (union (union_over p f v) (f v)) (union_over p f v)
unfolding union_over
over_next p f v = ap (union_over p f) (add-one v)

-- ---- sizes

-- the size of a mask is the number of boards in it
pub size_count : (k m : ℕ) → m < 2 ^ k → size m ≡ count k (is_in m)
unfolding count ones
size_count zero zero h = refl
size_count zero (suc m) h = absurd (omega arith)
size_count (suc k) m h =
    let l : bit (is_in m 0) ≡ m % 2 = ap bit (in_low m) ∙ digit_bit (m % 2) (mod-lt m (zero-lt-suc 1)) in
    let r : size (m / 2) ≡ count k (λ s. is_in m (suc s)) = size_count k (m / 2) (omega (arith, pow-suc 2 k)) ∙ ap (count k) (λ i s. sym (in_high m s) i) in
    omega (arith, ones_step m, count_low k (is_in m))

-- a set of boards below k has at most k
pub size_le : (k m : ℕ) → m < 2 ^ k → size m ≤ k
size_le k m h = ones-le k m h

-- a larger set has no fewer senders
pub size_mono : (k a b : ℕ) → a < 2 ^ k → b < 2 ^ k → ((s : ℕ) → s < k → T (is_in a s) → T (is_in b s)) → size a ≤ size b
size_mono k a b ha hb h = omega (arith, size_count k a ha, size_count k b hb, count_mono k (is_in a) (is_in b) h)

-- ---- equal sets

-- two sets with the same members are the same
pub same_members : (k a b : ℕ) → a < 2 ^ k → b < 2 ^ k → ((s : ℕ) → s < k → is_in a s ≡ is_in b s) → a ≡ b
same_members zero a b ha hb h = omega arith
same_members (suc k) a b ha hb h =
    let e : a / 2 ≡ b / 2 = same_members k (a / 2) (b / 2) (omega (arith, pow-suc 2 k)) (omega (arith, pow-suc 2 k))
    (λ s l. sym (in_high a s) ∙ h (suc s) (omega arith) ∙ in_high b s) in
    let i : a % 2 ≡ b % 2 = sym (digit_bit (a % 2) (omega arith)) ∙ ap bit (sym (in_low a) ∙ h 0 (omega arith) ∙ in_low b) ∙ digit_bit (b % 2) (omega arith) in
    omega arith

-- a sender that is there already changes nothing
pub with_old : (m s : ℕ) → T (is_in m s) → with_sender m s ≡ m
unfolding with_sender is_in
with_old m s p =
    let e : (m / 2 ^ s) % 2 ≡ 1 = eqb→eq ((m / 2 ^ s) % 2) 1 p in
    let b : bit_and m (2 ^ s) ≡ 2 ^ s = and_one m s ∙ ap (λ (x : ℕ). x * 2 ^ s) e ∙ one-mul (2 ^ s) in
    omega (arith, or_add_and m (2 ^ s))
  where
    one_block : (s : ℕ) → 1 * 2 ^ s + 0 ≡ 2 ^ s
    one_block s = add-zero (1 * 2 ^ s) ∙ one-mul (2 ^ s)

    and_one : (a s : ℕ) → bit_and a (2 ^ s) ≡ ((a / 2 ^ s) % 2) * 2 ^ s
    and_one a s =
        ap₂ bit_and (sym (split a s)) (sym (one_block s))
        ∙ and_block s (a / 2 ^ s) 1 (a % 2 ^ s) 0 (mod-lt a (pow_pos s)) (pow_pos s)
        ∙ ap₂ (λ (x y : ℕ). x * 2 ^ s + y) (and_mask (a / 2 ^ s) 1) (and_zero_r (a % 2 ^ s))
        ∙ add-zero _

-- the set keeps its members
pub with_keeps : (m s j : ℕ) → T (is_in m j) → T (is_in (with_sender m s) j)
with_keeps m s j h = subst T (sym (in_with m s j)) (or_left (is_in m j) (eqb j s) h)

-- the new sender is in it
pub with_new : (m s : ℕ) → T (is_in (with_sender m s) s)
with_new m s = subst T (sym (in_with m s s)) (or_right (is_in m s) (eqb s s) (eqb_refl s))

-- no fewer senders than before
pub size_with : (k m s : ℕ) → m < 2 ^ k → s < k → size m ≤ size (with_sender m s)
size_with k m s h l = size_mono k m (with_sender m s) h (with_lt k m s h l) (λ j _. with_keeps m s j)
