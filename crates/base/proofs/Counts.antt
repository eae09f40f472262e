-- Laws of counting: unions, parts, quorums.
use mathlib.Core.Path.{◌≡◌, refl, sym, ap, ◌∙◌, subst}
use mathlib.Core.Logic.{◌⊎◌, inl, inr}
use mathlib.Core.Bool.{Bool, true, false, not, ◌&&◌, ◌||◌}
use Prim.Native.Nat.{ℕ, zero, suc, ◌+◌, ◌-◌, ◌*◌, ◌≤◌, ◌<◌, zero-le, suc-le-suc}
use native.Mathlib.Nat.{le_refl, le_trans, not-suc-le-zero, le-suc, lt_irrefl}
use native.Mathlib.Omega.{arith}
use native.Mathlib.Decide.{dec_lt, ℕ_discrete}
use lib.Dec.{T, not_T}
use Rattle.base.specs.Sets.{Set, bit, count}
use Rattle.base.proofs.Bools.{T_and, T-left, T-right, T-dec, T-ext, T→true, not-T→false}

bit_or : (a b : Bool) → bit (a || b) + bit (a && b) ≡ bit a + bit b
bit_or true true = refl
bit_or true false = refl
bit_or false true = refl
bit_or false false = refl

bit_split : (a b : Bool) → bit a ≡ bit (a && b) + bit (a && not b)
bit_split true true = refl
bit_split true false = refl
bit_split false b = refl

bit_mono : (a b : Bool) → (T a → T b) → bit a ≤ bit b
bit_mono true true h = omega arith
bit_mono true false h = absurd (h tt)
bit_mono false b h = zero-le

pub count_or_and : (n : ℕ) (f g : Set) → count n (λ i. f i || g i) + count n (λ i. f i && g i) ≡ count n f + count n g
unfolding count
count_or_and zero f g = refl
count_or_and (suc n) f g = omega (arith, bit_or (f n) (g n), count_or_and n f g)

pub count_split : (n : ℕ) (f g : Set) → count n f ≡ count n (λ i. f i && g i) + count n (λ i. f i && not (g i))
unfolding count
count_split zero f g = refl
count_split (suc n) f g = omega (arith, bit_split (f n) (g n), count_split n f g)

pub count_mono : (n : ℕ) (f g : Set) → ((i : ℕ) → i < n → T (f i) → T (g i)) → count n f ≤ count n g
unfolding count
count_mono zero f g h = zero-le
count_mono (suc n) f g h =
    let a : bit (f n) ≤ bit (g n) = bit_mono (f n) (g n) (h n (le_refl (suc n))) in
    let b : count n f ≤ count n g = count_mono n f g (λ i l. h i (omega arith)) in
    omega arith

pub count_le : (n : ℕ) (f : Set) → count n f ≤ n
unfolding count
count_le zero f = zero-le
count_le (suc n) f = omega (arith, bit_mono (f n) true (λ _. tt), count_le n f)

-- a set that is not empty has a member
pub member : (n : ℕ) (f : Set) → 0 < count n f → (i : ℕ) × (i < n) × T (f i)
unfolding count
member zero f h = absurd (not-suc-le-zero h)
member (suc n) f h = go (f n) refl (member n f)
  where
    go : (b : Bool) → f n ≡ b → (0 < count n f → (i : ℕ) × (i < n) × T (f i)) → (i : ℕ) × (i < suc n) × T (f i)
    go true e rec = (n, le_refl (suc n), subst T (sym e) tt)
    go false e rec =
        let r = rec (omega (arith, h, ap bit e)) in
        (r.0, omega (arith, r.1), r.2)

-- more members than faulty boards: one of them is sound
pub sound_member : (n t : ℕ) (bad f : Set) → count n bad ≤ t → t < count n f → (i : ℕ) × (i < n) × T (f i) × T (not (bad i))
sound_member n t bad f hb hf =
    let m : count n (λ i. f i && bad i) ≤ count n bad = count_mono n (λ i. f i && bad i) bad (λ i l p. T-right (f i) (bad i) p) in
    let r = member n (λ i. f i && not (bad i)) (omega (arith, count_split n f bad)) in
    (r.0, r.1, T-left (f r.0) (not (bad r.0)) r.2, T-right (f r.0) (not (bad r.0)) r.2)

-- the sound part of a set
pub sound_part : (n t : ℕ) (bad f : Set) → count n bad ≤ t → count n f ≤ t + count n (λ i. f i && not (bad i))
sound_part n t bad f hb =
    let m : count n (λ i. f i && bad i) ≤ count n bad = count_mono n (λ i. f i && bad i) bad (λ i l p. T-right (f i) (bad i) p) in
    omega (arith, count_split n f bad)

-- two sets of n - t members share a sound board
pub quorum : (n t : ℕ) (bad f g : Set) → 3 * t < n → count n bad ≤ t → n - t ≤ count n f → n - t ≤ count n g
    → (i : ℕ) × (i < n) × T (f i) × T (g i) × T (not (bad i))
quorum n t bad f g h3 hb hf hg =
    let r = sound_member n t bad (λ i. f i && g i) hb (omega (arith, count_or_and n f g, count_le n (λ i. f i || g i))) in
    (r.0, r.1, T-left (f r.0) (g r.0) r.2, T-right (f r.0) (g r.0) r.2, r.3)

-- a member shows in the count
pub count_pos : (n : ℕ) (f : Set) (i : ℕ) → i < n → T (f i) → 0 < count n f
unfolding count
count_pos zero f i l p = absurd (not-suc-le-zero l)
count_pos (suc n) f i l p = go (dec_lt i n) (count_pos n f i)
  where
    go : Dec (i < n) → (i < n → T (f i) → 0 < count n f) → 0 < bit (f n) + count n f
    go (yes h) ih = omega (arith, ih h p)
    go (no h) ih =
        let e : i ≡ n = omega arith in
        omega (arith, bit_mono true (f n) (λ _. subst (λ (x : ℕ). T (f x)) e p))

-- a set with a member less is smaller
pub count_lt : (n : ℕ) (f g : Set) → ((i : ℕ) → i < n → T (f i) → T (g i)) → (v : ℕ) → v < n → T (g v) → T (not (f v)) → count n f < count n g
count_lt n f g h v l p q =
    let a : count n f ≤ count n (λ i. g i && f i) = count_mono n f (λ i. g i && f i) (λ i k x. T_and (g i) (f i) (h i k x) x) in
    let b : 0 < count n (λ i. g i && not (f i)) = count_pos n (λ i. g i && not (f i)) v l (T_and (g v) (not (f v)) p q) in
    omega (arith, count_split n g f)

-- a set that holds every member of another, and has no more, is that one
pub no_more : (n : ℕ) (f g : Set) → ((i : ℕ) → i < n → T (f i) → T (g i)) → count n g ≤ count n f → (i : ℕ) → i < n → g i ≡ f i
no_more n f g h l i k = T-ext (g i) (f i) (λ p. go p (T-dec (f i))) (h i k)
  where
    go : T (g i) → Dec (T (f i)) → T (f i)
    go p (yes q) = q
    go p (no d) = absurd (omega (arith, count_lt n f g h i k p (not_T (f i) d)))

-- the sound boards, and the rest of them
pub count_not : (n : ℕ) (f : Set) → count n f + count n (λ i. not (f i)) ≡ n
unfolding count
count_not zero f = refl
count_not (suc n) f = omega (arith, bit_not (f n), count_not n f)
  where
    bit_not : (b : Bool) → bit b + bit (not b) ≡ 1
    bit_not true = refl
    bit_not false = refl

-- a set covered by two
pub count_cover : (n : ℕ) (f g h : Set) → ((i : ℕ) → i < n → T (f i) → T (g i || h i)) → count n f ≤ count n g + count n h
count_cover n f g h c = omega (arith, count_mono n f (λ i. g i || h i) c, count_or_and n g h)

-- every number is in the set
pub count_all : (n : ℕ) (f : Set) → ((i : ℕ) → i < n → T (f i)) → count n f ≡ n
unfolding count
count_all zero f h = refl
count_all (suc n) f h =
    let a : 1 ≤ bit (f n) = bit_mono true (f n) (λ _. h n (le_refl (suc n))) in
    omega (arith, bit_mono (f n) true (λ _. tt), count_all n f (λ i l. h i (omega arith)))

-- none is
pub count_none : (n : ℕ) (f : Set) → ((i : ℕ) → i < n → T (f i) → ⊥) → count n f ≡ 0
count_none n f h = go (dec_lt 0 (count n f))
  where
    go : Dec (0 < count n f) → count n f ≡ 0
    go (yes k) = let r = member n f k in absurd (h r.0 r.1 r.2)
    go (no k) = omega arith

-- only w may be
pub count_one : (n : ℕ) (f : Set) (w : ℕ) → ((i : ℕ) → T (f i) → i ≡ w) → count n f ≤ 1
unfolding count
count_one zero f w h = zero-le
count_one (suc n) f w h = go (f n) refl (count_one n f w h)
  where
    go : (b : Bool) → f n ≡ b → count n f ≤ 1 → bit b + count n f ≤ 1
    go true e ih =
        let i : n ≡ w = h n (subst T (sym e) tt) in
        omega (arith, count_none n f (λ j l p. omega (arith, h j p)))
    go false e ih = omega arith

-- equal tests count the same
pub count_same : (n : ℕ) (f g : Set) → ((i : ℕ) → i < n → f i ≡ g i) → count n f ≡ count n g
unfolding count
count_same zero f g h = refl
count_same (suc n) f g h = omega (arith, ap bit (h n (le_refl (suc n))), count_same n f g (λ i l. h i (omega arith)))

-- a set with one member more
pub count_more : (n : ℕ) (f g : Set) (v : ℕ) → v < n → f v ≡ false → g v ≡ true → ((i : ℕ) → (i ≡ v → ⊥) → g i ≡ f i) → count n g ≡ suc (count n f)
unfolding count
count_more zero f g v l p q h = absurd (not-suc-le-zero l)
count_more (suc n) f g v l p q h = go (ℕ_discrete v n) (count_more n f g v)
  where
    go : Dec (v ≡ n) → (v < n → f v ≡ false → g v ≡ true → ((i : ℕ) → (i ≡ v → ⊥) → g i ≡ f i) → count n g ≡ suc (count n f))
        → bit (g n) + count n g ≡ suc (bit (f n) + count n f)
    go (yes e) ih = omega (arith, ap bit (ap f (sym e) ∙ p), ap bit (ap g (sym e) ∙ q), count_same n g f (λ i k. h i (λ j. omega arith)))
    go (no d) ih = omega (arith, ap bit (h n (λ j. d (sym j))), ih (omega arith) p q h)

-- one member
pub count_single : (n : ℕ) (f : Set) (v : ℕ) → v < n → T (f v) → ((i : ℕ) → T (f i) → i ≡ v) → count n f ≡ 1
count_single n f v l p h =
    omega (arith, count_more n (λ _. false) f v l refl (T→true (f v) p) (λ i d. not-T→false (f i) (λ q. d (h i q))), count_none n (λ _. false) (λ i k q. q))

-- a set of n members below n holds each number below n
pub count_full : (n : ℕ) (f : Set) → n ≤ count n f → (i : ℕ) → i < n → T (f i)
count_full n f l i k = go (T-dec (f i))
  where
    go : Dec (T (f i)) → T (f i)
    go (yes p) = p
    go (no d) = absurd (omega (arith, count_lt n f (λ _. true) (λ _ _ _. tt) i k tt (not_T (f i) d), count_le n (λ _. true)))

-- a set that falls into two
pub count_sum : (n : ℕ) (f g h : Set) → ((i : ℕ) → i < n → bit (h i) ≡ bit (f i) + bit (g i)) → count n h ≡ count n f + count n g
unfolding count
count_sum zero f g h e = refl
count_sum (suc n) f g h e = omega (arith, e n (le_refl (suc n)), count_sum n f g h (λ i l. e i (omega arith)))

-- a count taken from the bottom
pub count_low : (n : ℕ) (f : Set) → count (suc n) f ≡ bit (f 0) + count n (λ i. f (suc i))
unfolding count
count_low zero f = refl
count_low (suc n) f = omega (arith, count_low n f)
