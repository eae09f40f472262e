-- A word read digit by digit is the number that it stands for.
use mathlib.Core.Path.{◌≡◌, refl, sym, ap, ◌∙◌}
use mathlib.Core.Bool.{Bool, true, false, ◌&&◌, ◌||◌}
use mathlib.Core.List.{List, [], ◌∷◌, ◌++◌}
use Rattle.std.specs.Prelude.{Option, Some, None}
use Prim.Native.Nat.{ℕ, ◌+◌, ◌-◌, ◌*◌, ◌≤◌, ◌<◌}
use native.Mathlib.Omega.{arith}
use lib.Dec.{eqb, leb}
use borrow.Author.Tests.{eqb-true, leb-true, leb-false, le-leb, lt-leb}
use Rattle.base.specs.Pick.{pick}
use Rattle.script_numbers.specs.declared.Number.{Number}
use Rattle.script_numbers.specs.declared.Number.TheVariants.{Begun, Digits, Unreadable}
use Rattle.script_numbers.specs.declared.Reading.{Reading}
use Rattle.script_numbers.specs.Numbers.{is_digit, all_digits, value_from, largest, digits_of, number_of}
use Rattle.script_numbers.specs.Inner.{no_number, minus_with, appended, digits, digit_with, number_with, reading_of}

-- the number after bytes
unfoldable pub number_from : Number → List ℕ → Number
number_from x [] = x
number_from x (b ∷ s) = number_from (number_with x b) s

pub number_more : (x : Number) (s : List ℕ) (b : ℕ) → number_from x (s ++ (b ∷ [])) ≡ number_with (number_from x s) b
unfolding number_from
number_more x [] b = refl
number_more x (a ∷ s) b = number_more (number_with x a) s b

abbrev pub read_number : Number → Option Reading
read_number x = reading_of x

-- ---- unreadable once, unreadable for good

unreadable_with : (b : ℕ) → number_with Unreadable b ≡ Unreadable
unfolding number_with
unreadable_with b = go (eqb b 45) (is_digit b)
  where
    go : (t u : Bool) → pick t Unreadable (pick u Unreadable Unreadable) ≡ Unreadable
    go true u = refl
    go false true = refl
    go false false = refl

bad_for_good : (s : List ℕ) → read_number (number_from Unreadable s) ≡ None
unfolding number_from
bad_for_good [] = refl
bad_for_good (b ∷ s) = ap (λ (x : Number). read_number (number_from x s)) (unreadable_with b) ∙ bad_for_good s

-- ---- digits

value_grows : (m : ℕ) (s : List ℕ) → m ≤ value_from m s
unfolding value_from
value_grows m [] = omega arith
value_grows m (b ∷ s) = omega (arith, value_grows (10 * m + (b - 48)) s)

-- a minus is no digit
minus_digit : (b : ℕ) → eqb b 45 ≡ true → is_digit b ≡ false
minus_digit b e = rw (eqb-true b 45 e)

-- a number that can still be read: before its first digit, or after digits of the value m
abbrev so_far : Bool → Bool → ℕ → Number
so_far n false m = Begun n
so_far n true m = Digits (record { negative = n; magnitude = m })

abbrev value_of : Bool → ℕ → ℕ
value_of false m = 0
value_of true m = m

abbrev reading : Bool → ℕ → Option Reading
reading n m = Some (record { negative = n; magnitude = m })

-- the digits s, after digits of the value m
abbrev the_rest : Bool → ℕ → List ℕ → Option Reading
the_rest n m s = pick (all_digits s && leb (value_from m s) largest) (reading n (value_from m s)) None

too_large : (n : Bool) (m : ℕ) (s : List ℕ) → largest < m → the_rest n m s ≡ None
too_large n m s h = rw (lt-leb (value_from m s) largest (omega (arith, value_grows m s))) (go (all_digits s))
  where
    go : (t : Bool) → pick (t && false) (reading n (value_from m s)) None ≡ None
    go true = refl
    go false = refl

-- a digit more, and what follows it
digit_read : (n : Bool) (m b : ℕ) (s : List ℕ) → ((k : ℕ) → k ≤ largest → read_number (number_from (so_far n true k) s) ≡ the_rest n k s)
    → read_number (number_from (digits n (appended m (b - 48))) s) ≡ the_rest n (10 * m + (b - 48)) s
digit_read n m b s ih = sized (leb v largest) refl
  where
    v : ℕ
    v = 10 * m + (b - 48)

    sized : (t : Bool) → leb v largest ≡ t → read_number (number_from (digits n (pick t (Some v) None)) s) ≡ the_rest n v s
    sized true q = ih v (leb-true v largest q)
    sized false q = bad_for_good s ∙ sym (too_large n v s (leb-false v largest q))

-- one byte more, which is no minus, and what follows it
next_read : (n begun : Bool) (m b : ℕ) (s : List ℕ) → ((k : ℕ) → k ≤ largest → read_number (number_from (so_far n true k) s) ≡ the_rest n k s)
    → eqb b 45 ≡ false → read_number (number_from (number_with (so_far n begun m) b) s) ≡ the_rest n (value_of begun m) (b ∷ s)
unfolding number_with all_digits value_from
next_read n begun m b s ih e = rw e (at (is_digit b) begun)
  where
    at : (t begun : Bool) → read_number (number_from (pick t (digit_with (so_far n begun m) (b - 48)) Unreadable) s)
        ≡ pick ((t && all_digits s) && leb (value_from (10 * value_of begun m + (b - 48)) s) largest) (reading n (value_from (10 * value_of begun m + (b - 48)) s)) None
    at true true = digit_read n m b s ih
    at true false = digit_read n 0 b s ih
    at false begun = bad_for_good s

-- a minus behind a minus or a digit
minus_read : (n begun : Bool) (m b : ℕ) (s : List ℕ) → n || begun ≡ true → eqb b 45 ≡ true → read_number (number_from (number_with (so_far n begun m) b) s) ≡ the_rest n (value_of begun m) (b ∷ s)
unfolding number_with all_digits value_from
minus_read n begun m b s h e = rw (e, minus_digit b e) (go n begun h)
  where
    go : (n begun : Bool) → n || begun ≡ true → read_number (number_from (minus_with (so_far n begun m)) s) ≡ None
    go n true h = bad_for_good s
    go true false h = bad_for_good s
    go false false h = let z : ◌≡◌ {A = ℕ} 0 1 = cc in absurd (omega arith)

-- one byte more, and what follows it
byte_read : (n begun : Bool) (m b : ℕ) (s : List ℕ) → ((k : ℕ) → k ≤ largest → read_number (number_from (so_far n true k) s) ≡ the_rest n k s)
    → (eqb b 45 ≡ true → n || begun ≡ true) → read_number (number_from (number_with (so_far n begun m) b) s) ≡ the_rest n (value_of begun m) (b ∷ s)
byte_read n begun m b s ih h = go (eqb b 45) refl
  where
    go : (t : Bool) → eqb b 45 ≡ t → read_number (number_from (number_with (so_far n begun m) b) s) ≡ the_rest n (value_of begun m) (b ∷ s)
    go true e = minus_read n begun m b s (h e) e
    go false e = next_read n begun m b s ih e

or_true : (n : Bool) → n || true ≡ true
or_true true = refl
or_true false = refl

rest_read : (n : Bool) (m : ℕ) (s : List ℕ) → m ≤ largest → read_number (number_from (so_far n true m) s) ≡ the_rest n m s
unfolding number_from all_digits value_from
rest_read n m [] h = rw (le-leb m largest h)
rest_read n m (b ∷ s) h = byte_read n true m b s (λ k l. rest_read n k s l) (λ e. or_true n)

minus_first : (b : ℕ) → eqb b 45 ≡ true → number_with no_number b ≡ Begun true
unfolding number_with
minus_first b e = rw e

pub number_read : (s : List ℕ) → read_number (number_from no_number s) ≡ number_of s
unfolding number_from
number_read [] = refl
number_read (b ∷ s) = go (eqb b 45) refl
  where
    after_minus : (s : List ℕ) → read_number (number_from (Begun true) s) ≡ digits_of true s
    after_minus [] = refl
    after_minus (b ∷ s) = byte_read true false 0 b s (λ k l. rest_read true k s l) (λ e. refl)

    go : (t : Bool) → eqb b 45 ≡ t → read_number (number_from (number_with no_number b) s) ≡ pick t (digits_of true s) (digits_of false (b ∷ s))
    go true e = rw (minus_first b e) (after_minus s)
    go false e = next_read false false 0 b s (λ k l. rest_read false k s l) e
