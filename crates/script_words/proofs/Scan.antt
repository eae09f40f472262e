-- Laws of reading on, whatever is kept of a line and whatever is said of it.
use mathlib.Core.Path.{◌≡◌, refl, ap}
use mathlib.Core.Bool.{Bool, true, false}
use mathlib.Core.List.{List, [], ◌∷◌, ◌++◌}
use Prim.Native.Nat.{ℕ, suc, ◌+◌, ◌≤◌, ◌<◌}
use native.Mathlib.Numerals.{add-one}
use native.Mathlib.Omega.{arith}
use lib.ListN.{length, get_or, drop, drop_of_length-le}
use lib.Seq.{drop-cons}
use borrow.Author.Tests.{eq-eqb, ne_eqb}
use Rattle.script_words.specs.Scan.{up_to, has_newline, read_from, scan_by}

module _ {L : Type 0} (byte : L → ℕ → L) where
  pub read_more : (l : L) (p s : List ℕ) → read_from byte l (p ++ s) ≡ read_from byte (read_from byte l p) s
  unfolding read_from
  read_more l [] s = refl
  read_more l (b ∷ p) s = read_more (byte l b) p s

  module _ {R : Type 0} (f : Bool → L → ℕ → R) (l : L) (s : List ℕ) (i : ℕ) where
    -- at a newline
    pub scan_ends : i < length s → get_or s i 0 ≡ 10 → scan_by byte f l (drop i s) i ≡ f true l (i + 1)
    unfolding read_from up_to has_newline
    scan_ends h e = rw (drop-cons s i 0 h, eq-eqb (get_or s i 0) 10 e) (ap (f true l) (omega arith))

    -- at another byte
    pub scan_goes_on : i < length s → (get_or s i 0 ≡ 10 → ⊥) → scan_by byte f l (drop i s) i ≡ scan_by byte f (byte l (get_or s i 0)) (drop (i + 1) s) (i + 1)
    unfolding read_from up_to has_newline
    scan_goes_on h d =
        rw (drop-cons s i 0 h, ne_eqb (get_or s i 0) 10 d, add-one i)
        (ap (f (has_newline (drop (suc i) s)) (read_from byte (byte l (get_or s i 0)) (up_to (drop (suc i) s)))) (omega arith))

    -- past the last byte
    pub scan_stops : length s ≤ i → scan_by byte f l (drop i s) i ≡ f false l i
    unfolding read_from up_to has_newline
    scan_stops h = rw (drop_of_length-le s h) (ap (f false l) (omega arith))
