-- Sets of senders as masks: "For each level and body a party keeps the set of senders; counts are counts of senders in such sets".
use Rattle.std.specs.Prelude.{Bool, ℕ, zero, suc, ◌/◌, ◌%◌, ◌^◌, leb, ltb, eqb}
use Rattle.std.specs.Int.Bits.{bit_or}
use Rattle.std.specs.Int.Count.{ones}
use Rattle.base.specs.Pick.{pick}

-- board s is in the set m: binary digit s of m is 1
unfoldable pub is_in : ℕ → ℕ → Bool
is_in m s = eqb ((m / 2 ^ s) % 2) 1

-- the set m with sender s
unfoldable pub with_sender : ℕ → ℕ → ℕ
with_sender m s = bit_or m (2 ^ s)

-- the senders of a, of b or of both
abbrev pub union : ℕ → ℕ → ℕ
union a b = bit_or a b

-- how many senders
abbrev pub size : ℕ → ℕ
size m = ones m

-- at least k senders
abbrev pub at_least : ℕ → ℕ → Bool
at_least k m = leb k (size m)

-- the union of the sets f v of those v below k that pass
unfoldable pub union_over : (ℕ → Bool) → (ℕ → ℕ) → ℕ → ℕ
union_over p f zero = 0
union_over p f (suc k) = pick (p k) (union (union_over p f k) (f k)) (union_over p f k)

-- the set names only boards below n
abbrev pub only_below : ℕ → ℕ → Bool
only_below m n = ltb m (2 ^ n)
