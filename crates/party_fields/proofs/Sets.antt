-- Whether all sets of senders pass, from their union.
use mathlib.Core.Path.{◌≡◌, refl, sym, ap, ◌∙◌, subst}
use mathlib.Core.List.{List, [], ◌∷◌, ◌++◌}
use mathlib.Core.Bool.{Bool, true, false, ◌&&◌}
use Prim.Native.Nat.{ℕ, zero, suc, ◌+◌, ◌*◌, ◌^◌, ◌<◌}
use native.Mathlib.Nat.{le_refl, mul-zero, mul-suc}
use native.Mathlib.Omega.{arith}
use lib.Dec.{T, ltb→lt, lt→ltb}
use lib.Bits.{or_add_and, and_le_l, and_le_r}
use lib.ListN.{length, take, drop, take-append-drop}
use lib.Pow.{pow_pos}
use lib.Seq.{take-add, take_all}
use borrow.Author.Tests.{lt-ltb}
use Rattle.base.proofs.Bools.{T_and, T-left, T-right, T-ext}
use Rattle.senders.specs.Senders.{union, only_below}
use Rattle.senders.proofs.Laws.{union_lt}
use Rattle.std.specs.List.{fold}
use Rattle.party.specs.Valid.{sets_pass}
use Rattle.party_fields.specs.Inner.{Unites}

and_assoc : (a b c : Bool) → (a && b) && c ≡ a && (b && c)
and_assoc true b c = refl
and_assoc false b c = refl

and_true : (b : Bool) → b ≡ b && true
and_true true = refl
and_true false = refl

-- ---- the union of sets

-- a union names only boards below n where both sets do
pub union_below : (a b n : ℕ) → only_below (union a b) n ≡ only_below a n && only_below b n
union_below a b n =
    T-ext (only_below (union a b) n) (only_below a n && only_below b n)
    (λ t. let h = ltb→lt (union a b) (2 ^ n) t in
    T_and (only_below a n) (only_below b n) (lt→ltb a (2 ^ n) (omega (arith, or_add_and a b, and_le_r a b))) (lt→ltb b (2 ^ n) (omega (arith, or_add_and a b, and_le_l a b))))
    (λ t. lt→ltb (union a b) (2 ^ n)
    (union_lt n a b (ltb→lt a (2 ^ n) (T-left (only_below a n) (only_below b n) t)) (ltb→lt b (2 ^ n) (T-right (only_below a n) (only_below b n) t))))

-- a union of all sets, that began with a
folded : (n : ℕ) (l : List ℕ) (a : ℕ) → only_below (fold union a l) n ≡ only_below a n && sets_pass n l
unfolding sets_pass
folded n [] a = and_true (only_below a n)
folded n (m ∷ l) a =
    folded n l (union a m)
    ∙ ap (λ (b : Bool). b && sets_pass n l) (union_below a m n)
    ∙ and_assoc (only_below a n) (only_below m n) (sets_pass n l)

pub unites : (l : List ℕ) → Unites l (fold union 0 l)
unites l = record { below = λ n. folded n l 0 ∙ rw (lt-ltb 0 (2 ^ n) (pow_pos n)) }

-- ---- the sets of each level

module _ (n : ℕ) where
  pass_append : (a b : List ℕ) → sets_pass n (a ++ b) ≡ sets_pass n a && sets_pass n b
  unfolding sets_pass
  pass_append [] b = refl
  pass_append (m ∷ a) b = ap (λ (r : Bool). only_below m n && r) (pass_append a b) ∙ sym (and_assoc (only_below m n) (sets_pass n a) (sets_pass n b))

  -- where all sets pass, those of a part do
  pass_parts : (f : ℕ) (l : List ℕ) → T (sets_pass n l) → T (sets_pass n (take f l) && sets_pass n (drop f l))
  pass_parts f l t = subst T (sym (ap (sets_pass n) (take-append-drop f l)) ∙ pass_append (take f l) (drop f l)) t

  pub pass_slice : (f w : ℕ) (l : List ℕ) → T (sets_pass n l) → T (sets_pass n (take w (drop f l)))
  pass_slice f w l t =
      let d = T-right (sets_pass n (take f l)) (sets_pass n (drop f l)) (pass_parts f l t) in
      T-left (sets_pass n (take w (drop f l))) (sets_pass n (drop w (drop f l))) (pass_parts w (drop f l) d)

  -- and where those of k parts of w pass, all of them do
  pass_taken : (w k : ℕ) (l : List ℕ) → ((i : ℕ) → i < k → T (sets_pass n (take w (drop (w * i) l)))) → T (sets_pass n (take (w * k) l))
  unfolding sets_pass
  pass_taken w zero l h = subst (λ (m : ℕ). T (sets_pass n (take m l))) (sym (mul-zero w)) tt
  pass_taken w (suc k) l h =
      let e = ap (λ (m : ℕ). take m l) (mul-suc w k) ∙ take-add (w * k) w l in
      subst T (sym (ap (sets_pass n) e ∙ pass_append (take (w * k) l) (take w (drop (w * k) l))))
      (T_and (sets_pass n (take (w * k) l)) (sets_pass n (take w (drop (w * k) l))) (pass_taken w k l (λ i b. h i (omega arith))) (h k (le_refl (suc k))))

  pub pass_all : (w k : ℕ) (l : List ℕ) → length l ≡ w * k → ((i : ℕ) → i < k → T (sets_pass n (take w (drop (w * i) l)))) → T (sets_pass n l)
  pass_all w k l e h = subst (λ (r : List ℕ). T (sets_pass n r)) (take_all (w * k) l (omega arith)) (pass_taken w k l h)
