-- Laws of bytes written into a buffer.
use mathlib.Core.Path.{◌≡◌, refl, sym, ap, ap₂, ◌∙◌}
use mathlib.Core.List.{List, [], ◌∷◌, ◌++◌, append_assoc, append-nil}
use Prim.Native.Nat.{ℕ, zero, suc, ◌+◌, ◌-◌, ◌≤◌, ◌<◌}
use native.Mathlib.Nat.{zero-add, add-zero, add_assoc, not-suc-le-zero, le_of_eq}
use native.Mathlib.Omega.{arith}
use lib.ListN.{length, take, drop, set, length-append, length-take, length-drop, take-append-drop, drop_of_length-le}
use lib.Seq.{drop-drop, take_at, drop_at, length-take-le, take_all}
use borrow.Rule.Slice.PartMut.{put_mid, same_len_mid}
use Rattle.base.specs.Put.{put_at}

-- a store at 0
pub put_first : (l : List ℕ) (x : ℕ) → 0 < length l → set l 0 x ≡ (x ∷ []) ++ drop 1 l
put_first [] x h = absurd (not-suc-le-zero h)
put_first (y ∷ l) x h = refl

-- A part from `a` to the end, `&mut l[a..]`: what is lent is drop a l, and the whole is back with the part's last value in its place.
pub tail_lent : (a : ℕ) (l : List ℕ) → take (length l - a) (drop a l) ≡ drop a l
tail_lent a l = take_all (length l - a) (drop a l) (le_of_eq (length-drop a l))

pub tail_same : (a : ℕ) (l y : List ℕ) → length y ≡ length (take (length l - a) (drop a l)) → length (put_mid a (length l - a) l y) ≡ length l
tail_same a l y e = same_len_mid a (length l - a) l y e

pub tail_back : (a : ℕ) (l y : List ℕ) → put_mid a (length l - a) l y ≡ take a l ++ y
tail_back a l y =
    ap (λ (z : List ℕ). take a l ++ (y ++ z)) (drop_of_length-le (drop a l) (le_of_eq (length-drop a l)))
    ∙ ap (λ (z : List ℕ). take a l ++ z) (append-nil y)

-- the group's first byte x is stored, and the rest ys of the group into the tail
pub put_rest : (l : List ℕ) (x : ℕ) (ys : List ℕ) → 0 < length l
    → take 1 (set l 0 x) ++ (ys ++ drop (length ys) (drop 1 (set l 0 x))) ≡ (x ∷ ys) ++ drop (length (x ∷ ys)) l
put_rest [] x ys h = absurd (not-suc-le-zero h)
put_rest (y ∷ l) x ys h = refl

pub put_zero : (l bs : List ℕ) → put_at l 0 bs ≡ bs ++ drop (length bs) l
unfolding put_at
put_zero l bs = ap (λ (n : ℕ). bs ++ drop n l) (zero-add (length bs))

pub put_none : (l : List ℕ) (at : ℕ) → put_at l at [] ≡ l
unfolding put_at
put_none l at = ap (λ (n : ℕ). take at l ++ drop n l) (add-zero at) ∙ take-append-drop at l

-- what is written at the start of the part l[at..] is written at `at`
pub put_tail : (l : List ℕ) (at : ℕ) (y bs : List ℕ) → y ≡ bs ++ drop (length bs) (take (length l - at) (drop at l))
    → put_mid at (length l - at) l y ≡ put_at l at bs
unfolding put_at
put_tail l at y bs e =
    tail_back at l y
    ∙ ap (λ (z : List ℕ). take at l ++ z) (e ∙ ap (λ (z : List ℕ). bs ++ drop (length bs) z) (tail_lent at l) ∙ ap (λ (z : List ℕ). bs ++ z) (drop-drop (length bs) at l))

pub length_put : (l : List ℕ) (at : ℕ) (bs : List ℕ) → at + length bs ≤ length l → length (put_at l at bs) ≡ length l
unfolding put_at
length_put l at bs h = simp (length-append, length-take, length-drop) (omega arith)

-- one write after another
pub put_put : (l : List ℕ) (at : ℕ) (a b : List ℕ) → at + length a ≤ length l → put_at (put_at l at a) (at + length a) b ≡ put_at l at (a ++ b)
unfolding put_at
put_put l at a b h =
    let p : List ℕ = take at l ++ a in
    let e : take at l ++ (a ++ drop (at + length a) l) ≡ p ++ drop (at + length a) l = sym (append_assoc (take at l) a (drop (at + length a) l)) in
    let n : length p ≡ at + length a = length-append (take at l) a ∙ ap (λ (x : ℕ). x + length a) (length-take-le at l (omega arith)) in
    ap₂ (λ (x y : List ℕ). x ++ (b ++ y))
    (ap (take (at + length a)) e ∙ take_at p (drop (at + length a) l) (at + length a) n)
    (sym (drop-drop (length b) (at + length a) (take at l ++ (a ++ drop (at + length a) l)))
    ∙ ap (drop (length b)) (ap (drop (at + length a)) e ∙ drop_at p (drop (at + length a) l) (at + length a) n)
    ∙ drop-drop (length b) (at + length a) l
    ∙ ap (λ (x : ℕ). drop x l) (add_assoc at (length a) (length b) ∙ ap (λ (x : ℕ). at + x) (sym (length-append a b))))
    ∙ append_assoc (take at l) a (b ++ drop (at + length (a ++ b)) l)
    ∙ ap (λ (x : List ℕ). take at l ++ x) (sym (append_assoc a b (drop (at + length (a ++ b)) l)))

-- l1 is l with a at `at`, and l2 is l1 with b right after it
pub then_put : (l l1 l2 : List ℕ) (at r : ℕ) (a b : List ℕ) → at + length a ≤ length l → l1 ≡ put_at l at a → r ≡ at + length a → l2 ≡ put_at l1 r b
    → l2 ≡ put_at l at (a ++ b)
then_put l l1 l2 at r a b h e1 er e2 = e2 ∙ ap₂ (λ (x : List ℕ) (n : ℕ). put_at x n b) e1 er ∙ put_put l at a b h
