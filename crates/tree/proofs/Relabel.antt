-- What one more edge does to labels.
use mathlib.Core.Path.{◌≡◌, refl, sym, ◌∙◌}
use mathlib.Core.List.{◌∷◌}
use mathlib.Core.Bool.{Bool, true, false, ◌&&◌, ◌||◌}
use Prim.Native.Nat.{ℕ}
use lib.Dec.{eqb, eqb→eq, eqb_refl}
use borrow.Author.Tests.{eqb-true, eqb-false, eq-eqb, ne_eqb}
use Rattle.base.specs.Pick.{pick}
use Rattle.base.specs.Sets.{Set}
use Rattle.base.proofs.Bools.{T-ext, false→not-T}
use Rattle.tree.specs.Edges.{Edge, Edges, label, joined}
use Rattle.tree.proofs.Labels.{relabel}

-- y and z are alike once p and q are taken for one
abbrev pub alike : ℕ → ℕ → ℕ → ℕ → Bool
alike p q y z = eqb y z || ((eqb y p || eqb y q) && (eqb z p || eqb z q))

or_true : (a : Bool) → a || true ≡ true
or_true true = refl
or_true false = refl

or_false : (a : Bool) → a || false ≡ a
or_false true = refl
or_false false = refl

and_true : (a : Bool) → a && true ≡ a
and_true true = refl
and_true false = refl

or_less : (a b : Bool) → (a ≡ true → b ≡ true) → b || a ≡ b
or_less true true h = refl
or_less true false h = sym (h refl)
or_less false true h = refl
or_less false false h = refl

both : (a b : Bool) → a && b ≡ true → (a ≡ true) × (b ≡ true)
both true b h = (refl, h)
both false b h = (h, absurd (false→not-T (sym h) tt))

eqb_sym : (a b : ℕ) → eqb a b ≡ eqb b a
eqb_sym a b = T-ext (eqb a b) (eqb b a) (λ t. rw (eqb→eq a b t) (eqb_refl b)) (λ t. rw (eqb→eq b a t) (eqb_refl a))

pub relabel_alike : (p q y z : ℕ) → eqb (relabel true p q y) (relabel true p q z) ≡ alike p q y z
relabel_alike p q y z = go (eqb y q) (eqb z q) refl refl
  where
    go : (b c : Bool) → eqb y q ≡ b → eqb z q ≡ c → eqb (pick b p y) (pick c p z) ≡ eqb y z || ((eqb y p || b) && (eqb z p || c))
    go true true i j = eq-eqb p p refl ∙ rw (eq-eqb y z (eqb-true y q i ∙ sym (eqb-true z q j)))
    go true false i j =
        let d : eqb y z ≡ false = ne_eqb y z (λ e. eqb-false z q j (sym e ∙ eqb-true y q i)) in
        rw (d, or_true, or_false) (eqb_sym p z)
    go false true i j =
        let d : eqb y z ≡ false = ne_eqb y z (λ e. eqb-false y q i (e ∙ eqb-true z q j)) in
        rw (d, or_true, or_false) (sym (and_true (eqb y p)))
    go false false i j = rw (or_false (eqb y p), or_false (eqb z p)) (sym (or_less (eqb y p && eqb z p) (eqb y z) by))
      where
        by : eqb y p && eqb z p ≡ true → eqb y z ≡ true
        by h = let k = both (eqb y p) (eqb z p) h in eq-eqb y z (eqb-true y p k.0 ∙ sym (eqb-true z p k.1))

-- What one more edge joins: where it lies in S, all that is joined to one of its ends.
pub joined_more : (S : Set) (e : Edge) (E : Edges) (x y : ℕ)
    → joined S (e ∷ E) x y
    ≡ joined S E x y || ((S e.one && S e.two) && ((joined S E x e.one || joined S E x e.two) && (joined S E y e.one || joined S E y e.two)))
unfolding joined label
joined_more S e E x y = go (S e.one && S e.two)
  where
    L : ℕ → ℕ
    L = label S E

    go : (b : Bool)
        → eqb (pick (b && eqb (L x) (L e.two)) (L e.one) (L x)) (pick (b && eqb (L y) (L e.two)) (L e.one) (L y))
        ≡ eqb (L x) (L y) || (b && ((eqb (L x) (L e.one) || eqb (L x) (L e.two)) && (eqb (L y) (L e.one) || eqb (L y) (L e.two))))
    go true = relabel_alike (L e.one) (L e.two) (L x) (L y)
    go false = sym (or_false (eqb (L x) (L y)))
