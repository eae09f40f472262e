-- n positions with n - 1 edges and no ring are one component.
use mathlib.Core.Path.{◌≡◌, refl, sym, ap, ◌∙◌, subst}
use mathlib.Core.List.{[], ◌∷◌}
use mathlib.Core.Bool.{true}
use Prim.Native.Nat.{ℕ, ◌+◌, ◌≤◌, ◌<◌}
use native.Mathlib.Decide.{ℕ_discrete}
use native.Mathlib.Omega.{arith}
use lib.Dec.{T, eqb, eqb→eq, eqb_refl, not_T, lt→ltb, ltb→lt}
use lib.ListN.{length}
use Rattle.base.specs.Sets.{Set, count}
use Rattle.base.proofs.Counts.{count_lt, count_le, count_pos, count_all}
use Rattle.tree.specs.Walk.{Walk, here, step}
use Rattle.tree.specs.Edges.{Edge, Edges, Adjacent, all, label, Below}
use Rattle.tree.specs.Inner.{In, Acyclic}
use Rattle.tree.specs.Component.{upto, without}
use Rattle.tree.proofs.Edges.{adjacent_below}
use Rattle.tree.proofs.Without.{to_without, without_in, without_not}
use Rattle.tree.proofs.Labels.{relabel, Relabelled, moved, kept, relabelled, label_walk}
use Rattle.tree.proofs.Acyclic.{apart_ends}
use Rattle.tree.proofs.Components.{Component}

-- a label is its own label
idem : (E : Edges) (x : ℕ) → label all E (label all E x) ≡ label all E x
unfolding label
idem [] x = refl
idem (e ∷ E) x = go (relabel true p q (label all E x)) (relabelled p q (label all E x)) (idem E)
  where
    p : ℕ
    p = label all E e.one

    q : ℕ
    q = label all E e.two

    put : (z y : ℕ) → z ≡ y → (z ≡ q → z ≡ p) → relabel true p q z ≡ y
    put z y i f = at (relabel true p q z) (relabelled p q z)
      where
        at : (u : ℕ) → Relabelled p q z u → u ≡ y
        at u (moved j) = sym (f j) ∙ i
        at u (kept j) = i

    go : (y : ℕ) → Relabelled p q (label all E x) y → ((x : ℕ) → label all E (label all E x) ≡ label all E x) → relabel true p q (label all E y) ≡ y
    go y (moved j) ih = put (label all E p) p (ih e.one) (λ _. ih e.one)
    go y (kept j) ih = put (label all E (label all E x)) (label all E x) (ih x) (λ i. absurd (j (sym (ih x) ∙ i)))

-- labels of positions are positions
in_range : (n : ℕ) (E : Edges) → Below n E → (x : ℕ) → x < n → label all E x < n
unfolding label
in_range n [] b x l = l
in_range n (e ∷ E) b x l = go (relabel true (label all E e.one) (label all E e.two) (label all E x)) (relabelled _ _ _) (in_range n E b.2)
  where
    go : (y : ℕ) → Relabelled (label all E e.one) (label all E e.two) (label all E x) y → ((x : ℕ) → x < n → label all E x < n) → y < n
    go y (moved j) ih = ih e.one b.0
    go y (kept j) ih = ih x l

-- the positions that are their own label
roots : Edges → Set
roots E x = eqb (label all E x) x

from_eq : (x y : ℕ) → x ≡ y → T (eqb x y)
from_eq x y e = subst (λ z. T (eqb x z)) e (eqb_refl x)

-- each edge takes one away
fewer : (n : ℕ) (e : Edge) (E : Edges) → Below n (e ∷ E) → Acyclic (e ∷ E) → count n (roots (e ∷ E)) < count n (roots E)
unfolding roots label
fewer n e E b k =
    count_lt n (roots (e ∷ E)) (roots E) (λ i l h. old i (relabel true p q (label all E i)) (relabelled p q (label all E i)) (eqb→eq _ i h)) q
    (in_range n E b.2 e.two b.1) (from_eq (label all E q) q (idem E e.two))
    (not_T (roots (e ∷ E) q) (λ h. gone (relabel true p q (label all E q)) (relabelled p q (label all E q)) (eqb→eq _ q h)))
  where
    p : ℕ
    p = label all E e.one

    q : ℕ
    q = label all E e.two

    old : (i y : ℕ) → Relabelled p q (label all E i) y → y ≡ i → T (roots E i)
    old i y (moved j) h = from_eq (label all E i) i (ap (label all E) (sym h) ∙ idem E e.one ∙ h)
    old i y (kept j) h = from_eq (label all E i) i h

    gone : (y : ℕ) → Relabelled p q (label all E q) y → y ≡ q → ⊥
    gone y (moved j) h = apart_ends e E k h
    gone y (kept j) h = j (idem E e.two)

classes : (n : ℕ) (E : Edges) → Below n E → Acyclic E → count n (roots E) + length E ≤ n
classes n [] b k = omega (arith, count_le n (roots []))
classes n (e ∷ E) b k = omega (arith, fewer n e E b k, classes n E b.2 k.1)

joined_all : (n : ℕ) (E : Edges) → Below n E → Acyclic E → n ≤ length E + 1 → (x y : ℕ) → x < n → y < n → Walk (Adjacent E) (In (upto n)) x y
unfolding roots upto
joined_all n E b k l x y p q =
    stay (label_walk all E x y tt tt (one (label all E x) (label all E y) (ℕ_discrete _ _) (root x) (root y) (in_range n E b x p) (in_range n E b y q))) p
  where
    root : (x : ℕ) → T (roots E (label all E x))
    root x = from_eq (label all E (label all E x)) (label all E x) (idem E x)

    one : (u v : ℕ) → Dec (u ≡ v) → T (roots E u) → T (roots E v) → u < n → v < n → u ≡ v
    one u v (yes e) p q i j = e
    one u v (no d) p q i j =
        let f : count n (without (roots E) u) < count n (roots E)
        = count_lt n (without (roots E) u) (roots E) (λ z l r. without_in (roots E) u z r) u i p (not_T (without (roots E) u u) (λ r. without_not (roots E) u u r refl)) in
        absurd (omega (arith, classes n E b k, count_pos n (without (roots E) u) v j (to_without (roots E) u v q (λ e. d (sym e)))))

    stay : {x y : ℕ} → Walk (Adjacent E) (In all) x y → x < n → Walk (Adjacent E) (In (upto n)) x y
    stay (here {x = x} _) p = here (lt→ltb x n p)
    stay (step {x = x} {y = y} _ h w) p = step (lt→ltb x n p) h (stay w (adjacent_below n E b x y h))

-- n positions with n - 1 edges: one component
pub whole : (n : ℕ) (E : Edges) → Below n E → Acyclic E → 0 < n → n ≤ length E + 1 → Component E n (upto n)
unfolding upto
whole n E b k l h = record {
  member = (0, lt→ltb 0 n l);
  below = λ x p. ltb→lt x n p;
  connected = λ x y p q. joined_all n E b k h x y (ltb→lt x n p) (ltb→lt y n q);
}

-- it has n members
pub count_upto : (n : ℕ) → count n (upto n) ≡ n
unfolding upto
count_upto n = count_all n (upto n) (λ i l. lt→ltb i n l)
