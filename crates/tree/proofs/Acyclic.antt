-- Edges that were each accepted have no ring.
use mathlib.Core.Path.{◌≡◌, sym, ap, ◌∙◌}
use mathlib.Core.Logic.{◌⊎◌, inl, inr}
use mathlib.Core.List.{[], ◌∷◌}
use Prim.Native.Nat.{ℕ}
use lib.Dec.{T}
use Rattle.base.specs.Sets.{Set}
use Rattle.tree.specs.Walk.{Walk, Not}
use Rattle.tree.specs.Edges.{Edge, Edges, Adjacent, all, label}
use Rattle.tree.specs.Inner.{In, Acyclic}
use Rattle.tree.specs.Component.{without}
use Rattle.tree.proofs.Walks.{mono, first, last}
use Rattle.tree.proofs.Without.{to_without, without_not}
use Rattle.tree.proofs.Labels.{edge_label, walk_label, label_joined, wider, Across, label_step}

-- the ends of the latest edge have different labels through the earlier ones
pub apart_ends : (e : Edge) (E : Edges) → Acyclic (e ∷ E) → label all E e.one ≡ label all E e.two → ⊥
apart_ends e E k h = k.0 (label_joined all E e.one e.two h)

-- no position is its own neighbour
pub irreflexive : (E : Edges) → Acyclic E → (x : ℕ) → Adjacent E x x → ⊥
irreflexive [] k x h = h
irreflexive (e ∷ E) k x (inl (inl (i, j))) = apart_ends e E k (ap (label all E) (sym i ∙ j))
irreflexive (e ∷ E) k x (inl (inr (i, j))) = apart_ends e E k (ap (label all E) (sym j ∙ i))
irreflexive (e ∷ E) k x (inr h) = irreflexive E k.1 x h

-- by labels: nothing is joined to each end of an edge without the other
no_ring : (E : Edges) → Acyclic E → (c w x : ℕ) → Adjacent E c w → T (without all c x) → T (without all c w) → T (without all w x) → T (without all w c)
    → label (without all c) E x ≡ label (without all c) E w → label (without all w) E x ≡ label (without all w) E c → ⊥
no_ring [] k c w x h p q r s f g = h
no_ring (e ∷ E) k c w x h p q r s f g = by h (label_step A e E x w f) (label_step B e E x c g) (no_ring E k.1)
  where
    A : Set
    A = without all c

    B : Set
    B = without all w

    L : ℕ → ℕ
    L = label all E

    ring : L e.one ≡ L e.two → ⊥
    ring = apart_ends e E k

    Case : Set → ℕ → ℕ → Type 0
    Case S x y = (label S E x ≡ label S E y) ⊎ Across S E e y x ⊎ Across S E e x y

    up : (S : Set) (x y : ℕ) → T (S x) → T (S y) → label S E x ≡ label S E y → L x ≡ L y
    up S x y = wider S E x y

    -- the edge c, w is the latest
    head : (c w : ℕ) → (c ≡ e.one) × (w ≡ e.two) → L x ≡ L c → L x ≡ L w → ⊥
    head c w (i, j) u v = ring (ap L (sym i) ∙ sym u ∙ v ∙ ap L j)

    by : Adjacent (e ∷ E) c w → Case A x w → Case B x c
        → ((c w x : ℕ) → Adjacent E c w → T (without all c x) → T (without all c w) → T (without all w x) → T (without all w c)
        → label (without all c) E x ≡ label (without all c) E w → label (without all w) E x ≡ label (without all w) E c → ⊥) → ⊥
    by (inl (inl i)) (inl f) (inl g) ih = head c w i (up B x c r s g) (up A x w p q f)
    by (inl (inr i)) (inl f) (inl g) ih = head w c (i.1, i.0) (up A x w p q f) (up B x c r s g)
    by (inl (inl i)) (inr (inl (a, b, n, m))) g ih = without_not all c e.one a (sym i.0)
    by (inl (inl i)) (inr (inr (a, b, m, n))) g ih = without_not all c e.one a (sym i.0)
    by (inl (inr i)) (inr (inl (a, b, n, m))) g ih = without_not all c e.two b (sym i.0)
    by (inl (inr i)) (inr (inr (a, b, m, n))) g ih = without_not all c e.two b (sym i.0)
    by (inl (inl i)) (inl f) (inr (inl (a, b, n, m))) ih = without_not all w e.two b (sym i.1)
    by (inl (inl i)) (inl f) (inr (inr (a, b, m, n))) ih = without_not all w e.two b (sym i.1)
    by (inl (inr i)) (inl f) (inr (inl (a, b, n, m))) ih = without_not all w e.one a (sym i.1)
    by (inl (inr i)) (inl f) (inr (inr (a, b, m, n))) ih = without_not all w e.one a (sym i.1)
    by (inr h) (inl f) (inl g) ih = ih c w x h p q r s f g
    by (inr h) (inl f) (inr (inl (a, b, n, m))) ih = ring (cc (edge_label all E c w h tt tt, up A x w p q f, up B x e.two r b m, up B c e.one s a n))
    by (inr h) (inl f) (inr (inr (a, b, m, n))) ih = ring (cc (edge_label all E c w h tt tt, up A x w p q f, up B x e.one r a m, up B c e.two s b n))
    by (inr h) (inr (inl (a, b, n, m))) (inl g) ih = ring (cc (edge_label all E c w h tt tt, up B x c r s g, up A x e.two p b m, up A w e.one q a n))
    by (inr h) (inr (inr (a, b, m, n))) (inl g) ih = ring (cc (edge_label all E c w h tt tt, up B x c r s g, up A x e.one p a m, up A w e.two q b n))
    by (inr h) (inr (inl (a, b, n, m))) (inr (inl (a', b', n', m'))) ih = ih c w e.one h a q a' s (sym n) (sym n')
    by (inr h) (inr (inr (a, b, m, n))) (inr (inr (a', b', m', n'))) ih = ih c w e.two h b q b' s (sym n) (sym n')
    by (inr h) (inr (inl (a, b, n, m))) (inr (inr (a', b', m', n'))) ih = ring (cc (up A x e.two p b m, up B x e.one r a' m'))
    by (inr h) (inr (inr (a, b, m, n))) (inr (inl (a', b', n', m'))) ih = ring (cc (up A x e.one p a m, up B x e.two r b' m'))

-- no ring: nothing is joined to each end of an edge without the other
pub bridge : (E : Edges) → Acyclic E → (c w x : ℕ) → Adjacent E c w → Walk (Adjacent E) (Not c) x w → Walk (Adjacent E) (Not w) x c → ⊥
bridge E k c w x h u v =
    no_ring E k c w x h (first (Adjacent E) u') (last (Adjacent E) u') (first (Adjacent E) v') (last (Adjacent E) v') (walk_label (without all c) E u') (walk_label (without all w) E v')
  where
    u' : Walk (Adjacent E) (In (without all c)) x w
    u' = mono (Adjacent E) (λ z q. to_without all c z tt q) u

    v' : Walk (Adjacent E) (In (without all w)) x c
    v' = mono (Adjacent E) (λ z q. to_without all w z tt q) v
