-- Rows that lead on along edges: they keep growth order, have only edges of the plan, and are not more than its edges.
use mathlib.Core.Path.{◌≡◌, refl, sym, ◌∙◌, subst}
use mathlib.Core.Logic.{◌⊎◌, inl, inr}
use mathlib.Core.List.{[], ◌∷◌}
use mathlib.Core.Bool.{Bool, true, false, ◌&&◌}
use Prim.Native.Nat.{ℕ, suc, ◌+◌, ◌≤◌, ◌<◌}
use native.Mathlib.Decide.{ℕ_discrete}
use native.Mathlib.Omega.{arith}
use lib.Dec.{T, eqb→eq}
use lib.ListN.{length}
use borrow.Author.Tests.{ne_eqb, eq-eqb}
use Rattle.base.specs.Sets.{bit}
use Rattle.base.proofs.Bools.{T_and, T-left, T-right, T→true, not-T→false}
use Rattle.tree.specs.Edges.{Edge, Edges, Ends, Adjacent, Below}
use Rattle.tree.specs.Inner.{Grown}
use Rattle.tree.specs.Growth.{reached, target}
use Rattle.tree.proofs.Edges.{flip, adjacent_below}
use Rattle.tree.proofs.Growth.{reached_new, reached_old, reached_split}

-- ---- rows that lead on

-- G is F and then more rows, each of which leads on along an edge of E
pub data Longer (E F : Edges) : Edges → Type 0 where
  same : Longer E F F
  row : {G : Edges} (d : Edge) → Adjacent E d.one d.two → T (reached G d.one) → (T (reached G d.two) → ⊥) → Longer E F G → Longer E F (d ∷ G)

pub longer_trans : {E F G H : Edges} → Longer E F G → Longer E G H → Longer E F H
longer_trans a same = a
longer_trans a (row d h p q b) = row d h p q (longer_trans a b)

-- one edge more to go along
pub longer_wide : {E F G : Edges} (e : Edge) → Longer E F G → Longer (e ∷ E) F G
longer_wide e same = same
longer_wide e (row d h p q b) = row d (inr h) p q (longer_wide e b)

pub longer_grown : {E F G : Edges} → Longer E F G → Grown F → Grown G
longer_grown same g = g
longer_grown (row d h p q b) g = (p, q, longer_grown b g)

pub longer_reached : {E F G : Edges} → Longer E F G → (x : ℕ) → T (reached F x) → T (reached G x)
longer_reached same x r = r
longer_reached (row {G = G} d h p q b) x r = reached_old d G x (longer_reached b x r)

pub longer_length : {E F G : Edges} → Longer E F G → length F ≤ length G
longer_length same = omega arith
longer_length (row d h p q b) = omega (arith, longer_length b)

-- an edge of E, from either end
along : (E : Edges) (d : Edge) → Adjacent E d.one d.two → (x y : ℕ) → Ends d x y → Adjacent E x y
along E d h x y (inl (i, j)) = rw (i, j) h
along E d h x y (inr (i, j)) = rw (i, j) (flip E d.one d.two h)

pub longer_adjacent : {E F G : Edges} → Longer E F G → (x y : ℕ) → Adjacent G x y → Adjacent E x y ⊎ Adjacent F x y
longer_adjacent same x y a = inr a
longer_adjacent {E} (row d h p q b) x y (inl i) = inl (along E d h x y i)
longer_adjacent (row d h p q b) x y (inr a) = longer_adjacent b x y a

pub longer_below : {E F G : Edges} (n : ℕ) → Longer E F G → Below n E → Below n F → Below n G
longer_below n same b c = c
longer_below {E} n (row d h p q l) b c =
    (adjacent_below n E b d.two d.one (flip E d.one d.two h), adjacent_below n E b d.one d.two h, longer_below n l b c)

-- ---- where the rows lead

pub target_new : (d : Edge) (F : Edges) → target (d ∷ F) (length F) ≡ d.two
unfolding target
target_new d F = rw (eq-eqb (length F) (length F) refl)

target_old : (d : Edge) (F : Edges) (j : ℕ) → j < length F → target (d ∷ F) j ≡ target F j
unfolding target
target_old d F j l = rw (ne_eqb j (length F) (λ e. omega arith))

pub longer_target : {E F G : Edges} → Longer E F G → (j : ℕ) → j < length F → target G j ≡ target F j
longer_target same j l = refl
longer_target (row {G = G} d h p q b) j l = target_old d G j (omega (arith, longer_length b)) ∙ longer_target b j l

-- to a position that is reached
pub target_reached : (F : Edges) (j : ℕ) → j < length F → T (reached F (target F j))
target_reached [] j l = absurd (omega arith)
target_reached (d ∷ F) j l = go (ℕ_discrete j (length F)) (target_reached F j)
  where
    go : Dec (j ≡ length F) → (j < length F → T (reached F (target F j))) → T (reached (d ∷ F) (target (d ∷ F) j))
    go (yes e) ih = rw (e, target_new d F) (reached_new d F)
    go (no i) ih = let m : j < length F = omega arith in rw (target_old d F j m) (reached_old d F (target F j) (ih m))

-- and every such position but 0
pub reached_target : (F : Edges) (x : ℕ) → T (reached F x) → (x ≡ 0) ⊎ ((j : ℕ) × (j < length F) × (x ≡ target F j))
unfolding reached
reached_target [] x r = inl (eqb→eq x 0 r)
reached_target (d ∷ F) x r = go (reached_split d F x r) (reached_target F x)
  where
    older : (x ≡ 0) ⊎ ((j : ℕ) × (j < length F) × (x ≡ target F j)) → (x ≡ 0) ⊎ ((j : ℕ) × (j < length (d ∷ F)) × (x ≡ target (d ∷ F) j))
    older (inl i) = inl i
    older (inr (j, l, i)) = inr (j, omega arith, i ∙ sym (target_old d F j l))

    go : (x ≡ d.two) ⊎ T (reached F x) → (T (reached F x) → (x ≡ 0) ⊎ ((j : ℕ) × (j < length F) × (x ≡ target F j))) → (x ≡ 0) ⊎ ((j : ℕ) × (j < length (d ∷ F)) × (x ≡ target (d ∷ F) j))
    go (inl i) ih = inr (length F, omega arith, i ∙ sym (target_new d F))
    go (inr s) ih = older (ih s)

-- ---- not more rows than edges

-- how many edges of E have both ends reached
within : Edges → Edges → ℕ
within F [] = 0
within F (e ∷ E) = bit (reached F e.one && reached F e.two) + within F E

bit_mono : (a b : Bool) → (T a → T b) → bit a ≤ bit b
bit_mono true true h = omega arith
bit_mono true false h = absurd (h tt)
bit_mono false b h = omega arith

within_most : (F E : Edges) → within F E ≤ length E
unfolding within
within_most F [] = omega arith
within_most F (e ∷ E) = omega (arith, within_most F E, bit_mono (reached F e.one && reached F e.two) true (λ _. tt))

module _ (d : Edge) (F : Edges) where
  both : (e : Edge) → T (reached F e.one && reached F e.two) → T (reached (d ∷ F) e.one && reached (d ∷ F) e.two)
  both e h =
      T_and (reached (d ∷ F) e.one) (reached (d ∷ F) e.two)
      (reached_old d F e.one (T-left (reached F e.one) (reached F e.two) h)) (reached_old d F e.two (T-right (reached F e.one) (reached F e.two) h))

  within_keeps : (E : Edges) → within F E ≤ within (d ∷ F) E
  unfolding within
  within_keeps [] = omega arith
  within_keeps (e ∷ E) = omega (arith, within_keeps E, bit_mono (reached F e.one && reached F e.two) (reached (d ∷ F) e.one && reached (d ∷ F) e.two) (both e))

  module _ (p : T (reached F d.one)) (q : T (reached F d.two) → ⊥) where
    -- an edge with the ends of d was not among them, and is now
    fresh : (e : Edge) → Ends e d.one d.two → suc (bit (reached F e.one && reached F e.two)) ≤ bit (reached (d ∷ F) e.one && reached (d ∷ F) e.two)
    fresh e h =
        let now : T (reached (d ∷ F) e.one && reached (d ∷ F) e.two) = T_and (reached (d ∷ F) e.one) (reached (d ∷ F) e.two) (first h) (second h) in
        rw (T→true (reached (d ∷ F) e.one && reached (d ∷ F) e.two) now, not-T→false (reached F e.one && reached F e.two) (before h)) (omega arith)
      where
        new : T (reached (d ∷ F) d.two)
        new = reached_new d F

        old : T (reached (d ∷ F) d.one)
        old = reached_old d F d.one p

        first : Ends e d.one d.two → T (reached (d ∷ F) e.one)
        first (inl (i, j)) = subst (λ z. T (reached (d ∷ F) z)) i old
        first (inr (i, j)) = subst (λ z. T (reached (d ∷ F) z)) j new

        second : Ends e d.one d.two → T (reached (d ∷ F) e.two)
        second (inl (i, j)) = subst (λ z. T (reached (d ∷ F) z)) j new
        second (inr (i, j)) = subst (λ z. T (reached (d ∷ F) z)) i old

        before : Ends e d.one d.two → T (reached F e.one && reached F e.two) → ⊥
        before (inl (i, j)) h = q (subst (λ z. T (reached F z)) (sym j) (T-right (reached F e.one) (reached F e.two) h))
        before (inr (i, j)) h = q (subst (λ z. T (reached F z)) (sym j) (T-left (reached F e.one) (reached F e.two) h))

    within_more : (E : Edges) → Adjacent E d.one d.two → suc (within F E) ≤ within (d ∷ F) E
    unfolding within
    within_more [] h = absurd h
    within_more (e ∷ E) (inl h) = omega (arith, within_keeps E, fresh e h)
    within_more (e ∷ E) (inr h) = omega (arith, within_more E h, bit_mono (reached F e.one && reached F e.two) (reached (d ∷ F) e.one && reached (d ∷ F) e.two) (both e))

longer_within : {E F G : Edges} → Longer E F G → length F ≤ within F E → length G ≤ within G E
longer_within same l = l
longer_within {E} (row {G = G} d h p q b) l = omega (arith, longer_within b l, within_more d G p q E h)

-- rows from none on
pub longer_few : {E G : Edges} → Longer E [] G → length G ≤ length E
longer_few {E} {G} b = omega (arith, longer_within b (omega arith), within_most G E)
