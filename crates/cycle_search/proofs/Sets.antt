-- Sets of vertices by their roots; the edge with a number.
use mathlib.Core.Path.{◌≡◌, refl, sym, subst}
use mathlib.Core.List.{List, [], ◌∷◌}
use mathlib.Core.Bool.{false}
use Prim.Native.Nat.{ℕ, ◌<◌}
use native.Mathlib.Decide.{ℕ_discrete}
use native.Mathlib.Omega.{arith}
use lib.Dec.{T, eqb, eqb→eq, eqb_refl}
use lib.ListN.{length}
use borrow.Author.Tests.{eq-eqb, ne_eqb}
use Rattle.base.specs.Pick.{pick}
use Rattle.tree.specs.Edges.{Edge, Edges, all, joined, Below}
use Rattle.union_find.specs.Inner.{root}
use Rattle.union_find.proofs.Roots.{root_inside}
use Rattle.cycles.specs.Inner.{numbered}
use Rattle.cycle_search.specs.Inner.{Sets, Undoes}

pub sets_of : (n : ℕ) (moved : List ℕ) (E : Edges) (up : List ℕ) → Undoes n moved E up → Sets n E up
sets_of n moved [] up u = u
sets_of n moved (e ∷ E) up u = u.0

-- ---- sets by roots

module _ {n : ℕ} {E : Edges} {up : List ℕ} (S : Sets n E up) where
  pub roots_joined : (x y : ℕ) → x < n → y < n → root n up x ≡ root n up y → T (joined all E x y)
  roots_joined x y j k h = subst T (S.agree x y j k) (subst (λ (z : ℕ). T (eqb (root n up x) z)) h (eqb_refl (root n up x)))

  pub joined_roots : (x y : ℕ) → x < n → y < n → T (joined all E x y) → root n up x ≡ root n up y
  joined_roots x y j k h = eqb→eq (root n up x) (root n up y) (subst T (sym (S.agree x y j k)) h)

  pub root_below : (x : ℕ) → x < n → root n up x < n
  root_below x l = root_inside n n up S.rooted.inside x l

pub numbered_below : (n : ℕ) (E : Edges) → Below n E → (j : ℕ) → j < length E → (numbered E j).one < n
unfolding numbered
numbered_below n [] b j l = absurd (omega arith)
numbered_below n (e ∷ E) b j l = go (ℕ_discrete j (length E)) (numbered_below n E b.2 j)
  where
    go : Dec (j ≡ length E) → (j < length E → (numbered E j).one < n) → (pick (eqb j (length E)) e (numbered E j)).one < n
    go (yes i) ih = rw (eq-eqb j (length E) i) b.0
    go (no d) ih = rw (ne_eqb j (length E) d) (ih (omega arith))

pub numbered_before : (e : Edge) (E : Edges) (j : ℕ) → j < length E → numbered (e ∷ E) j ≡ numbered E j
unfolding numbered
numbered_before e E j l = let d : eqb j (length E) ≡ false = ne_eqb j (length E) (λ i. omega arith) in rw d refl

pub numbered_latest : (e : Edge) (E : Edges) → numbered (e ∷ E) (length E) ≡ e
unfolding numbered
numbered_latest e E = rw (eq-eqb (length E) (length E) refl) refl
