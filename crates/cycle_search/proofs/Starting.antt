-- What is kept before the first edge is undone: the ends of the rejected edge at their root, and at every other root that root itself.
use mathlib.Core.Path.{◌≡◌, refl, sym, ◌∙◌}
use mathlib.Core.List.{List}
use Prim.Native.Nat.{ℕ, ◌≤◌, ◌<◌}
use native.Mathlib.Decide.{ℕ_discrete}
use native.Mathlib.Omega.{arith}
use lib.Dec.{T}
use lib.ListN.{length, get_or, set}
use lib.Seq.{get_or-set_same, get_or-set_other}
use Rattle.tree.specs.Edges.{Edges, all, joined, Below}
use Rattle.union_find.specs.Inner.{root, Top}
use Rattle.union_find.proofs.Roots.{root_stays}
use Rattle.cycles.specs.Inner.{needed, numbered}
use Rattle.cycles.proofs.Steps.{needed_same, needed_elsewhere}
use Rattle.cycle_search.specs.Inner.{Sets, Kept, SameNeed}
use Rattle.cycle_search.proofs.Sets.{joined_roots, root_below, numbered_below}

module _ (n : ℕ) (E : Edges) (up : List ℕ) (S : Sets n E up) (b : Below n E) (x y : ℕ) (xb : x < n) (yb : y < n) (j : T (joined all E x y)) where
  abbrev top : ℕ
  top = root n up x

  module _ (f : List ℕ) (fits : n ≤ length f) (own : (z : ℕ) → z < n → get_or f z 0 ≡ z) (v : ℕ) (vb : v < n) (vr : root n up v ≡ top) where
    kept_at : get_or (set f top v) top 0 ≡ v
    kept_at = get_or-set_same f top v 0 (omega (arith, root_below S x xb))

    kept_else : (r : ℕ) → r < n → (r ≡ top → ⊥) → get_or (set f top v) r 0 ≡ r
    kept_else r rb d = get_or-set_other f top r v 0 d ∙ own r rb

    kept_start : (r : ℕ) → r < n → Top up r → (get_or (set f top v) r 0 < n) × (root n up (get_or (set f top v) r 0) ≡ r)
    kept_start r rb t = go (ℕ_discrete r top)
      where
        go : Dec (r ≡ top) → (get_or (set f top v) r 0 < n) × (root n up (get_or (set f top v) r 0) ≡ r)
        go (yes i) = rw (i, kept_at) (vb, vr)
        go (no d) = rw (kept_else r rb d) (rb, root_stays n up r t)

  module _ (from to : List ℕ) (ff : n ≤ length from) (ft : n ≤ length to) (of : (z : ℕ) → z < n → get_or from z 0 ≡ z) (ot : (z : ℕ) → z < n → get_or to z 0 ≡ z) where
    y_top : root n up y ≡ top
    y_top = sym (joined_roots S x y xb yb j)

    pub starts_kept : Kept n up (set from top x) (set to top y)
    starts_kept = record { first = kept_start from ff of x xb refl; second = kept_start to ft ot y yb y_top }

    pub starts_need : SameNeed n E x y E up (set from top x) (set to top y)
    starts_need i l = go (ℕ_discrete r top)
      where
        z : ℕ
        z = (numbered E i).one

        zb : z < n
        zb = numbered_below n E b i l

        r : ℕ
        r = root n up z

        rb : r < n
        rb = root_below S z zb

        go : Dec (r ≡ top) → needed E x y i ≡ needed E (get_or (set from top x) r 0) (get_or (set to top y) r 0) i
        go (yes p) = rw (p, kept_at from ff of x xb refl, kept_at to ft ot y yb y_top) refl
        go (no d) =
            rw (kept_else from ff of x xb refl r rb d, kept_else to ft ot y yb y_top r rb d)
            (needed_elsewhere E x y i (λ h. d (joined_roots S z x zb xb h)) j ∙ sym (needed_same E r i))
