-- The pass that labels.
use mathlib.Core.Path.{◌≡◌, refl, sym, ap, ◌∙◌}
use mathlib.Core.List.{List, ◌∷◌}
use mathlib.Core.Bool.{Bool, true, false, ◌&&◌}
use Prim.Native.Nat.{ℕ, ◌+◌, ◌≤◌, ◌<◌}
use native.Mathlib.Decide.{ℕ_discrete}
use native.Mathlib.Numerals.{add-one}
use native.Mathlib.Omega.{arith}
use lib.Dec.{eqb}
use lib.ListN.{length, get_or, set}
use lib.Seq.{get_or-set_same, get_or-set_other}
use Rattle.base.specs.Pick.{pick}
use Rattle.base.specs.Sets.{Set}
use Rattle.tree.specs.Edges.{Edge, Edges, label}
use Rattle.tree.proofs.Growth.{label_new, label_old}
use Rattle.edges.specs.Rows.{rows}
use Rattle.marks.specs.Marks.{marked}
use Rattle.tree_pass.specs.Inner.{Rows, handed}
use Rattle.tree_pass.proofs.Rows.{row, below_row, grown_row}

-- every position below x its own label
abbrev pub Own : ℕ → List ℕ → Type 0
Own x out = (y : ℕ) → y < x → get_or out y 0 ≡ y

-- an edge that is not inside S changes no label
label_out : (S : Set) (e : Edge) (F : Edges) (x : ℕ) → S e.one && S e.two ≡ false → label S (e ∷ F) x ≡ label S F x
unfolding label
label_out S e F x h = ap (λ (b : Bool). pick (b && eqb (label S F x) (label S F e.two)) (label S F e.one) (label S F x)) h

-- ---- the pass

-- the labels of the first i rows
abbrev pub Labelled : List ℕ → List ℕ → Set → ℕ → ℕ → List ℕ → Type 0
Labelled ps cs S n i out = (x : ℕ) → x < n → get_or out x 0 ≡ label S (rows ps cs i) x

pub labelled_start : (ps cs : List ℕ) (S : Set) (n : ℕ) (out : List ℕ) → Own n out → Labelled ps cs S n 0 out
unfolding label rows
labelled_start ps cs S n out h x l = h x l

pub labelled_more : (ps cs ins : List ℕ) (n m i : ℕ) (out out' : List ℕ) (p v : ℕ) → Rows ps cs n m → n ≤ length out → i < m → p ≡ get_or ps i 0 → v ≡ get_or cs i 0 → out' ≡ handed ins out p v
    → Labelled ps cs (marked ins) n i out → Labelled ps cs (marked ins) n (i + 1) out'
unfolding handed rows
labelled_more ps cs ins n m i out out' p v R l h a b q k x lx = rw (q, a, b, add-one i) (go (S u && S w) refl (ℕ_discrete x w))
  where
    S : Set
    S = marked ins

    u : ℕ
    u = get_or ps i 0

    w : ℕ
    w = get_or cs i 0

    e : Edge
    e = row ps cs i

    F : Edges
    F = rows ps cs i

    go : (t : Bool) → S u && S w ≡ t → Dec (x ≡ w) → get_or (pick t (set out w (get_or out u 0)) out) x 0 ≡ label S (e ∷ F) x
    go false j d = k x lx ∙ sym (label_out S e F x j)
    go true j (yes i') =
        rw i' (get_or-set_same out w (get_or out u 0) 0 (omega (arith, (below_row ps cs n m R i h).1)) ∙ k u (below_row ps cs n m R i h).0
        ∙ sym (label_new S e F (grown_row ps cs n m R i h) ∙ ap (λ (t : Bool). pick t (label S F u) w) j))
    go true j (no d) = get_or-set_other out w x (get_or out u 0) 0 d ∙ k x lx ∙ sym (label_old S e F (grown_row ps cs n m R i h) x d)
