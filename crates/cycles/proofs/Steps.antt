-- What a search needs that undoes the edges, the latest first.
use mathlib.Core.Path.{◌≡◌, refl, sym, ap, ◌∙◌}
use mathlib.Core.List.{◌∷◌}
use mathlib.Core.Bool.{true, false, not}
use Prim.Native.Nat.{ℕ, ◌<◌}
use lib.Dec.{T}
use lib.ListN.{length}
use Rattle.base.specs.Pick.{pick}
use Rattle.base.proofs.Bools.{T→true, not-T→false, T-ext}
use Rattle.tree.specs.Edges.{Edge, Edges, Ends, all, label, joined}
use Rattle.tree.specs.Inner.{Acyclic}
use Rattle.tree.specs.Component.{without}
use Rattle.tree.proofs.Labels.{joined_label, label_joined}
use Rattle.cycles.specs.Cycles.{closes, chosen, on_cycle}
use Rattle.cycles.specs.Inner.{needed, numbered}
use Rattle.cycles.specs.Statement.{Rejected}
use Rattle.cycles.proofs.Chosen.{without_latest, without_before}
use Rattle.cycles.proofs.Joins.{join_later, join_before}
use Rattle.cycles.proofs.Closes.{open_acyclic, closes_latest, chosen_acyclic}
use Rattle.cycles.proofs.Parts.{beyond, pull_joined}

pub rejected_acyclic : (e : Edge) (E : Edges) → Rejected (e ∷ E) → Acyclic E
rejected_acyclic e E r = open_acyclic E r.1

-- the rejected edge is on the cycle
pub latest_on : (e : Edge) (E : Edges) → Rejected (e ∷ E) → on_cycle (e ∷ E) (length E) ≡ true
unfolding on_cycle
latest_on e E r = ap (λ F. not (closes F)) (without_latest e E) ∙ ap not (not-T→false (closes E) r.1)

-- one before it is where its ends are not joined without that one
pub before_on : (e : Edge) (E : Edges) → Rejected (e ∷ E) → (i : ℕ) → i < length E → on_cycle (e ∷ E) i ≡ needed E e.one e.two i
unfolding on_cycle needed
before_on e E r i l = ap (λ F. not (closes F)) (without_before e E i l) ∙ ap not (closes_latest e (chosen (without all i) E) (chosen_acyclic (without all i) E (rejected_acyclic e E r)))

-- the latest edge is needed where those before it do not join
pub needed_latest : (e : Edge) (E : Edges) (x y : ℕ) → needed (e ∷ E) x y (length E) ≡ not (joined all E x y)
unfolding needed
needed_latest e E x y = ap (λ F. not (joined all F x y)) (without_latest e E)

-- where they join, the others are needed as before
pub needed_stays : (e : Edge) (E : Edges) → Acyclic (e ∷ E) → (x y i : ℕ) → T (joined all E x y) → i < length E → needed (e ∷ E) x y i ≡ needed E x y i
unfolding needed
needed_stays e E k x y i j l = ap (λ F. not (joined all F x y)) (without_before e E i l) ∙ ap not (T-ext (joined all (e ∷ F) x y) (joined all F x y) down up)
  where
    F : Edges
    F = chosen (without all i) E

    down : T (joined all (e ∷ F) x y) → T (joined all F x y)
    down h = label_joined all F x y (join_before e E k (without all i) x y (joined_label all E x y j) (joined_label all (e ∷ F) x y h))

    up : T (joined all F x y) → T (joined all (e ∷ F) x y)
    up h = label_joined all (e ∷ F) x y (join_later e F x y (joined_label all F x y h))

-- An edge in the part of c, one end of the latest: it is needed between those two that stand there for x and y, where c stands for what lies beyond the latest edge.
pub needed_parts : (e : Edge) (E : Edges) → Acyclic (e ∷ E) → (c d : ℕ) → Ends e c d → (x y i : ℕ) → i < length E → T (joined all E (numbered E i).one c)
    → T (joined all (e ∷ E) x c) → T (joined all (e ∷ E) y c) → needed (e ∷ E) x y i ≡ needed E (pick (joined all E x c) x c) (pick (joined all E y c) y c) i
unfolding needed
needed_parts e E k c d ends x y i l a p q =
    ap (λ F. not (joined all F x y)) (without_before e E i l)
    ∙ ap not (pull_joined e E k c d ends i (joined_label all E (numbered E i).one c a) x y (joined_label all (e ∷ E) x c p) (joined_label all (e ∷ E) y c q))

-- nothing is needed between a position and itself
pub needed_same : (E : Edges) (x i : ℕ) → needed E x x i ≡ false
unfolding needed
needed_same E x i = ap not (T→true (joined all (chosen (without all i) E) x x) (label_joined all (chosen (without all i) E) x x refl))

-- an edge that is not joined to two positions is not needed between them
pub needed_elsewhere : (E : Edges) (x y i : ℕ) → (T (joined all E (numbered E i).one x) → ⊥) → T (joined all E x y) → needed E x y i ≡ false
unfolding needed
needed_elsewhere E x y i d j =
    let z : ℕ = (numbered E i).one in
    let k : label all E x ≡ label all E y = joined_label all E x y j in
    let far : label all E z ≡ label all E y → ⊥ = λ h. d (label_joined all E z x (h ∙ sym k)) in
    ap not (T→true (joined all (chosen (without all i) E) x y) (label_joined all (chosen (without all i) E) x y (beyond E i z y x refl far k)))
