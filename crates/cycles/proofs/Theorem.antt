-- The edges on the cycle are the smallest set in which some edge joins ends already joined, and the only one.
use mathlib.Core.Path.{◌≡◌, sym, subst}
use mathlib.Core.List.{[], ◌∷◌}
use Prim.Native.Nat.{ℕ, suc, ◌-◌}
use native.Mathlib.Omega.{arith}
use lib.Dec.{T, T_not}
use lib.ListN.{length}
use Rattle.base.specs.Sets.{Set}
use Rattle.base.proofs.Bools.{T-dec, true→T, or_left}
use Rattle.base.proofs.Counts.{count_mono, no_more}
use Rattle.tree.specs.Edges.{Edge, Edges, all, joined}
use Rattle.tree.specs.Component.{without}
use Rattle.tree.proofs.Labels.{joined_label, label_joined}
use Rattle.tree.proofs.Without.{to_without}
use Rattle.cycles.specs.Cycles.{closes, chosen, on_cycle}
use Rattle.cycles.specs.Inner.{needed}
use Rattle.cycles.specs.Statement.{Rejected, Closing, Statement}
use Rattle.cycles.proofs.Chosen.{chosen_on, count_chosen}
use Rattle.cycles.proofs.Joins.{Joined, join_chosen}
use Rattle.cycles.proofs.Closes.{closes_mono}
use Rattle.cycles.proofs.Enough.{enough}
use Rattle.cycles.proofs.Steps.{rejected_acyclic, latest_on, before_on}

-- with an edge that joins ends already joined by the chosen ones before it, some edge does
closes_on : (e : Edge) (F : Edges) → Joined F e.one e.two → T (closes (e ∷ F))
unfolding closes
closes_on e F j = or_left (joined all F e.one e.two) (closes F) (label_joined all F e.one e.two j)

on_closing : (e : Edge) (E : Edges) → Rejected (e ∷ E) → Closing (e ∷ E) (on_cycle (e ∷ E))
on_closing e E r = subst (λ F. T (closes F)) (sym (chosen_on C e E (true→T (latest_on e E r)))) (closes_on e (chosen C E)
    (join_chosen (needed E e.one e.two) C E (λ i l p. subst T (sym (before_on e E r i l)) p) e.one e.two
    (enough E (rejected_acyclic e E r) e.one e.two (joined_label all E e.one e.two r.0))))
  where
    C : Set
    C = on_cycle (e ∷ E)

-- a closing set without the number i shows that the edge is not on the cycle
on_least : (E : Edges) (K : Set) → Closing E K → (i : ℕ) → T (on_cycle E i) → T (K i)
unfolding on_cycle
on_least E K k i p = go (T-dec (K i))
  where
    go : Dec (T (K i)) → T (K i)
    go (yes q) = q
    go (no d) = absurd (T_not (closes (chosen (without all i) E)) p (closes_mono K (without all i) E (λ j l q. to_without all i j tt (λ e. d (subst (λ z. T (K z)) e q))) k))

pub smallest : Statement
smallest [] r = absurd r
smallest (e ∷ E) r = record {
  closing = on_closing e E r;
  least = least;
  latest = λ K k. let m : length E ≡ suc (length E) - 1 = omega arith in subst (λ (i : ℕ). T (K i)) m (least K k (length E) (true→T (latest_on e E r)));
  fewest = λ K k. rw (sym (count_chosen C (e ∷ E)), sym (count_chosen K (e ∷ E))) (count_mono (length (e ∷ E)) C K (λ i l. least K k i));
  only = λ K k m. no_more (length (e ∷ E)) C K (λ i l. least K k i) (rw (count_chosen K (e ∷ E), count_chosen C (e ∷ E)) m);
}
  where
    C : Set
    C = on_cycle (e ∷ E)

    least : (K : Set) → Closing (e ∷ E) K → (i : ℕ) → T (C i) → T (K i)
    least = on_least (e ∷ E)
