-- The needed edges are enough: of acyclic edges that join a and b, those without which they are not joined join them by themselves.
use mathlib.Core.Path.{◌≡◌, sym, subst}
use mathlib.Core.Logic.{◌⊎◌, inl, inr}
use mathlib.Core.Bool.{not, ◌&&◌, ◌||◌}
use Prim.Native.Nat.{ℕ, zero, suc, ◌<◌}
use native.Mathlib.Decide.{ℕ_discrete}
use native.Mathlib.Omega.{arith}
use lib.Dec.{T, ltb, T_not, not_T, lt→ltb, ltb→lt}
use lib.ListN.{length}
use Rattle.base.specs.Sets.{Set}
use Rattle.base.proofs.Bools.{T-left, T-right, T-dec, or_split, or_left, or_right}
use Rattle.tree.specs.Edges.{Edges, all, joined}
use Rattle.tree.specs.Inner.{Acyclic}
use Rattle.tree.specs.Component.{without}
use Rattle.tree.proofs.Labels.{joined_label}
use Rattle.tree.proofs.Without.{without_not}
use Rattle.cycles.specs.Cycles.{chosen}
use Rattle.cycles.specs.Inner.{needed}
use Rattle.cycles.proofs.Chosen.{chosen_every}
use Rattle.cycles.proofs.Joins.{Joined, join_chosen}
use Rattle.cycles.proofs.Common.{common}

-- an edge that is not needed may be left out
pub not_needed : (E : Edges) (a b i : ℕ) → (T (needed E a b i) → ⊥) → Joined (chosen (without all i) E) a b
unfolding needed
not_needed E a b i d = go (T-dec (joined all (chosen (without all i) E) a b))
  where
    go : Dec (T (joined all (chosen (without all i) E) a b)) → Joined (chosen (without all i) E) a b
    go (yes p) = joined_label all (chosen (without all i) E) a b p
    go (no q) = absurd (d (not_T (joined all (chosen (without all i) E) a b) q))

module _ (E : Edges) (ok : Acyclic E) (a b : ℕ) where
  -- all but those below m that are not needed
  less : ℕ → Set
  less m i = needed E a b i || not (ltb i m)

  less_high : (m i : ℕ) → (i < m → ⊥) → T (less m i)
  unfolding less
  less_high m i d = or_right (needed E a b i) (not (ltb i m)) (not_T (ltb i m) (λ h. d (ltb→lt i m h)))

  less_needed : (m i : ℕ) → T (needed E a b i) → T (less m i)
  unfolding less
  less_needed m i p = or_left (needed E a b i) (not (ltb i m)) p

  less_split : (m i : ℕ) → T (less m i) → T (needed E a b i) ⊎ (i < m → ⊥)
  unfolding less
  less_split m i h = elim (or_split (needed E a b i) (not (ltb i m)) h) [ inl p ↦ inl p | inr p ↦ inr (λ l. T_not (ltb i m) p (lt→ltb i m l)) ]

  less_on : (m i : ℕ) → T (less m i) → (i ≡ m → T (needed E a b i)) → T (less (suc m) i)
  less_on m i h f = go (less_split m i h) (ℕ_discrete i m)
    where
      go : T (needed E a b i) ⊎ (i < m → ⊥) → Dec (i ≡ m) → T (less (suc m) i)
      go (inl p) x = less_needed (suc m) i p
      go (inr d) (yes e) = less_needed (suc m) i (f e)
      go (inr d) (no n) = less_high (suc m) i (λ l. d (omega arith))

  less_joins : Joined E a b → (m : ℕ) → Joined (chosen (less m) E) a b
  less_joins j zero = subst (λ F. Joined F a b) (sym (chosen_every (less 0) E (λ i l. less_high 0 i (λ k. omega arith)))) j
  less_joins j (suc m) = go (T-dec (needed E a b m)) (less_joins j m)
    where
      go : Dec (T (needed E a b m)) → Joined (chosen (less m) E) a b → Joined (chosen (less (suc m)) E) a b
      go (yes p) ih = join_chosen (less m) (less (suc m)) E (λ i l q. less_on m i q (λ e. subst (λ z. T (needed E a b z)) (sym e) p)) a b ih
      go (no d) ih = join_chosen (λ i. less m i && without all m i) (less (suc m)) E
          (λ i l q. less_on m i (T-left (less m i) (without all m i) q) (λ e. absurd (without_not all m i (T-right (less m i) (without all m i) q) e)))
          a b (common (less m) (without all m) E ok a b ih (not_needed E a b m d))

  pub enough : Joined E a b → Joined (chosen (needed E a b) E) a b
  enough j = join_chosen (less (length E)) (needed E a b) E (λ i l p. elim (less_split (length E) i p) [ inl q ↦ q | inr d ↦ absurd (d l) ]) a b (less_joins j (length E))
