-- The marked rows of two columns, listed.
use mathlib.Core.Path.{◌≡◌, sym, ap, ◌∙◌}
use mathlib.Core.List.{List}
use mathlib.Core.Bool.{Bool, true, false}
use Prim.Native.Nat.{ℕ, ◌+◌, ◌≤◌, ◌<◌}
use native.Mathlib.Omega.{arith}
use lib.Dec.{eqb}
use lib.ListN.{length, get_or}
use borrow.Author.Tests.{eq-eqb, ne_eqb}
use Rattle.base.specs.Sets.{Set, bit}
use Rattle.base.specs.Limits.{max_rows}
use Rattle.base.proofs.Bools.{true→T, false→not-T}
use Rattle.cycles.specs.Cycles.{chosen}
use Rattle.cycles.proofs.Chosen.{chosen_most}
use Rattle.edges.specs.Rows.{rows, column}
use Rattle.edges.proofs.Rows.{rows_length}
use Rattle.cycle_search.proofs.Columns.{row, rows_next}
use Rattle.plan_cycle.specs.declared.Cycle.{Cycle}
use Rattle.plan_cycle.specs.Cycle.{numbers, listed, no_cycle}
use Rattle.plan_cycle.specs.Inner.{marked}
use Rattle.plan_cycle.proofs.Lists.{with_edge, listed_off, listed_on, listed_same}

bit_marked : (n : ℕ) (b : Bool) → n ≡ bit b → eqb n 1 ≡ b
bit_marked n true e = eq-eqb n 1 e
bit_marked n false e = ne_eqb n 1 (λ i. omega arith)

-- marks of a set K at m rows list K's rows
pub marked_listed : (K : Set) (marks one two : List ℕ) (m : ℕ) → ((i : ℕ) → i < m → get_or marks i 0 ≡ bit (K i)) → listed (marked marks) (rows one two m) ≡ listed K (rows one two m)
unfolding marked
marked_listed K marks one two m h =
    listed_same (marked marks) K (rows one two m) (λ i l. bit_marked (get_or marks i 0) (K i) (h i (omega (arith, rows_length one two m))))

-- c lists the marked ones of the first i rows
pub record Lists (marks one two : List ℕ) (i : ℕ) (c : Cycle) : Type 0 where
  pub most : c.count ≤ i
  pub same : c ≡ listed (marked marks) (rows one two i)

lists : (marks one two : List ℕ) (i : ℕ) {c : Cycle} → c ≡ listed (marked marks) (rows one two i) → Lists marks one two i c
lists marks one two i e = record { most = rw e (omega (arith, chosen_most (marked marks) (rows one two i), rows_length one two i)); same = e }

pub lists_none : {marks one two : List ℕ} {c : Cycle} → c ≡ no_cycle → Lists marks one two 0 c
unfolding chosen numbers rows column
lists_none {marks} {one} {two} e = lists marks one two 0 e

module _ {marks one two : List ℕ} {i : ℕ} {c : Cycle} (h : Lists marks one two i c) where
  module _ {d : Cycle} where
    -- row i is not marked
    pub lists_off : (get_or marks i 0 ≡ 1 → ⊥) → d ≡ c → Lists marks one two (i + 1) d
    unfolding marked
    lists_off n e =
        lists marks one two (i + 1)
        (e ∙ h.same ∙ rw (rows_next one two i) (sym (listed_off (marked marks) _ (rows one two i) (rw (rows_length one two i) (false→not-T (ne_eqb (get_or marks i 0) 1 n))))))

    -- it is
    pub lists_on : get_or marks i 0 ≡ 1 → i < max_rows → d ≡ with_edge c i (get_or one i 0) (get_or two i 0) → Lists marks one two (i + 1) d
    unfolding marked
    lists_on y l e =
        let m : length (rows one two i) ≡ i = rows_length one two i in
        let on = listed_on (marked marks) (row one two i) (rows one two i) (rw m (true→T (eq-eqb (get_or marks i 0) 1 y))) (omega arith) in
        lists marks one two (i + 1) (e ∙ ap (λ (x : Cycle). with_edge x i (get_or one i 0) (get_or two i 0)) h.same ∙ rw (rows_next one two i) (sym (rw m at on)))

  -- all m rows
  pub lists_all : (m : ℕ) → i ≡ m → c ≡ listed (marked marks) (rows one two m)
  lists_all m e = rw (← e) h.same
