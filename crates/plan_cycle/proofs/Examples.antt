-- Every row of specs/Examples.antt holds; and why a premise of the statement stands.
use mathlib.Core.Path.{◌≡◌, refl, ap, ◌∙◌, subst}
use mathlib.Core.Logic.{inl, inr}
use mathlib.Core.List.{List, [], ◌∷◌}
use mathlib.Core.Bool.{◌||◌}
use Prim.Native.Nat.{ℕ}
use native.Mathlib.Omega.{arith}
use lib.Dec.{T, eqb, eqb→eq}
use lib.ListN.{length}
use Rattle.base.specs.Found.{refused}
use Rattle.base.specs.Every.{Every}
use Rattle.base.specs.Sets.{Set}
use Rattle.base.proofs.Bools.{or_split}
use Rattle.varint.specs.Varint.{pieces}
use Rattle.varint.specs.Reading.{pieces_at}
use Rattle.tree.specs.Edges.{Edges, label, joined, edges_at}
use Rattle.tree.specs.Component.{without}
use Rattle.cycles.specs.Cycles.{closes, chosen, on_cycle}
use Rattle.cycles.specs.Statement.{Closing}
use Rattle.edges.specs.Reading.{edges_from}
use Rattle.edges.specs.Rows.{column}
use Rattle.plan.specs.Bytes.{edge_bytes}
use Rattle.plan.specs.Reading.{plan_from, plan_of}
use Rattle.plan_cycle.specs.Cycle.{edges_up_to, edges_to_rejected, numbers, cycle_by}
use Rattle.plan_cycle.specs.Statement.{Starts}
use Rattle.plan_cycle.specs.Examples.{row, Shown, star_twice, examples}
use Rattle.plan_cycle.proofs.Along.{to_rejected}
use Rattle.plan_cycle.proofs.Lists.{listed_same}
use Rattle.plan_cycle.proofs.Minimal.{minimal}

infixr 20 ◌and◌
◌and◌ : {A B : Type 0} → A → B → A × B
a and b = (a, b)

-- ---- 16 edges, too many to leave out each

twice_refused : plan_of star_twice ≡ refused 8 33
unfolding pieces_at label joined edges_at edges_from plan_from
twice_refused = refl

-- the first edge and the latest
abbrev ends : Set
ends = λ i. eqb i 0 || eqb i 15

abbrev sixteen : Edges
sixteen = edges_to_rejected star_twice 33

ends_close : Closing sixteen ends
unfolding pieces_at label joined closes chosen edges_up_to
ends_close = tt

ends_alone : (i : ℕ) → T (ends i) → Closing sixteen (without ends i) → ⊥
unfolding pieces_at label joined without closes chosen edges_up_to
ends_alone i k h =
    elim (or_split (eqb i 0) (eqb i 15) k) [
      | inl p ↦ subst (λ (j : ℕ). Closing sixteen (without ends j)) (eqb→eq i 0 p) h
      | inr p ↦ subst (λ (j : ℕ). Closing sixteen (without ends j)) (eqb→eq i 15 p) h
    ]

ends_listed : Shown (row star_twice (0 ∷ 15 ∷ []) (0 ∷ 0 ∷ []) (1 ∷ 1 ∷ []))
unfolding pieces_at chosen column edges_up_to numbers
ends_listed =
    ap (cycle_by star_twice) twice_refused
    ∙ listed_same (on_cycle sixteen) ends sixteen (λ i l. minimal sixteen (to_rejected star_twice 33 twice_refused).rejected ends ends_close ends_alone i)

-- ---- all rows

pub hold : Every Shown examples
unfolding examples pieces_at label joined edges_at without closes chosen on_cycle edges_from column plan_from edges_up_to numbers
hold =
    refl and refl and refl and refl and refl and refl and refl and refl and refl and refl
    and refl and ends_listed and refl and refl and refl and refl and refl and refl and refl and tt

-- an edge given twice
abbrev twice : List ℕ
twice = 0x01 ∷ 0x04 ∷ 0x00 ∷ 0x01 ∷ 0x00 ∷ 0x01 ∷ []

-- The bytes start with no edges too, so that `unique` asks for rejected ones.
pub no_edges_start : (plan_of twice ≡ refused 8 5) × Starts twice 4 [] × ([] ≡ edges_to_rejected twice 5 → ⊥)
unfolding pieces pieces_at label joined edges_at edges_from plan_from edges_up_to edge_bytes
no_edges_start = (refl, record { rest = 0x00 ∷ 0x01 ∷ 0x00 ∷ 0x01 ∷ []; bytes = refl }, λ e. let n : ◌≡◌ {A = ℕ} 0 2 = ap length e in omega arith)
