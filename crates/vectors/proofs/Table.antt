-- Every sum of the table holds.
use mathlib.Core.Path.{◌≡◌, refl}
use mathlib.Core.Bool.{false}
use Prim.Native.Nat.{ℕ, ◌<◌}
use native.Mathlib.Omega.{arith}
use lib.Dec.{eqb, eqb→eq}
use lib.Count.{ones, ones_in}
use Rattle.base.specs.Pick.{smallest}
use Rattle.base.specs.Sets.{count}
use Rattle.base.proofs.Bools.{not-T→false}
use Rattle.base.specs.Every.{Every}
use Rattle.tree.specs.Path.{path_edges}
use Rattle.tree.proofs.PathEdges.{path_along}
use Rattle.tree.proofs.PathCentre.{interval_centre}
use Rattle.tree.proofs.PathSides.{interval_side_two}
use Rattle.varint.specs.Varint.{pieces}
use Rattle.varint.specs.Reading.{pieces_at}
use Rattle.plan.specs.Reading.{plan_from, settled_plan}
use Rattle.message.specs.Message.{message_bytes}
use Rattle.senders.specs.Senders.{with_sender, union_over}
use Rattle.level.specs.Level.{slot, senders, with_heard, not_yet}
use Rattle.level.specs.Counts.{may_propose, proposed, digit_echoes, split_at, split, echoed_by, second_proposed, echoed_values}
use Rattle.level.specs.Rules.{rule3, rule4, rule8}
use Rattle.vectors.specs.Sums.{Holds, hearing, table}

-- a first result that is there
there : (v : ℕ) → v < not_yet → eqb v not_yet ≡ false
there v l = not-T→false (eqb v not_yet) (λ h. omega (arith, eqb→eq v not_yet h))

infixr 20 ◌and◌
pub ◌and◌ : {A B : Type 0} → A → B → A × B
a and b = (a, b)

-- P4 and P5 are cases of the laws of intervals; what else the table claims is computed
pub sums : Every Holds table
unfolding
    table hearing pieces pieces_at plan_from settled_plan message_bytes with_heard senders slot with_sender may_propose proposed digit_echoes split_at split union_over smallest count echoed_by second_proposed echoed_values rule3 rule4 rule8 ones ones_in
sums =
    refl
    and refl
    and refl
    and interval_centre 8 (path_edges 7) (path_along 7) 0 7 (omega arith) (omega arith)
    and (interval_centre 4 (path_edges 3) (path_along 3) 0 3 (omega arith) (omega arith), interval_side_two 4 (path_edges 3) (path_along 3) 0 3 (omega arith) (omega arith))
    and refl
    and (refl, refl)
    and (refl, refl)
    and refl
    and refl
    and (λ first l. rw (there first))
    and (λ own s. refl)
    and tt
