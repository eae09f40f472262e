-- An edge that a question refuses.
use mathlib.Core.Path.{◌≡◌, ◌∙◌}
use mathlib.Core.List.{List, ◌∷◌}
use Prim.Native.Nat.{ℕ, suc}
use Rattle.base.specs.Found.{Found, refused}
use Rattle.base.specs.Question.{number_of}
use Rattle.base.specs.declared.Question.{Question}
use Rattle.tree.specs.Edges.{Edges}
use Rattle.edges.specs.Reading.{varint_then, ends_apart, not_joined, room_at_ends, edges_from}
use Rattle.edges.specs.Inner.{fault_in}
use Rattle.edges.proofs.Faults.{refused_by_first}
use Rattle.plan.specs.Plan.{Plan}
use Rattle.plan_groups.specs.Groups.{After}

-- of both its groups the values were read, a and b
pub refused_edge : (v k : ℕ) (s : List ℕ) (at second third a b : ℕ) (E : Edges) (done : Edges → ℕ → Found Plan) (q : Question)
    → ((f : After) → varint_then s at f ≡ f a second) → ((f : After) → varint_then s second f ≡ f b third)
    → number_of q ≡ fault_in v E a b → edges_from v (suc k) s at E done ≡ refused (number_of q) second
unfolding edges_from
refused_edge v k s at second third a b E done q one two e =
    one _ ∙ two _ ∙ refused_by_first (ends_apart v a b) (not_joined E a b) (room_at_ends E a b) q second (edges_from v k s third (record { one = a; two = b } ∷ E) done) e
