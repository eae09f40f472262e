-- The plan of a drawing.
use mathlib.Core.Path.{◌≡◌, refl}
use mathlib.Core.List.{[], ◌∷◌}
use Rattle.varint.specs.Varint.{pieces}
use Rattle.tree.specs.Edges.{Edges}
use Rattle.plan.specs.Bytes.{edge_bytes}
use Rattle.drawing.specs.Drawing.{drawn_plan}

-- a vertex 1 with the neighbours 0, 2 and 3, the latest edge first
abbrev pub star : Edges
star = record { one = 1; two = 3 } ∷ record { one = 1; two = 2 } ∷ record { one = 0; two = 1 } ∷ []

pub star_plan : drawn_plan star ≡ (1 ∷ 4 ∷ 0 ∷ 1 ∷ 1 ∷ 2 ∷ 1 ∷ 3 ∷ [])
unfolding pieces edge_bytes
star_plan = refl
