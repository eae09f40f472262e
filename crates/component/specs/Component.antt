-- Components of a plan: the definitions of crate tree on the plan's edges.
use Rattle.std.specs.Prelude.{ℕ}
use Rattle.base.specs.Sets.{Set, count}
use Rattle.tree.specs.Component.{upto, centre, degree, port, neighbour, side}
use Rattle.plan.specs.Plan.{Plan}
use Rattle.plan.specs.Positions.{edges_of}

-- all positions of a plan
abbrev pub whole_of : Plan → Set
whole_of p = upto p.count

-- "In a component of s positions": s
abbrev pub size_of : Plan → Set → ℕ
size_of p S = count p.count S

abbrev pub centre_of : Plan → Set → ℕ
centre_of p S = centre (edges_of p) p.count S

abbrev pub degree_of : Plan → Set → ℕ
degree_of p S = degree (edges_of p) p.count S

abbrev pub port_of : Plan → Set → ℕ → ℕ
port_of p S x = port (edges_of p) p.count S x

abbrev pub neighbour_of : Plan → Set → ℕ → ℕ
neighbour_of p S k = neighbour (edges_of p) p.count S k

abbrev pub side_of : Plan → Set → ℕ → Set
side_of p S k = side (edges_of p) p.count S k
