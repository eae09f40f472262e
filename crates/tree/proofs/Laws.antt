-- The laws of trees that other crates use, gathered from the files of this folder.
-- Throughout E are edges with `ok : Acyclic E`, n bounds the positions, and `C : Component E n S`.
-- Those of centres, sides and ports take E ok n S C first.

-- ---- edges

-- adjacency is symmetric
pub use Rattle.tree.proofs.Edges.{flip}
-- the test `adjacent` tells it
pub use Rattle.tree.proofs.Edges.{adjacent→, adjacent←}
-- the neighbour of a position is below n
pub use Rattle.tree.proofs.Edges.{adjacent_below}
-- no position is its own neighbour
pub use Rattle.tree.proofs.Acyclic.{irreflexive}
-- no ring: nothing is joined to each end of an edge without the other
pub use Rattle.tree.proofs.Acyclic.{bridge}
-- members of S that the test `joined` joins are joined by a walk inside S, and only they
pub use Rattle.tree.proofs.Labels.{joined_walk, walk_joined}
-- ---- components

-- a set with a member, of positions below n, any two of which a walk inside it joins
pub use Rattle.tree.proofs.Components.{Component}
-- n positions with n - 1 edges are one component
pub use Rattle.tree.proofs.Whole.{whole}
-- it has n members
pub use Rattle.tree.proofs.Whole.{count_upto}
-- of one or two positions, any two are equal or neighbours
pub use Rattle.tree.proofs.Centres.{small}
-- ---- the centre

-- a member whose removal leaves parts of at most half the positions
pub use Rattle.tree.proofs.Centres.{Light}
-- the centre is one, and no smaller member is
pub use Rattle.tree.proofs.Centres.{centre_light, centre_least}
pub use Rattle.tree.proofs.Sides.{centre_member}
-- ---- neighbour k and side k, for k from 1 to the degree

-- neighbour k is a member, adjacent to the centre, lies in side k and has port k
pub use Rattle.tree.proofs.Sides.{neighbour_member, neighbour_adjacent, neighbour_side, neighbour_port}
-- neighbours stand in rising order
pub use Rattle.tree.proofs.Sides.{neighbour_rises}
-- side k is a component of at most half the positions
pub use Rattle.tree.proofs.Sides.{side_component, side_halves}
-- its members are members of the component, and the centre is none of them
pub use Rattle.tree.proofs.Sides.{side_member, side_centre}
-- a number outside 1 to the degree has an empty side
pub use Rattle.tree.proofs.Sides.{side_range}
-- every member is the centre, or lies in just one side
pub use Rattle.tree.proofs.Sides.{centre_or_side}
-- the degree is at most the number of edges at the centre, and so at most any bound on them
pub use Rattle.tree.proofs.Degrees.{degree_edges, degree_bound}
-- ---- ports

-- the centre has port 0, and no other member
pub use Rattle.tree.proofs.Sides.{port_centre, port_zero}
-- the others have a port from 1 to the degree
pub use Rattle.tree.proofs.Sides.{port_low, port_high}
-- a member lies in the side of its port, and in no other
pub use Rattle.tree.proofs.Sides.{port_side, side_port}
-- ---- on the path

-- the ends belong to the path, which is the same both ways
pub use Rattle.tree.proofs.OnPaths.{path_first, path_last, path_flip}
-- the path of a position to itself is that position
pub use Rattle.tree.proofs.OnPaths.{path_same}
-- what lies on the path between two members of a component is a member
pub use Rattle.tree.proofs.OnPaths.{path_member}
-- the centre is on the path between members of different ports
pub use Rattle.tree.proofs.Sides.{ports_path}
-- neighbour k is on the path between a member of port k and one of another port
pub use Rattle.tree.proofs.Sides.{neighbour_path}
-- the hull of a set: what lies on the path between two of its members; it holds them
pub use Rattle.tree.proofs.OnPaths.{Hull, hull_member}
-- what lies on the path between two points of the hull is in the hull
pub use Rattle.tree.proofs.OnPaths.{hull_path}
-- ---- distances

-- two positions have one distance at most
pub use Rattle.tree.proofs.Distances.{distance_one}
-- it is 0 exactly where they are the same
pub use Rattle.tree.proofs.Distances.{distance_zero→, distance_zero←}
-- and at most 1 exactly where they are the same or adjacent
pub use Rattle.tree.proofs.Distances.{distance_near→, distance_near←, distance_adjacent}
-- ---- levels

-- the component that a list of side numbers leads to, each a side of a component of three or more
pub use Rattle.tree.proofs.Levels.{Entered, inner_component}
unfoldable pub use Rattle.tree.proofs.Levels.{inner}
-- at level l it has at most one 2 ^ l-th of the positions
pub use Rattle.tree.proofs.Levels.{inner_halves}
-- of at most 2 ^ (L + 1) positions, a component of three or more is at a level below L, and any at level L at most
pub use Rattle.tree.proofs.Levels.{three_level, last_level_lem}
-- at level l three or more are left only of 3 · 2 ^ l positions or more; a path of as many has such a level, with its last position in it
pub use Rattle.tree.proofs.Levels.{three_needs}
pub use Rattle.tree.proofs.PathLevels.{path_level, path_levels}
