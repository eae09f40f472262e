-- The ports are those of the labels' ranks.
use Prim.Native.Nat.{◌≤◌}
use native.Mathlib.Omega.{arith}
use lib.ListN.{length, set}
use Rattle.base.specs.Limits.{max_vertices}
use Rattle.component_tree.proofs.TreeLaws.{centre_below, out_at, near_is, degree_is, apart, few, ports_are}
use Rattle.component_tree.proofs.number.Goals as goal

pub bounds-ports-c : goal.bounds-ports-c
bounds-ports-c c = omega (arith, centre_below c.requires.0 c.requires.2, c.requires.0.most)

pub around-requires : goal.around-requires
around-requires c =
    let t = c.args.tree.now in
    let O = c.requires.0 in
    let room : t.positions ≤ length (set c.args.ports.now c.args.c 0) = omega (arith, O.most) in
    (room, omega (arith, O.most), omega (arith, O.most), out_at t.parents.now t.children.now t.positions c.args.ports.now c.requires.0 c.args.c c.requires.2 room)

pub ranks-d-requires : goal.ranks-d-requires
ranks-d-requires c =
    let t = c.args.tree.now in
    let O = c.requires.0 in
    let room : t.positions ≤ length (set c.args.ports.now c.args.c 0) = omega (arith, O.most) in
    let N = near_is t.parents.now t.children.now t.positions c.args.ports.now O c.args.c c.requires.2 room c.around.new.near max_vertices c.around.ensures.near in (
      omega (arith, O.most),
      omega (arith, O.most),
      apart t.parents.now t.children.now t.positions c.args.ports.now O c.args.c c.requires.2 room c.around.new.out c.around.new.near c.around.ensures.labels N,
      few t.parents.now t.children.now t.positions c.args.ports.now O c.args.c c.requires.2 room c.around.new.out c.around.new.near c.around.ensures.labels N,
    )

pub bounds-ports-c-2 : goal.bounds-ports-c-2
bounds-ports-c-2 c = omega (arith, centre_below c.requires.0 c.requires.2, c.requires.0.most)

pub returns : goal.returns
returns c =
    let t = c.args.tree.now in
    let O = c.requires.0 in
    let room : t.positions ≤ length (set c.args.ports.now c.args.c 0) = omega (arith, O.most) in
    let N = near_is t.parents.now t.children.now t.positions c.args.ports.now O c.args.c c.requires.2 room c.around.new.near max_vertices c.around.ensures.near in (
      degree_is t.parents.now t.children.now t.positions c.args.ports.now O c.args.c c.requires.2 room c.around.new.out c.around.new.near c.around.ensures.labels N c.ranks-d.ensures.0,
      ports_are t.parents.now t.children.now t.positions c.args.ports.now O c.args.c c.requires.2 room c.around.new.out c.around.new.near c.around.ensures.labels N
          c.ranks-d.new.table c.ranks-d.ensures.1 c.renumber.new.ports (omega (arith, centre_below O c.requires.2, O.most)) c.requires.1 c.renumber.ensures,
    )
