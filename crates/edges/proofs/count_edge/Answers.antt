-- `edges::count_edge` meets its contract.
use mathlib.Core.Path.{sym}
use Prim.Native.Nat.{◌+◌}
use native.Mathlib.Omega.{arith}
use lib.ListN.{get_or}
use lib.Seq.{get_or-set_other}
use Rattle.edges.proofs.Counting.{counted}
use Rattle.edges.proofs.count_edge.Goals as goal

pub overflow_add-degree-2 : goal.overflow_add-degree-2
overflow_add-degree-2 c =
    let s = c in
    omega (arith, get_or-set_other s.args.degree.now s.args.a s.args.b (get_or s.args.degree.now s.args.a 0 + 1) 0 (λ e. s.requires.2 (sym e)), s.requires)

pub returns : goal.returns
returns c = let s = c in counted s.args.degree.now s.args.a s.args.b s.requires.0 s.requires.1 s.requires.2
