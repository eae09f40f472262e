-- The positions below x are passed.
use mathlib.Core.Path.{◌≡◌}
use lib.ListN.{length}
use Rattle.base.specs.Limits.{max_vertices}
use Rattle.base.specs.Inner.{any_below}
use Rattle.tree_levels.specs.Inner.{outs}
use Rattle.tree_levels.proofs.TakeOut.{Rest, Cut}
use Rattle.tree_levels.proofs.take_out.Given as goal

abbrev pub invariant-loop-x : goal.invariant-loop-x
invariant-loop-x l = record {
  alive_long : length l.alive ≡ max_vertices;
  sub_long : length l.sub ≡ max_vertices;
  any : l.any ≡ any_below l.x (outs l.forest.labels l.forest.sub l.forest.light);
  cut : Cut l.forest.labels l.forest.sub l.forest.light l.initial.alive l.x l.alive;
  rest : Rest l.forest.labels l.forest.sub l.forest.light l.x l.sub;
}
