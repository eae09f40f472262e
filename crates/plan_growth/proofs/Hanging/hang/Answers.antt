-- `Hanging::hang` meets its contract: the next edge is the latest at its two ends.
use mathlib.Core.Path.{refl}
use native.Mathlib.Omega.{arith}
use Rattle.plan_growth.proofs.Chains.{next_below, hung_more}
use Rattle.plan_growth.proofs.Hanging.hang.Goals as goal

pub bounds-self-inside-a : goal.bounds-self-inside-a
bounds-self-inside-a c = omega (arith, c.from-a.ensures, (next_below (rw (← c.self.view_is) at c.requires)).0)

pub bounds-self-inside-b : goal.bounds-self-inside-b
bounds-self-inside-b c = omega (arith, c.from-b.ensures, (next_below (rw (← c.self.view_is) at c.requires)).1)

pub bounds-self-inside-a-2 : goal.bounds-self-inside-a-2
bounds-self-inside-a-2 c = omega (arith, c.from-a.ensures, (next_below (rw (← c.self.view_is) at c.requires)).0)

pub bounds-self-inside-b-2 : goal.bounds-self-inside-b-2
bounds-self-inside-b-2 c = omega (arith, c.from-b.ensures, (next_below (rw (← c.self.view_is) at c.requires)).1)

pub invariant_of-self : goal.invariant_of-self
invariant_of-self c =
    let n = rw (← c.self.view_is) at c.requires in
    rw (c.from-a.ensures, c.from-b.ensures) (hung_more c.self.invariant n.below (n.columns.0, n.columns.1, omega (arith, n.room), omega (arith, n.room)) refl refl refl)
