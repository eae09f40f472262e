-- What the struct Hanging holds.
use Rattle.base.specs.Limits.{max_vertices}
use Rattle.plan_growth.specs.declared.Hanging.TheInside.{Inside}
use Rattle.plan_growth.specs.Inner.{Columns, Hung}

-- the edges that hang
abbrev pub columns : Inside → Columns
columns s = record { one = s.one.now; two = s.two.now; count = s.count }

-- they hang at their ends
abbrev pub Hangs : Inside → Type 0
Hangs s = Hung max_vertices s.count s.one.now s.two.now s.latest s.before1 s.before2
