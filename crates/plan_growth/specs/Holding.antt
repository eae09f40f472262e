-- What the struct RowList holds.
use Rattle.base.specs.Limits.{max_vertices}
use Rattle.edges.specs.Rows.{rows}
use Rattle.plan_growth.specs.declared.RowList.TheInside.{Inside}
use Rattle.plan_growth.specs.Inner.{Laid, Listed}

-- the rows in their columns
abbrev pub listed : Inside → Listed
listed l = record { parent = l.parent; child = l.child; seen = l.seen; count = l.count }

-- they grow, the columns hold nothing else, and what they reach is marked
abbrev pub Holds : Inside → Type 0
Holds l = Laid max_vertices (rows l.parent l.child l.count) l.parent l.child l.seen l.count
