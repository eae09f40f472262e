-- The loop's invariant: where the sets pass, the levels below i do, and their chart is there.
use lib.Dec.{T}
use Rattle.party.specs.Valid.{sets_pass}
use Rattle.party.specs.Tie.{as_party}
use Rattle.party_inspect.proofs.Charted.{Passed}
use Rattle.party_inspect.proofs.inspect.Given as goal

abbrev pub invariant-loop-i : goal.invariant-loop-i
invariant-loop-i l = T (sets_pass l.p.n l.p.sets) → Passed (as_party l.p) l.i l.chart
