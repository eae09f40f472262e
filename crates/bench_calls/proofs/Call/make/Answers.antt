-- `bench_calls::Call::make` meets its contract.
use native.Mathlib.Omega.{arith}
use Rattle.bench_calls.proofs.Room.{start_roomy, take_roomy, has_room}
use Rattle.bench_calls.proofs.Call.make.Goals as goal

pub returns-in-Start : goal.returns-in-Start
returns-in-Start c = has_room c.start.ensures (start_roomy _ _ _ _ (omega arith) _)

pub returns-in-Take : goal.returns-in-Take
returns-in-Take c = has_room c.take.ensures (take_roomy _ _ _ _ (omega arith) _ _)
