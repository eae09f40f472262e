-- `journal::size` meets its contract.
use mathlib.Core.Path.{ap}
use native.Mathlib.Omega.{arith}
use lib.ListN.{length}
use Rattle.varint.specs.Varint.{varint_bytes}
use Rattle.varint.proofs.Laws.{pieces_most}
use Rattle.journal.specs.Journal.{record_bytes}
use Rattle.journal.proofs.Laws.{start_length, taken_length, head_length, message_most}
use Rattle.journal.proofs.size.Goals as goal

pub overflow_add-result : goal.overflow_add-result
overflow_add-result c =
    omega (arith, head_length 1 c.in-Start.agreement (omega arith), pieces_most 4 c.in-Start.agreement, pieces_most 4 c.in-Start.position)

pub overflow_add-result-in-Taken : goal.overflow_add-result-in-Taken
overflow_add-result-in-Taken c =
    omega (arith, head_length 2 c.from.result (omega arith), pieces_most 4 c.from.result, message_most c.in-Taken.message)

pub returns-in-Start : goal.returns-in-Start
returns-in-Start c =
    omega (arith, ap (λ x. length (record_bytes x)) c.in-Start.is, start_length c.in-Start.agreement c.in-Start.position, head_length 1 c.in-Start.agreement (omega arith))

pub returns-in-Taken : goal.returns-in-Taken
returns-in-Taken c =
    omega (arith, ap (λ x. length (record_bytes x)) c.in-Taken.is, taken_length c.in-Taken.sender c.in-Taken.message, head_length 2 c.from.result (omega arith), ap (λ n. length (varint_bytes n)) c.from.ensures)
