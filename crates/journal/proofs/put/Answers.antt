-- `journal::put` meets its contract.
use mathlib.Core.Path.{ap}
use native.Mathlib.Omega.{arith}
use lib.ListN.{length}
use Rattle.varint.specs.Varint.{varint_bytes}
use Rattle.journal.specs.Journal.{record_bytes}
use Rattle.journal.proofs.Laws.{head_length, start_length, taken_length, start_put, taken_put}
use Rattle.journal.proofs.put.Goals as goal

pub put_head-i-requires : goal.put_head-i-requires
put_head-i-requires c =
    omega (arith, ap (λ x. length (record_bytes x)) c.in-Start.is, start_length c.in-Start.agreement c.in-Start.position, head_length 1 c.in-Start.agreement (omega arith))

pub put-requires : goal.put-requires
put-requires c =
    omega (arith, ap (λ x. length (record_bytes x)) c.in-Start.is, start_length c.in-Start.agreement c.in-Start.position, head_length 1 c.in-Start.agreement (omega arith))

pub put_head-i-requires-in-Taken : goal.put_head-i-requires-in-Taken
put_head-i-requires-in-Taken c =
    omega (arith, ap (λ x. length (record_bytes x)) c.in-Taken.is, taken_length c.in-Taken.sender c.in-Taken.message, head_length 2 c.from.result (omega arith), ap (λ n. length (varint_bytes n)) c.from.ensures)

pub put-requires-in-Taken : goal.put-requires-in-Taken
put-requires-in-Taken c =
    omega (arith, ap (λ x. length (record_bytes x)) c.in-Taken.is, taken_length c.in-Taken.sender c.in-Taken.message, head_length 2 c.from.result (omega arith), ap (λ n. length (varint_bytes n)) c.from.ensures)

pub returns-in-Start : goal.returns-in-Start
returns-in-Start c =
    let l = c.args.out.now in
    let h = c.put_head-i in
    let w = c.put in
    rw c.in-Start.is (start_put l h.new.out w.new.out c.in-Start.agreement c.in-Start.position h.result w.result (omega (arith, ap (λ x. length (record_bytes x)) c.in-Start.is)) h.ensures w.ensures)

pub returns-in-Taken : goal.returns-in-Taken
returns-in-Taken c =
    let l = c.args.out.now in
    let h = c.put_head-i-in-Taken in
    let w = c.put-in-Taken in
    rw c.in-Taken.is (taken_put l h.new.out w.new.out c.in-Taken.sender c.from.result c.in-Taken.message h.result w.result c.from.ensures (omega (arith, ap (λ x. length (record_bytes x)) c.in-Taken.is)) h.ensures w.ensures)
