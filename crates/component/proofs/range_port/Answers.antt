use Rattle.component.proofs.RangeLaws.{port_one, port_two, port_none}
use Rattle.component.proofs.range_port.Goals as goal

pub returns-then-x-m : goal.returns-then-x-m
returns-then-x-m c =
    let s = c in
    port_one s.args.m s.args.x c.if-x-m.true

pub returns-then-m-x : goal.returns-then-m-x
returns-then-m-x c =
    let s = c in
    port_two s.args.m s.args.x c.if-x-m.false c.if-m-x.true

pub returns : goal.returns
returns c =
    let s = c in
    port_none s.args.m s.args.x c.if-x-m.false c.if-m-x.false
