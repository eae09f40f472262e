-- `board_questions::ask_take` meets its contract, question by question.
use mathlib.Core.Path.{◌≡◌, sym, ◌∙◌}
use mathlib.Core.Bool.{true}
use native.Mathlib.Omega.{arith}
use Rattle.std.specs.Prelude.{Ok}
use Rattle.message.specs.Message.{in_table}
use Rattle.message.specs.Reading.{exact_message}
use Rattle.message.proofs.RoundTrip.{exact_message_written}
use Rattle.board_questions.proofs.Asking.{take_shut, take_14, take_15, take_16, take_again, take_17, take_found, place_below}
use Rattle.board_questions.proofs.ask_take.Goals.{In-Ok}
use Rattle.board_questions.proofs.ask_take.Goals as goal

pub returns-in_err-ask : goal.returns-in_err-ask
returns-in_err-ask c = let a = c.args in take_shut a.door a.v a.sets.now a.sender a.bytes.now c.in_err-ask.field-0.0 c.in_err-ask.ensures c.from_residual.ensures.1

pub returns-then-v-sender : goal.returns-then-v-sender
returns-then-v-sender c = let a = c.args in take_14 a.door a.v a.sets.now a.sender a.bytes.now c.in_ok-ask.ensures c.if-v-sender.true c.into.ensures

pub returns-in-Err : goal.returns-in-Err
returns-in-Err c =
    let a = c.args in
    take_15 a.door a.v a.sets.now a.sender a.bytes.now c.in_ok-ask.ensures c.if-v-sender.false c.in-Err.failure (sym c.read.ensures ∙ c.in-Err.is) c.refusal.ensures

-- the message that was read, and that it is in the document's table
module _ (c : In-Ok) where
  read : exact_message c.args.bytes.now ≡ Ok c.in-Ok.m
  read = sym c.read.ensures ∙ c.in-Ok.is

  table : in_table c.in-Ok.m ≡ true
  table = (exact_message_written c.args.bytes.now c.in-Ok.m (λ i. (c.type_inv.bytes i).fits) read).0

pub returns-then-m-v : goal.returns-then-m-v
returns-then-m-v c =
    let a = c.args in
    let m = (goal.at.returns-then-m-v c).In-Ok in
    take_16 a.door a.v a.sets.now a.sender a.bytes.now c.in_ok-ask.ensures c.if-v-sender.false _ (read m) c.if-m-v.true c.into-then-m-v.ensures

pub place-requires : goal.place-requires
place-requires c = table (goal.at.place-requires c).In-Ok

pub offset_bounds-sets-place : goal.offset_bounds-sets-place
offset_bounds-sets-place c = record { fits = omega (arith, c.place.ensures, place_below c.in-Ok.m (table (goal.at.offset_bounds-sets-place c).In-Ok)) }

pub bounds-sets-place : goal.bounds-sets-place
bounds-sets-place c = omega (arith, c.place.ensures, place_below c.in-Ok.m (table (goal.at.bounds-sets-place c).In-Ok))

pub returns-then-contains : goal.returns-then-contains
returns-then-contains c =
    let a = c.args in
    let m = (goal.at.returns-then-contains c).In-Ok in
    take_again a.door a.v a.sets.now a.sender a.bytes.now c.in_ok-ask.ensures c.if-v-sender.false _ (read m) c.if-m-v.false (table m) c.place.ensures c.contains.ensures c.if-contains.true

pub returns-in_err-fit : goal.returns-in_err-fit
returns-in_err-fit c =
    let a = c.args in
    let m = (goal.at.returns-in_err-fit c).In-Ok in
    take_17 a.door a.v a.sets.now a.sender a.bytes.now c.in_ok-ask.ensures c.if-v-sender.false _ (read m) c.if-m-v.false (table m) c.place.ensures c.contains.ensures c.if-contains.false
    c.in_err-fit.field-0.0 c.in_err-fit.ensures c.from_residual-in_err-fit.ensures.1

pub returns : goal.returns
returns c =
    let a = c.args in
    let m = (goal.at.returns c).In-Ok in
    take_found a.door a.v a.sets.now a.sender a.bytes.now c.in_ok-ask.ensures c.if-v-sender.false _ (read m) c.if-m-v.false (table m) c.place.ensures c.contains.ensures c.if-contains.false
    c.in_ok-fit.ensures
