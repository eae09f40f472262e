-- `board_door::take` meets its contract: what its questions find is carried out.
use mathlib.Core.Path.{◌≡◌, sym, ap, subst}
use mathlib.Core.Bool.{true}
use lib.ListN.{length}
use Rattle.std.specs.Prelude.{Option, Result}
use Rattle.base.specs.Limits.{max_rows, max_boards, level_count}
use Rattle.base.specs.declared.Refusal.{Refusal}
use Rattle.journal.specs.declared.Record.{Record}
use Rattle.plan.specs.Tie.{as_plan}
use Rattle.party.specs.declared.Vote.{Vote}
use Prim.Native.Nat.{◌≤◌}
use Rattle.party.specs.Valid.{party_valid}
use Rattle.party.specs.Tie.{vote_of, as_party}
use Rattle.board_calls.specs.Calls.{take_questions}
use Rattle.board_laws.proofs.Parts.{length_mapped}
use Rattle.board_laws.proofs.Questions.{shut_19, take_door}
use Rattle.board_questions.specs.Inner.{Asks, AsksTake}
use Rattle.board_door.specs.Inner.{carried_by}
use Rattle.board_door.proofs.Doors.{shut_call, boards_most, readied, call_carried, call_gives_lem}
use Rattle.party_step.proofs.Typed.{typed_party}
use borrow.Author.Rules.{rules}
use Rattle.board_door.proofs.take.Goals.{Start, in-None, in-Some}
use Rattle.board_door.proofs.take.Goals as goal

-- the lengths of a record's arrays
rows : (s : Start) → (length s.args.p.plan.parent ≡ max_rows) × (length s.args.p.plan.child ≡ max_rows)
rows s = (search (rules, length_mapped), search (rules, length_mapped))

levels : (s : Start) → length s.args.p.levels ≡ level_count
levels s = search (rules, length_mapped)

pub ask_take-asked-requires : goal.ask_take-asked-requires
ask_take-asked-requires c = λ _. subst (λ (v : Vote). v.n ≤ max_boards) (sym c.vote.ensures) (boards_most c.args.p c.in-Some.ensures.passes)

-- its questions were asked
asked : (s : Start) → {v : Vote} {a : Result (Option Record) Refusal} → v ≡ vote_of s.args.p
    → AsksTake (record { valid = true; room = length s.args.journal.now; used = s.args.used; out = length s.args.out.now }) v s.args.p.sets s.args.sender s.args.bytes.now a
    → true ≡ party_valid (as_party s.args.p)
    → Asks (as_party s.args.p) (length s.args.journal.now) s.args.used (length s.args.out.now)
    (take_questions (as_party s.args.p) s.args.sender s.args.bytes.now (length s.args.journal.now) s.args.used (length s.args.out.now)) a
asked s {a = a} e h v =
    let b = s.args in
    let k = subst (λ (v : Vote). AsksTake (record { valid = true; room = length b.journal.now; used = b.used; out = length b.out.now }) v b.p.sets b.sender b.bytes.now a) e h in
    k.asks (as_plan b.p.plan) b.p.levels (levels s) v

pub carry_out-carried-requires : goal.carry_out-carried-requires
carry_out-carried-requires c =
    let s = (goal.at.carry_out-carried-requires c).Start in (
      record {
        fits = (asked s c.vote.ensures c.ask_take-asked.ensures c.in-Some.ensures.passes).fits;
        ready = readied c.args.p c.in-Some.ensures.passes c.in-Some.ensures.charted (rows s).0 (rows s).1;
      },
      typed_party c.args.p _ s.well_formed.0,
    )

pub returns : goal.returns
returns c =
    let s = (goal.at.returns c).Start in
    elim c.match-inspect.branch [
      | in-None w ↦
          call_carried c.with.ensures w.p-is w.carried-is w.journal-is w.out-is
          (shut_call
          (take_door (as_party c.args.p) c.args.sender c.args.bytes.now (length c.args.journal.now) c.args.used (length c.args.out.now) 19
          (λ go. shut_19 (as_party c.args.p) (length c.args.journal.now) c.args.used (length c.args.out.now) go (sym w.in-None.ensures.passes))) w.into.ensures
          (ap (carried_by (as_party c.args.p)) w.nothing-carried.ensures))
      | in-Some w ↦
          call_carried c.with.ensures w.p-is w.carried-is w.journal-is w.out-is
          (call_gives_lem (asked s w.vote.ensures w.ask_take-asked.ensures w.in-Some.ensures.passes) w.carry_out-carried.ensures)
    ]
