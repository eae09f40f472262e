-- `board_door::start_at` meets its contract: what its questions find is carried out.
use mathlib.Core.Path.{◌≡◌, refl, sym, ap}
use mathlib.Core.Bool.{true}
use native.Mathlib.Omega.{arith}
use lib.ListN.{length, get_or}
use Rattle.std.specs.Prelude.{Option, Result}
use Rattle.base.specs.Limits.{max_rows, level_count}
use Rattle.base.specs.declared.Refusal.{Refusal}
use Rattle.level.specs.Inner.{no_code_level}
use Rattle.journal.specs.declared.Record.{Record}
use Rattle.party.specs.Valid.{party_valid}
use Rattle.party.specs.Tie.{as_party}
use Rattle.party.proofs.Ties.{entry}
use Rattle.board_laws.proofs.Parts.{length_mapped}
use Rattle.board_laws.proofs.Questions.{shut_19}
use Rattle.board_questions.specs.Inner.{Asks, AsksStart, start_from}
use Rattle.board_door.specs.Inner.{carried_by}
use Rattle.board_door.proofs.Doors.{shut_call, readied, call_carried, call_gives_lem}
use Rattle.party_step.proofs.Typed.{typed_party}
use borrow.Author.Rules.{rules}
use Rattle.board_door.proofs.start_at.Goals.{Start, in-None, in-Some}
use Rattle.board_door.proofs.start_at.Goals as goal

-- the lengths of a record's arrays
rows : (s : Start) → (length s.args.p.plan.parent ≡ max_rows) × (length s.args.p.plan.child ≡ max_rows)
rows s = (search (rules, length_mapped), search (rules, length_mapped))

levels : (s : Start) → length s.args.p.levels ≡ level_count
levels s = search (rules, length_mapped)

-- its questions were asked
asked : (s : Start) → {a : Result (Option Record) Refusal}
    → AsksStart (record { valid = true; room = length s.args.journal.now; used = s.args.used; out = length s.args.out.now }) s.args.p.agreement (get_or s.args.p.levels 0 no_code_level).entered s.args.x a
    → true ≡ party_valid (as_party s.args.p)
    → Asks (as_party s.args.p) (length s.args.journal.now) s.args.used (length s.args.out.now)
    (start_from (as_party s.args.p) s.args.x (length s.args.journal.now) s.args.used (length s.args.out.now)) a
asked s h v = h.asks (as_party s.args.p) refl (entry s.args.p (omega (arith, levels s)) refl) s.requires v

pub carry_out-carried-requires : goal.carry_out-carried-requires
carry_out-carried-requires c =
    let s = (goal.at.carry_out-carried-requires c).Start in (
      record {
        fits = (asked s c.ask_start-asked.ensures c.in-Some.ensures.passes).fits;
        ready = readied c.args.p c.in-Some.ensures.passes c.in-Some.ensures.charted (rows s).0 (rows s).1;
      },
      typed_party c.args.p _ s.well_formed.0,
    )

pub returns : goal.returns
returns c =
    let s = (goal.at.returns c).Start in
    elim c.match-inspect.branch [
      | in-None w ↦
          call_carried c.with.ensures w.p-is w.carried-is w.journal-is w.out-is
          (shut_call (shut_19 (as_party c.args.p) (length c.args.journal.now) c.args.used (length c.args.out.now) _ (sym w.in-None.ensures.passes)) w.into.ensures
          (ap (carried_by (as_party c.args.p)) w.nothing-carried.ensures))
      | in-Some w ↦
          call_carried c.with.ensures w.p-is w.carried-is w.journal-is w.out-is
          (call_gives_lem (asked s w.ask_start-asked.ensures w.in-Some.ensures.passes) w.carry_out-carried.ensures)
    ]
