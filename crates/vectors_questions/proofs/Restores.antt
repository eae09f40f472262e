-- Every row of the table of restores holds: of each, the bytes are computed once.
use mathlib.Core.Path.{◌≡◌, refl, ap, ap₂, ◌∙◌}
use mathlib.Core.List.{List, [], ◌∷◌, ◌++◌}
use Prim.Native.Nat.{ℕ}
use native.Mathlib.Omega.{arith}
use lib.ListN.{length, drop}
use lib.Count.{ones, ones_in}
use Rattle.base.specs.Pick.{smallest}
use Rattle.base.specs.Found.{Found, found, refused}
use Rattle.base.specs.Sets.{count}
use Rattle.base.specs.Every.{Every}
use Rattle.base.specs.Verdict.{Verdict}
use Rattle.base.proofs.Puts.{put_zero}
use Rattle.varint.specs.Varint.{pieces}
use Rattle.varint.specs.Reading.{pieces_at}
use Rattle.format.specs.Reading.{field_at}
use Rattle.tree.specs.Edges.{label, joined, adjacent, ends}
use Rattle.tree.specs.Component.{upto, without, part, heavy, light, centre, neighbours, degree, rank, neighbour, side, gateway, port}
use Rattle.tree.specs.Path.{path_edges}
use Rattle.plan.specs.Positions.{edges_of}
use Rattle.plan.specs.Reading.{plan_from, settled_plan}
use Rattle.message.specs.Message.{message_bytes}
use Rattle.message.specs.Reading.{message_at}
use Rattle.senders.specs.Senders.{is_in, with_sender, union_over}
use Rattle.level.specs.Level.{slot, senders, held, with_heard}
use Rattle.level.specs.Counts.{other_echoes, may_propose, proposed, digit_echoes, split_at, split, echoed_by, second_proposed, echoed_values, sided}
use Rattle.level.specs.Rules.{rule1, rule2, rule3, rule4, rule5, rule6, rule7, rule8, rule9, rule10, rule11, rule12, rule13, rule14, lowest_rule}
use Rattle.journal.specs.Reading.{record_at}
use Rattle.party.specs.Party.{level_at, with_level, component_of, sending, context_of, entering, entered, held_by, hearing}
use Rattle.party.specs.Run.{rule_at, open_at, open_level, after_rule, run_up_to, run, starting, taking, bytes_of}
use Rattle.party_life.specs.Life.{replayed}
use Rattle.board_calls.specs.Restore.{Replay, replay_from, restore_questions}
use Rattle.vectors_questions.specs.Restores.{in_order, restoring, Restore, hands, withholds, Writes, WritesNothing, Restores, restores}
use Rattle.vectors_questions.proofs.Table.{◌and◌}

-- ---- a row in short: what is computed of it

data Short : Type 0 where
  handed : (used : ℕ) (bytes : List ℕ) → Short
  withheld : (question place : ℕ) → Short

abbrev shortly : Found Replay → Short
shortly (found r) = handed r.used (bytes_of r.ran.made)
shortly (refused question place) = withheld question place

abbrev Shortly : Restore → Type 0
Shortly (hands n journal used messages) = shortly (restoring n journal 2640) ≡ handed used (in_order messages)
Shortly (withholds n journal out question place) = shortly (restoring n journal out) ≡ withheld question place

short : Every Shortly restores
unfolding
    restores in_order ones ones_in smallest count pieces pieces_at field_at label joined adjacent ends upto without part heavy light centre neighbours degree rank neighbour side gateway port path_edges edges_of plan_from settled_plan message_bytes message_at is_in with_sender union_over slot senders held with_heard other_echoes may_propose proposed digit_echoes split_at split echoed_by second_proposed echoed_values sided rule1 rule2 rule3 rule4 rule5 rule6 rule7 rule8 rule9 rule10 rule11 rule12 rule13 rule14 lowest_rule record_at level_at with_level component_of sending context_of entering entered held_by hearing rule_at open_at open_level after_rule run_up_to run starting taking bytes_of replayed replay_from restore_questions
short =
    refl and refl
    and refl and refl and refl
    and refl
    and refl and refl
    and refl
    and refl
    and refl and refl
    and refl and refl and refl
    and tt

-- ---- what the call gives follows

module _ (used : ℕ) (bytes : List ℕ) where
  handing : (q : Found Replay) → shortly q ≡ handed used bytes → Writes q used bytes
  handing (found r) e =
      let u : r.used ≡ used = cc in
      let b : bytes_of r.ran.made ≡ bytes = cc in
      (refl, u, ap length b, λ before. put_zero before (bytes_of r.ran.made) ∙ ap (λ (bs : List ℕ). bs ++ drop (length bs) before) b)
  handing (refused question place) e = let z : ◌≡◌ {A = ℕ} 0 1 = cc in absurd (omega arith)

module _ (question place : ℕ) where
  withholding : (q : Found Replay) → shortly q ≡ withheld question place → WritesNothing q question place
  withholding (found r) e = let z : ◌≡◌ {A = ℕ} 0 1 = cc in absurd (omega arith)
  withholding (refused k at) e =
      let a : k ≡ question = cc in
      let b : at ≡ place = cc in
      (ap₂ Verdict.Refused a b, refl, λ before. refl)

given : (l : List Restore) → Every Shortly l → Every Restores l
given [] e = tt
given (hands n journal used messages ∷ l) (e, es) = (handing used (in_order messages) (restoring n journal 2640) e, given l es)
given (withholds n journal out question place ∷ l) (e, es) = (withholding question place (restoring n journal out) e, given l es)

pub restored : Every Restores restores
restored = given restores short
