-- Any list of calls keeps desks twins.
use mathlib.Core.Path.{ap, ap₂, ◌∙◌, subst, subst₂}
use mathlib.Core.List.{List, [], ◌∷◌}
use Prim.Native.Nat.{ℕ}
use lib.ListN.{length}
use Rattle.plan.specs.Positions.{reading_of}
use Rattle.board_calls.specs.Calls.{start_questions, take_questions, called_of, journal_after}
use Rattle.range_as_path.specs.Twin.{TwinParties, TwinFound, TwinEntry, TwinCall}
use Rattle.range_as_path.specs.Script.{Ask, start_at_lem, take_from_lem, Desk, lent, asked, served, after, TwinDesks, SameNext}
use Rattle.range_as_path.proofs.Positions.{twin_input}
use Rattle.range_as_path.proofs.Calls.{twin_start, twin_take, twin_call, twin_answered}

module _ (d d' : Desk) (w : TwinDesks d d') where
  twin_asked : (a : Ask) → TwinFound TwinEntry (asked d a) (asked d' a)
  twin_asked (start_at_lem x out) =
      subst₂ (λ (j : List ℕ) (used : ℕ). TwinFound TwinEntry (asked d (start_at_lem x out)) (start_questions d'.party (reading_of d'.party.plan x) (length j) used (length out)))
      w.journal w.used
      (twin_start d.party d'.party w.party (length d.journal) d.used (reading_of d.party.plan x) (reading_of d'.party.plan x)
      (twin_input d.party.plan d'.party.plan w.party.plans x) (length out))
  twin_asked (take_from_lem sender bytes out) =
      subst₂ (λ (j : List ℕ) (used : ℕ). TwinFound TwinEntry (asked d (take_from_lem sender bytes out)) (take_questions d'.party sender bytes (length j) used (length out)))
      w.journal w.used
      (twin_take d.party d'.party w.party (length d.journal) d.used sender bytes (length out))

  twin_next : (a : Ask) → TwinCall d.party d'.party d.journal d.used (lent a) (asked d a) (asked d' a)
  twin_next a = twin_call d.party d'.party w.party d.journal d.used (lent a) (asked d a) (asked d' a) (twin_asked a)

  twin_served : (a : Ask) → TwinDesks (served d a) (served d' a)
  twin_served a =
      let c = twin_next a in
      record {
        party = subst (λ (used : ℕ). TwinParties (called_of d.party d.used (asked d a)).party (called_of d'.party used (asked d' a)).party) w.used c.called.party;
        journal = c.journal ∙ ap₂ (λ (j : List ℕ) (used : ℕ). journal_after j used (asked d' a)) w.journal w.used;
        used = c.called.used ∙ ap (λ (used : ℕ). (called_of d'.party used (asked d' a)).used) w.used;
      }

pub twin_after : (more : List Ask) (d d' : Desk) → TwinDesks d d' → TwinDesks (after d more) (after d' more)
unfolding after
twin_after [] d d' w = w
twin_after (a ∷ more) d d' w = twin_after more (served d a) (served d' a) (twin_served d d' w a)

pub twin_script : (more : List Ask) (d d' : Desk) → TwinDesks d d' → SameNext (after d more) (after d' more)
twin_script more d d' w =
    let h = twin_after more d d' w in
    record {
      desks = h;
      next = twin_next (after d more) (after d' more) h;
      answer = twin_answered (after d more).party (after d' more).party h.party;
    }
