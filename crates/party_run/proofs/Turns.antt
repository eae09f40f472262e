-- The loop that applies rules, turn by turn: at level i, below which no rule applies, either the lowest rule is applied or the next level looked at.
use mathlib.Core.Path.{◌≡◌, refl, sym, ap, ◌∙◌, subst}
use mathlib.Core.Bool.{Bool, true, false}
use mathlib.Core.List.{List}
use Prim.Native.Nat.{ℕ, ◌+◌, ◌-◌, ◌≤◌, ◌<◌}
use lib.Dec.{T}
use lib.ListN.{length, get_or, set}
use Rattle.base.specs.Put.{put_at}
use Rattle.base.specs.Limits.{level_count, max_rules}
use Rattle.plan.specs.Tie.{as_plan}
use Rattle.component.specs.Inner.{Lent}
use Rattle.message.specs.declared.Message.{Message}
use Rattle.level.specs.declared.Context.{Context}
use Rattle.level.specs.declared.Level as CodeLevel
use Rattle.level.specs.declared.Applied as CodeApplied
use Rattle.level.specs.Inner.{no_code_level, InLimits}
use Rattle.level.specs.Rules.{Applied, lowest_rule, applies}
use Rattle.level.specs.Tie.{as_level, as_applied, as_effect}
use Rattle.party.specs.declared.Chart.{Chart}
use Rattle.party.specs.declared.Party as Code
use Rattle.party.specs.Party.{Party}
use Rattle.party.specs.Run.{rule_at, open_at, made_by, step_at, run, bytes_of}
use Rattle.party.specs.Inner.{Charts, no_survey}
use Rattle.party.specs.Tie.{as_party, sets_at}
use Rattle.party_laws.proofs.Laws.{Formed}
use Rattle.party_bounds.proofs.Laws.{Sized}
use Rattle.party_step.specs.Inner.{seen, way_of, Steps, Stepped}
use Rattle.party_step.proofs.Charts.{stepped_full}
use Rattle.party_step.proofs.Openings.{Closed, closed_start, closed_end, open_here, closed_next, closed_back}
use Rattle.party_run.specs.Inner.{Room, Gives}
use Rattle.std.specs.Prelude.{Some, None}
use Rattle.level_lowest.proofs.Laws.{given}
use Rattle.party_run.proofs.Going.{Going, going_start, going_end, going_more, going_fits, going_on}
use Rattle.party_run.proofs.Parts.{with_levels, limits_in, rule_in, steps_in_lem, stepped_in}

-- so many rules led from p to q; none applies below level i
pub record Between (p : Party) (from : ℕ) (before : List ℕ) (q : Code.Party) (d : Chart) (out : List ℕ) (sent rules i : ℕ) : Type 0 where
  pub going : Going p from before (as_party q) d out sent rules
  pub closed : Closed (as_party q) i
  pub rows : Lent (as_plan q.plan)
  pub surveys : length d.surveys ≡ level_count

pub turn_start : (from : ℕ) (before : List ℕ) (q : Code.Party) (d : Chart) → Sized (as_party q) → Charts (as_party q) d → Lent (as_plan q.plan)
    → length d.surveys ≡ level_count → Between (as_party q) from before q d before from 0 0
turn_start from before q d z h r full =
    record { going = going_start (as_party q) from before d z h; closed = closed_start (as_party q); rows = r; surveys = full }

module _ (p : Party) (from : ℕ) (before : List ℕ) (q : Code.Party) (d : Chart) (out : List ℕ) (sent rules i : ℕ)
    (g : Between p from before q d out sent rules i) where
  abbrev now : Party
  now = as_party q

  formed : Formed (as_party q)
  formed = g.going.sized.formed

  charts : Charts (as_party q) d
  charts = g.going.charts

  -- no level is left
  pub turn_end : d.sending ≤ i → Gives (run p) from before (record { party = as_party q; chart = d; rules = rules; sent = sent }) out
  turn_end l = going_end p from before now d out sent rules g.going (closed_end now d formed charts i g.closed l)

  -- what the rules at level i see, and the lowest of them
  module _ (l : i < d.sending) (x : Context)
      (e : x ≡ seen q.n q.t (get_or d.surveys i no_survey) (get_or q.levels (i + 1) no_code_level).entered (get_or q.levels (i + 1) no_code_level).output) where
    pub turn_limits : InLimits x (as_level (sets_at q.sets i) (get_or q.levels i no_code_level))
    turn_limits = limits_in q formed d charts i l x e

    -- none applies
    pub turn_next : as_applied (sets_at q.sets i) (get_or q.levels i no_code_level) None ≡ lowest_rule x (as_level (sets_at q.sets i) (get_or q.levels i no_code_level))
        → Between p from before q d out sent rules (i + 1)
    turn_next f =
        let a : Applied = as_applied (sets_at q.sets i) (get_or q.levels i no_code_level) None in
        record {
          going = g.going;
          closed = closed_next now d formed charts i l a (rule_in q formed d charts i l x e a f) false refl g.closed refl;
          rows = g.rows;
          surveys = g.surveys;
        }

    -- one applies
    module _ (a : CodeApplied.Applied)
        (f : as_applied (sets_at q.sets i) (get_or q.levels i no_code_level) (Some a) ≡ lowest_rule x (as_level (sets_at q.sets i) (get_or q.levels i no_code_level))) where
      abbrev b : Applied
      b = as_applied (sets_at q.sets i) (get_or q.levels i no_code_level) (Some a)

      rule : as_applied (sets_at q.sets i) (get_or q.levels i no_code_level) (Some a) ≡ rule_at (as_party q) i
      rule = rule_in q formed d charts i l x e b f

      on : T (open_at (as_party q) i)
      on = open_here now d formed charts i l b rule true (sym (given a.effect)) refl

      made : made_by q.agreement i (as_effect a.effect) ≡ made_by q.agreement i (rule_at (as_party q) i).effect
      made = ap (λ (z : Applied). made_by q.agreement i z.effect) rule

      pub turn_more : rules < max_rules
      turn_more = going_more p from before now d out sent rules g.going i g.closed on

      pub turn_fits : Room (run p) from (length before) → sent + length (bytes_of (made_by q.agreement i (as_effect a.effect))) ≤ length out
      turn_fits h =
          subst (λ (ms : List Message). sent + length (bytes_of ms) ≤ length out) (sym made)
          (going_fits p from before now d out sent rules g.going i g.closed on h)

      pub turn_steps : Steps (as_plan q.plan) d.deepest (get_or d.surveys i no_survey).centre (get_or q.levels i no_code_level).position (way_of (as_effect a.effect))
      turn_steps = steps_in_lem q formed d charts i a.level (as_effect a.effect) on rule g.rows

      pub turn_again : Room (run p) from (length before) → (m : CodeLevel.Level) (d' : Chart)
          → Stepped (as_plan q.plan) d (get_or q.levels i no_code_level).position (get_or q.levels (i + 1) no_code_level) (i + 1) (way_of (as_effect a.effect)) m d'
          → (out' : List ℕ) (sent' : ℕ) → sent' ≡ sent + length (bytes_of (made_by q.agreement i (as_effect a.effect)))
          → out' ≡ put_at out sent (bytes_of (made_by q.agreement i (as_effect a.effect)))
          → (j : ℕ) → j ≡ i - 1 → Between p from before (with_levels q (set (set q.levels i a.level) (i + 1) m)) d' out' sent' (rules + 1) j
      turn_again h m d' k out' sent' es eo j ej =
          let s = stepped_in q formed d charts i a.level (as_effect a.effect) on rule m d' k g.surveys in
          let q' = as_party (with_levels q (set (set q.levels i a.level) (i + 1) m)) in
          record {
            going = going_on p from before now d out sent rules g.going i g.closed on h q' d' out' sent' s.0
                (subst (λ (z : Party). Charts z d') (sym s.0) s.1)
                (made_by q.agreement i (as_effect a.effect)) made es eo;
            closed = subst (Closed q') (sym ej) (subst (λ (z : Party). Closed z (i - 1)) (sym s.0) (closed_back now i on g.closed));
            rows = g.rows;
            surveys = stepped_full (as_plan q.plan) d (get_or q.levels i no_code_level).position (get_or q.levels (i + 1) no_code_level) (i + 1) (way_of (as_effect a.effect)) m d' k g.surveys;
          }
