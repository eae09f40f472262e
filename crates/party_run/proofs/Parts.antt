-- A party whose parts are lent one by one: its levels as the code reads and stores them, and the party after a rule.
use mathlib.Core.Path.{◌≡◌, refl, sym, ap, ◌∙◌, subst}
use mathlib.Core.Bool.{Bool, true, false}
use mathlib.Core.List.{List}
use Prim.Native.Nat.{ℕ, ◌+◌, ◌≤◌, ◌<◌}
use native.Mathlib.Omega.{arith}
use lib.Dec.{T}
use lib.ListN.{length, get_or, set, length-take, length-drop}
use Rattle.std.specs.Prelude.{Option, Some, None}
use Rattle.base.specs.Limits.{level_count}
use Rattle.plan.specs.Plan.{Plan}
use Rattle.plan.specs.Tie.{as_plan}
use Rattle.component.specs.Inner.{Lent}
use Rattle.level.specs.declared.Context.{Context}
use Rattle.level.specs.declared.Level as CodeLevel
use Rattle.level.specs.Level.{Level, slot_count, value_count}
use Rattle.level.specs.Inner.{no_code_level, InLimits}
use Rattle.level.specs.Rules.{Applied, Effect, lowest_rule, applies}
use Rattle.level.specs.Tie.{as_level}
use Rattle.party.specs.declared.Chart.{Chart}
use Rattle.party.specs.declared.Party as Code
use Rattle.party.specs.Party.{Party, level_at, with_level}
use Rattle.party.specs.Run.{rule_at, open_at, step_at}
use Rattle.party.specs.Valid.{party_valid}
use Rattle.party.specs.Inner.{Charts, no_survey, set_count}
use Rattle.party.specs.Tie.{vote_of, as_party, sets_at}
use Rattle.party.proofs.Ties.{length_tied, level_in, put_in}
use Rattle.party_laws.proofs.Laws.{Formed}
use Rattle.party_bounds.proofs.Laws.{Sized}
use Rattle.party_bounds.proofs.Sized.{open_applies}
use Rattle.party_step.specs.declared.Way.{Way}
use Rattle.party_step.specs.Inner.{seen, way_of, Descends, Steps, Stepped}
use Rattle.party_step.proofs.Openings.{rule_limits, rule_found}
use Rattle.party_step.proofs.Steps.{step_next, step_descends, step_led}

-- a level's sets are all there
pub sets_there : (s : List ℕ) (i : ℕ) → set_count ≤ length s → i < level_count → slot_count ≤ length (sets_at s i)
sets_there s i h l = simp (length-take, length-drop) (omega arith)

-- a party to which rules may be applied: question 19 says so, and the type of its levels
pub sized_in : (q : Code.Party) → T (party_valid (as_party q)) → length q.levels ≡ level_count
    → ((i : ℕ) → i < level_count → length (get_or q.levels i no_code_level).echoed ≡ value_count) → Sized (as_party q)
sized_in q v full echoes = record {
  formed = record { valid = v; full = length_tied slot_count q.levels q.sets ∙ full };
  echoes = λ i l. ap (λ (m : Level). length m.echoed) (level_in (vote_of q) (as_plan q.plan) q.levels q.sets i (omega (arith, full))) ∙ echoes i l;
}

-- a party with other levels
abbrev pub with_levels : Code.Party → List CodeLevel.Level → Code.Party
with_levels q ls = record { n = q.n; t = q.t; own = q.own; agreement = q.agreement; plan = q.plan; levels = ls; sets = q.sets }

-- and with other sets of senders
abbrev pub with_sets : Code.Party → List ℕ → Code.Party
with_sets q s = record { n = q.n; t = q.t; own = q.own; agreement = q.agreement; plan = q.plan; levels = q.levels; sets = s }

module _ (q : Code.Party) (w : Formed (as_party q)) where
  abbrev p : Party
  p = as_party q

  full : length q.levels ≡ level_count
  full = sym (length_tied slot_count q.levels q.sets) ∙ w.full

  at : (i : ℕ) → i < level_count → level_at (as_party q) i ≡ as_level (sets_at q.sets i) (get_or q.levels i no_code_level)
  at i l = level_in (vote_of q) (as_plan q.plan) q.levels q.sets i (omega (arith, full))

  module _ (c : Chart) (h : Charts (as_party q) c) (i : ℕ) where
    -- ---- the rule at level i, with the next level as the code reads it
    module _ (l : i < c.sending) (x : Context)
        (e : x ≡ seen q.n q.t (get_or c.surveys i no_survey) (get_or q.levels (i + 1) no_code_level).entered (get_or q.levels (i + 1) no_code_level).output) where
      seen_next : x ≡ seen q.n q.t (get_or c.surveys i no_survey) (level_at p (i + 1)).entered (level_at p (i + 1)).output
      seen_next =
          e ∙ ap (λ (m : Level). seen q.n q.t (get_or c.surveys i no_survey) m.entered m.output) (sym (at (i + 1) (omega (arith, h.last))))

      pub limits_in : InLimits x (as_level (sets_at q.sets i) (get_or q.levels i no_code_level))
      limits_in = subst (InLimits x) (at i (omega (arith, h.last))) (rule_limits p c w h i l x seen_next)

      pub rule_in : (a : Applied) → a ≡ lowest_rule x (as_level (sets_at q.sets i) (get_or q.levels i no_code_level)) → a ≡ rule_at (as_party q) i
      rule_in a f = f ∙ ap (lowest_rule x) (sym (at i (omega (arith, h.last)))) ∙ rule_found p c w h i l x seen_next

    -- ---- and the party after it
    module _ (k : CodeLevel.Level) (f : Effect) (on : T (open_at (as_party q) i))
        (rule : record { level = as_level (sets_at q.sets i) k; effect = f } ≡ rule_at (as_party q) i) where
      abbrev a : Applied
      a = record { level = as_level (sets_at q.sets i) k; effect = f }

      next : i + 1 < level_count
      next = step_next p c i a w h on rule

      pub steps_in_lem : Lent (as_plan q.plan)
          → Steps (as_plan q.plan) c.deepest (get_or c.surveys i no_survey).centre (get_or q.levels i no_code_level).position (way_of f)
      steps_in_lem r = go (way_of f) refl
        where
          go : (o : Option Way) → way_of f ≡ o → Steps (as_plan q.plan) c.deepest (get_or c.surveys i no_survey).centre (get_or q.levels i no_code_level).position o
          go None e = tt
          go (Some v) e =
              subst (λ (m : Level). Descends (as_plan q.plan) c.deepest (get_or c.surveys i no_survey).centre m.position v)
              (at i (omega (arith, next))) (step_descends p c i a w h on rule v e r)

      applied : T (applies f)
      applied = subst (λ (z : Applied). T (applies z.effect)) (sym rule) (open_applies p i on)

      -- the records of level i and of the next one are stored
      module _ (m : CodeLevel.Level) (after : Chart)
          (g : Stepped (as_plan q.plan) c (get_or q.levels i no_code_level).position (get_or q.levels (i + 1) no_code_level) (i + 1) (way_of f) m after) where
        stored : as_party (with_levels q (set (set q.levels i k) (i + 1) m))
            ≡ with_level (with_level (as_party q) i (as_level (sets_at q.sets i) k)) (i + 1) (as_level (sets_at q.sets (i + 1)) m)
        stored =
            put_in (vote_of q) (as_plan q.plan) (set q.levels i k) q.sets (i + 1) m
            ∙ ap (λ (z : Party). with_level z (i + 1) (as_level (sets_at q.sets (i + 1)) m)) (put_in (vote_of q) (as_plan q.plan) q.levels q.sets i k)

        pub stepped_in : length c.surveys ≡ level_count → (as_party (with_levels q (set (set q.levels i k) (i + 1) m)) ≡ step_at (as_party q) i) × Charts (step_at (as_party q) i) after
        stepped_in full_chart =
            let y = step_led p c i a w h on rule (sets_at q.sets (i + 1)) (get_or q.levels (i + 1) no_code_level) (at (i + 1) next) m after
            (subst (λ (l : Level). Stepped (as_plan q.plan) c l.position (get_or q.levels (i + 1) no_code_level) (i + 1) (way_of f) m after) (sym (at i (omega (arith, next)))) g)
            applied full_chart in
            (stored ∙ y.0, y.1)
