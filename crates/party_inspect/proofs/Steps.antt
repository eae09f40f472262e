-- One level after the other, as the code reads them.
use mathlib.Core.Path.{◌≡◌, refl, sym, ap, ◌∙◌}
use mathlib.Core.Bool.{Bool, true, false}
use mathlib.Core.List.{List}
use Prim.Native.Nat.{ℕ, ◌+◌, ◌*◌, ◌<◌}
use native.Mathlib.Omega.{arith}
use lib.Dec.{T}
use lib.ListN.{length, get_or, set, length-set}
use Rattle.base.specs.Limits.{level_count}
use Rattle.base.proofs.Bools.{true→T}
use Rattle.plan.specs.Plan.{Plan}
use Rattle.plan.specs.Valid.{plan_valid}
use Rattle.plan.specs.Tie.{as_plan}
use Rattle.component.specs.Inner.{Lent}
use Rattle.level.specs.Level.{Level, slot_count, value_count}
use Rattle.level.specs.Inner.{no_code_level}
use Rattle.level.specs.Tie.{as_level}
use Rattle.level.specs.declared.Level as Code
use Rattle.party.specs.declared.Chart.{Chart}
use Rattle.party.specs.declared.Party as CodeParty
use Rattle.party.specs.Party.{Party, level_at}
use Rattle.party.specs.Valid.{sets_pass, level_passes, party_valid}
use Rattle.party.specs.Tie.{sets_at, vote_of, as_party}
use Rattle.party.proofs.Ties.{length_tied, level_in}
use Rattle.party_fields.specs.Inner.{output_fits, is_unresolved}
use Rattle.party_fields.proofs.Sets.{pass_slice}
use Rattle.party_inspect.specs.Inner.{part_of, entered_fits, Settles}
use Rattle.party_inspect.proofs.Charted.{Passed, output_fails, level_out, level_entered, charts_ready, charts_out, charts_entered, level_fails, sets_fail, passed_next}

module _ (q : CodeParty.Party) (full : length q.levels ≡ level_count) where
  abbrev p : Party
  p = as_party q

  abbrev plan : Plan
  plan = as_plan q.plan

  pub party_full : length p.levels ≡ level_count
  party_full = length_tied slot_count q.levels q.sets ∙ full

  same_at : (i : ℕ) → i < level_count → level_at p i ≡ as_level (sets_at q.sets i) (get_or q.levels i no_code_level)
  same_at i h = level_in (vote_of q) plan q.levels q.sets i (omega arith)

  -- some set does not pass
  pub sets_stop : length q.sets ≡ slot_count * level_count → sets_pass q.n q.sets ≡ false → false ≡ party_valid p
  sets_stop n f = sets_fail p q.sets (λ i h. ap (λ (m : Level). m.sets) (same_at i h)) n f

  -- level i is what the code reads there; the answer of the test of its output
  module _ (i : ℕ) (h : i < level_count) (b : Bool) (output : b ≡ output_fits q.plan.count (get_or q.levels i no_code_level).output) where
    abbrev l : Code.Level
    l = get_or q.levels i no_code_level

    pub output_stops : b ≡ false → false ≡ party_valid p
    output_stops f = level_fails p i h (output_fails p i (sets_at q.sets i) l (same_at i h) b output f)

    module _ (t : T (sets_pass q.n q.sets)) (f : b ≡ true) where
      sets_at_lem : T (sets_pass q.n (sets_at q.sets i))
      sets_at_lem = pass_slice q.n (slot_count * i) slot_count q.sets t

      -- a level that is not entered
      module _ (e : l.entered ≡ false) (u : Bool) (answer : u ≡ is_unresolved l) where
        decides_out : level_passes p i ≡ u
        decides_out = level_out p i (sets_at q.sets i) l (same_at i h) sets_at_lem b output f e ∙ sym answer

        pub out_stops : u ≡ false → false ≡ party_valid p
        out_stops g = level_fails p i h (decides_out ∙ g)

        pub out_next : u ≡ true → length l.echoed ≡ value_count → (d : Chart) → Passed p i d → Passed p (i + 1) d
        out_next g z d P =
            passed_next p i d P (true→T (decides_out ∙ g)) (ap (λ (m : Level). length m.echoed) (same_at i h) ∙ z) d
            (charts_out p i d P.chart (ap (λ (m : Level). m.entered) (same_at i h) ∙ e))

      -- a level that is
      module _ (e : l.entered ≡ true) (d : Chart) (P : Passed p i d) (r : Bool) (after : Chart)
          (answer : Settles plan (entered_fits plan d i l) (part_of plan d.deepest i l.side) l.position i d r after) where
        decides_entered : level_passes p i ≡ r
        decides_entered = level_entered p i (sets_at q.sets i) l (same_at i h) sets_at_lem b output f e d P.chart ∙ sym answer.passes

        pub entered_stops : r ≡ false → false ≡ party_valid p
        entered_stops g = level_fails p i h (decides_entered ∙ g)

        pub entered_next : r ≡ true → length l.echoed ≡ value_count → T (plan_valid plan) → Lent plan → Passed p (i + 1) after
        entered_next g z w y =
            passed_next p i d P (true→T (decides_entered ∙ g)) (ap (λ (m : Level). length m.echoed) (same_at i h) ∙ z) after
            (charts_entered p i d P.chart (sets_at q.sets i) l (same_at i h) e (charts_ready p i d P.chart w y h) r after g answer)
