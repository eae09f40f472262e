-- What the types of levels, a chart and a party's record tell: how long their arrays are.
use mathlib.Core.Path.{◌≡◌, ap, ◌∙◌}
use mathlib.Core.List.{List, [], ◌∷◌}
use Prim.Native.Nat.{ℕ, zero, suc, ◌<◌}
use native.Mathlib.Nat.{not-suc-le-zero}
use native.Mathlib.Omega.{arith}
use lib.ListN.{length, get_or}
use mir.Val.{Val}
use base.Fml.{Fml}
use denote.Shadow.{shadow}
use denote.Array.{Array, each}
use denote.Laws.{Is}
use Rattle.base.specs.Limits.{level_count}
use Rattle.plan.specs.Tie.{as_plan}
use Rattle.level.specs.Level.{Level, value_count, slot_count}
use Rattle.level.specs.declared.Level as CodeLevel
use Rattle.level.specs.Inner.{no_code_level}
use Rattle.level.specs.contracts.Level as LevelType
use Rattle.party.specs.declared.Chart.{Chart}
use Rattle.party.specs.declared.Party as Code
use Rattle.party.specs.Inner.{Whole}
use Rattle.party.specs.Typed.{Typed}
use Rattle.party.specs.Tie.{vote_of, as_party}
use Rattle.party.proofs.Ties.{length_tied, level_in}
use Rattle.party.specs.contracts.Party as PartyType
use Rattle.party.specs.contracts.Chart as ChartType

-- what is said of each element's value is said of the one at i
each_at : {A : Type 0} (f : A → List Val → Fml) (xs : List A) (us : List Val) (none : A) → shadow (each A f xs us) → (i : ℕ) → i < length xs
    → (u : Val) × shadow (f (get_or xs i none) (u ∷ []))
each_at f [] us z h i l = absurd (not-suc-le-zero l)
each_at f (x ∷ xs) [] z h i l = absurd h
each_at f (x ∷ xs) (u ∷ us) z h zero l = (u, h.0)
each_at f (x ∷ xs) (u ∷ us) z h (suc i) l = each_at f xs us z h.1 i (omega arith)

level_echoes : (l : CodeLevel.Level) (vs : List Val) → Is LevelType.the_row l vs → length l.echoed ≡ value_count
level_echoes l vs h = h.1.1.1.1.1.1.1.1.1.0.1.0.1

module _ (ls : List CodeLevel.Level) (vs : List Val) (h : Is (Array LevelType.the_row level_count) ls vs) where
  pub levels_full : length ls ≡ level_count
  levels_full = h.1.0.1

  pub levels_echoes : (i : ℕ) → i < level_count → length (get_or ls i no_code_level).echoed ≡ value_count
  levels_echoes i l =
      let e = each_at (LevelType.the_row).own_val ls h.0 no_code_level h.1.1 i (omega (arith, levels_full)) in
      level_echoes (get_or ls i no_code_level) (e.0 ∷ []) e.1

pub chart_surveys : (c : Chart) (vs : List Val) → Is ChartType.the_row c vs → length c.surveys ≡ level_count
chart_surveys c vs h = h.1.1.1.0.1.0.1

-- a party's record
module _ (p : Code.Party) (vs : List Val) (h : Is PartyType.the_row p vs) where
  full : length p.levels ≡ level_count
  full = h.1.1.1.1.1.1.1.0.1.0.1

  -- every value of the type is whole
  pub typed_whole : Whole p
  typed_whole = record { levels = full; sets = h.1.1.1.1.1.1.1.1.0.1.0.1 }

  -- and stands for a party that has what its type says
  pub typed_party : Typed (as_party p)
  typed_party = record {
    levels = length_tied slot_count p.levels p.sets ∙ full;
    echoes = λ i l.
        let a = h.1.1.1.1.1.1.1.0 in
        let e = each_at (LevelType.the_row).own_val p.levels a.0 no_code_level a.1.1 i (omega (arith, full)) in
        ap (λ (m : Level). length m.echoed) (level_in (vote_of p) (as_plan p.plan) p.levels p.sets i (omega (arith, full)))
        ∙ level_echoes (get_or p.levels i no_code_level) (e.0 ∷ []) e.1;
    agreement = omega (arith, h.1.1.1.1.1.0.1);
  }
