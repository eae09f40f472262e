-- Question 19 is answered alike of a party on another plan that is alike.
use mathlib.Core.Path.{◌≡◌, refl, sym, ap, ap₂, fun_ext}
use mathlib.Core.Bool.{Bool, not, ◌&&◌, ◌||◌}
use Prim.Native.Nat.{ℕ, zero, suc}
use lib.Dec.{leb, ltb, eqb}
use Rattle.base.specs.Pick.{pick}
use Rattle.base.specs.Sets.{Set}
use Rattle.base.specs.Limits.{level_count}
use Rattle.plan.specs.Plan.{Plan}
use Rattle.plan.specs.Valid.{plan_valid}
use Rattle.level.specs.Level.{Level, not_yet, no_output}
use Rattle.party.specs.Party.{Party, level_at}
use Rattle.party.specs.Valid.{every_level, settings_pass, sets_pass, output_passes, value_passes, results_pass, entry_passes, place_passes, level_passes, party_valid}
use Rattle.range_as_path.proofs.Geometry.{Alike}
use Rattle.range_as_path.proofs.Parties.{retold, retold_component, retold_degree, retold_sending}

module _ (q : Plan) (p : Party) (a : Alike p.plan q) where
  retold_output : (l : Level) → output_passes (retold q p) l ≡ output_passes p l
  retold_output l = ap (λ (n : ℕ). eqb l.output no_output || ltb l.output n) (sym a.count)

  retold_entry : (i : ℕ) → entry_passes (retold q p) i ≡ entry_passes p i
  unfolding level_at
  retold_entry zero = refl
  retold_entry (suc i) =
      ap₂ (λ (s : Bool) (d : ℕ). s && (leb 1 (level_at p (suc i)).side && leb (level_at p (suc i)).side d)) (retold_sending q p a i) (retold_degree q p a i)

  retold_place : (i : ℕ) → place_passes (retold q p) i ≡ place_passes p i
  unfolding level_at
  retold_place i =
      ap₂ (λ (e : Bool) (S : Set). not (level_at p i).entered || (e && S (level_at p i).position)) (retold_entry i) (retold_component q p a i)

  retold_results : (i : ℕ) → results_pass (retold q p) i ≡ results_pass p i
  unfolding level_at
  retold_results i =
      ap₂ (λ (s : Bool) (d : ℕ). pick s (value_passes d (level_at p i).first && value_passes d (level_at p i).result) (eqb (level_at p i).first not_yet && eqb (level_at p i).result not_yet))
      (retold_sending q p a i) (retold_degree q p a i)

  retold_passes : (i : ℕ) → level_passes (retold q p) i ≡ level_passes p i
  unfolding level_passes level_at
  retold_passes i =
      ap₂ (λ (o r : Bool). (sets_pass p.n (level_at p i).sets && o) && r) (retold_output (level_at p i)) (ap₂ ◌&&◌ (retold_place i) (retold_results i))

  -- where both plans are valid, or neither is
  pub retold_valid : plan_valid q ≡ plan_valid p.plan → party_valid (retold q p) ≡ party_valid p
  unfolding party_valid
  retold_valid e = ap₂ (λ (v : Bool) (f : Set). (settings_pass p && v) && every_level level_count f) e (fun_ext retold_passes)
