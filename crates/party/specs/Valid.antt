-- Document 01, question 19, part by part.
use Rattle.std.specs.Prelude.{Bool, true, not, ◌&&◌, ◌||◌, List, [], ◌∷◌, ℕ, zero, suc, leb, ltb, eqb}
use Rattle.base.specs.Pick.{pick}
use Rattle.base.specs.Limits.{level_count}
use Rattle.settings.specs.Settings.{settings_fit}
use Rattle.plan.specs.Valid.{plan_valid}
use Rattle.component.specs.Component.{degree_of}
use Rattle.message.specs.Message.{none_value}
use Rattle.senders.specs.Senders.{only_below}
use Rattle.level.specs.Level.{Level, not_yet, no_output}
use Rattle.party.specs.Party.{Party, level_at, component_of, sending}

-- the first k levels pass the test
unfoldable pub every_level : ℕ → (ℕ → Bool) → Bool
every_level zero f = true
every_level (suc i) f = every_level i f && f i

-- "whose settings pass 1 to 3"
abbrev pub settings_pass : Party → Bool
settings_pass p = settings_fit p.n p.t p.own

-- "whose sender sets name only boards below n"
unfoldable pub sets_pass : ℕ → List ℕ → Bool
sets_pass n [] = true
sets_pass n (m ∷ ms) = only_below m n && sets_pass n ms

-- "whose outputs are on the plan"
abbrev pub output_passes : Party → Level → Bool
output_passes p l = eqb l.output no_output || ltb l.output p.plan.count

-- "every result value at most d"; a level without d, because it is not entered or has one or two positions, has no result
abbrev pub value_passes : ℕ → ℕ → Bool
value_passes d v = leb v d || (eqb v none_value || eqb v not_yet)

abbrev pub results_pass : Party → ℕ → Bool
results_pass p i =
    pick (sending p i)
    (value_passes (degree_of p.plan (component_of p i)) (level_at p i).first && value_passes (degree_of p.plan (component_of p i)) (level_at p i).result)
    (eqb (level_at p i).first not_yet && eqb (level_at p i).result not_yet)

-- "whose entered levels run from 0 without a gap, level 0 over the whole plan and each next over a side of the one before"
abbrev pub entry_passes : Party → ℕ → Bool
entry_passes p zero = eqb (level_at p 0).side 0
entry_passes p (suc i) =
    sending p i && (leb 1 (level_at p (suc i)).side && leb (level_at p (suc i)).side (degree_of p.plan (component_of p i)))

-- "with every position in its level's component"
abbrev pub place_passes : Party → ℕ → Bool
place_passes p i = not (level_at p i).entered || (entry_passes p i && component_of p i (level_at p i).position)

-- question 19 of level i
unfoldable pub level_passes : Party → ℕ → Bool
level_passes p i = (sets_pass p.n (level_at p i).sets && output_passes p (level_at p i)) && (place_passes p i && results_pass p i)

-- "Is the record one whose settings pass 1 to 3, whose plan part a plan reading gives, .." (19)
unfoldable pub party_valid : Party → Bool
party_valid p = (settings_pass p && plan_valid p.plan) && every_level level_count (level_passes p)
