-- How the code's record stands for the definitions': this file and the code change where a party is kept in another form.
-- The code keeps what the board did, level by level, apart from what it heard: the sets of senders of all levels lie in one array.
use Rattle.std.specs.Prelude.{List, [], ◌∷◌, ℕ, ◌*◌, take, drop}
use Rattle.plan.specs.Plan.{Plan}
use Rattle.plan.specs.Tie.{as_plan}
use Rattle.level.specs.Level.{Level, slot_count}
use Rattle.level.specs.declared.Level as CodeLevel
use Rattle.level.specs.Tie.{as_level}
use Rattle.party.specs.Party.{Party}
use Rattle.party.specs.declared.Vote.{Vote}
use Rattle.party.specs.declared.Party as Code

-- each level with its w sets of senders, those of level 0 first
unfoldable pub tied : ℕ → List CodeLevel.Level → List ℕ → List Level
tied w [] sets = []
tied w (l ∷ ls) sets = as_level (take w sets) l ∷ tied w ls (drop w sets)

-- the sets of senders of level i
abbrev pub sets_at : List ℕ → ℕ → List ℕ
sets_at sets i = take slot_count (drop (slot_count * i) sets)

-- the party whose parts are lent to a function one by one
abbrev pub party_in : Vote → Plan → List CodeLevel.Level → List ℕ → Party
party_in v plan levels sets =
    record { n = v.n; t = v.t; own = v.own; agreement = v.agreement; plan = plan; levels = tied slot_count levels sets }

abbrev pub vote_of : Code.Party → Vote
vote_of c = record { n = c.n; t = c.t; own = c.own; agreement = c.agreement }

abbrev pub as_party : Code.Party → Party
as_party c = party_in (vote_of c) (as_plan c.plan) c.levels c.sets
