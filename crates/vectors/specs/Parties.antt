-- Document 01, of plans and parties: centres and ports of trees, the order of levels, where a level is entered, what is kept.
-- proofs/Parties.antt shows that every row holds.
use Rattle.std.specs.Prelude.{◌≡◌, Bool, true, false, List, [], ◌∷◌, ℕ, zero, suc}
use Rattle.base.specs.Pick.{pick}
use Rattle.base.specs.Found.{Found, found, refused}
use Rattle.base.specs.Limits.{offset_zero, level_count}
use Rattle.tree.specs.Component.{upto}
use Rattle.plan.specs.Plan.{Plan}
use Rattle.plan.specs.Positions.{range_plan, no_plan}
use Rattle.plan.specs.Reading.{plan_of}
use Rattle.component.specs.Component.{centre_of, degree_of, neighbour_of, port_of}
use Rattle.message.specs.declared.Body.{Body}
use Rattle.message.specs.declared.Body.TheVariants.{FirstEcho, FirstProposal, SecondEcho, SecondProposal, Side, Centre}
use Rattle.message.specs.declared.Message.{Message}
use Rattle.message.specs.Message.{none_value}
use Rattle.level.specs.Level.{Level, no_output, blank_level, with_entry, with_port_echo, with_result, with_centre_told}
use Rattle.journal.specs.declared.Record.{Record}
use Rattle.journal.specs.declared.Record.TheVariants.{Start, Taken}
use Rattle.party.specs.Party.{Party, new_party, with_level, held_by, hearing, output_of}
use Rattle.party.specs.Run.{open_at, run, taking, resting, step_at, rule_at, made_by}
use Rattle.party_life.specs.Life.{lived}
use Rattle.vectors.specs.Choices.{two}

-- the plan that the bytes are
abbrev pub plan_in : Found Plan → Plan
plan_in (found p) = p
plan_in (refused number place) = no_plan

-- f 0, f 1, .. f (k - 1)
unfoldable pub listing : ℕ → (ℕ → ℕ) → List ℕ
listing zero f = []
listing (suc k) f = f 0 ∷ listing k (λ i. f (suc i))

-- the numbers below k that pass
unfoldable pub passing : ℕ → ℕ → (ℕ → Bool) → List ℕ
passing zero i f = []
passing (suc k) i f = pick (f i) (i ∷ passing k (suc i) f) (passing k (suc i) f)

-- readings 0 to a width, agreement number 9, own number 0
abbrev pub on_range : ℕ → ℕ → ℕ → Party
on_range n t width = new_party n t 0 9 (range_plan offset_zero width)

-- four boards, one of them faulty at most
abbrev pub of_four : ℕ → Party
of_four width = on_range 4 1 width

abbrev pub says : ℕ → Body → Message
says l b = record { number = 9; level = l; body = b }

-- board 0's own message at level 0, taken after these records; and the four that take a board alone on side 1 through the level
abbrev pub said : Body → List Record → List Record
said b rs = Taken 0 (says 0 b) ∷ rs

abbrev pub voted : List Record → List Record
voted rs = said (SecondProposal 1) (said (SecondEcho 1) (said (FirstProposal 1) (said (FirstEcho 1) rs)))

-- the messages that such a board makes at the level
abbrev pub said_then : List Message
said_then = says 0 (FirstEcho 1) ∷ says 0 (FirstProposal 1) ∷ says 0 (SecondEcho 1) ∷ says 0 (SecondProposal 1) ∷ []

-- a board that started at x on such a range, and its record at level 0, the port's echo made
abbrev pub board : ℕ → ℕ → Level → Party
board width x l = with_level (of_four width) 0 (with_port_echo (with_entry l 0 x no_output))

-- a plan's centre, the centre's neighbours 1 to d, and the port of each position
abbrev pub Laid : Plan → ℕ → List ℕ → List ℕ → Type 0
Laid p c ns ports =
    (centre_of p (upto p.count) ≡ c)
    × (listing (degree_of p (upto p.count)) (λ i. neighbour_of p (upto p.count) (suc i)) ≡ ns)
    × (listing p.count (port_of p (upto p.count)) ≡ ports)

pub data Case : Type 0 where
  -- a tree's bytes, its centre, the centre's neighbours, and the ports of 0, 1, ..
  tree : List ℕ → ℕ → List ℕ → List ℕ → Case
  -- a party, the levels at which some rule applies, and the messages of its run
  runs : Party → List ℕ → List Message → Case
  -- a party at whose level 0 a rule enters a side of the next level, at a position and with an output, and the rule's messages
  enters : Party → ℕ → ℕ → ℕ → List Message → Case
  -- a party, records of its calls, the latest first, all messages that the calls made, in order, and level 0's output then
  lives : Party → List Record → List Message → ℕ → Case
  -- a party that takes a message from a sender, keeps it, and applies no rule
  keeps : Party → ℕ → Message → Case

-- what a row claims
abbrev pub Stands : Case → Type 0
Stands (tree s c ns ports) = Laid (plan_in (plan_of s)) c ns ports
Stands (runs p levels made) = (passing level_count 0 (open_at p) ≡ levels) × ((run p).made ≡ made)
Stands (enters p k x out made) = (step_at p 0 ≡ with_level p 1 (with_entry blank_level k x out)) × (made_by 9 0 (rule_at p 0).effect ≡ made)
Stands (lives p records made x) = ((lived p records).made ≡ made) × (output_of (lived p records).party ≡ x)
Stands (keeps p s m) = (held_by p s m ≡ false) × (taking p s m ≡ resting (hearing p s m)) × (held_by (hearing p s m) s m ≡ true)

unfoldable pub cases : List Case
cases =
    -- "the centre is the smallest-numbered position whose removal leaves parts of at most s/2 positions. Its neighbours in the component, in rising
    -- order, are 1 to d"
    -- a star around 0, and one around 2
    tree (1 ∷ 5 ∷ 0 ∷ 3 ∷ 0 ∷ 1 ∷ 0 ∷ 4 ∷ 2 ∷ 0 ∷ []) 0 (1 ∷ 2 ∷ 3 ∷ 4 ∷ []) (0 ∷ 1 ∷ 2 ∷ 3 ∷ 4 ∷ [])
    ∷ tree (1 ∷ 5 ∷ 2 ∷ 4 ∷ 2 ∷ 0 ∷ 3 ∷ 2 ∷ 2 ∷ 1 ∷ []) 2 (0 ∷ 1 ∷ 3 ∷ 4 ∷ []) (1 ∷ 2 ∷ 0 ∷ 3 ∷ 4 ∷ [])
    -- the path 3, 1, 2, 0 and the path 1, 2, 0, 3: each has two such positions
    ∷ tree (1 ∷ 4 ∷ 3 ∷ 1 ∷ 1 ∷ 2 ∷ 2 ∷ 0 ∷ []) 1 (2 ∷ 3 ∷ []) (1 ∷ 0 ∷ 1 ∷ 2 ∷ [])
    ∷ tree (1 ∷ 4 ∷ 1 ∷ 2 ∷ 2 ∷ 0 ∷ 0 ∷ 3 ∷ []) 0 (2 ∷ 3 ∷ []) (0 ∷ 1 ∷ 1 ∷ 2 ∷ [])
    -- "the lowest level at which some rule applies is chosen": two levels entered, and nothing done at either, as in no history
    ∷ runs (with_level (with_level (of_four 6) 0 (with_entry blank_level 0 0 no_output)) 1 (with_entry blank_level 1 0 no_output)) (0 ∷ 1 ∷ []) (says 0 (FirstEcho 1) ∷ says 1 (FirstEcho 1) ∷ [])
    -- "at grade 1 send side k; enter side k, at the old position if grade 2 and it lies there, else at neighbour k": side 1 is 0 to 2
    ∷ enters (board 6 0 (with_result blank_level 1 true)) 1 0 no_output []
    ∷ enters (board 6 5 (with_result blank_level 1 true)) 1 2 no_output []
    ∷ enters (board 6 0 (with_result blank_level 1 false)) 1 2 no_output (says 0 (Side 1) ∷ [])
    -- "enter side k at neighbour k" (rule 12)
    ∷ enters (board 6 0 (with_centre_told (with_result (two (Side 1) blank_level) none_value false) 3)) 1 2 no_output []
    -- "Entering a component of 1 or 2 positions gives that level's output, the board's position": side 1 is 0 and 1
    ∷ enters (board 4 0 (with_result blank_level 1 true)) 1 0 0 []
    ∷ enters (board 4 0 (with_result blank_level 1 false)) 1 1 1 (says 0 (Side 1) ∷ [])
    -- "counts are counts of senders in such sets, also of messages that came before the level was entered"
    ∷ lives (of_four 6) (Start 9 0 ∷ Taken 3 (says 0 (FirstEcho 1)) ∷ Taken 2 (says 0 (FirstEcho 1)) ∷ Taken 1 (says 0 (FirstEcho 1)) ∷ []) (says 0 (FirstEcho 1) ∷ says 0 (FirstProposal 1) ∷ []) no_output
    -- "Level 0's output is the answer; the board goes on taking part afterwards.": one board, the centre is 1; a centre message after the answer 0, and before
    ∷ lives (on_range 1 0 2) (said Centre (voted (Start 9 0 ∷ []))) said_then 0
    ∷ lives (on_range 1 0 2) (said (SecondEcho 1) (said (FirstProposal 1) (said (FirstEcho 1) (said Centre (Start 9 0 ∷ []))))) said_then 1
    ∷ lives (on_range 1 0 2) (voted (said Centre (Start 9 0 ∷ []))) said_then 1
    -- "Values above d at that level, none excepted, are kept and never counted."
    ∷ keeps (board 6 0 (two (FirstProposal 3) blank_level)) 2 (says 0 (FirstProposal 3))
    ∷ []
