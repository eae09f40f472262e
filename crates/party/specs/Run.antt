-- "After each start or taken message the lowest level at which some rule applies is chosen, and there the lowest such rule is applied, until none does."
use Rattle.std.specs.Prelude.{Bool, ◌&&◌, List, [], ◌∷◌, ◌++◌, ℕ, zero, suc, ◌+◌, ltb}
use Rattle.base.specs.Pick.{pick, smallest}
use Rattle.base.specs.Limits.{level_count, max_rules}
use Rattle.component.specs.Component.{neighbour_of, side_of}
use Rattle.message.specs.declared.Body.TheVariants.{Side}
use Rattle.message.specs.declared.Message.{Message}
use Rattle.message.specs.Message.{message_bytes}
use Rattle.level.specs.Level.{Level}
use Rattle.level.specs.Rules.{Effect}
use Rattle.level.specs.Rules.{Nothing, Quiet, Send, Enter, SendEnter}
use Rattle.level.specs.Rules.{Applied, lowest_rule, applies}
use Rattle.party.specs.Party.{Party, level_at, with_level, component_of, sending, context_of, entering, entered, held_by, hearing}

-- what the lowest rule at level i does
unfoldable pub rule_at : Party → ℕ → Applied
rule_at p i = lowest_rule (context_of p i) (level_at p i)

-- some rule applies at level i
unfoldable pub open_at : Party → ℕ → Bool
open_at p i = sending p i && applies (rule_at p i).effect

-- the lowest level at which some rule applies; the number of levels where there is none
unfoldable pub open_level : Party → ℕ
open_level p = smallest level_count (open_at p)

-- side k of level i's component is entered at x
abbrev pub descend : Party → ℕ → ℕ → ℕ → Party
descend p i k x = entering p (i + 1) (side_of p.plan (component_of p i) k) k x

-- the neighbour at which side k of level i is entered
abbrev pub gate : Party → ℕ → ℕ → ℕ
gate p i k = neighbour_of p.plan (component_of p i) k

-- the party after a rule at level i, which left the record l and has the effect
unfoldable pub after_rule : Party → ℕ → Level → Effect → Party
after_rule p i l Nothing = p
after_rule p i l Quiet = with_level p i l
after_rule p i l (Send b) = with_level p i l
after_rule p i l (Enter k keep) = descend (with_level p i l) i k (pick keep (level_at p i).position (gate p i k))
after_rule p i l (SendEnter k) = descend (with_level p i l) i k (gate p i k)

-- the messages that a rule at level i makes in the vote of an agreement number
abbrev pub made_by : ℕ → ℕ → Effect → List Message
made_by number i Nothing = []
made_by number i Quiet = []
made_by number i (Send b) = record { number = number; level = i; body = b } ∷ []
made_by number i (Enter k keep) = []
made_by number i (SendEnter k) = record { number = number; level = i; body = Side k } ∷ []

-- a party, how many rules led to it, and the messages that they made, in order
pub record Ran : Type 0 where
  pub party : Party
  pub rules : ℕ
  pub made : List Message

abbrev pub resting : Party → Ran
resting p = record { party = p; rules = 0; made = [] }

-- one rule before r
abbrev pub one_more : List Message → Ran → Ran
one_more ms r = record { party = r.party; rules = suc r.rules; made = ms ++ r.made }

-- the party after one rule at level i
abbrev pub step_at : Party → ℕ → Party
step_at p i = after_rule p i (rule_at p i).level (rule_at p i).effect

-- rules until none applies, at most f
unfoldable pub run_up_to : ℕ → Party → Ran
run_up_to zero p = resting p
run_up_to (suc f) p =
    pick (ltb (open_level p) level_count)
    (one_more (made_by p.agreement (open_level p) (rule_at p (open_level p)).effect) (run_up_to f (step_at p (open_level p))))
    (resting p)

-- crate party_bounds shows that no rule applies after that many (run_quiescent) and that a life counts at most max_rules (within_rules)
unfoldable pub run : Party → Ran
run p = run_up_to max_rules p

-- a start at position x
unfoldable pub starting : Party → ℕ → Ran
starting p x = run (entered p x)

-- a message taken from s: "A message already held is accepted, with no record and no rule"
unfoldable pub taking : Party → ℕ → Message → Ran
taking p s m = pick (held_by p s m) (resting p) (run (hearing p s m))

-- messages in bytes, one after the other
unfoldable pub bytes_of : List Message → List ℕ
bytes_of [] = []
bytes_of (m ∷ ms) = message_bytes m ++ bytes_of ms
