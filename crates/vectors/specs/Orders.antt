-- Document 01: "there the lowest such rule is applied". Records at which several rules apply, and the one that goes first; some of them no history reaches.
-- proofs/Orders.antt shows that every row holds.
use Rattle.std.specs.Prelude.{◌≡◌, true, false, List, [], ◌∷◌, ℕ, ◌-◌, get_or}
use Rattle.message.specs.declared.Body.TheVariants.{FirstEcho, SecondEcho, SecondProposal, Side, Centre}
use Rattle.message.specs.Message.{none_value}
use Rattle.level.specs.declared.Context.{Context}
use Rattle.level.specs.Level.{Level, no_output, blank_level, with_port_echo, with_first, with_second_echo, with_result, with_centre_told}
use Rattle.level.specs.Rules.{rule1, rule2, rule3, rule4, rule5, rule6, rule7, rule8, rule9, rule10, rule11, rule12, rule13, rule14, lowest_rule, applies, idle}
use Rattle.vectors.specs.Choices.{Rule, at_port, at_port_above, two, three}

-- the rules by their numbers, from 1
abbrev pub fourteen : List Rule
fourteen =
    rule1 ∷ rule2 ∷ rule3 ∷ rule4 ∷ rule5 ∷ rule6 ∷ rule7 ∷ rule8 ∷ rule9 ∷ rule10 ∷ rule11 ∷ rule12 ∷ rule13 ∷ rule14 ∷ []

abbrev pub numbered : ℕ → Rule
numbered k = get_or fourteen (k - 1) (λ c l. idle l)

pub data Order : Type 0 where
  -- two rules, by their numbers, that both apply at a record, where the first of them goes first
  leads : Context → Level → ℕ → ℕ → Order

-- what a row claims
abbrev pub Kept : Order → Type 0
Kept (leads c l j k) =
    (applies (numbered j c l).effect ≡ true) × (applies (numbered k c l).effect ≡ true) × (lowest_rule c l ≡ numbered j c l)

-- rule 1 is done, and rule 5 too, with the first result v
abbrev pub settled : ℕ → Level → Level
settled v l = with_second_echo (with_first (with_port_echo l) v) v

-- Two rules that can both apply, and do different things, stand in a row, or in a chain of rows in which each goes before the next. So no other order has these
-- rows, but for rules that never both apply, as 4 and 5, and for 9 and 13, which do the same.
unfoldable pub orders : List Order
orders =
    leads (at_port 0) (two (FirstEcho 1) blank_level) 1 2
    ∷ leads (at_port 0) (with_port_echo (three (FirstEcho 1) blank_level)) 2 3
    ∷ leads (at_port 1) (with_port_echo (three (FirstEcho 1) (two (FirstEcho none_value) blank_level))) 3 4
    ∷ leads (at_port 1) (with_port_echo (with_first (three (FirstEcho 1) blank_level) 1)) 3 5
    ∷ leads (at_port 0) (with_port_echo (with_first (two (SecondEcho 0) blank_level) 1)) 5 6
    ∷ leads (at_port 0) (settled 1 (three (SecondEcho 0) blank_level)) 6 7
    ∷ leads (at_port 0) (settled 1 (three (SecondEcho 1) (three (SecondProposal 1) blank_level))) 7 8
    ∷ leads (at_port 0) (settled 1 (with_result (three (SecondEcho 1) blank_level) 0 true)) 7 9
    ∷ leads (at_port 0) (settled 1 (with_result (three (SecondEcho 1) blank_level) 1 true)) 7 10
    ∷ leads (at_port 0) (settled 1 (with_result (three (SecondEcho 1) blank_level) none_value false)) 7 11
    ∷ leads (at_port 0) (settled 1 (three (SecondProposal 1) (two Centre blank_level))) 8 13
    ∷ leads (at_port 0) (settled 1 (with_result (two Centre blank_level) 1 true)) 10 13
    ∷ leads (at_port 0) (settled 1 (with_result (two (Side 1) blank_level) none_value false)) 11 12
    ∷ leads (at_port 0) (settled 1 (with_result (two Centre blank_level) none_value false)) 11 13
    ∷ leads (at_port_above 0 7) (settled 1 (with_result (two Centre blank_level) 1 true)) 13 14
    ∷ leads (at_port 0) (with_port_echo (two (FirstEcho none_value) (two Centre blank_level))) 4 13
    -- a result before the first result, rule 11 done without an output: no history has them
    ∷ leads (at_port 0) (with_port_echo (with_result (two (FirstEcho none_value) blank_level) 0 true)) 4 9
    ∷ leads (at_port 0) (with_port_echo (with_result (two (FirstEcho none_value) blank_level) 1 true)) 4 10
    ∷ leads (at_port 0) (with_port_echo (with_result (two (FirstEcho none_value) blank_level) none_value false)) 4 11
    ∷ leads (at_port 0) (settled 1 (with_centre_told (with_result (two (Side 1) (two Centre blank_level)) none_value false) no_output)) 12 13
    ∷ []
