-- Document 01, "The fourteen rules": what each rule chooses where more than one thing could be done. Records are made by hand, also such as no history reaches.
-- proofs/Choices.antt shows that every row holds.
use Rattle.std.specs.Prelude.{◌≡◌, Bool, true, false, List, [], ◌∷◌, ℕ}
use Rattle.message.specs.declared.Body.{Body}
use Rattle.message.specs.declared.Body.TheVariants.{FirstEcho, FirstProposal, SecondEcho, SecondProposal, Side, Centre}
use Rattle.message.specs.Message.{none_value}
use Rattle.level.specs.declared.Context.{Context}
use Rattle.level.specs.Rules.{Effect}
use Rattle.level.specs.Rules.{Nothing, Quiet, Send, Enter, SendEnter}
use Rattle.level.specs.Level.{Level, no_output, blank_level, with_heard, with_port_echo, with_none_echo, with_proposal, with_first, with_second_echo, with_second_proposal, with_result, with_output, with_centre_told}
use Rattle.level.specs.Rules.{Applied, rule1, rule2, rule3, rule4, rule5, rule6, rule7, rule8, rule9, rule10, rule11, rule12, rule13, rule14}
use Rattle.vectors.specs.Sums.{hearing, ◌from◌}

abbrev pub Rule : Type 0
Rule = Context → Level → Applied

-- n 4, t 1: a board with this port, at a level with d 2 and the centre 5, the next level not entered
abbrev pub at_port : ℕ → Context
at_port k = record { n = 4; t = 1; degree = 2; port = k; centre = 5; next_entered = false; next_output = no_output }

-- the same with the next level entered, and its output
abbrev pub at_port_above : ℕ → ℕ → Context
at_port_above k x = record { n = 4; t = 1; degree = 2; port = k; centre = 5; next_entered = true; next_output = x }

-- d 15 instead, and n 5, where n-t is more than 2t+1
abbrev pub fifteen_sides : Context
fifteen_sides = record { n = 4; t = 1; degree = 15; port = 0; centre = 5; next_entered = false; next_output = no_output }

abbrev pub five_boards : Context
five_boards = record { n = 5; t = 1; degree = 2; port = 0; centre = 5; next_entered = false; next_output = no_output }

-- t+1 senders of a message: 0 and 1; and 2t+1, which with four boards is n-t: 0, 1 and 2
unfoldable pub two : Body → Level → Level
two b l = with_heard (with_heard l b 0) b 1

unfoldable pub three : Body → Level → Level
three b l = with_heard (two b l) b 2

pub data Choice : Type 0 where
  -- a rule at a record, how it changes the record, and its effect
  acts : Rule → Context → Level → (Level → Level) → Effect → Choice
  -- a rule that does not apply at a record
  rests : Rule → Context → Level → Choice

-- what a row claims
abbrev pub Chosen : Choice → Type 0
Chosen (acts rule c l change effect) = ((rule c l).effect ≡ effect) × ((rule c l).level ≡ change l)
Chosen (rests rule c l) = ((rule c l).effect ≡ Nothing) × ((rule c l).level ≡ l)

unfoldable pub choices : List Choice
choices =
    -- "1. First echo of the port, once."
    acts rule1 (at_port 2) blank_level (λ l. with_port_echo l) (Send (FirstEcho 2))
    ∷ rests rule1 (at_port 2) (with_port_echo blank_level)
    -- "2. t+1 senders each first-echoed a value other than the port, not needfully the same one (none isn't counted): first echo of none, once."
    -- a sender that echoed the port too is counted
    ∷ acts rule2 (at_port 0) (hearing (FirstEcho 0 from 0 ∷ FirstEcho 1 from 0 ∷ FirstEcho 2 from 1 ∷ [])) (λ l. with_none_echo l) (Send (FirstEcho none_value))
    ∷ rests rule2 (at_port 1) (two (FirstEcho 1) (hearing (FirstEcho 2 from 2 ∷ [])))
    ∷ rests rule2 (at_port 0) (hearing (FirstEcho 1 from 0 ∷ FirstEcho none_value from 1 ∷ FirstEcho none_value from 2 ∷ []))
    -- senders are counted, not echoes
    ∷ rests rule2 (at_port 0) (hearing (FirstEcho 1 from 0 ∷ FirstEcho 2 from 0 ∷ []))
    -- a value above d
    ∷ rests rule2 (at_port 0) (two (FirstEcho 3) blank_level)
    ∷ rests rule2 (at_port 0) (with_none_echo (two (FirstEcho 1) blank_level))
    -- "3. No first proposal yet, and for the smallest such v, t+1 senders first-echoed v and 2t+1 first-echoed v or none: propose v."
    ∷ acts rule3 (at_port 0) (two (FirstEcho 1) (two (FirstEcho 2) (hearing (FirstEcho none_value from 2 ∷ [])))) (λ l. with_proposal l 1) (Send (FirstProposal 1))
    -- 0 has t+1 senders and, with none, not 2t+1
    ∷ acts rule3 (at_port 0) (two (FirstEcho 0) (three (FirstEcho 1) blank_level)) (λ l. with_proposal l 1) (Send (FirstProposal 1))
    -- a sender of both 1 and none is one sender
    ∷ rests rule3 (at_port 0) (two (FirstEcho 1) (two (FirstEcho none_value) blank_level))
    -- none is not proposed, nor is a value above d
    ∷ rests rule3 (at_port 0) (three (FirstEcho none_value) blank_level)
    ∷ rests rule3 (at_port 0) (three (FirstEcho 3) blank_level)
    ∷ rests rule3 (at_port 0) (with_proposal (three (FirstEcho 1) blank_level) 2)
    -- "4. No first result yet: smallest v with n-t first proposals, result v. Else, if at some bit place 0 to 3, t+1 senders echoed none or a value
    -- with bit 0 there, and t+1 none or a value with bit 1: result none."
    -- proposals of 1 and a split
    ∷ acts rule4 (at_port 0) (three (FirstProposal 1) (two (FirstEcho none_value) blank_level)) (λ l. with_first l 1) Quiet
    ∷ acts rule4 (at_port 0) (three (FirstProposal 1) (three (FirstProposal 2) blank_level)) (λ l. with_first l 1) Quiet
    -- n-t is more than 2t+1
    ∷ rests rule4 five_boards (three (FirstProposal 1) blank_level)
    -- none alone
    ∷ acts rule4 (at_port 0) (two (FirstEcho none_value) blank_level) (λ l. with_first l none_value) Quiet
    -- 0 and 4 differ at place 2 alone, 0 and 8 at place 3 alone
    ∷ acts rule4 fifteen_sides (two (FirstEcho 0) (hearing (FirstEcho 4 from 2 ∷ FirstEcho 4 from 3 ∷ []))) (λ l. with_first l none_value) Quiet
    ∷ acts rule4 fifteen_sides (two (FirstEcho 0) (hearing (FirstEcho 8 from 2 ∷ FirstEcho 8 from 3 ∷ []))) (λ l. with_first l none_value) Quiet
    -- two senders differ from the rest, each at another place
    ∷ rests rule4 fifteen_sides (two (FirstEcho 0) (hearing (FirstEcho 4 from 2 ∷ FirstEcho 8 from 3 ∷ [])))
    -- values above d
    ∷ rests rule4 (at_port 0) (three (FirstProposal 3) blank_level)
    ∷ rests rule4 (at_port 0) (two (FirstEcho 0) (two (FirstEcho 3) blank_level))
    ∷ rests rule4 (at_port 0) (with_first (three (FirstProposal 1) blank_level) 2)
    -- "5. First result there: second echo of it, once."
    ∷ acts rule5 (at_port 0) (with_first blank_level 1) (λ l. with_second_echo l 1) (Send (SecondEcho 1))
    ∷ acts rule5 (at_port 0) (with_first (with_second_echo blank_level 1) none_value) (λ l. with_second_echo l none_value) (Send (SecondEcho none_value))
    ∷ rests rule5 (at_port 0) (with_second_echo (with_first blank_level 1) 1)
    ∷ rests rule5 (at_port 0) (three (SecondEcho 1) blank_level)
    -- "6. t+1 second echoes of w, not yet echoed (smallest w, none last): echo it." "Rules 6 and 7 wait for rule 5."
    ∷ acts rule6 (at_port 0) (with_first (two (SecondEcho 1) (two (SecondEcho none_value) blank_level)) 0) (λ l. with_second_echo l 1) (Send (SecondEcho 1))
    ∷ acts rule6 (at_port 0) (with_first (with_second_echo (two (SecondEcho 1) (two (SecondEcho none_value) blank_level)) 1) 0) (λ l. with_second_echo l none_value) (Send (SecondEcho none_value))
    ∷ acts rule6 (at_port 0) (with_first (two (SecondEcho 1) (two (SecondEcho 2) blank_level)) 0) (λ l. with_second_echo l 1) (Send (SecondEcho 1))
    ∷ acts rule6 (at_port 0) (with_first (with_second_echo (two (SecondEcho 1) (two (SecondEcho 2) blank_level)) 1) 0) (λ l. with_second_echo l 2) (Send (SecondEcho 2))
    -- a value above d
    ∷ rests rule6 (at_port 0) (with_first (two (SecondEcho 3) blank_level) 0)
    -- no first result
    ∷ rests rule6 (at_port 0) (two (SecondEcho 1) blank_level)
    -- "7. No second proposal yet, 2t+1 second echoes of w (smallest, none last): propose w."
    ∷ acts rule7 (at_port 0) (with_first (three (SecondEcho 1) (three (SecondEcho none_value) blank_level)) 0) (λ l. with_second_proposal l 1) (Send (SecondProposal 1))
    ∷ acts rule7 (at_port 0) (with_first (three (SecondEcho none_value) blank_level) 0) (λ l. with_second_proposal l none_value) (Send (SecondProposal none_value))
    -- the smallest of all, its own echo made or not
    ∷ acts rule7 (at_port 0) (with_first (with_second_echo (three (SecondEcho 1) (three (SecondEcho 2) blank_level)) 1) 0) (λ l. with_second_proposal l 1) (Send (SecondProposal 1))
    ∷ acts rule7 (at_port 0) (with_first (with_second_echo (three (SecondEcho 1) (three (SecondEcho 2) blank_level)) 2) 0) (λ l. with_second_proposal l 1) (Send (SecondProposal 1))
    -- 2t+1 is less than n-t
    ∷ acts rule7 five_boards (with_first (three (SecondEcho 1) blank_level) 0) (λ l. with_second_proposal l 1) (Send (SecondProposal 1))
    -- a value above d
    ∷ rests rule7 (at_port 0) (with_first (three (SecondEcho 3) blank_level) 0)
    -- no first result
    ∷ rests rule7 (at_port 0) (three (SecondEcho 1) blank_level)
    ∷ rests rule7 (at_port 0) (with_second_proposal (with_first (three (SecondEcho 1) blank_level) 0) 2)
    -- "8. First result there, no second result: w with n-t second proposals (smallest, none last) gives (w, 2), or (none, 0). Else, if t+1 second
    -- echoes stand for none and for exactly one value v: (v, 1)."
    -- proposals of 2 or of none, and echoes for (1, 1)
    ∷ acts rule8 (at_port 0) (with_first (three (SecondProposal 2) (two (SecondEcho 1) (two (SecondEcho none_value) blank_level))) 0) (λ l. with_result l 2 true) Quiet
    ∷ acts rule8 (at_port 0) (with_first (three (SecondProposal none_value) (two (SecondEcho 1) (two (SecondEcho none_value) blank_level))) 0) (λ l. with_result l none_value false) Quiet
    ∷ acts rule8 (at_port 0) (with_first (three (SecondProposal 1) (three (SecondProposal 2) blank_level)) 0) (λ l. with_result l 1 true) Quiet
    ∷ acts rule8 (at_port 0) (with_first (three (SecondProposal 2) (three (SecondProposal none_value) blank_level)) 0) (λ l. with_result l 2 true) Quiet
    -- n-t is more than 2t+1
    ∷ rests rule8 five_boards (with_first (three (SecondProposal 1) blank_level) 0)
    -- two values beside none; none alone; one value alone
    ∷ rests rule8 (at_port 0) (with_first (two (SecondEcho 1) (two (SecondEcho 2) (two (SecondEcho none_value) blank_level))) 0)
    ∷ rests rule8 (at_port 0) (with_first (two (SecondEcho none_value) blank_level) 0)
    ∷ rests rule8 (at_port 0) (with_first (two (SecondEcho 1) blank_level) 0)
    -- values above d
    ∷ acts rule8 (at_port 0) (with_first (two (SecondEcho 1) (two (SecondEcho 3) (two (SecondEcho none_value) blank_level))) 0) (λ l. with_result l 1 false) Quiet
    ∷ rests rule8 (at_port 0) (with_first (three (SecondProposal 3) blank_level) 0)
    -- no first result; a second result
    ∷ rests rule8 (at_port 0) (three (SecondProposal 1) blank_level)
    ∷ rests rule8 (at_port 0) (with_result (with_first (three (SecondProposal 1) blank_level) 0) 2 false)
    -- "9. Result value 0: output the centre, if no output here."
    ∷ acts rule9 (at_port 1) (with_result blank_level 0 true) (λ l. with_output l 5) Quiet
    ∷ rests rule9 (at_port 1) (with_output (with_result blank_level 0 true) 6)
    -- "10. Value k of 1 or more, next level not entered: at grade 1 send side k; enter side k, at the old position if grade 2 and it lies there,
    -- else at neighbour k."
    ∷ acts rule10 (at_port 1) (with_result blank_level 1 true) (λ l. l) (Enter 1 true)
    ∷ acts rule10 (at_port 2) (with_result blank_level 1 true) (λ l. l) (Enter 1 false)
    ∷ acts rule10 (at_port 1) (with_result blank_level 1 false) (λ l. l) (SendEnter 1)
    -- with an output too
    ∷ acts rule10 (at_port 1) (with_output (with_result blank_level 1 false) 5) (λ l. l) (SendEnter 1)
    ∷ rests rule10 (at_port_above 1 no_output) (with_result blank_level 1 false)
    -- "11. Result none, once: output the centre if no output here, send centre."
    ∷ acts rule11 (at_port 1) (with_result blank_level none_value false) (λ l. with_centre_told l 5) (Send Centre)
    ∷ acts rule11 (at_port 1) (with_output (with_result blank_level none_value false) 6) (λ l. with_centre_told l 6) (Send Centre)
    ∷ rests rule11 (at_port 1) (with_centre_told (with_result blank_level none_value false) 5)
    -- "12. Result none, next level not entered, t+1 side k (smallest): enter side k at neighbour k."
    -- the old position lies on side 1
    ∷ acts rule12 (at_port 1) (with_result (two (Side 1) (two (Side 2) blank_level)) none_value false) (λ l. l) (Enter 1 false)
    -- one sender of side 1; a side above d
    ∷ acts rule12 (at_port 1) (with_result (hearing (Side 1 from 0 ∷ Side 2 from 1 ∷ Side 2 from 2 ∷ [])) none_value false) (λ l. l) (Enter 2 false)
    ∷ rests rule12 (at_port 1) (with_result (two (Side 3) blank_level) none_value false)
    ∷ rests rule12 (at_port_above 1 no_output) (with_result (two (Side 1) blank_level) none_value false)
    ∷ rests rule12 (at_port 1) (with_result (two (Side 1) blank_level) 2 true)
    ∷ rests rule12 (at_port 1) (two (Side 1) blank_level)
    -- "13. t+1 centre messages, no output here: output the centre."
    -- without a result, and with one
    ∷ acts rule13 (at_port 1) (two Centre blank_level) (λ l. with_output l 5) Quiet
    ∷ acts rule13 (at_port 1) (with_result (two Centre blank_level) 1 true) (λ l. with_output l 5) Quiet
    ∷ rests rule13 (at_port 1) (with_output (two Centre blank_level) 6)
    ∷ rests rule13 (at_port 1) (hearing (Centre from 0 ∷ []))
    -- "14. Result value 1 or more, no output here, the next level has one: output it."
    ∷ acts rule14 (at_port_above 1 7) (with_result blank_level 1 false) (λ l. with_output l 7) Quiet
    ∷ rests rule14 (at_port_above 1 7) (with_output (with_result blank_level 1 false) 6)
    ∷ rests rule14 (at_port_above 1 7) (with_result blank_level 0 true)
    ∷ rests rule14 (at_port_above 1 7) (with_result blank_level none_value false)
    ∷ rests rule14 (at_port_above 1 no_output) (with_result blank_level 1 false)
    ∷ rests rule14 (at_port_above 1 7) blank_level
    ∷ []
