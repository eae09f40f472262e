-- Document 01, "The fourteen rules", each with its sentence. A rule that does not apply has the effect Nothing and leaves the record as it is.
use Rattle.std.specs.Prelude.{Bool, true, false, not, ◌&&◌, ℕ, ◌+◌, leb, ltb, eqb, get_or}
use Rattle.base.specs.Pick.{pick, smallest}
use Rattle.message.specs.Message.{none_value}
use Rattle.message.specs.declared.Body.{Body}
use Rattle.message.specs.declared.Body.TheVariants.{FirstEcho, FirstProposal, SecondEcho, SecondProposal, Centre}
use Rattle.level.specs.declared.Context.{Context}
use Rattle.level.specs.Level.{Level, senders, not_yet, no_output, with_port_echo, with_none_echo, with_proposal, with_first, with_second_echo, with_second_proposal, with_result, with_output, with_centre_told}
use Rattle.level.specs.Counts.{weak, strong, candidate, candidates, other_echoes, at_least, may_propose, proposed, split, echoed_by, second_proposed, echoed_values, sided}

-- what a rule does besides changing its level's record; the code's stands for it by `as_applied` (Tie.antt)
pub data Effect : Type 0 where
  -- the rule does not apply
  Nothing : Effect
  -- it applies and makes no message
  Quiet : Effect
  -- it applies and makes this message
  Send : Body → Effect
  -- it applies and enters this side of the next level, at the old position if so said, else at the side's neighbour
  Enter : ℕ → Bool → Effect
  -- it applies, sends this side, and enters it at its neighbour
  SendEnter : ℕ → Effect

-- the level after a rule, and what the rule does besides
pub record Applied : Type 0 where
  pub level : Level
  pub effect : Effect

-- the rule does not apply
abbrev pub idle : Level → Applied
idle l = record { level = l; effect = Nothing }

abbrev pub does : Level → Effect → Applied
does l e = record { level = l; effect = e }

-- where the test holds the rule applies, else not
abbrev pub when : Bool → Level → Applied → Applied
when test l a = pick test a (idle l)

-- there, not there
abbrev pub missing : ℕ → Bool
missing v = eqb v not_yet

abbrev pub present : ℕ → Bool
present v = not (eqb v not_yet)

abbrev pub unanswered : Level → Bool
unanswered l = eqb l.output no_output

-- the smallest of the values 0 to d that passes, if there is one
abbrev pub smallest_value : Context → (ℕ → Bool) → ℕ
smallest_value c p = smallest (c.degree + 1) p

abbrev pub is_value : Context → ℕ → Bool
is_value c v = leb v c.degree

-- the first candidate ("smallest w, none last") that passes, counted from 0
abbrev pub first_candidate : Context → (ℕ → Bool) → ℕ
first_candidate c p = smallest (candidates c) (λ i. p (candidate c i))

abbrev pub is_candidate : Context → ℕ → Bool
is_candidate c i = ltb i (candidates c)

-- "1. First echo of the port, once."
unfoldable pub rule1 : Context → Level → Applied
rule1 c l = when (not l.echoed_port) l (does (with_port_echo l) (Send (FirstEcho c.port)))

-- "2. t+1 senders each first-echoed a value other than the port, not needfully the same one (none isn't counted): first echo of none, once."
unfoldable pub rule2 : Context → Level → Applied
rule2 c l = when (not l.echoed_none && at_least (weak c) (other_echoes c l)) l (does (with_none_echo l) (Send (FirstEcho none_value)))

-- "3. No first proposal yet, and for the smallest such v, t+1 senders first-echoed v and 2t+1 first-echoed v or none: propose v."
unfoldable pub rule3 : Context → Level → Applied
rule3 c l = go (smallest_value c (may_propose c l))
  where
    go : ℕ → Applied
    go v = when (missing l.proposal && is_value c v) l (does (with_proposal l v) (Send (FirstProposal v)))

-- "4. No first result yet: smallest v with n-t first proposals, result v. Else, if at some bit place 0 to 3, t+1 senders echoed none or a value
-- with bit 0 there, and t+1 none or a value with bit 1: result none."
unfoldable pub rule4 : Context → Level → Applied
rule4 c l = go (smallest_value c (proposed c l))
  where
    go : ℕ → Applied
    go v =
        when (missing l.first) l
        (pick (is_value c v) (does (with_first l v) Quiet) (when (split c l) l (does (with_first l none_value) Quiet)))

-- "5. First result there: second echo of it, once."
unfoldable pub rule5 : Context → Level → Applied
rule5 c l = when (present l.first && not (get_or l.echoed l.first false)) l (does (with_second_echo l l.first) (Send (SecondEcho l.first)))

-- "6. t+1 second echoes of w, not yet echoed (smallest w, none last): echo it." "Rules 6 and 7 wait for rule 5."
unfoldable pub rule6 : Context → Level → Applied
rule6 c l = go (first_candidate c (λ w. echoed_by (weak c) l w && not (get_or l.echoed w false)))
  where
    go : ℕ → Applied
    go i = when (present l.first && is_candidate c i) l (does (with_second_echo l (candidate c i)) (Send (SecondEcho (candidate c i))))

-- "7. No second proposal yet, 2t+1 second echoes of w (smallest, none last): propose w."
unfoldable pub rule7 : Context → Level → Applied
rule7 c l = go (first_candidate c (echoed_by (strong c) l))
  where
    go : ℕ → Applied
    go i =
        when (present l.first && (missing l.second_proposal && is_candidate c i)) l
        (does (with_second_proposal l (candidate c i)) (Send (SecondProposal (candidate c i))))

-- "8. First result there, no second result: w with n-t second proposals (smallest, none last) gives (w, 2), or (none, 0). Else, if t+1 second
-- echoes stand for none and for exactly one value v: (v, 1)."
unfoldable pub rule8 : Context → Level → Applied
rule8 c l = go (first_candidate c (second_proposed c l)) (smallest_value c (echoed_by (weak c) l))
  where
    go : ℕ → ℕ → Applied
    go i v =
        when (present l.first && missing l.result) l
        (pick (is_candidate c i)
        (does (with_result l (candidate c i) (is_value c i)) Quiet)
        (when (echoed_by (weak c) l none_value && eqb (echoed_values c l) 1) l (does (with_result l v false) Quiet)))

-- a result that is a value of 1 or more
abbrev pub aside : Level → Bool
aside l = leb 1 l.result && ltb l.result none_value

abbrev pub result_none : Level → Bool
result_none l = eqb l.result none_value

-- "9. Result value 0: output the centre, if no output here."
unfoldable pub rule9 : Context → Level → Applied
rule9 c l = when (eqb l.result 0 && unanswered l) l (does (with_output l c.centre) Quiet)

-- "10. Value k of 1 or more, next level not entered: at grade 1 send side k; enter side k, at the old position if grade 2 and it lies there,
-- else at neighbour k."
unfoldable pub rule10 : Context → Level → Applied
rule10 c l =
    when (aside l && not c.next_entered) l
    (does l (pick l.sure (Enter l.result (eqb c.port l.result)) (SendEnter l.result)))

-- "11. Result none, once: output the centre if no output here, send centre."
unfoldable pub rule11 : Context → Level → Applied
rule11 c l =
    when (result_none l && not l.told_centre) l
    (does (with_centre_told l (pick (unanswered l) c.centre l.output)) (Send Centre))

-- "12. Result none, next level not entered, t+1 side k (smallest): enter side k at neighbour k."
unfoldable pub rule12 : Context → Level → Applied
rule12 c l = go (smallest c.degree (λ i. sided c l (i + 1)))
  where
    go : ℕ → Applied
    go i = when (result_none l && (not c.next_entered && ltb i c.degree)) l (does l (Enter (i + 1) false))

-- "13. t+1 centre messages, no output here: output the centre."
unfoldable pub rule13 : Context → Level → Applied
rule13 c l = when (at_least (weak c) (senders l Centre) && unanswered l) l (does (with_output l c.centre) Quiet)

-- "14. Result value 1 or more, no output here, the next level has one: output it."
unfoldable pub rule14 : Context → Level → Applied
rule14 c l = when (aside l && (unanswered l && not (eqb c.next_output no_output))) l (does (with_output l c.next_output) Quiet)

-- a rule applied
abbrev pub applies : Effect → Bool
applies Nothing = false
applies Quiet = true
applies (Send b) = true
applies (Enter k keep) = true
applies (SendEnter k) = true

-- the first of two that applies
abbrev pub or_else : Applied → Applied → Applied
or_else a b = pick (applies a.effect) a b

-- "there the lowest such rule is applied"
unfoldable pub lowest_rule : Context → Level → Applied
lowest_rule c l =
    or_else (rule1 c l) (or_else (rule2 c l) (or_else (rule3 c l) (or_else (rule4 c l) (or_else (rule5 c l) (or_else (rule6 c l) (or_else (rule7 c l)
    (or_else (rule8 c l) (or_else (rule9 c l) (or_else (rule10 c l) (or_else (rule11 c l) (or_else (rule12 c l) (or_else (rule13 c l) (rule14 c l)))))))))))))
