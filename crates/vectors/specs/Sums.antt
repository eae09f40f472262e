-- Document 01, "Sums to check by hand": P1 to P12 as one table. proofs/Table.antt shows that every sum in it holds.
use Rattle.std.specs.Prelude.{◌≡◌, Bool, true, false, List, [], ◌∷◌, ℕ, suc, ◌<◌, eqb, ℤ, negsuc}
use Rattle.base.specs.Pick.{pick}
use Rattle.tree.specs.Component.{centre, side}
use Rattle.tree.specs.Path.{path_edges}
use Rattle.tree.specs.Inner.{interval}
use Rattle.varint.specs.Varint.{varint_bytes}
use Rattle.signed.specs.Signed.{signed_bytes}
use Rattle.base.specs.Found.{refused}
use Rattle.plan.specs.Reading.{plan_of, settled_plan}
use Rattle.message.specs.declared.Body.{Body}
use Rattle.message.specs.declared.Body.TheVariants.{FirstEcho, FirstProposal, SecondEcho}
use Rattle.message.specs.declared.Message.{Message}
use Rattle.message.specs.Message.{none_value, message_bytes}
use Rattle.level.specs.declared.Context.{Context}
use Rattle.level.specs.Rules.{Nothing, Quiet, Send}
use Rattle.level.specs.Level.{Level, not_yet, no_output, blank_level, with_heard, with_first, with_result}
use Rattle.level.specs.Counts.{may_propose}
use Rattle.level.specs.Rules.{rule3, rule4, rule8, does, idle}

-- a message's body and its sender
pub record Heard : Type 0 where
  pub body : Body
  pub sender : ℕ

infix 70 ◌from◌
abbrev pub ◌from◌ : Body → ℕ → Heard
b from s = record { body = b; sender = s }

-- a level at which these messages were taken and nothing else
unfoldable pub hearing : List Heard → Level
hearing [] = blank_level
hearing (h ∷ hs) = with_heard (hearing hs) h.body h.sender

-- "With n 4, t 1, d 2": a board at the centre, 0, whose next level is not entered, of which rules 3, 4 and 8 ask nothing
abbrev pub four : Context
four = record { n = 4; t = 1; degree = 2; port = 0; centre = 0; next_entered = false; next_output = no_output }

pub data Sum : Type 0 where
  -- the bytes of a number
  number : ℕ → List ℕ → Sum
  -- the bytes of a signed number
  signed : ℤ → List ℕ → Sum
  -- a plan's bytes, the question that refuses them, and the place
  plan_refusal : List ℕ → ℕ → ℕ → Sum
  -- the ends of a path, and its centre
  path_centre : ℕ → ℕ → ℕ → Sum
  -- the ends of a path, its centre, a side's number, and the side's ends
  path_side : ℕ → ℕ → ℕ → ℕ → ℕ → ℕ → Sum
  -- the bytes of a message
  message : Message → List ℕ → Sum
  -- whether a value may be proposed after these messages
  proposal : List Heard → ℕ → Bool → Sum
  -- the first result after these messages, and that there is none yet
  first_result : List Heard → ℕ → Sum
  no_first_result : List Heard → Sum
  -- the second result and its grade, a first result there, after these messages
  second_result : List Heard → ℕ → ℕ → Sum
  -- n and t, and the question that refuses them
  settings_refusal : ℕ → ℕ → ℕ → Sum

-- what a sum claims
abbrev pub Holds : Sum → Type 0
Holds (number v bytes) = varint_bytes v ≡ bytes
Holds (signed z bytes) = signed_bytes z ≡ bytes
Holds (plan_refusal s question place) = plan_of s ≡ refused question place
Holds (path_centre a b c) = centre (path_edges b) (suc b) (interval a b) ≡ c
Holds (path_side a b c k low high) = (centre (path_edges b) (suc b) (interval a b) ≡ c) × (side (path_edges b) (suc b) (interval a b) k ≡ interval low high)
Holds (message m bytes) = message_bytes m ≡ bytes
-- rule 3 then does so, and else nothing
Holds (proposal hs v may) = (may_propose four (hearing hs) v ≡ may) × ((rule3 four (hearing hs)).effect ≡ pick may (Send (FirstProposal v)) Nothing)
Holds (first_result hs v) = rule4 four (hearing hs) ≡ does (with_first (hearing hs) v) Quiet
Holds (no_first_result hs) = rule4 four (hearing hs) ≡ idle (hearing hs)
-- whichever first result, a value or none; a level's record keeps grade 2 as `sure`
Holds (second_result hs v grade) =
    (first : ℕ) → first < not_yet → rule8 four (with_first (hearing hs) first) ≡ does (with_result (with_first (hearing hs) first) v (eqb grade 2)) Quiet
-- whatever the own number and the plan
Holds (settings_refusal n t question) = (own : ℕ) (s : List ℕ) → settled_plan n t own s ≡ refused question 0

-- the sums; bytes are hexadecimal
unfoldable pub table : List Sum
table =
    -- "P1 300 is AC 02."
    number 300 (0xAC ∷ 0x02 ∷ [])
    -- "P2 80 00 gives 4."
    ∷ plan_refusal (0x80 ∷ 0x00 ∷ []) 4 0
    -- "P3 signed -5 is 09."
    ∷ signed (negsuc 4) (0x09 ∷ [])
    -- "P4 path 0 to 7, centre 3."
    ∷ path_centre 0 7 3
    -- "P5 path 0 to 3, centre 1, side 2 is 2 and 3."
    ∷ path_side 0 3 1 2 2 3
    -- "P6 second echo of none, number 7, level 2: 07 02 03 10."
    ∷ message (record { number = 7; level = 2; body = SecondEcho none_value }) (0x07 ∷ 0x02 ∷ 0x03 ∷ 0x10 ∷ [])
    -- "P7 first echoes of 1 from 0 and 1, none from 2: 1 may be proposed."
    ∷ proposal (FirstEcho 1 from 0 ∷ FirstEcho 1 from 1 ∷ FirstEcho none_value from 2 ∷ []) 1 true
    -- "P8 of 1 from 0, none from 1, 2, 3: it may not."
    ∷ proposal (FirstEcho 1 from 0 ∷ FirstEcho none_value from 1 ∷ FirstEcho none_value from 2 ∷ FirstEcho none_value from 3 ∷ []) 1 false
    -- "P9 of 1 from 0 and 1, of 2 from 2 and 3: result none."
    ∷ first_result (FirstEcho 1 from 0 ∷ FirstEcho 1 from 1 ∷ FirstEcho 2 from 2 ∷ FirstEcho 2 from 3 ∷ []) none_value
    -- "P10 of 1 from 0, 1, 2, of 2 from 3: not."
    ∷ no_first_result (FirstEcho 1 from 0 ∷ FirstEcho 1 from 1 ∷ FirstEcho 1 from 2 ∷ FirstEcho 2 from 3 ∷ [])
    -- "P11, a first result there, second echoes of none from 0 and 1, of 1 from 1 and 2: (1, 1)."
    ∷ second_result (SecondEcho none_value from 0 ∷ SecondEcho none_value from 1 ∷ SecondEcho 1 from 1 ∷ SecondEcho 1 from 2 ∷ []) 1 1
    -- "P12 n 3, t 1 gives 2."
    ∷ settings_refusal 3 1 2
    ∷ []
