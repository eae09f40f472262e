-- What a level's record rests on that came about by the rules, whatever was heard. These definitions serve proofs only.
use Rattle.std.specs.Prelude.{◌≡◌, ◌⊎◌, Bool, false, not, ◌&&◌, ℕ, ◌^◌, ◌≤◌, ◌<◌, T, length, get_or}
use Rattle.base.specs.Sets.{Set}
use Rattle.message.specs.Message.{none_value, body_in_table}
use Rattle.message.specs.declared.Body.{Body}
use Rattle.message.specs.declared.Body.TheVariants.{FirstEcho, FirstProposal, SecondEcho, SecondProposal, Side, Centre}
use Rattle.senders.specs.Senders.{is_in}
use Rattle.level.specs.declared.Context.{Context}
use Rattle.level.specs.Level.{Level, senders, not_yet, no_output, value_count, slot_count}
use Rattle.level.specs.Counts.{weak, strong, other_echoes, at_least, may_propose, proposed, split, echoed_by, second_proposed}

-- ---- words

-- a value is there
abbrev pub Present : ℕ → Type 0
Present v = v ≡ not_yet → ⊥

-- an output is there
abbrev pub Answered : Level → Type 0
Answered l = l.output ≡ no_output → ⊥

-- the result is a value of 1 or more
abbrev pub Aside : Level → Type 0
Aside l = (1 ≤ l.result) × (l.result < none_value)

-- a value 0 to d, or none
abbrev pub Candidate : Context → ℕ → Type 0
Candidate c w = (w ≤ c.degree) ⊎ (w ≡ none_value)

-- w was second-echoed
abbrev pub Echoed : Level → ℕ → Type 0
Echoed l w = T (get_or l.echoed w false)

-- message b, one of the table, was taken from board s
abbrev pub heard_from : Level → Body → Set
heard_from l b s = body_in_table b && is_in (senders l b) s

-- the level has made message b; "at grade 1 send side k" goes with the entry of the next level
abbrev pub SentIn : Context → Level → Body → Type 0
SentIn c l (FirstEcho v) = ((v ≡ c.port) × T l.echoed_port) ⊎ ((v ≡ none_value) × T l.echoed_none)
SentIn c l (FirstProposal v) = Present v × (l.proposal ≡ v)
SentIn c l (SecondEcho w) = Echoed l w
SentIn c l (SecondProposal w) = Present w × (l.second_proposal ≡ w)
SentIn c l (Side k) = (l.result ≡ k) × T (not l.sure) × T c.next_entered × (1 ≤ k) × (k < none_value)
SentIn c l Centre = T l.told_centre

-- ---- what a record rests on

-- the sets name only boards below n, and there are as many as slots
pub record Heard (n : ℕ) (l : Level) : Type 0 where
  pub slots : length l.sets ≡ slot_count
  pub values : length l.echoed ≡ value_count
  pub below : (i : ℕ) → get_or l.sets i 0 < 2 ^ n

-- the first result came by n-t first proposals of a value, or by a split
abbrev pub FirstBy : Context → Level → ℕ → Type 0
FirstBy c l v = ((v ≤ c.degree) × T (proposed c l v)) ⊎ ((v ≡ none_value) × T (split c l))

-- the (second) result w came by n-t second proposals (sure, or none), or by t+1 second echoes of none and of it
abbrev pub ResultBy : Context → Level → ℕ → Bool → Type 0
ResultBy c l w sure =
    ((w ≤ c.degree) × T sure × T (second_proposed c l w))
    ⊎ (((w ≤ c.degree) × T (not sure) × T (echoed_by (weak c) l none_value) × T (echoed_by (weak c) l w))
    ⊎ ((w ≡ none_value) × T (not sure) × T (second_proposed c l none_value)))

-- what a level's record rests on
pub record Law (c : Context) (l : Level) : Type 0 where
  pub heard : Heard c.n l
  pub echoed_none_lem : T l.echoed_none → T (at_least (weak c) (other_echoes c l))
  pub proposal : Present l.proposal → (l.proposal ≤ c.degree) × T (may_propose c l l.proposal)
  pub first : Present l.first → FirstBy c l l.first
  pub echoed : (w : ℕ) → Echoed l w → Present l.first × Candidate c w × ((w ≡ l.first) ⊎ T (echoed_by (weak c) l w))
  pub second_proposal_lem : Present l.second_proposal
      → Present l.first × Candidate c l.second_proposal × T (echoed_by (strong c) l l.second_proposal)
  pub result : Present l.result → Present l.first × ResultBy c l l.result l.sure
  pub told : T l.told_centre → (l.result ≡ none_value) × Answered l

-- the next level is entered only with a result
abbrev pub Descends : Context → Level → Type 0
Descends c l = T c.next_entered → Present l.result

-- the centre is the output for a result of value 0, a result none, or t+1 centre messages
pub data CentreBy (c : Context) (l : Level) : Type 0 where
  by_zero : l.result ≡ 0 → CentreBy c l
  by_none : l.result ≡ none_value → CentreBy c l
  by_messages : T (at_least (weak c) (senders l Centre)) → CentreBy c l

-- the output is the centre, or the next level's for a result of value 1 or more
abbrev pub OutputFrom : Context → Level → Type 0
OutputFrom c l = ((l.output ≡ c.centre) × CentreBy c l) ⊎ ((l.output ≡ c.next_output) × Aside l)

abbrev pub OutputBy : Context → Level → Type 0
OutputBy c l = Answered l → OutputFrom c l

-- nothing was made at the level, whether it was entered or not
pub record Untouched (l : Level) : Type 0 where
  pub echoed_port_lem : T (not l.echoed_port)
  pub echoed_none_lem : T (not l.echoed_none)
  pub proposal : l.proposal ≡ not_yet
  pub first : l.first ≡ not_yet
  pub echoed : (w : ℕ) → Echoed l w → ⊥
  pub second_proposal_lem : l.second_proposal ≡ not_yet
  pub result : l.result ≡ not_yet
  pub told : T (not l.told_centre)

-- ---- a record later

-- what is there in the record l is so in m
pub record Grows (l m : Level) : Type 0 where
  pub entered : T l.entered → T m.entered × (m.side ≡ l.side) × (m.position ≡ l.position)
  pub echoed_port_lem : T l.echoed_port → T m.echoed_port
  pub echoed_none_lem : T l.echoed_none → T m.echoed_none
  pub proposal : Present l.proposal → m.proposal ≡ l.proposal
  pub first : Present l.first → m.first ≡ l.first
  pub echoed : (w : ℕ) → Echoed l w → Echoed m w
  pub second_proposal_lem : Present l.second_proposal → m.second_proposal ≡ l.second_proposal
  pub result : Present l.result → (m.result ≡ l.result) × (m.sure ≡ l.sure)
  pub told : T l.told_centre → T m.told_centre
  pub output : Answered l → m.output ≡ l.output
  pub heard : (b : Body) (s : ℕ) → T (is_in (senders l b) s) → T (is_in (senders m b) s)
