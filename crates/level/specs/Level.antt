-- A level's record: the sets of senders, and how each field changes.
use Rattle.std.specs.Prelude.{Bool, true, false, List, [], ℕ, ◌+◌, get_or, set, replicate}
use Rattle.base.specs.Limits.{max_position}
use Rattle.message.specs.declared.Body.{Body}
use Rattle.senders.specs.Senders.{is_in, with_sender}
pub use Rattle.level_counts.specs.Places.{not_yet, value_count, slot_count}
unfoldable pub use Rattle.level_counts.specs.Places.{slot}

-- a level's record in the definitions' own words; the code's stands for it by `as_level` (Tie.antt)
pub record Level : Type 0 where
  -- the senders of each message of this level, by its slot
  pub sets : List ℕ
  -- has the board entered the level, by which side of the level above (0 at level 0), and at which position?
  pub entered : Bool
  pub side : ℕ
  pub position : ℕ
  -- first echoes made: of the port, of none
  pub echoed_port : Bool
  pub echoed_none : Bool
  -- the first proposal made, or not_yet
  pub proposal : ℕ
  -- the first result, none, or not_yet
  pub first : ℕ
  -- second echoes made, by value
  pub echoed : List Bool
  -- the second proposal made, or not_yet
  pub second_proposal : ℕ
  -- the (second) result's value, none, or not_yet; a value's grade is 2 if sure, else 1
  pub result : ℕ
  pub sure : Bool
  -- has rule 11 been applied?
  pub told_centre : Bool
  -- the output, or no_output
  pub output : ℕ

-- an output that is not there yet: one more than the largest position
abbrev pub no_output : ℕ
no_output = max_position + 1

-- the senders of a message
unfoldable pub senders : Level → Body → ℕ
senders l b = get_or l.sets (slot b) 0

-- the message was taken from s already
unfoldable pub held : Level → Body → ℕ → Bool
held l b s = is_in (senders l b) s

-- a level that was not entered, with these sets of senders and second echoes, with v for a value and x for an output that is not there
abbrev pub not_entered : List ℕ → List Bool → ℕ → ℕ → Level
not_entered heard ws v x = record {
  sets = heard;
  entered = false;
  side = 0;
  position = 0;
  echoed_port = false;
  echoed_none = false;
  proposal = v;
  first = v;
  echoed = ws;
  second_proposal = v;
  result = v;
  sure = false;
  told_centre = false;
  output = x;
}

-- a level that was not entered and at which nothing was heard
abbrev pub blank_level : Level
blank_level = not_entered (replicate slot_count 0) (replicate value_count false) not_yet no_output

-- what reading past the last level gives
abbrev pub no_level : Level
no_level = not_entered [] [] 0 0

-- ---- the record with fields changed: what was heard and where it was entered; what was made; what resulted

abbrev pub placed : Level → List ℕ → Bool → ℕ → ℕ → Level
placed l sets' entered' k x = record {
  sets = sets';
  entered = entered';
  side = k;
  position = x;
  echoed_port = l.echoed_port;
  echoed_none = l.echoed_none;
  proposal = l.proposal;
  first = l.first;
  echoed = l.echoed;
  second_proposal = l.second_proposal;
  result = l.result;
  sure = l.sure;
  told_centre = l.told_centre;
  output = l.output;
}

abbrev pub made : Level → Bool → Bool → ℕ → List Bool → ℕ → Bool → Level
made l port none' v ws w told = record {
  sets = l.sets;
  entered = l.entered;
  side = l.side;
  position = l.position;
  echoed_port = port;
  echoed_none = none';
  proposal = v;
  first = l.first;
  echoed = ws;
  second_proposal = w;
  result = l.result;
  sure = l.sure;
  told_centre = told;
  output = l.output;
}

abbrev pub resulted : Level → ℕ → ℕ → Bool → ℕ → Level
resulted l v w two x = record {
  sets = l.sets;
  entered = l.entered;
  side = l.side;
  position = l.position;
  echoed_port = l.echoed_port;
  echoed_none = l.echoed_none;
  proposal = l.proposal;
  first = v;
  echoed = l.echoed;
  second_proposal = l.second_proposal;
  result = w;
  sure = two;
  told_centre = l.told_centre;
  output = x;
}

-- ---- how the rules and the takes change it

-- a message taken from s
unfoldable pub with_heard : Level → Body → ℕ → Level
with_heard l b s = placed l (set l.sets (slot b) (with_sender (senders l b) s)) l.entered l.side l.position

-- first echoes of the port and of none
abbrev pub with_port_echo : Level → Level
with_port_echo l = made l true l.echoed_none l.proposal l.echoed l.second_proposal l.told_centre

abbrev pub with_none_echo : Level → Level
with_none_echo l = made l l.echoed_port true l.proposal l.echoed l.second_proposal l.told_centre

-- the first proposal and the first result
abbrev pub with_proposal : Level → ℕ → Level
with_proposal l v = made l l.echoed_port l.echoed_none v l.echoed l.second_proposal l.told_centre

abbrev pub with_first : Level → ℕ → Level
with_first l v = resulted l v l.result l.sure l.output

-- a second echo, the second proposal and the result
abbrev pub with_second_echo : Level → ℕ → Level
with_second_echo l w = made l l.echoed_port l.echoed_none l.proposal (set l.echoed w true) l.second_proposal l.told_centre

abbrev pub with_second_proposal : Level → ℕ → Level
with_second_proposal l w = made l l.echoed_port l.echoed_none l.proposal l.echoed w l.told_centre

abbrev pub with_result : Level → ℕ → Bool → Level
with_result l w two = resulted l l.first w two l.output

-- the output; the output with the centre told; the entry, which may be an output too
abbrev pub with_output : Level → ℕ → Level
with_output l x = resulted l l.first l.result l.sure x

abbrev pub with_centre_told : Level → ℕ → Level
with_centre_told l x =
    made (with_output l x) l.echoed_port l.echoed_none l.proposal l.echoed l.second_proposal true

abbrev pub with_entry : Level → ℕ → ℕ → ℕ → Level
with_entry l k x out = placed (with_output l out) l.sets true k x
