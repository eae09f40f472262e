-- What the functions of this crate and those above it ask and read.
use Rattle.std.specs.Prelude.{false, [], ◌≤◌, ◌<◌}
use Rattle.base.specs.Limits.{max_boards, max_degree}
use Rattle.level.specs.Level.{Level, not_yet}
use Rattle.level.specs.declared.Context.{Context}
use Rattle.level.specs.declared.Level as Code

-- what the code asks of a level and its context: a record that passes question 19 has it
pub record InLimits (c : Context) (l : Level) : Type 0 where
  pub degree : c.degree ≤ max_degree
  pub faults : c.t < c.n
  pub boards : c.n ≤ max_boards
  pub first : l.first ≤ not_yet

-- what reading past the last level of an array gives
abbrev pub no_code_level : Code.Level
no_code_level = record {
  entered = false;
  side = 0;
  position = 0;
  echoed_port = false;
  echoed_none = false;
  proposal = 0;
  first = 0;
  echoed = [];
  second_proposal = 0;
  result = 0;
  sure = false;
  told_centre = false;
  output = 0;
}
