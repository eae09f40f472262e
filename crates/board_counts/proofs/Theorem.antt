-- A start by count is the start of the count's nearest step.
use mathlib.Core.Path.{ap, ◌∙◌}
use Rattle.base.specs.Found.{refused}
use Rattle.rounding.specs.Rounding.{size_passes}
use Rattle.plan.proofs.Answers.{ask_no}
use Rattle.board_calls.specs.Calls.{at_door}
use Rattle.board_calls.specs.Counts.{start_count_questions}
use Rattle.board_laws.proofs.Counts.{count_is_start, count_start}
use Rattle.board_laws.proofs.Questions.{door_yes}
use Rattle.board_counts.specs.Statement.{IsStart, OnlyThen, SizeFirst}

pub is_start_lem : IsStart
is_start_lem = count_is_start

pub only_then : OnlyThen
only_then p g c room used out e h = count_start p g c room used out h

pub size_first : SizeFirst
unfolding start_count_questions
size_first p g c room used out v o u s = ap (at_door p room used out) (ask_no (size_passes g) 25 0 _ s) ∙ door_yes p room used out (refused 25 0) v o u
