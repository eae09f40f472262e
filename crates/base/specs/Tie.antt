-- How the code's limits stand for the definitions'.
use Rattle.base.specs.Limits.{max_number, max_boards, max_sender, max_vertices, max_rows, max_degree, none_value, max_width, offset_zero, max_reading, max_position, sending_levels, last_level, level_count, message_size}
use Rattle.base.specs.declared.Limits as Code

-- the limits that the code has by name
abbrev pub limits : Code.Limits
limits = record {
  number = max_number;
  boards = max_boards;
  sender = max_sender;
  vertices = max_vertices;
  rows = max_rows;
  degree = max_degree;
  none = none_value;
  width = max_width;
  offset_zero = offset_zero;
  reading = max_reading;
  position = max_position;
  sending_levels = sending_levels;
  last_level = last_level;
  levels = level_count;
  message_size = message_size;
}
