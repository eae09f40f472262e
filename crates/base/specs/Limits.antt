-- Document 01, "Words and sizes", "Plans", "The fourteen rules": the limits, each named once; those that follow from others are computed.
use Rattle.std.specs.Prelude.{ℕ, ◌+◌, ◌-◌, ◌*◌}

-- "An agreement number (0 to 4,294,967,295)", and groups "at most 4,294,967,295"
abbrev pub max_number : ℕ
max_number = 4294967295

-- "n 1 to 16", and "sender (0 to 15)" of a taken message's record
abbrev pub max_boards : ℕ
max_boards = 16

abbrev pub max_sender : ℕ
max_sender = max_boards - 1

-- "vertex count V (1 to 255)", and the rows of such a tree
abbrev pub max_vertices : ℕ
max_vertices = 255

abbrev pub max_rows : ℕ
max_rows = max_vertices - 1

-- "d at most 15": the most edges at a vertex
abbrev pub max_degree : ℕ
max_degree = 15

-- "16 = none": a value that is no side and not the centre
abbrev pub none_value : ℕ
none_value = max_degree + 1

-- "the width, high minus low (0 to 65,535)"
abbrev pub max_width : ℕ
max_width = 65535

-- offset binary: a signed reading z is kept as z + 2^31, so that 0 stands here
abbrev pub offset_zero : ℕ
offset_zero = 2147483648

-- "High is at most 2,147,483,647", in offset binary
abbrev pub max_reading : ℕ
max_reading = offset_zero + (offset_zero - 1)

-- "position (0 to 65,535)" of a start's record: those of the widest range
abbrev pub max_position : ℕ
max_position = max_width

-- "At most 15 levels send messages, 0 to 14"; "a last level of 1 or 2 positions, at most level 15, sends nothing"
abbrev pub sending_levels : ℕ
sending_levels = 15

abbrev pub last_level : ℕ
last_level = sending_levels - 1

abbrev pub level_count : ℕ
level_count = sending_levels + 1

-- at one level: the most rules, and the most messages, whoever is faulty
abbrev pub level_rules : ℕ
level_rules = 26

abbrev pub level_messages_worst : ℕ
level_messages_worst = 22

-- "With at most t faulty boards, a sound board makes at most 7 different messages .. at each level" (document 02, Q-7)
abbrev pub level_messages : ℕ
level_messages = 7

-- the bytes of a message at most
abbrev pub message_size : ℕ
message_size = 8

-- "over all starts and takes from set-up .. that is at most 390"
abbrev pub max_rules : ℕ
max_rules = sending_levels * level_rules

-- "2,640 bytes (15 × 22 × 8)"
abbrev pub outgoing_size : ℕ
outgoing_size = sending_levels * level_messages_worst * message_size
