-- The limits of frames, each as a number: this project's own.
use Rattle.std.specs.Prelude.{ℕ}

-- bytes of a line of text, without its CR and LF
abbrev pub line_limit : ℕ
line_limit = 512

-- bytes of a bulk string
abbrev pub bulk_limit : ℕ
bulk_limit = 65536

-- items of an array that is read
abbrev pub item_limit : ℕ
item_limit = 64

-- arrays inside one another
abbrev pub depth_limit : ℕ
depth_limit = 4

-- bytes of a frame that is read
abbrev pub frame_limit : ℕ
frame_limit = 1048576

-- items of an array that is written
abbrev pub written_item_limit : ℕ
written_item_limit = 131072

-- bytes of a frame that is written
abbrev pub written_frame_limit : ℕ
written_frame_limit = 8388608

-- the least and the greatest number of 64 bits, without their signs
abbrev pub least_number : ℕ
least_number = 9223372036854775808

abbrev pub greatest_number : ℕ
greatest_number = 9223372036854775807
