-- Answers of numbers, texts and lists of texts as frames (Redis protocol page, RESP2).
use Rattle.std.specs.Prelude.{ℕ, ℤ, Bool, List, Option, Some, None, map, decimal, pos, if◌then◌else◌}
use Rattle.std.specs.Fmt.{signed_decimal}
use Rattle.lr_resp.specs.declared.frame.Frame.{Frame}
use Rattle.lr_resp.specs.declared.frame.Frame.TheVariants.{Number, Bulk, Null, Array}
use Rattle.lr_resp.specs.Spelling.{spelling}

-- a bulk string for each text
abbrev pub bulk_list : List (List ℕ) → List Frame
bulk_list texts = map (λ text. Bulk text) texts

-- an array of bulk strings
abbrev pub bulks_frame : List (List ℕ) → Frame
bulks_frame texts = Array (map spelling (bulk_list texts))

-- a signed number in decimal as a bulk string, and null for none
abbrev pub signed_frame : Option ℤ → Frame
signed_frame (Some n) = Bulk (signed_decimal n)
signed_frame None = Null

-- a number in decimal as a bulk string, and null for none
abbrev pub decimal_frame : Option ℕ → Frame
decimal_frame (Some n) = Bulk (decimal n)
decimal_frame None = Null

-- how many there are
abbrev pub count_frame : ℕ → Frame
count_frame n = Number (pos n)

-- 1 for yes and 0 for no
abbrev pub flag_frame : Bool → Frame
flag_frame flag = if flag then count_frame 1 else count_frame 0
