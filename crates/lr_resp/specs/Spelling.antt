-- The bytes of a frame: the RESP2 page of the Redis protocol, in a profile in which each number has
-- one spelling.
use Rattle.std.specs.Prelude.{ℕ, List, [], ◌∷◌, ◌++◌, length, decimal}
use Rattle.std.specs.Fmt.{signed_decimal}
use Rattle.std.specs.List.{concat}
use Rattle.lr_resp.specs.declared.frame.Frame.{Frame}
use Rattle.lr_resp.specs.declared.frame.Frame.TheVariants.{Simple, Fault, Number, Bulk, Null, NullArray, Array}

-- CR and LF
abbrev pub line_end : List ℕ
line_end = 13 ∷ 10 ∷ []

-- a frame's bytes; an array is seen as the list of the spellings of its items
abbrev pub spelling : Frame → List ℕ
spelling (Simple text) = 43 ∷ text ++ line_end
spelling (Fault text) = 45 ∷ text ++ line_end
spelling (Number n) = 58 ∷ signed_decimal n ++ line_end
spelling (Bulk text) = 36 ∷ decimal (length text) ++ (line_end ++ (text ++ line_end))
spelling Null = 36 ∷ 45 ∷ 49 ∷ line_end
spelling NullArray = 42 ∷ 45 ∷ 49 ∷ line_end
spelling (Array items) = 42 ∷ decimal (length items) ++ (line_end ++ concat items)
