-- The grammar of RESP2 with its limits: which frames there are, and which bytes spell them.
use Rattle.std.specs.Prelude.{◌≡◌, ℕ, suc, zero, ◌≤◌, ◌==◌, ◌&&◌, not, Bool, List, length, IsTrue}
use Rattle.std.specs.List.{list_all, AllByRecursion}
use Rattle.std.specs.Int.RustNames.{FitsSigned}
use Rattle.std.specs.Int.{w64}
use Rattle.lr_resp.specs.declared.frame.Frame.{Frame}
use Rattle.lr_resp.specs.declared.frame.Frame.TheVariants.{Simple, Fault, Number, Bulk, Null, NullArray, Array}
use Rattle.lr_resp.specs.Limits.{line_limit, bulk_limit, item_limit, depth_limit, frame_limit, written_item_limit, written_frame_limit}
use Rattle.lr_resp.specs.Spelling.{spelling}

-- neither CR nor LF
abbrev pub is_line_byte : ℕ → Bool
is_line_byte byte = not (byte == 13) && not (byte == 10)

-- a line of text
abbrev pub IsLine : List ℕ → Type 0
IsLine text = (length text ≤ line_limit) × IsTrue (list_all is_line_byte text)

-- a frame whose arrays have at most so many items, and stand at most so deep in one another
abbrev pub Fits : ℕ → ℕ → Frame → Type 0
Fits most depth (Simple text) = IsLine text
Fits most depth (Fault text) = IsLine text
Fits most depth (Number n) = FitsSigned w64 n
Fits most depth (Bulk text) = length text ≤ bulk_limit
Fits most depth Null = Unit {0}
Fits most zero NullArray = ⊥
Fits most (suc depth) NullArray = Unit {0}
Fits most zero (Array items) = ⊥
Fits most (suc depth) (Array items) = (length items ≤ most)
    × AllByRecursion (λ bytes. (frame : Frame) × Fits most depth frame × (bytes ≡ spelling frame))
    items

-- within the limits for reading, but perhaps for its size
abbrev pub IsReadable : Frame → Type 0
IsReadable frame = Fits item_limit depth_limit frame

-- these bytes spell this frame, which is within the limits for reading
abbrev pub Spells : List ℕ → Frame → Type 0
Spells bytes frame =
    IsReadable frame × (bytes ≡ spelling frame) × (length bytes ≤ frame_limit)

-- the same with the limits for writing
abbrev pub SpellsWritten : List ℕ → Frame → Type 0
SpellsWritten bytes frame = Fits written_item_limit depth_limit frame
    × (bytes ≡ spelling frame) × (length bytes ≤ written_frame_limit)
