-- Requests as lists of words: the Redis protocol page has a client send a command as an array of
-- bulk strings.
use Rattle.std.specs.Prelude.{ℕ, ◌<◌, ◌≤◌, ◌^◌, Bool, true, false, List, [], length, get_or, map}
use Rattle.std.specs.List.{AllByRecursion}
use Rattle.lr_resp.specs.declared.frame.Frame.{Frame}
use Rattle.lr_resp.specs.declared.frame.Frame.TheVariants.{Bulk, Array}
use Rattle.lr_resp.specs.Limits.{bulk_limit, item_limit}
use Rattle.lr_resp.specs.Spelling.{spelling}

-- the bytes of a word: it is a bulk string
abbrev pub bulk_word : List ℕ → List ℕ
bulk_word text = spelling (Bulk text)

-- the frame of these words; contracts see an array as the list of the spellings of its items
abbrev pub words_frame : List (List ℕ) → Frame
words_frame texts = Array (map bulk_word texts)

-- words that a frame which is read can have: as many and as long as the limits for reading allow
abbrev pub AreShort : List (List ℕ) → Type 0
AreShort texts =
    (length texts ≤ item_limit) × AllByRecursion (λ text. length text ≤ bulk_limit) texts

-- words that memory can hold
abbrev pub AreHeld : List (List ℕ) → Type 0
AreHeld texts = AllByRecursion (λ text. length text < 2 ^ 64) texts

-- the word at a place, counted from 0: no bytes where there is none
abbrev pub word_at : List (List ℕ) → ℕ → List ℕ
word_at texts place = get_or texts place []

-- whether a frame is a bulk string
abbrev pub is_bulk : Frame → Bool
is_bulk (Bulk text) = true
is_bulk _ = false

-- the word that a frame is
abbrev pub bulk_text : Frame → List ℕ
bulk_text (Bulk text) = text
bulk_text _ = []
