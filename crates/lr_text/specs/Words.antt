-- Words of a line: what stands between single spaces. This project's own rule.
use Rattle.std.specs.Prelude.{ℕ, ◌==◌, List, [], Bool, not, if◌then◌else◌}
use Rattle.std.specs.List.{list_all, slice_split, join_with_byte}

-- whether no byte of a text is this one
abbrev pub lacks : ℕ → List ℕ → Bool
lacks byte text = list_all (λ b. not (b == byte)) text

-- the pieces between spaces: an empty piece is a word too, and the empty line has one
abbrev pub words_of : List ℕ → List (List ℕ)
words_of line = slice_split (λ b. b == 32) line

-- the line of these words, with one space between two of them
abbrev pub joined : List (List ℕ) → List ℕ
joined words = join_with_byte 32 words

-- whether each of these is a word, with no space in it
abbrev pub are_words : List (List ℕ) → Bool
are_words words = list_all (lacks 32) words

-- the words that are left: none once the last has been given
abbrev pub words_left : Bool → List ℕ → List (List ℕ)
words_left over line = if over then [] else words_of line
