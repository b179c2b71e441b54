-- Tables of words: what a word stands for is found by a search of the list of all that have one.
use Rattle.std.specs.Prelude.{ℕ, List, Option, find}
use Rattle.std.specs.Str.{bytes_eq}

-- the first of these that has this word
abbrev pub with_word : {T : Type 0} → (T → List ℕ) → List T → List ℕ → Option T
with_word word_of all word = find (λ t. bytes_eq (word_of t) word) all
