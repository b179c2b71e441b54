-- The words of a call. `FCALL function numkeys key arg ..` is that of the Redis command page, and
-- the name of the object is its one key.
use Rattle.std.specs.Prelude.{◌≡◌, ℕ, ◌<◌, ◌^◌, List, ◌∷◌, codes}
use Rattle.lr_objects.specs.declared.kinds.Function.{Function}
use Rattle.lr_objects.specs.declared.op.Op.{Op}
use Rattle.lr_objects.specs.Function.{function_word}
use Rattle.lr_objects.specs.Op.{IsCall}
use Rattle.lr_frames.specs.declared.given.Given.{Given}
use Rattle.lr_frames.specs.Given.{given_words}
use Rattle.lr_frames.specs.Said.{call_said}
use Rattle.lr_frames.specs.Shape.{shape_of}

-- the function of a call
abbrev pub op_function : Op → Function
op_function op = (call_said op.call).function

-- what it is given
abbrev pub op_given : Op → Given
op_given op = (call_said op.call).given

-- the words behind the count of keys: the name of the object, and what the function is given
abbrev pub op_words : Op → List (List ℕ)
op_words op = op.name ∷ given_words (shape_of (op_function op)) (op_given op)

-- how many keys a call has
abbrev pub key_count : List ℕ
key_count = codes "1"

-- the words behind the command
abbrev pub fcall_words : Op → List (List ℕ)
fcall_words op = function_word (op_function op) ∷ key_count ∷ op_words op

-- all words of a call
abbrev pub call_words : Op → List (List ℕ)
call_words op = codes "FCALL" ∷ fcall_words op

-- a call as the program makes it: what it names is spelled, and its lease is a number of 64 bits
abbrev pub IsSaid : Op → Type 0
IsSaid op = IsCall op × ((op_given op).lease < 2 ^ 64)

-- these are the word of the function of a call, and its words behind the count of keys
abbrev pub IsOpOf : Op → List ℕ → List (List ℕ) → Type 0
IsOpOf op word words = (word ≡ function_word (op_function op)) × (words ≡ op_words op)
