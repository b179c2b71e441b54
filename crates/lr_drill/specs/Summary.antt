-- What is written of a race: its threads, its entries and those of each caller, in numbers.
use Rattle.std.specs.Prelude.{ℕ, zero, suc, List, [], ◌∷◌, ◌++◌, length, codes, decimal}
use Rattle.lr_model.specs.declared.entry.Entry.{Entry}
use Rattle.lr_turnstile.specs.Views.{entries_by}

-- a line that ends in a number
abbrev pub number_line : List ℕ → ℕ → List ℕ
number_line label number = label ++ decimal number ++ 10 ∷ []

-- how many entries a caller made
abbrev pub caller_line : List Entry → ℕ → List ℕ
caller_line history caller =
    codes "caller " ++ decimal caller ++ codes " "
    ++ decimal (length (entries_by caller history)) ++ 10 ∷ []

-- a line for each caller up to the last one
abbrev pub caller_lines : List Entry → ℕ → List ℕ
caller_lines history zero = []
caller_lines history (suc last) = caller_lines history last ++ caller_line history (suc last)

abbrev pub race_summary : ℕ → List Entry → List ℕ
race_summary threads history =
    number_line (codes "threads ") threads ++ number_line (codes "entries ") (length history)
    ++ caller_lines history threads
