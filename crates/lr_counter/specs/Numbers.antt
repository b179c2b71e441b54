-- The keys that hold a number and never expire, as Redis keeps a counter.
use Rattle.std.specs.Prelude.{◌≡◌, ◌≤◌, ◌==◌, ℕ, pos, List, Option, Some, None, option_map, if◌then◌else◌}
use Rattle.std.specs.Option.{ForSome}
use Rattle.lr_names.specs.Key.{key_text}
use Rattle.lr_names.specs.Name.{IsName}
use Rattle.lr_names.specs.declared.part.Part.{Part}
use Rattle.lr_keys.specs.KeySpace.{KeyEntry, Keys, Number, entry_at}

-- the entry of a number
abbrev pub number_entry : ℕ → KeyEntry
number_entry number = record { value = Number (pos number); expiry = None }

-- what a key holds whose number is this one: there is no key where there is no number
abbrev pub number_entry_of : Option ℕ → Option KeyEntry
number_entry_of number = option_map number_entry number

-- a key with this entry holds this number, of at most so much, or isn't there
pub record IsNumberAt (most : ℕ) (entry : Option KeyEntry) (number : Option ℕ) : Type 0 where
  pub stands : entry ≡ number_entry_of number
  pub within : ForSome number (λ n. n ≤ most)

-- The keys of a part stand for numbers by name: the key of each name holds its number.
pub record NumbersStand (part : Part) (most : ℕ) (keys : Keys) (numbers : List ℕ → Option ℕ)
    : Type 0 where
  pub at_keys : (name : List ℕ) → IsName name
      → entry_at keys (key_text part name) ≡ number_entry_of (numbers name)
  pub bounds : (name : List ℕ) (number : ℕ) → numbers name ≡ Some number → number ≤ most

-- a count as its key holds it: at 0 there is no key
abbrev pub some_unless_zero : ℕ → Option ℕ
some_unless_zero count = if count == 0 then None else Some count
