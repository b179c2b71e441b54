-- What the arguments of a look ask for: the Redis command pages.
use Rattle.std.specs.Prelude.{◌≡◌, ℕ, ℤ, List, [], ◌∷◌}
use Rattle.std.specs.Fmt.{signed_decimal}
use Rattle.lr_commands.specs.declared.look.Look.{Look}
use Rattle.lr_commands.specs.declared.look.Look.TheVariants as looks
use Rattle.lr_requests.specs.Places.{IsPlace}
use Rattle.lr_requests.specs.declared.look_command.LookCommand.{LookCommand}
use Rattle.lr_requests.specs.declared.look_command.LookCommand.TheVariants.{OfKey, OfItem, OfRange}
use Rattle.lr_requests.specs.declared.look_command.KeyCommand.{KeyCommand}
use Rattle.lr_requests.specs.declared.look_command.KeyCommand.TheVariants as keys
use Rattle.lr_requests.specs.declared.look_command.ItemCommand.{ItemCommand}
use Rattle.lr_requests.specs.declared.look_command.ItemCommand.TheVariants as items
use Rattle.lr_requests.specs.declared.look_command.RangeCommand.{RangeCommand}
use Rattle.lr_requests.specs.declared.look_command.RangeCommand.TheVariants as ranges

-- a look at a key
abbrev pub key_look : KeyCommand → List ℕ → Look
key_look keys.Exists key = looks.Exists key
key_look keys.Type key = looks.Type key
key_look keys.TimeLeft key = looks.TimeLeft key
key_look keys.Get key = looks.Get key
key_look keys.HashGetAll key = looks.HashGetAll key
key_look keys.ListLength key = looks.ListLength key
key_look keys.SortedCount key = looks.SortedCount key

-- at a field or a member of it
abbrev pub item_look : ItemCommand → List ℕ → List ℕ → Look
item_look items.HashGet key field = looks.HashGet key field
item_look items.HashExists key field = looks.HashExists key field
item_look items.SortedScore key member = looks.SortedScore key member

-- at a range of its places
abbrev pub range_look : RangeCommand → List ℕ → ℤ → ℤ → Look
range_look ranges.ListRange key start stop = looks.ListRange key start stop
range_look ranges.SortedRange key start stop = looks.SortedRange key start stop

-- the arguments of a command ask for this look
abbrev pub AsksLook : LookCommand → List (List ℕ) → Look → Type 0
AsksLook (OfKey command) arguments look =
    (key : List ℕ) × (arguments ≡ key ∷ []) × (look ≡ key_look command key)
AsksLook (OfItem command) arguments look = (key : List ℕ) × (item : List ℕ)
    × (arguments ≡ key ∷ item ∷ []) × (look ≡ item_look command key item)
AsksLook (OfRange command) arguments look =
    (key : List ℕ) × (start : ℤ) × (stop : ℤ) × IsPlace start × IsPlace stop
    × (arguments ≡ key ∷ signed_decimal start ∷ signed_decimal stop ∷ [])
    × (look ≡ range_look command key start stop)
