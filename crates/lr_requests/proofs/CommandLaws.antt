-- The words of the commands: each is found by its word, and no word is that of two.
use Rattle.std.proofs.Common.{◌≡◌, ◌≢◌, ℕ, List, None, is_some, refl, ap}
use Rattle.lr_text.proofs.WordTableLaws.{IsWordTable, with_word-none, word_of-injective}
use Rattle.lr_text.specs.WordTable.{with_word}
use Rattle.lr_requests.specs.Case.{lower}
use Rattle.lr_requests.specs.Command.{command_word, write_word}
use Rattle.lr_requests.specs.declared.command.Command.{Command}
use Rattle.lr_requests.specs.declared.command.Command.TheVariants as commands
use Rattle.lr_requests.specs.declared.command.TheConstants.Command.{ALL}
use Rattle.lr_requests.specs.declared.look_command.LookCommand.TheVariants as looks
use Rattle.lr_requests.specs.declared.look_command.KeyCommand.TheVariants as keys
use Rattle.lr_requests.specs.declared.look_command.ItemCommand.TheVariants as items
use Rattle.lr_requests.specs.declared.look_command.RangeCommand.TheVariants as ranges
use Rattle.lr_requests.specs.declared.write_command.WriteCommand.{WriteCommand}
use Rattle.lr_requests.specs.declared.write_command.WriteCommand.TheVariants as writes
use Rattle.lr_requests.specs.declared.write_command.TheConstants.WriteCommand as write_constants

-- a command is found by its word in small letters
abbrev pub small_word : Command → List ℕ
small_word command = lower (command_word command)

pub IsWordTable-small_word : IsWordTable small_word ALL
IsWordTable-small_word (commands.Look (looks.OfKey keys.Exists)) = refl
IsWordTable-small_word (commands.Look (looks.OfItem items.HashGet)) = refl
IsWordTable-small_word (commands.Look (looks.OfRange ranges.ListRange)) = refl
IsWordTable-small_word _ = refl

-- and so is one that writes
abbrev pub small_write_word : WriteCommand → List ℕ
small_write_word command = lower (write_word command)

pub IsWordTable-small_write_word : IsWordTable small_write_word write_constants.ALL
IsWordTable-small_write_word writes.Set = refl
IsWordTable-small_write_word _ = refl

-- two commands with one word are one
pub small_word-injective : (a b : Command) → small_word a ≡ small_word b → a ≡ b
small_word-injective = word_of-injective small_word ALL IsWordTable-small_word

-- no command that writes has the word of another
abbrev NoCommandOf : WriteCommand → Type 0
NoCommandOf command = with_word small_word ALL (small_write_word command) ≡ None

no_command_of : (command : WriteCommand) → NoCommandOf command
no_command_of writes.Set = refl
no_command_of _ = refl

pub small_word-apart : (write : WriteCommand) (command : Command)
    → small_write_word write ≢ small_word command
small_word-apart write command same =
    with_word-none small_word ALL IsWordTable-small_word (small_write_word write)
    (ap is_some (no_command_of write)) command same
