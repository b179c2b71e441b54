-- Sets of numbers of connections: this project's own.
use Rattle.std.specs.Prelude.{ℕ, ◌/◌, ◌%◌, ◌==◌, Bool, slice_index}
use Rattle.std.specs.Int.{bit_at}
use Rattle.lr_pubsub.specs.declared.connection_set.ConnectionSet.{ConnectionSet}

-- whether a number is in a set: its bit is 1, counted from the lowest bit of the first word
unfoldable pub has_number : ConnectionSet → ℕ → Bool
has_number set number = bit_at (slice_index set.words (number / 64)) (number % 64) == 1
