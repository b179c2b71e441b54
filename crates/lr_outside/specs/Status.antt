-- The exit status of each end of a run: this project's own numbers, with 0 for success as
-- everywhere and 1 left to the runtime.
use Rattle.std.specs.Prelude.{ℕ}
use Rattle.lr_outside.specs.declared.status.Status.{Status}
use Rattle.lr_outside.specs.declared.status.Status.TheVariants.{Done, Usage, ReadFault, WriteFault, BadLine, NoMemory, TooMany, Wrong, Closed}

abbrev pub number_of : Status → ℕ
number_of Done = 0
number_of Usage = 2
number_of ReadFault = 3
number_of WriteFault = 4
number_of (BadLine _) = 5
number_of NoMemory = 6
number_of (TooMany _) = 7
number_of (Wrong _) = 8
number_of Closed = 9
