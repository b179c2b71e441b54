-- The status for a command line that can't be read: this project's own.
use Rattle.std.specs.declared.io.ErrorKind.{ErrorKind}
use Rattle.std.specs.declared.io.ErrorKind.TheVariants as kinds
use Rattle.lr_outside.specs.declared.status.Status.{Status}
use Rattle.lr_outside.specs.declared.status.Status.TheVariants.{Usage, NoMemory}

-- want of memory, and else a fault of the command line
abbrev pub unread_status : ErrorKind → Status
unread_status kinds.OutOfMemory = NoMemory
unread_status _ = Usage
