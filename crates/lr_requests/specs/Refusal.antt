-- Which words are no request, and why: this project's own. The faults are tested in this order, and
-- each is what it is only where none before it is.
use Rattle.std.specs.Prelude.{ℕ, List, length, codes}
use Rattle.lr_frames.specs.Faults.{IsCallFault}
use Rattle.lr_frames.specs.Words.{word_at}
use Rattle.lr_frames.specs.declared.fault.OpFault.{OpFault}
use Rattle.lr_frames.specs.declared.fault.OpFault.TheVariants as calls
use Rattle.lr_requests.specs.Channels.{AreChannelTexts}
use Rattle.lr_requests.specs.Command.{IsWordOf, IsWriteWordOf, arity_of, Allows}
use Rattle.lr_requests.specs.Places.{IsPlaceText}
use Rattle.lr_requests.specs.declared.command.Command.{Command}
use Rattle.lr_requests.specs.declared.command.Command.TheVariants.{Call, Look, Subscribe, Unsubscribe}
use Rattle.lr_requests.specs.declared.fault.CommandFault.{CommandFault}
use Rattle.lr_requests.specs.declared.fault.CommandFault.TheVariants.{NotARequest, NotWritable, UnknownCommand, WrongArguments, NotFunction, BadChannel, BadName, BadNumber, NoMemory}
use Rattle.lr_requests.specs.declared.look_command.LookCommand.{LookCommand}
use Rattle.lr_requests.specs.declared.look_command.LookCommand.TheVariants.{OfKey, OfItem, OfRange}
use Rattle.lr_requests.specs.declared.write_command.WriteCommand.{WriteCommand}

-- the text that a connection is answered; the one for want of memory is that of Redis' own kind
abbrev pub fault_text : CommandFault → List ℕ
fault_text NotARequest = codes "ERR not a request"
fault_text NotWritable = codes "ERR not writable here"
fault_text UnknownCommand = codes "ERR unknown command"
fault_text WrongArguments = codes "ERR wrong number of arguments"
fault_text NotFunction = codes "ERR Function not found"
fault_text BadChannel = codes "ERR bad channel"
fault_text BadName = codes "ERR bad name"
fault_text BadNumber = codes "ERR value is not an integer or out of range"
fault_text NoMemory = codes "ERR out of memory"

-- each argument of SUBSCRIBE and UNSUBSCRIBE is a channel
abbrev pub NamesChannels : Command → List (List ℕ) → Type 0
NamesChannels Subscribe arguments = AreChannelTexts arguments
NamesChannels Unsubscribe arguments = AreChannelTexts arguments
NamesChannels command arguments = Unit {0}

-- the two places of a range are numbers
abbrev pub LookHasPlaces : LookCommand → List (List ℕ) → Type 0
LookHasPlaces (OfKey command) arguments = Unit {0}
LookHasPlaces (OfItem command) arguments = Unit {0}
LookHasPlaces (OfRange command) arguments =
    IsPlaceText (word_at arguments 1) × IsPlaceText (word_at arguments 2)

abbrev pub HasPlaces : Command → List (List ℕ) → Type 0
HasPlaces (Look command) arguments = LookHasPlaces command arguments
HasPlaces command arguments = Unit {0}

-- the arguments of a command are as many as it has
abbrev pub Fits : Command → List (List ℕ) → Type 0
Fits command arguments = Allows (arity_of command) (length arguments)

-- the fault of FCALL for a fault of its call
abbrev pub call_fault : OpFault → CommandFault
call_fault calls.NotFunction = NotFunction
call_fault calls.WrongArguments = WrongArguments
call_fault calls.BadName = BadName
call_fault calls.BadNumber = BadNumber

-- what is wrong with the arguments of FCALL: what is wrong with the call
abbrev pub IsFcallFault : CommandFault → List (List ℕ) → Type 0
IsFcallFault WrongArguments arguments = IsCallFault calls.WrongArguments arguments
IsFcallFault NotFunction arguments = IsCallFault calls.NotFunction arguments
IsFcallFault BadName arguments = IsCallFault calls.BadName arguments
IsFcallFault BadNumber arguments = IsCallFault calls.BadNumber arguments
IsFcallFault NoMemory arguments = Unit {0}
IsFcallFault fault arguments = ⊥

-- with those of any other command
abbrev pub IsPlainFault : CommandFault → Command → List (List ℕ) → Type 0
IsPlainFault WrongArguments command arguments = ¬ (Fits command arguments)
IsPlainFault BadChannel command arguments =
    Fits command arguments × ¬ (NamesChannels command arguments)
IsPlainFault BadNumber command arguments =
    Fits command arguments × ¬ (HasPlaces command arguments)
IsPlainFault NoMemory command arguments = Unit {0}
IsPlainFault fault command arguments = ⊥

-- What is wrong with words that are to be channels, and with the arguments of a look, where their
-- number fits.
abbrev pub IsChannelsFault : CommandFault → List (List ℕ) → Type 0
IsChannelsFault BadChannel words = ¬ (AreChannelTexts words)
IsChannelsFault NoMemory words = Unit {0}
IsChannelsFault fault words = ⊥

abbrev pub IsLookFault : CommandFault → LookCommand → List (List ℕ) → Type 0
IsLookFault BadNumber command arguments = ¬ (LookHasPlaces command arguments)
IsLookFault NoMemory command arguments = Unit {0}
IsLookFault fault command arguments = ⊥

abbrev pub IsArgumentsFault : CommandFault → Command → List (List ℕ) → Type 0
IsArgumentsFault fault Call arguments = IsFcallFault fault arguments
IsArgumentsFault fault command arguments = IsPlainFault fault command arguments

-- what is wrong with the words of a request
abbrev pub IsWordsFault : CommandFault → List ℕ → List (List ℕ) → Type 0
IsWordsFault NotARequest word arguments = ⊥
IsWordsFault NotWritable word arguments =
    (command : WriteCommand) × IsWriteWordOf command word
IsWordsFault UnknownCommand word arguments =
    ((command : WriteCommand) → ¬ (IsWriteWordOf command word))
    × ((command : Command) → ¬ (IsWordOf command word))
IsWordsFault fault word arguments =
    (command : Command) × IsWordOf command word × IsArgumentsFault fault command arguments
