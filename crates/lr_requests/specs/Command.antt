-- The commands, each with its word and its number of arguments: the Redis command pages. The choice
-- of them, and that EXISTS takes one key alone, is this project's own.
use Rattle.std.specs.Prelude.{◌≡◌, ◌≤◌, ℕ, List, codes}
use Rattle.lr_requests.specs.Case.{IsSameWord}
use Rattle.lr_requests.specs.declared.arity.Arity.{Arity}
use Rattle.lr_requests.specs.declared.arity.Arity.TheVariants.{Exactly, AtLeast, AtMost}
use Rattle.lr_requests.specs.declared.command.Command.{Command}
use Rattle.lr_requests.specs.declared.command.Command.TheVariants.{Call, Look, Subscribe, Unsubscribe, Ping, Quit}
use Rattle.lr_requests.specs.declared.look_command.LookCommand.{LookCommand}
use Rattle.lr_requests.specs.declared.look_command.LookCommand.TheVariants.{OfKey, OfItem, OfRange}
use Rattle.lr_requests.specs.declared.look_command.KeyCommand.{KeyCommand}
use Rattle.lr_requests.specs.declared.look_command.KeyCommand.TheVariants as keys
use Rattle.lr_requests.specs.declared.look_command.ItemCommand.{ItemCommand}
use Rattle.lr_requests.specs.declared.look_command.ItemCommand.TheVariants as items
use Rattle.lr_requests.specs.declared.look_command.RangeCommand.{RangeCommand}
use Rattle.lr_requests.specs.declared.look_command.RangeCommand.TheVariants as ranges
use Rattle.lr_requests.specs.declared.write_command.WriteCommand.{WriteCommand}
use Rattle.lr_requests.specs.declared.write_command.WriteCommand.TheVariants as writes

-- looks at a key
abbrev pub key_word : KeyCommand → List ℕ
key_word keys.Exists = codes "EXISTS"
key_word keys.Type = codes "TYPE"
key_word keys.TimeLeft = codes "PTTL"
key_word keys.Get = codes "GET"
key_word keys.HashGetAll = codes "HGETALL"
key_word keys.ListLength = codes "LLEN"
key_word keys.SortedCount = codes "ZCARD"

-- looks at a field or a member of a key
abbrev pub item_word : ItemCommand → List ℕ
item_word items.HashGet = codes "HGET"
item_word items.HashExists = codes "HEXISTS"
item_word items.SortedScore = codes "ZSCORE"

-- looks at a range of places of a key
abbrev pub range_word : RangeCommand → List ℕ
range_word ranges.ListRange = codes "LRANGE"
range_word ranges.SortedRange = codes "ZRANGE"

abbrev pub look_word : LookCommand → List ℕ
look_word (OfKey command) = key_word command
look_word (OfItem command) = item_word command
look_word (OfRange command) = range_word command

abbrev pub command_word : Command → List ℕ
command_word Call = codes "FCALL"
command_word (Look command) = look_word command
command_word Subscribe = codes "SUBSCRIBE"
command_word Unsubscribe = codes "UNSUBSCRIBE"
command_word Ping = codes "PING"
command_word Quit = codes "QUIT"

-- commands of Redis that write, none of which a connection may use here: only functions write
abbrev pub write_word : WriteCommand → List ℕ
write_word writes.Set = codes "SET"
write_word writes.Delete = codes "DEL"
write_word writes.HashSet = codes "HSET"
write_word writes.HashDelete = codes "HDEL"
write_word writes.HashIncrement = codes "HINCRBY"
write_word writes.ListPushFront = codes "LPUSH"
write_word writes.ListPushBack = codes "RPUSH"
write_word writes.ListRemove = codes "LREM"
write_word writes.SortedAdd = codes "ZADD"
write_word writes.SortedRemove = codes "ZREM"
write_word writes.Increment = codes "INCR"
write_word writes.IncrementBy = codes "INCRBY"
write_word writes.Decrement = codes "DECR"
write_word writes.Expire = codes "EXPIRE"
write_word writes.ExpireMillis = codes "PEXPIRE"
write_word writes.Persist = codes "PERSIST"
write_word writes.Publish = codes "PUBLISH"

-- this is a command's word, or that of a command that writes
abbrev pub IsWordOf : Command → List ℕ → Type 0
IsWordOf command word = IsSameWord word (command_word command)

abbrev pub IsWriteWordOf : WriteCommand → List ℕ → Type 0
IsWriteWordOf command word = IsSameWord word (write_word command)

-- how many arguments a look has: a key; a key with a field or a member; a key with two places
abbrev pub look_arity : LookCommand → Arity
look_arity (OfKey command) = Exactly 1
look_arity (OfItem command) = Exactly 2
look_arity (OfRange command) = Exactly 3

-- how many arguments a command has; FCALL has a function, a count of keys, and what these ask for
abbrev pub arity_of : Command → Arity
arity_of Call = AtLeast 2
arity_of (Look command) = look_arity command
arity_of Subscribe = AtLeast 1
arity_of Unsubscribe = AtLeast 0
arity_of Ping = AtMost 1
arity_of Quit = Exactly 0

-- a number of arguments that fits
abbrev pub Allows : Arity → ℕ → Type 0
Allows (Exactly count) number = number ≡ count
Allows (AtLeast count) number = count ≤ number
Allows (AtMost count) number = number ≤ count
