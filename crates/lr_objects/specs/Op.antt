-- Calls: on which object, of which kind, and where those who wait for it are told.
use Rattle.std.specs.Prelude.{ℕ, List, Option, Some, None}
use Rattle.lr_names.specs.Channel.{ChannelOf}
use Rattle.lr_names.specs.Name.{IsName}
use Rattle.lr_names.specs.Owner.{ThreadOfClient}
use Rattle.lr_names.specs.declared.kind.Kind.{Kind}
use Rattle.lr_objects.specs.declared.kinds.Call.{Call}
use Rattle.lr_objects.specs.declared.kinds.Call.TheVariants as calls
use Rattle.lr_objects.specs.declared.op.Op.{Op}
use Rattle.lr_objects.specs.FairCalls.{fair_owner}
use Rattle.lr_objects.specs.Kinds.{call_kind, IsCallOfKind}

-- a call on the object of this name
abbrev pub call_on : List ℕ → Call → Op
call_on name call = record { name = name; call = call }

-- the kind of the object that a call is about
abbrev pub kind_of : Op → Kind
kind_of op = call_kind op.call

-- its name
abbrev pub name_of : Op → List ℕ
name_of op = op.name

-- the owner whose place in a queue has a channel of its own: only a fair lock has a queue
abbrev pub queued_by : Call → Option ThreadOfClient
queued_by (calls.Fair call) = Some (fair_owner call)
queued_by _ = None

abbrev pub queue_owner : Op → Option ThreadOfClient
queue_owner op = queued_by op.call

-- the channel on which the one who made the call waits
abbrev pub channel_of : Op → ChannelOf
channel_of op = record { kind = kind_of op; name = name_of op; owner = queue_owner op }

-- a call as the program makes it: what it names, its owner, its number and its id are such
abbrev pub IsCall : Op → Type 0
IsCall op = IsName op.name × IsCallOfKind op.call
