-- What contracts see of the clients of a schedule, and the clients of the definitions that they are.
use Rattle.std.specs.Prelude.{ℕ, zero, suc, List, Option, Some, None, get_or, slice_get}
use Rattle.std.specs.Map.{lookup}
use Rattle.lr_objects.specs.declared.reply.Reply.{Reply}
use Rattle.lr_waiting.specs.declared.watch.WatchKey.{WatchKey}
use Rattle.lr_waiting.specs.Client.{Client}
use Rattle.lr_waiting.specs.Watchdog.{same_watch}
use Rattle.lr_machine.specs.World.{first_client}
use Rattle.lr_session.specs.Value.{SessionValue, session_of}

-- the replies to renewals by the holds that they are of, and how many more fit without memory
pub record RenewedValue : Type 0 where
  pub rows : List (WatchKey × Reply)
  pub room : ℕ

-- a client: its core, a place for the reply to each of its threads, and the replies to its renewals
pub record ClientValue : Type 0 where
  pub session : SessionValue
  pub replies : List (Option Reply)
  pub renewed : RenewedValue

-- the reply that waits for a thread: the first place is that of thread 1
abbrev pub replies_of : List (Option Reply) → ℕ → Option Reply
replies_of places zero = None
replies_of places (suc place) = get_or places place None

-- the reply that waits for the renewal of a hold
abbrev pub renewed_of : RenewedValue → WatchKey → Option Reply
renewed_of value key = lookup (same_watch key) value.rows

-- the client that it is
abbrev pub client_of : ClientValue → Client
client_of value = record {
  session = session_of value.session;
  replies = replies_of value.replies;
  renewed = renewed_of value.renewed;
}

-- where there is no such client, it is as it was at first
abbrev pub client_or : Client → Option ClientValue → Client
client_or first None = first
client_or first (Some value) = client_of value

-- the clients by their numbers: the first place is that of client 1
abbrev pub clients_of : List ClientValue → ℕ → Client
clients_of rows zero = first_client 0
clients_of rows (suc place) = client_or (first_client (suc place)) (slice_get rows place)

-- for how many tickets a client has room
abbrev pub room_with : Option ClientValue → ℕ
room_with None = 0
room_with (Some value) = value.session.room

abbrev pub room_at : List ClientValue → ℕ → ℕ
room_at rows zero = 0
room_at rows (suc place) = room_with (slice_get rows place)

-- and for how many more replies to renewals
abbrev pub renewed_room_with : Option ClientValue → ℕ
renewed_room_with None = 0
renewed_room_with (Some value) = value.renewed.room

abbrev pub renewed_room_at : List ClientValue → ℕ → ℕ
renewed_room_at rows zero = 0
renewed_room_at rows (suc place) = renewed_room_with (slice_get rows place)
