-- The board: which connections are open, what they subscribe to, and what waits to be sent to them.
-- After PUBLISH and the arrays that a subscriber of Redis gets. Outboxes have a limit of this
-- project's own.
use Rattle.std.specs.Prelude.{ℕ, zero, suc, ◌==◌, nat_lt, List, [], ◌∷◌, ◌++◌, length, drop, filter, Bool, true, false, not, ◌&&◌, Option, Some, None, is_some, if◌then◌else◌}
use Rattle.std.specs.List.{list_any}
use Rattle.std.specs.Str.{bytes_eq}
use Rattle.lr_limits.specs.Limits.{connection_limit, outbox_limit}
use Rattle.lr_names.specs.Owner.{ThreadOfClient, same_owner}
use Rattle.lr_names.specs.Channel.{ChannelOf}
use Rattle.lr_names.specs.declared.kind.Kind.{Kind}
use Rattle.lr_names.specs.declared.kind.Kind.TheVariants.{Mutex, Fair, Rw, Fenced, Semaphore, Permits, Countdown}
use Rattle.lr_names.specs.declared.post.Post.{Post}
use Rattle.lr_names.specs.declared.post.Push.{Push}
use Rattle.lr_names.specs.declared.post.Push.TheVariants.{Subscribed, Unsubscribed, Message}
use Rattle.lr_model.specs.Table.{put}

-- a connection: who opened it, its channels in order of subscribing, what waits to be sent, and
-- whether it was dropped
pub record Connection : Type 0 where
  pub opener : Option ℕ
  pub channels : List ChannelOf
  pub outbox : List Push
  pub dropped : Bool

-- the connections by their numbers
abbrev pub Board : Type 0
Board = ℕ → Connection

-- a number at which no connection is open
abbrev pub closed_connection : Connection
closed_connection = record { opener = None; channels = []; outbox = []; dropped = false }

-- a connection that this caller has just opened
abbrev pub new_connection : ℕ → Connection
new_connection caller = record { opener = Some caller; channels = []; outbox = []; dropped = false }

abbrev pub is_open : Connection → Bool
is_open connection = is_some connection.opener

-- a number for each kind
abbrev pub kind_number : Kind → ℕ
kind_number Mutex = 0
kind_number Fair = 1
kind_number Rw = 2
kind_number Fenced = 3
kind_number Semaphore = 4
kind_number Permits = 5
kind_number Countdown = 6

-- whether two kinds are one
abbrev pub same_kind : Kind → Kind → Bool
same_kind a b = kind_number a == kind_number b

-- whether two channels name the same owner, or none
abbrev pub same_queue_owner : Option ThreadOfClient → Option ThreadOfClient → Bool
same_queue_owner None None = true
same_queue_owner None (Some b) = false
same_queue_owner (Some a) None = false
same_queue_owner (Some a) (Some b) = same_owner a b

-- whether two channels are one
unfoldable pub same_channel : ChannelOf → ChannelOf → Bool
same_channel a b =
    (kind_number a.kind == kind_number b.kind) && bytes_eq a.name b.name
    && same_queue_owner a.owner b.owner

-- whether a connection has subscribed to a channel
abbrev pub has_channel : ChannelOf → Connection → Bool
has_channel channel connection = list_any (same_channel channel) connection.channels

-- whether an outbox takes one more item
abbrev pub has_room : Connection → Bool
has_room connection = nat_lt (length connection.outbox) outbox_limit

-- whether a message reaches a connection
abbrev pub is_reached : Post → Connection → Bool
is_reached post connection = has_channel post.channel connection && has_room connection

-- whether a message finds a subscribed connection with a full outbox
abbrev pub is_overrun : Post → Connection → Bool
is_overrun post connection = has_channel post.channel connection && not (has_room connection)

-- a connection that reads too slowly: it loses its channels and what waited for it
abbrev pub dropped_connection : Connection → Connection
dropped_connection connection =
    record { opener = connection.opener; channels = []; outbox = []; dropped = true }

-- a connection with one more item in its outbox
abbrev pub with_item : Push → Connection → Connection
with_item push connection = record connection { outbox = connection.outbox ++ push ∷ [] }

-- a connection after a message
abbrev pub connection_after_post : Post → Connection → Connection
connection_after_post post connection =
    if has_channel post.channel connection
    then (if has_room connection then with_item (Message post.channel post.wakes) connection
    else dropped_connection connection)
    else connection

-- A message goes to exactly those that have subscribed.
abbrev pub board_after_post : Option Post → Board → Board
board_after_post None board = board
board_after_post (Some post) board = λ conn. connection_after_post post (board conn)

-- the numbers below n that pass a test, in order
unfoldable pub numbers_below : ℕ → (ℕ → Bool) → List ℕ
numbers_below zero test = []
numbers_below (suc n) test = numbers_below n test ++ (if test n then n ∷ [] else [])

-- how many connections a message reaches, and which it drops
abbrev pub reached_by : Post → Board → ℕ
reached_by post board =
    length (numbers_below connection_limit (λ conn. is_reached post (board conn)))

abbrev pub dropped_by : Post → Board → List ℕ
dropped_by post board = numbers_below connection_limit (λ conn. is_overrun post (board conn))

-- the channels with one more, where it isn't among them
abbrev pub with_channel : ChannelOf → Connection → List ChannelOf
with_channel channel connection =
    if has_channel channel connection then connection.channels
    else connection.channels ++ channel ∷ []

-- the channels without one
abbrev pub without_channel : ChannelOf → Connection → List ChannelOf
without_channel channel connection =
    filter (λ other. not (same_channel channel other)) connection.channels

-- the connection with these channels, and the acknowledgement in its outbox
abbrev pub with_acknowledgement : List ChannelOf → Push → Connection → Connection
with_acknowledgement channels push connection =
    record connection { channels = channels; outbox = connection.outbox ++ push ∷ [] }

-- a connection after it subscribes to a channel; a repeat is acknowledged again
abbrev pub connection_after_subscribe : ChannelOf → Connection → Connection
connection_after_subscribe channel connection =
    with_acknowledgement (with_channel channel connection)
    (Subscribed channel (length (with_channel channel connection))) connection

-- a connection after it leaves a channel
abbrev pub connection_after_unsubscribe : ChannelOf → Connection → Connection
connection_after_unsubscribe channel connection =
    with_acknowledgement (without_channel channel connection)
    (Unsubscribed (Some channel) (length (without_channel channel connection))) connection

-- a connection after its first items were handed out
abbrev pub connection_after_drain : ℕ → Connection → Connection
connection_after_drain most connection =
    record connection { outbox = drop most connection.outbox }

-- the board with another connection at a number
abbrev pub with_connection : Board → ℕ → Connection → Board
with_connection board conn connection = put ◌==◌ board conn connection

-- the numbers below the limit at which no connection is open
abbrev pub free_numbers : Board → List ℕ
free_numbers board = numbers_below connection_limit (λ conn. not (is_open (board conn)))
