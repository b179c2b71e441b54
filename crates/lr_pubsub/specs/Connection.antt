-- What a board asks of a connection: this project's own.
use Rattle.std.specs.Prelude.{Bool, false, ◌&&◌, ◌||◌, not}
use Rattle.std.specs.List.{list_any}
use Rattle.lr_names.specs.Channel.{ChannelOf}
use Rattle.lr_names.specs.declared.post.Push.{Push}
use Rattle.lr_names.specs.declared.post.Push.TheVariants.{Subscribed, Unsubscribed, Message}
use Rattle.lr_model.specs.Board.{Connection, has_room, is_open, same_channel}

-- whether a connection is open and wasn't dropped: no other takes items or channels
abbrev pub is_usable : Connection → Bool
is_usable connection = is_open connection && not connection.dropped

-- whether a connection takes no acknowledgement: it was dropped, or its outbox is full
abbrev pub is_shut : Connection → Bool
is_shut connection = connection.dropped || not (has_room connection)

-- whether an item is a message of a channel
abbrev pub is_message_of : ChannelOf → Push → Bool
is_message_of channel (Message other wakes) = same_channel channel other
is_message_of channel (Subscribed other count) = false
is_message_of channel (Unsubscribed other count) = false

-- whether a message of a channel waits to be sent
abbrev pub is_in_flight : ChannelOf → Connection → Bool
is_in_flight channel connection = list_any (is_message_of channel) connection.outbox
