-- A connection that subscribes.
use Rattle.std.proofs.Common.{◌≡◌, Bool, true, false, cond, List, [], ◌∷◌, ◌++◌, length, ap, sym}
use Rattle.lr_names.specs.Channel.{ChannelOf}
use Rattle.lr_names.specs.declared.post.Push.TheVariants.{Subscribed}
use Rattle.lr_model.specs.Board.{Connection, connection_after_subscribe, has_channel, with_acknowledgement, with_channel}

-- a connection that has these channels afterwards
abbrev after : ChannelOf → Connection → List ChannelOf → Connection
after channel connection channels =
    with_acknowledgement channels (Subscribed channel (length channels)) connection

-- a connection that has the channel already
abbrev pub after_repeat : ChannelOf → Connection → Connection
after_repeat channel connection = after channel connection connection.channels

-- a connection to which the channel is added
abbrev pub after_join : ChannelOf → Connection → Connection
after_join channel connection = after channel connection (connection.channels ++ channel ∷ [])

module _ (channel : ChannelOf) (connection : Connection) where
  abbrev choice : Bool → List ChannelOf
  choice has = cond has connection.channels (connection.channels ++ channel ∷ [])

  pub with_channel-had : has_channel channel connection ≡ true
      → connection.channels ≡ with_channel channel connection
  with_channel-had had = ap choice (sym had)

  pub with_channel-new : has_channel channel connection ≡ false
      → connection.channels ++ channel ∷ [] ≡ with_channel channel connection
  with_channel-new absent = ap choice (sym absent)

  pub after_repeat-subscribe : has_channel channel connection ≡ true
      → after_repeat channel connection ≡ connection_after_subscribe channel connection
  after_repeat-subscribe had = ap (after channel connection) (with_channel-had had)

  pub after_join-subscribe : has_channel channel connection ≡ false
      → after_join channel connection ≡ connection_after_subscribe channel connection
  after_join-subscribe absent = ap (after channel connection) (with_channel-new absent)
