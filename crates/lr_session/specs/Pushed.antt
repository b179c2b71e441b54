-- What a push comes to.
use Rattle.std.specs.Prelude.{ℕ, Option, Some, None, if◌then◌else◌}
use Rattle.lr_names.specs.Channel.{ChannelOf, channel_wakes}
use Rattle.lr_names.specs.declared.post.Push.{Push}
use Rattle.lr_names.specs.declared.post.Push.TheVariants as items
use Rattle.lr_waiting.specs.Latch.{told_of_message}
use Rattle.lr_waiting.specs.Session.{Session, pushed}
use Rattle.lr_waiting.specs.Told.{tickets_given}
use Rattle.lr_session.specs.declared.pushes.Pushed.{Pushed}
use Rattle.lr_session.specs.declared.pushes.Pushed.TheVariants.{Acked, Unacked, Message}

-- the row of a push: a client that was cut off takes none
abbrev pub push_row : Push → Session → Option Session
push_row push session = if session.is_cut then None else Some (pushed push session)

-- what a message left for those who wait on its channel
abbrev pub told_at : ChannelOf → Session → ℕ
told_at channel session =
    told_of_message (channel_wakes channel.kind) (session.latches.entries channel)

-- what is told of a push: the tickets that were given, or what a message left
abbrev pub pushed_by : Push → Session → Pushed
pushed_by (items.Subscribed channel channels) session =
    Acked channel (tickets_given channel session)
pushed_by (items.Unsubscribed channel channels) session = Unacked channel
pushed_by (items.Message channel wakes) session =
    Message channel (told_at channel (pushed (items.Message channel wakes) session))
