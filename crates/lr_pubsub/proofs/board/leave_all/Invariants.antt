use Rattle.std.proofs.Common.{◌≡◌, ◌==◌, false, take, if◌then◌else◌}
use Rattle.std.specs.List.{list_any}
use Rattle.lr_names.specs.Channel.{ChannelOf}
use Rattle.lr_model.specs.Board.{same_channel}
use Rattle.lr_model.specs.Table.{put}
use Rattle.lr_pubsub.specs.Subscribers.{listeners}
use Rattle.lr_pubsub.proofs.board.leave_all.Given as goal

abbrev pub invariant-loop-channel : goal.invariant-loop-channel
invariant-loop-channel l = (q : ChannelOf) → listeners q l.subscribers.by_channel.entries
    ≡ (if list_any (same_channel q) (take l.channel-index l.channels)
    then put ◌==◌ (listeners q l.initial.subscribers.by_channel.entries) l.conn false
    else listeners q l.initial.subscribers.by_channel.entries)
