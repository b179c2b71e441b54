-- Messages to those who wait on a channel.
use Rattle.lr_names.specs.Channel.{ChannelOf, channel_wakes}
use Rattle.lr_names.specs.declared.post.Post.{Post}

-- the message that tells those who wait on a channel
abbrev pub post_to : ChannelOf → Post
post_to channel = record { channel = channel; wakes = channel_wakes channel.kind }
