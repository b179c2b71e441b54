-- What a subscribed connection is sent (Redis page on Pub/Sub). The payload of a message, `one` or
-- `all`, is this project's own.
use Rattle.std.specs.Prelude.{ℕ, List, [], ◌∷◌, codes, Option, None, Some, pos}
use Rattle.lr_names.specs.Channel.{ChannelOf, channel_text}
use Rattle.lr_names.specs.declared.kind.Wakes.{Wakes}
use Rattle.lr_names.specs.declared.kind.Wakes.TheVariants.{One, All}
use Rattle.lr_names.specs.declared.post.Push.{Push}
use Rattle.lr_names.specs.declared.post.Push.TheVariants.{Subscribed, Unsubscribed, Message}
use Rattle.lr_resp.specs.Spelling.{spelling}
use Rattle.lr_resp.specs.declared.frame.Frame.{Frame}
use Rattle.lr_resp.specs.declared.frame.Frame.TheVariants.{Bulk, Number, Null, Array}

-- the payload of a message: how many of a client's waiting threads it wakes
abbrev pub wakes_word : Wakes → List ℕ
wakes_word One = codes "one"
wakes_word All = codes "all"

-- an array of a word and two frames
abbrev pub three : List ℕ → Frame → Frame → Frame
three word channel last =
    Array (spelling (Bulk word) ∷ spelling channel ∷ spelling last ∷ [])

abbrev pub channel_frame : ChannelOf → Frame
channel_frame channel = Bulk (channel_text channel)

-- the channel that was left, or null where there was none to leave
abbrev pub left_frame : Option ChannelOf → Frame
left_frame (Some channel) = channel_frame channel
left_frame None = Null

abbrev pub number_frame : ℕ → Frame
number_frame count = Number (pos count)

-- the frame of an item of an outbox
abbrev pub push_frame : Push → Frame
push_frame (Subscribed channel count) =
    three (codes "subscribe") (channel_frame channel) (number_frame count)
push_frame (Unsubscribed channel count) =
    three (codes "unsubscribe") (left_frame channel) (number_frame count)
push_frame (Message channel wakes) =
    three (codes "message") (channel_frame channel) (Bulk (wakes_word wakes))
