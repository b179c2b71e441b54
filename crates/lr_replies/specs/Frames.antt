-- The frames of the replies of a function: this project's own.
use Rattle.std.specs.Prelude.{◌≡◌, ◌≤◌, ◌<◌, ◌^◌, Option, Some, IsSome}
use Rattle.std.specs.Option.{option_map}
use Rattle.lr_objects.specs.declared.kinds.Function.{Function}
use Rattle.lr_objects.specs.declared.reply.Reply.{Reply}
use Rattle.lr_objects.specs.declared.reply.Reply.TheVariants.{Busy, GrantedToken, Count}
use Rattle.lr_resp.specs.declared.frame.Frame.{Frame}
use Rattle.lr_replies.specs.Roles.{role_of}
use Rattle.lr_replies.specs.Shapes.{shape_of, frame_with}

-- the frame of a reply, where the function has such a reply
abbrev pub frame_of : Function → Reply → Option Frame
frame_of function reply = option_map frame_with (shape_of (role_of function) reply)

-- whether the function has such a reply
abbrev pub HasFrame : Function → Reply → Type 0
HasFrame function reply = IsSome (frame_of function reply)

-- a reply as the program makes it: its number is an integer of Redis, and what is busy is so for a
-- while
abbrev pub IsReply : Reply → Type 0
IsReply (Busy millis) = (1 ≤ millis) × (millis < 2 ^ 63)
IsReply (GrantedToken token) = token < 2 ^ 63
IsReply (Count count) = count < 2 ^ 63
IsReply _ = Unit {0}

-- the function may answer this reply, and this is its frame
pub record IsFrameOf (frame : Frame) (function : Function) (reply : Reply) : Type 0 where
  pub made : IsReply reply
  pub has : frame_of function reply ≡ Some frame
