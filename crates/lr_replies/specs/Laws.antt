-- What holds of the frames of all replies.
use Rattle.std.specs.Prelude.{◌≡◌}
use Rattle.lr_objects.specs.declared.kinds.Function.{Function}
use Rattle.lr_objects.specs.declared.reply.Reply.{Reply}
use Rattle.lr_resp.specs.declared.frame.Frame.{Frame}
use Rattle.lr_resp.specs.Spelling.{spelling}
use Rattle.lr_resp.specs.Grammar.{Spells}
use Rattle.lr_replies.specs.Frames.{IsFrameOf}

-- The frame of a reply is within the limits for reading.
abbrev pub RepliesAreReadable : Type 0
RepliesAreReadable = (function : Function) (reply : Reply) (frame : Frame)
    → IsFrameOf frame function reply → Spells (spelling frame) frame

-- Of one function no two replies have one frame.
abbrev pub RepliesAreToldApart : Type 0
RepliesAreToldApart = (function : Function) (reply other : Reply) (frame : Frame)
    → IsFrameOf frame function reply → IsFrameOf frame function other → reply ≡ other
