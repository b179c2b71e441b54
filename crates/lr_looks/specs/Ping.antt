-- The answer of a ping (Redis command page PING).
use Rattle.std.specs.Prelude.{ℕ, Bool, if◌then◌else◌, List, [], ◌∷◌, Option, Some, None, codes}
use Rattle.lr_resp.specs.declared.frame.Frame.{Frame}
use Rattle.lr_resp.specs.declared.frame.Frame.TheVariants.{Simple, Bulk}
use Rattle.lr_looks.specs.Bulks.{bulks_frame}

-- where the connection has no channel
abbrev pub plain_pong : Option (List ℕ) → Frame
plain_pong (Some text) = Bulk text
plain_pong None = Simple (codes "PONG")

-- where it has one, the answer is an array like a message
abbrev pub message_pong : Option (List ℕ) → Frame
message_pong (Some text) = bulks_frame (codes "pong" ∷ text ∷ [])
message_pong None = bulks_frame (codes "pong" ∷ [] ∷ [])

-- the answer, by whether the connection has a channel
abbrev pub pong_frame : Bool → Option (List ℕ) → Frame
pong_frame subscribed text = if subscribed then message_pong text else plain_pong text
