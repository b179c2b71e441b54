-- Requests as frames, after the Redis protocol page: an array of at least one bulk string, the
-- first of which is the word of the command.
use Rattle.std.specs.Prelude.{◌≡◌, ◌≢◌, ℕ, List, ◌∷◌}
use Rattle.lr_commands.specs.declared.request.Request.{Request}
use Rattle.lr_frames.specs.Words.{AreHeld, words_frame}
use Rattle.lr_requests.specs.Command.{IsWordOf}
use Rattle.lr_requests.specs.Refusal.{IsWordsFault}
use Rattle.lr_requests.specs.Request.{Asks}
use Rattle.lr_requests.specs.declared.command.Command.{Command}
use Rattle.lr_requests.specs.declared.fault.CommandFault.{CommandFault}
use Rattle.lr_requests.specs.declared.fault.CommandFault.TheVariants.{NotARequest}
use Rattle.lr_resp.specs.declared.frame.Frame.{Frame}

-- a word with these arguments asks for this request
abbrev pub WordsAsk : List ℕ → List (List ℕ) → Request → Type 0
WordsAsk word arguments request =
    (command : Command) × IsWordOf command word × Asks command arguments request

-- a frame asks for this request
abbrev pub FrameAsks : Frame → Request → Type 0
FrameAsks frame request = (word : List ℕ) × (arguments : List (List ℕ))
    × (frame ≡ words_frame (word ∷ arguments)) × WordsAsk word arguments request

-- what is wrong with a frame, whose words memory can hold
abbrev pub IsFrameFault : CommandFault → Frame → Type 0
IsFrameFault NotARequest frame =
    (word : List ℕ) (arguments : List (List ℕ)) → AreHeld (word ∷ arguments)
    → frame ≢ words_frame (word ∷ arguments)
IsFrameFault fault frame = (word : List ℕ) × (arguments : List (List ℕ))
    × (frame ≡ words_frame (word ∷ arguments)) × IsWordsFault fault word arguments
