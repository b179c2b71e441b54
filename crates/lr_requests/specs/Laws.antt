-- What words ask for is one request or none, and none where they have a fault.
use Rattle.std.specs.Prelude.{◌≡◌, ◌≢◌, ℕ, List}
use Rattle.lr_commands.specs.declared.request.Request.{Request}
use Rattle.lr_frames.specs.Words.{AreShort, words_frame}
use Rattle.lr_requests.specs.Frame.{WordsAsk}
use Rattle.lr_requests.specs.Refusal.{IsWordsFault}
use Rattle.lr_requests.specs.declared.fault.CommandFault.{CommandFault}
use Rattle.lr_requests.specs.declared.fault.CommandFault.TheVariants.{NoMemory}

-- the frame of words that are within the limits for reading is that of no other such words
abbrev pub WordsAreOne : Type 0
WordsAreOne = (words others : List (List ℕ)) → AreShort words → AreShort others
    → words_frame words ≡ words_frame others → words ≡ others

-- words ask for at most one request
abbrev pub RequestIsOne : Type 0
RequestIsOne = (word : List ℕ) (arguments : List (List ℕ)) (request other : Request)
    → WordsAsk word arguments request → WordsAsk word arguments other → request ≡ other

-- and for none where they have a fault
abbrev pub FaultIsNoRequest : Type 0
FaultIsNoRequest = (word : List ℕ) (arguments : List (List ℕ)) (fault : CommandFault)
    (request : Request) → fault ≢ NoMemory → IsWordsFault fault word arguments
    → ¬ (WordsAsk word arguments request)

-- and they have at most one fault beside want of memory
abbrev pub FaultIsOne : Type 0
FaultIsOne = (word : List ℕ) (arguments : List (List ℕ)) (fault other : CommandFault)
    → fault ≢ NoMemory → other ≢ NoMemory → IsWordsFault fault word arguments
    → IsWordsFault other word arguments → fault ≡ other
