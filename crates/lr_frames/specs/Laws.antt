-- The words of a call are its own, and no fault.
use Rattle.std.specs.Prelude.{◌≡◌, ◌≢◌, List, ℕ}
use Rattle.lr_objects.specs.declared.op.Op.{Op}
use Rattle.lr_frames.specs.declared.fault.OpFault.{OpFault}
use Rattle.lr_frames.specs.Faults.{IsCallFault}
use Rattle.lr_frames.specs.OpWords.{IsSaid, fcall_words}

-- two calls with the same words are one
abbrev pub WordsAreOfOne : Type 0
WordsAreOfOne = (op other : Op) → IsSaid op → IsSaid other → fcall_words op ≡ fcall_words other
    → op ≡ other

-- words with a fault are those of no call
abbrev pub FaultIsNoCall : Type 0
FaultIsNoCall = (fault : OpFault) (words : List (List ℕ)) → IsCallFault fault words
    → (op : Op) → IsSaid op → words ≢ fcall_words op

-- and have no other fault
abbrev pub FaultIsOne : Type 0
FaultIsOne = (fault other : OpFault) (words : List (List ℕ)) → IsCallFault fault words
    → IsCallFault other words → fault ≡ other
