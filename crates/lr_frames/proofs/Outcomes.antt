-- What is said of a call that was read, or of a fault, said of the outcome that has either.
use Rattle.std.proofs.Common.{◌≡◌, ◌≢◌, ℕ, List, Result, Ok, Err, IfOk, IfErr, IsErr, length, ◌<◌, ◌∙◌, sym, subst, drop, true≢false}
use Rattle.lr_objects.specs.declared.kinds.Function.{Function}
use Rattle.lr_objects.specs.declared.op.Op.{Op}
use Rattle.lr_objects.specs.Function.{function_word}
use Rattle.lr_resp.specs.declared.frame.Frame.{Frame}
use Rattle.lr_resp.specs.Grammar.{Spells}
use Rattle.lr_resp.specs.Spelling.{spelling}
use Rattle.lr_frames.specs.declared.fault.OpFault.{OpFault}
use Rattle.lr_frames.specs.Faults.{IsOpFault, IsCallFault, IsWordsFault}
use Rattle.lr_frames.specs.OpWords.{fcall_words, call_words, key_count, IsSaid, IsOpOf}
use Rattle.lr_frames.specs.Shape.{shape_of}
use Rattle.lr_frames.specs.Words.{words_frame, word_at}
use Rattle.lr_frames.proofs.BulkLaws.{brief_spells}
use Rattle.lr_frames.proofs.FaultLaws.{no_op_fault, no_call_fault, call_fault}
use Rattle.lr_frames.proofs.OpLaws.{one_op, one_fcall, call_brief}

pub op_alone : (outcome : Result Op OpFault) (word : List ℕ) (words : List (List ℕ))
    → IfOk outcome (λ op. IsOpOf op word words) → IfOk outcome IsSaid
    → IfOk outcome (λ op. (other : Op) → IsSaid other → IsOpOf other word words → op ≡ other)
op_alone (Ok op) word words of is = λ other in_other is_other. one_op op other word words is in_other of is_other
op_alone (Err fault) word words of is = tt

pub op_none : (outcome : Result Op OpFault) (word : List ℕ) (words : List (List ℕ))
    → IfErr outcome (λ fault. IsOpFault fault word words)
    → IsErr outcome → (op : Op) → IsSaid op → ¬ (IsOpOf op word words)
op_none (Ok op) word words bad err = absurd (true≢false (sym err))
op_none (Err fault) word words bad err = no_op_fault fault word words bad

pub call_alone : (outcome : Result Op OpFault) (words : List (List ℕ))
    → IfOk outcome (λ op. words ≡ fcall_words op) → IfOk outcome IsSaid
    → IfOk outcome (λ op. (other : Op) → IsSaid other → words ≡ fcall_words other → op ≡ other)
call_alone (Ok op) words of is = λ other in_other is_other. one_fcall op other is in_other (sym of ∙ is_other)
call_alone (Err fault) words of is = tt

pub call_none : (outcome : Result Op OpFault) (words : List (List ℕ))
    → IfErr outcome (λ fault. IsCallFault fault words)
    → IsErr outcome → (op : Op) → IsSaid op → words ≢ fcall_words op
call_none (Ok op) words bad err = absurd (true≢false (sym err))
call_none (Err fault) words bad err = no_call_fault fault words bad

pub call_bad : (outcome : Result Op OpFault) (function : Function) (words own : List (List ℕ))
    → 1 < length words → word_at words 0 ≡ function_word function → word_at words 1 ≡ key_count
    → own ≡ drop 2 words → IfErr outcome (λ fault. IsWordsFault fault (shape_of function) own)
    → IfErr outcome (λ fault. IsCallFault fault words)
call_bad (Ok op) function words own some is one behind bad = tt
call_bad (Err fault) function words own some is one behind bad =
    call_fault fault function words some is one
    (subst (λ (l : List (List ℕ)). IsWordsFault fault (shape_of function) l) behind bad)

pub frame_spells : {E : Type 0} (outcome : Result Frame E) (op : Op) → IsSaid op
    → IfOk outcome (λ frame. frame ≡ words_frame (call_words op))
    → IfOk outcome (λ frame. Spells (spelling frame) frame)
frame_spells (Ok frame) op said is =
    subst (λ f. Spells (spelling f) f) (sym is) (brief_spells (call_words op) (call_brief op said))
frame_spells (Err fault) op said is = tt
