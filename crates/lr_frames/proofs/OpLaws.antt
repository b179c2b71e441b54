-- Calls, their words, and the calls that are made of them.
use Rattle.std.proofs.Common.{◌≡◌, ℕ, ◌≤◌, List, ◌∷◌, length, refl, sym, ap, subst, ◌∙◌, arith}
use Rattle.lr_objects.specs.declared.access.Access.TheVariants.{Read}
use Rattle.lr_objects.specs.declared.kinds.Function.{Function}
use Rattle.lr_objects.specs.declared.kinds.Function.TheVariants as functions
use Rattle.lr_objects.specs.declared.lock.LockFunction.TheVariants as locks
use Rattle.lr_objects.specs.declared.fair.FairFunction.TheVariants as fairs
use Rattle.lr_objects.specs.declared.read_write.ReadWriteFunction.TheVariants as read_writes
use Rattle.lr_objects.specs.declared.fenced.FencedFunction.TheVariants as fenceds
use Rattle.lr_objects.specs.declared.semaphore.SemaphoreFunction.TheVariants as semaphores
use Rattle.lr_objects.specs.declared.permits.PermitFunction.TheVariants as permits
use Rattle.lr_objects.specs.declared.countdown.CountdownFunction.TheVariants as countdowns
use Rattle.lr_objects.specs.declared.kinds.Call.{Call}
use Rattle.lr_objects.specs.declared.kinds.Call.TheVariants as kinds
use Rattle.lr_objects.specs.declared.lock.LockCall.TheVariants as lock
use Rattle.lr_objects.specs.declared.fair.FairCall.TheVariants as fair
use Rattle.lr_objects.specs.declared.read_write.ReadWriteCall.TheVariants as read_write
use Rattle.lr_objects.specs.declared.fenced.FencedCall.TheVariants as fenced
use Rattle.lr_objects.specs.declared.semaphore.SemaphoreCall.TheVariants as semaphore
use Rattle.lr_objects.specs.declared.permits.PermitCall.TheVariants as permit
use Rattle.lr_objects.specs.declared.countdown.CountdownCall.TheVariants as countdown
use Rattle.lr_objects.specs.declared.op.Op.{Op}
use Rattle.lr_objects.specs.Function.{function_word}
use Rattle.lr_objects.proofs.FunctionLaws.{function_word-injective, length-function_word}
use Rattle.lr_frames.specs.declared.given.Given.{Given}
use Rattle.lr_frames.specs.Given.{given_words}
use Rattle.lr_frames.specs.Made.{made_op}
use Rattle.lr_frames.specs.OpWords.{op_function, op_given, op_words, fcall_words, call_words, IsSaid, IsOpOf}
use Rattle.lr_frames.specs.Said.{call_said}
use Rattle.lr_frames.specs.Shape.{shape_of}
use Rattle.lr_frames.proofs.BulkLaws.{AreBrief, heads}
use Rattle.lr_frames.proofs.GivenLaws.{IsSound, parts_of, call_sound, call_parts, same_parts, given_brief}

-- a call that is made says its function and what it was given
abbrev Says : Function → List ℕ → Given → Type 0
Says function name given = (op_function (made_op function name given) ≡ function)
    × (op_words (made_op function name given) ≡ name ∷ given_words (shape_of function) given)

pub made_says : (function : Function) (name : List ℕ) (given : Given) → Says function name given
made_says (functions.Lock locks.Try) name given = (refl, refl)
made_says (functions.Fair fairs.Try) name given = (refl, refl)
made_says (functions.ReadWrite read_writes.Renew) name given = (refl, refl)
made_says (functions.Fenced fenceds.Try) name given = (refl, refl)
made_says (functions.Semaphore semaphores.Set) name given = (refl, refl)
made_says (functions.Permits permits.Set) name given = (refl, refl)
made_says (functions.Countdown countdowns.Set) name given = (refl, refl)
made_says _ name given = (refl, refl)

-- and each call is made of what it says
remade : (name : List ℕ) (call : Call)
    → record { name = name; call = call } ≡ made_op (call_said call).function name (call_said call).given
remade name (kinds.Lock lock.Force) = refl
remade name (kinds.Fair (fair.Leave owner)) = refl
remade name (kinds.ReadWrite (read_write.Take Read owner lease)) = refl
remade name (kinds.ReadWrite (read_write.Unlock Read owner lease)) = refl
remade name (kinds.Fenced fenced.Token) = refl
remade name (kinds.Semaphore semaphore.Count) = refl
remade name (kinds.Permits permit.Count) = refl
remade name (kinds.Countdown countdown.Count) = refl
remade name _ = refl

pub op_sound : (op : Op) → IsSaid op → IsSound (shape_of (op_function op)) (op_given op)
op_sound op is = call_sound op.call is.0.1 is.1

-- two calls of one function with the same words are one
pub one_call : (op other : Op) → IsSaid op → IsSaid other → op_function op ≡ op_function other
    → op_words op ≡ op_words other → op ≡ other
one_call op other in_op in_other function words =
    let f = op_function op in
    let named = heads op.name other.name _ _ words in
    let shape : shape_of (op_function other) ≡ shape_of f = ap shape_of (sym function) in
    let sound : IsSound (shape_of f) (op_given other) =
    subst (λ s. IsSound s (op_given other)) shape (op_sound other in_other) in
    let same : given_words (shape_of f) (op_given op) ≡ given_words (shape_of f) (op_given other) =
    named.1 ∙ ap (λ s. given_words s (op_given other)) shape in
    let parts = same_parts (shape_of f) (op_given op) (op_given other) (op_sound op in_op) sound same in
    let mine : op_given op ≡ parts_of (shape_of f) (op_given op) = call_parts op.call in
    let its : op_given other ≡ parts_of (shape_of (op_function other)) (op_given other) = call_parts other.call in
    let given : op_given op ≡ op_given other =
    mine ∙ parts ∙ ap (λ s. parts_of s (op_given other)) (sym shape) ∙ sym its in
    remade op.name op.call
    ∙ ap (λ (g : Function). made_op g op.name (op_given op)) function
    ∙ ap (λ (n : List ℕ). made_op (op_function other) n (op_given op)) named.0
    ∙ ap (λ (g : Given). made_op (op_function other) other.name g) given
    ∙ sym (remade other.name other.call)

pub one_op : (op other : Op) (word : List ℕ) (words : List (List ℕ)) → IsSaid op → IsSaid other
    → IsOpOf op word words → IsOpOf other word words → op ≡ other
one_op op other word words in_op in_other is_op is_other =
    let function = function_word-injective (op_function op) (op_function other) (sym is_op.0 ∙ is_other.0) in
    one_call op other in_op in_other function (sym is_op.1 ∙ is_other.1)

pub one_fcall : (op other : Op) → IsSaid op → IsSaid other → fcall_words op ≡ fcall_words other → op ≡ other
one_fcall op other in_op in_other same =
    let first = heads _ _ _ _ same in
    let rest = heads _ _ _ _ first.1 in
    one_op op other (function_word (op_function op)) (op_words op) in_op in_other (refl, refl) (first.0, rest.1)

-- the words of a call are brief
pub call_brief : (op : Op) → IsSaid op → AreBrief (call_words op)
call_brief op is =
    let given = given_brief (shape_of (op_function op)) (op_given op) (op_sound op is) in
    let function = length-function_word (op_function op) in
    let word : length (function_word (op_function op)) ≤ 64 = omega (arith, function) in
    (omega (arith, given.0), (omega arith, (word, (omega arith, (is.0.0.short, given.1)))))
