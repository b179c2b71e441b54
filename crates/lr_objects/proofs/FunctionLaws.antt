-- The words of the functions.
use Rattle.std.proofs.Common.{◌≡◌, ◌≤◌, IsTrue, Some, length, refl, arith}
use Rattle.lr_text.specs.Words.{lacks}
use Rattle.lr_text.specs.WordTable.{with_word}
use Rattle.lr_text.proofs.WordTableLaws.{IsWordTable, word_of-injective}
use Rattle.lr_objects.specs.Function.{function_word}
use Rattle.lr_objects.specs.declared.kinds.Function.{Function}
use Rattle.lr_objects.specs.declared.kinds.Function.TheVariants as kinds
use Rattle.lr_objects.specs.declared.kinds.TheConstants.Function.{ALL}
use Rattle.lr_objects.specs.declared.lock.LockFunction.TheVariants as lock
use Rattle.lr_objects.specs.declared.fair.FairFunction.TheVariants as fair
use Rattle.lr_objects.specs.declared.read_write.ReadWriteFunction.TheVariants as read_write
use Rattle.lr_objects.specs.declared.fenced.FencedFunction.TheVariants as fenced
use Rattle.lr_objects.specs.declared.semaphore.SemaphoreFunction.TheVariants as semaphore
use Rattle.lr_objects.specs.declared.permits.PermitFunction.TheVariants as permits
use Rattle.lr_objects.specs.declared.countdown.CountdownFunction.TheVariants as countdown

-- a function is found by its word, which is short and has no space
abbrev HasWord : Function → Type 0
HasWord function =
    (with_word function_word ALL (function_word function) ≡ Some function)
    × IsTrue (lacks 32 (function_word function)) × (length (function_word function) ≤ 20)

-- each function has one: by computing, with a line for each kind
has_word : (function : Function) → HasWord function
has_word (kinds.Lock lock.Try) = (refl, refl, omega arith)
has_word (kinds.Fair fair.Try) = (refl, refl, omega arith)
has_word (kinds.ReadWrite read_write.Read) = (refl, refl, omega arith)
has_word (kinds.Fenced fenced.Try) = (refl, refl, omega arith)
has_word (kinds.Semaphore semaphore.Set) = (refl, refl, omega arith)
has_word (kinds.Permits permits.Set) = (refl, refl, omega arith)
has_word (kinds.Countdown countdown.Set) = (refl, refl, omega arith)
has_word _ = (refl, refl, omega arith)

pub IsWordTable-function_word : IsWordTable function_word ALL
IsWordTable-function_word function = (has_word function).0

pub function_word-lacks : (function : Function) → IsTrue (lacks 32 (function_word function))
function_word-lacks function = (has_word function).1

pub length-function_word : (function : Function) → length (function_word function) ≤ 20
length-function_word function = (has_word function).2

pub function_word-injective : (a b : Function) → function_word a ≡ function_word b → a ≡ b
function_word-injective = word_of-injective function_word ALL IsWordTable-function_word
