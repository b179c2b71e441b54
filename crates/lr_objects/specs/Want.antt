-- What a thread wants, the call that it is, and how a schedule writes it.
use Rattle.std.specs.Prelude.{ℕ, List, [], ◌∷◌, codes, decimal, Bool}
use Rattle.lr_limits.specs.Limits.{watchdog_lease}
use Rattle.lr_names.specs.Owner.{ThreadOfClient, id_text}
use Rattle.lr_objects.specs.declared.form.Arguments.{Arguments}
use Rattle.lr_objects.specs.declared.form.Arguments.TheVariants as arguments
use Rattle.lr_objects.specs.declared.op.Op.{Op}
use Rattle.lr_objects.specs.declared.want.Lease.{Lease}
use Rattle.lr_objects.specs.declared.want.Lease.TheVariants.{Watch, For}
use Rattle.lr_objects.specs.declared.want.Mode.{Mode}
use Rattle.lr_objects.specs.declared.want.Mode.TheVariants as modes
use Rattle.lr_objects.specs.declared.want.Want.{Want}
use Rattle.lr_objects.specs.Form.{FitsAmount}
use Rattle.lr_objects.specs.Function.{function_word, arguments_of}
use Rattle.lr_objects.specs.Kinds.{call_of}

-- a lease in milliseconds: that of the watchdog is Redisson's default
abbrev pub lease_of : Lease → ℕ
lease_of Watch = watchdog_lease
lease_of (For millis) = millis

-- the number, where the function is given one
abbrev pub HasAmount : Arguments → Want → Type 0
HasAmount arguments want = FitsAmount arguments want.number

-- the call that a want is, with the owner and the lease in their places
abbrev pub op_of : Want → ThreadOfClient → ℕ → Bool → Op
op_of want owner lease queue =
    record { name = want.name; call = call_of want.function want owner lease queue }

-- how long a request may wait: not at all, for so many milliseconds, or for as long as it takes
abbrev pub mode_word : Mode → List ℕ
mode_word modes.Once = codes "once"
mode_word (modes.For millis) = decimal millis
mode_word modes.Long = codes "long"

-- a lease is written as its number of milliseconds, or as the watchdog's
abbrev pub lease_word : Lease → List ℕ
lease_word Watch = codes "watch"
lease_word (For millis) = decimal millis

-- the words behind the name, by what the function is given
abbrev pub argument_words : Arguments → Want → List (List ℕ)
argument_words arguments.Lease want = lease_word want.lease ∷ []
argument_words arguments.Number want = decimal want.number ∷ []
argument_words arguments.Nothing want = []
argument_words arguments.Id want = id_text want.id ∷ []
argument_words arguments.IdAndLease want = id_text want.id ∷ lease_word want.lease ∷ []

-- the words of a want: the function, the name, and what the function is given
abbrev pub want_words : Want → List (List ℕ)
want_words want =
    function_word want.function ∷ want.name ∷ argument_words (arguments_of want.function) want
