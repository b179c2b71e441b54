-- Words give back what a function is given, the want of it, and the mode of a request.
use Rattle.std.proofs.Common.{◌≡◌, ◌≢◌, ℕ, ◌<◌, ◌^◌, true, false, if◌then◌else◌, List, [], ◌++◌, get_or, replicate, unwrap_or, codes, decimal, refl, sym, ap, subst, ◌∙◌, arith, true≢false}
use Rattle.std.proofs.lemmas.Bool.{cond_both}
use Rattle.std.proofs.lemmas.Slice.Eq.{bytes_eq-Decides}
use Rattle.std.specs.Str.{bytes_eq}
use Rattle.std.specs.Str.Parse.{AllDigits, digits_value}
use Rattle.std.proofs.lemmas.Fmt.{digits_value-decimal}
use Rattle.std.proofs.lemmas.Str.Parse.{numerals_by_value, tells_digits}
use Rattle.uuid.specs.Text.{parsed}
use Rattle.lr_text.specs.Words.{lacks}
use Rattle.lr_text.specs.WordTable.{with_word}
use Rattle.lr_text.proofs.NumberLaws.{decimal-lacks}
use Rattle.lr_names.specs.Owner.{IsId, id_text}
use Rattle.lr_names.proofs.OwnerLaws.{parsed-id_text}
use Rattle.lr_objects.specs.declared.kinds.Function.{Function}
use Rattle.lr_objects.specs.declared.kinds.Function.TheVariants.{Lock}
use Rattle.lr_objects.specs.declared.kinds.TheConstants.Function.{ALL}
use Rattle.lr_objects.specs.declared.form.Arguments.{Arguments}
use Rattle.lr_objects.specs.declared.form.Arguments.TheVariants as arguments
use Rattle.lr_objects.specs.declared.lock.LockFunction.TheVariants as lock
use Rattle.lr_objects.specs.declared.want.Lease.{Lease}
use Rattle.lr_objects.specs.declared.want.Lease.TheVariants as leases
use Rattle.lr_objects.specs.declared.want.Mode.{Mode}
use Rattle.lr_objects.specs.declared.want.Mode.TheVariants as modes
use Rattle.lr_objects.specs.declared.want.Want.{Want}
use Rattle.lr_objects.specs.Function.{function_word, arguments_of}
use Rattle.lr_objects.specs.Want.{mode_word, lease_word, argument_words}
use Rattle.lr_objects.proofs.FunctionLaws.{IsWordTable-function_word}
use Rattle.lr_waiting.specs.Begin.{FitsMode}
use Rattle.lr_machine.specs.EventText.{IsMillis, IsLease, LeaseFits, NumberFits, IdFits, IsSpelled}
use Rattle.lr_schedule.specs.Spelled.{IsMode}

-- the number of a word
pub value : List ℕ → ℕ
value word = digits_value 10 word

pub value-decimal : (n : ℕ) → n < 2 ^ 64 → value (decimal n) ≡ n
unfolding value
value-decimal n small =
    digits_value-decimal (numerals_by_value (AllDigits 10) tells_digits) n small

-- the id of a word
id_of : List ℕ → List ℕ
id_of word = unwrap_or (parsed word) []

id_of-id_text : (id : List ℕ) → IsId id → id_of (id_text id) ≡ id
unfolding id_of
id_of-id_text id h = sym (ap (λ o. unwrap_or o []) (parsed-id_text id h))

-- a decimal has no letter, unlike a word
no_decimal : (n : ℕ) (word : List ℕ) (letter : ℕ) → 57 < letter → n < 2 ^ 64
    → lacks letter word ≡ false → decimal n ≢ word
no_decimal n word letter above small has is =
    let lacking = decimal-lacks letter n (λ r. omega arith) small in
    true≢false (sym lacking ∙ ap (lacks letter) is ∙ has)

-- the mode of a word
pub mode_of : List ℕ → Mode
mode_of word =
    if bytes_eq word (codes "once") then modes.Once
    else if bytes_eq word (codes "long") then modes.Long
    else modes.For (value word)

pub mode_of-word : (mode : Mode) → IsMode mode → mode_of (mode_word mode) ≡ mode
unfolding mode_of
mode_of-word modes.Once h = refl
mode_of-word modes.Long h = refl
mode_of-word (modes.For millis) h =
    let small : millis < 2 ^ 64 = omega arith in
    let word = decimal millis in
    let is_mode : Mode → Type 0 = λ m. m ≡ modes.For millis in
    let not : (other : List ℕ) → lacks 111 other ≡ false → bytes_eq word other ≡ true → ⊥ =
    λ other has same.
    no_decimal millis other 111 (omega arith) small has ((bytes_eq-Decides word other).0 same) in
    cond_both (bytes_eq word (codes "once")) modes.Once
    (if bytes_eq word (codes "long") then modes.Long else modes.For (value word)) is_mode
    (λ same. absurd (not (codes "once") refl same))
    (λ _. cond_both (bytes_eq word (codes "long")) modes.Long (modes.For (value word)) is_mode
    (λ same. absurd (not (codes "long") refl same))
    (λ _. ap modes.For (value-decimal millis small)))

pub mode_word-injective : (a b : Mode) → IsMode a → IsMode b → mode_word a ≡ mode_word b → a ≡ b
mode_word-injective a b in_a in_b same =
    sym (mode_of-word a in_a) ∙ ap mode_of same ∙ mode_of-word b in_b

-- a mode that fits a function is one that a word can say
pub is_mode_fitting : (mode : Mode) (function : Function) → FitsMode mode function → IsMode mode
is_mode_fitting modes.Once function h = tt
is_mode_fitting (modes.For millis) function h = h.1
is_mode_fitting modes.Long function h = tt

-- the function of a word
pub function_of : List ℕ → Function
function_of word = unwrap_or (with_word function_word ALL word) (Lock lock.Try)

function_of-word : (function : Function) → function_of (function_word function) ≡ function
unfolding function_of
function_of-word function = ap (λ o. unwrap_or o (Lock lock.Try)) (IsWordTable-function_word function)

-- the lease of a word
lease_of : List ℕ → Lease
lease_of word = if bytes_eq word (codes "watch") then leases.Watch else leases.For (value word)

lease_of-word : (lease : Lease) → IsLease lease → lease_of (lease_word lease) ≡ lease
unfolding lease_of
lease_of-word leases.Watch h = refl
lease_of-word (leases.For millis) small =
    let word = decimal millis in
    let watched = codes "watch" in
    cond_both (bytes_eq word watched) leases.Watch (leases.For (value word))
    (λ l. l ≡ leases.For millis)
    (λ same. absurd (no_decimal millis watched 97 (omega arith) small refl
    ((bytes_eq-Decides word watched).0 same)))
    (λ _. ap leases.For (value-decimal millis small))

-- a lease in milliseconds is one
pub is_lease_millis : (lease : Lease) → IsMillis lease → IsLease lease
is_lease_millis lease h = subst IsLease (sym h.1) h.2

-- the word at a place
abbrev pub at : List (List ℕ) → ℕ → List ℕ
at words place = get_or words place []

-- what a function is given, from the words that begin with it
lease_in : Arguments → List (List ℕ) → Lease
lease_in arguments.Lease words = lease_of (at words 0)
lease_in arguments.IdAndLease words = lease_of (at words 1)
lease_in _ words = leases.For 0

number_in : Arguments → List (List ℕ) → ℕ
number_in arguments.Number words = value (at words 0)
number_in _ words = 0

id_in : Arguments → List (List ℕ) → List ℕ
id_in arguments.Id words = id_of (at words 0)
id_in arguments.IdAndLease words = id_of (at words 0)
id_in _ words = replicate 16 0

lease_in-words : (a : Arguments) (want : Want) (rest : List (List ℕ)) → LeaseFits a want.lease
    → lease_in a (argument_words a want ++ rest) ≡ want.lease
unfolding lease_in
lease_in-words arguments.Lease want rest h = lease_of-word want.lease h
lease_in-words arguments.Number want rest h = sym h
lease_in-words arguments.Nothing want rest h = sym h
lease_in-words arguments.Id want rest h = sym h
lease_in-words arguments.IdAndLease want rest h =
    lease_of-word want.lease (is_lease_millis want.lease h)

number_in-words : (a : Arguments) (want : Want) (rest : List (List ℕ)) → NumberFits a want.number
    → number_in a (argument_words a want ++ rest) ≡ want.number
unfolding number_in
number_in-words arguments.Lease want rest h = sym h
number_in-words arguments.Number want rest h = value-decimal want.number h
number_in-words arguments.Nothing want rest h = sym h
number_in-words arguments.Id want rest h = sym h
number_in-words arguments.IdAndLease want rest h = sym h

id_in-words : (a : Arguments) (want : Want) (rest : List (List ℕ)) → IdFits a want.id
    → id_in a (argument_words a want ++ rest) ≡ want.id
unfolding id_in
id_in-words arguments.Lease want rest h = sym h
id_in-words arguments.Number want rest h = sym h
id_in-words arguments.Nothing want rest h = sym h
id_in-words arguments.Id want rest h = id_of-id_text want.id h
id_in-words arguments.IdAndLease want rest h = id_of-id_text want.id h

-- the want of a function, from its name and the words behind that
pub want_in : Function → List ℕ → List (List ℕ) → Want
want_in function name words =
    let a = arguments_of function in record {
      function = function;
      name = name;
      lease = lease_in a words;
      number = number_in a words;
      id = id_in a words;
    }

want_of_parts : (want : Want) (lease : Lease) (number : ℕ) (id : List ℕ)
    → lease ≡ want.lease → number ≡ want.number → id ≡ want.id
    → record {
      function = want.function;
      name = want.name;
      lease = lease;
      number = number;
      id = id;
    } ≡ want
want_of_parts want lease number id lease_is number_is id_is =
    let with_parts : Lease → ℕ → List ℕ → Want = λ l n i. record {
      function = want.function;
      name = want.name;
      lease = l;
      number = n;
      id = i;
    } in
    ap (λ l. with_parts l number id) lease_is ∙ ap (λ n. with_parts want.lease n id) number_is
    ∙ ap (with_parts want.lease want.number) id_is

-- the words of a want give it back, whatever stands behind them
pub want_in-words : (want : Want) (rest : List (List ℕ)) → IsSpelled want
    → want_in (function_of (function_word want.function)) want.name
    (argument_words (arguments_of want.function) want ++ rest) ≡ want
unfolding want_in
want_in-words want rest h =
    let a = arguments_of want.function in
    rw (function_of-word want.function) (want_of_parts want _ _ _
    (lease_in-words a want rest h.lease) (number_in-words a want rest h.number)
    (id_in-words a want rest h.id))
