-- Each word of an event is one word: it has no space.
use Rattle.std.proofs.Common.{◌≢◌, ℕ, ◌<◌, Bool, true, false, List, [], ◌∷◌, IsTrue, if◌then◌else◌, decimal, refl, arith}
use Rattle.std.proofs.lemmas.Bool.{and_from}
use Rattle.std.proofs.lemmas.Bool.Decides.{nat_tests}
use Rattle.uuid.specs.Text.{lower, hex_digit, nibble, digit_place, is_hyphen_place}
use Rattle.uuid.proofs.TextLemmas.{by_index_at, nibble_small}
use Rattle.lr_text.specs.Words.{lacks, are_words}
use Rattle.lr_text.proofs.NumberLaws.{decimal-is_word}
use Rattle.lr_text.proofs.WordLaws.{lacks-from_places}
use Rattle.lr_names.specs.Owner.{id_text}
use Rattle.lr_names.proofs.NameLaws.{name-lacks}
use Rattle.lr_names.proofs.OwnerLaws.{length-id_text}
use Rattle.lr_objects.specs.declared.form.Arguments.{Arguments}
use Rattle.lr_objects.specs.declared.form.Arguments.TheVariants as arguments
use Rattle.lr_objects.specs.declared.want.Lease.{Lease}
use Rattle.lr_objects.specs.declared.want.Lease.TheVariants as leases
use Rattle.lr_objects.specs.declared.want.Mode.{Mode}
use Rattle.lr_objects.specs.declared.want.Mode.TheVariants as modes
use Rattle.lr_objects.specs.declared.want.Want.{Want}
use Rattle.lr_objects.specs.Function.{arguments_of}
use Rattle.lr_objects.specs.Want.{mode_word, lease_word, argument_words, want_words}
use Rattle.lr_objects.proofs.FunctionLaws.{function_word-lacks}
use Rattle.lr_machine.specs.EventText.{watch_word, IsLease, LeaseFits, NumberFits, AreNumbers}
use Rattle.lr_schedule.specs.declared.spelled.Spelled.{Spelled}
use Rattle.lr_schedule.specs.declared.spelled.Spelled.TheVariants.{Begin, Thread, Client, Tick, Renew, Force, Show}
use Rattle.lr_schedule.specs.Spelled.{verb_word, verb_of, more_words, CanSpell, IsMode}
use Rattle.lr_schedule.proofs.ArgumentLaws.{is_lease_millis, is_mode_fitting}
use Rattle.lr_schedule.proofs.VerbLaws.{verb_word-lacks}
use Rattle.lr_schedule.proofs.KindLaws.{watch_word-lacks}

lease-is_word : (lease : Lease) → IsLease lease → IsTrue (lacks 32 (lease_word lease))
lease-is_word leases.Watch h = refl
lease-is_word (leases.For millis) small = decimal-is_word millis small

-- neither a hyphen nor a digit of sixteen is a space
hex_digit-other : (d : ℕ) → d < 16 → hex_digit lower d ≢ 32
hex_digit-other d small = grind (arith, nat_tests)

either-other : (b : Bool) (x y : ℕ) → x ≢ 32 → y ≢ 32 → (if b then x else y) ≢ 32
either-other true x y p q = p
either-other false x y p q = q

-- the byte of an id's text at a place
abbrev id_byte : List ℕ → ℕ → ℕ
id_byte id place =
    if is_hyphen_place place then 45 else hex_digit lower (nibble id (digit_place place))

id_text-is_word : (id : List ℕ) → IsTrue (lacks 32 (id_text id))
id_text-is_word id =
    lacks-from_places 32 (id_text id) (λ k within.
    let below : k < 36 = omega (arith, length-id_text id) in
    let digit = hex_digit-other (nibble id (digit_place k)) (nibble_small id (digit_place k)) in
    rw (by_index_at 36 (id_byte id) k 0 below)
    (either-other (is_hyphen_place k) 45 _ (λ e. omega arith) digit))

one_word : (word : List ℕ) → IsTrue (lacks 32 word) → IsTrue (are_words (word ∷ []))
one_word word h = and_from _ _ h refl

-- what a function is given
argument_words-are_words : (a : Arguments) (want : Want) → LeaseFits a want.lease
    → NumberFits a want.number → IsTrue (are_words (argument_words a want))
argument_words-are_words arguments.Lease want lease number =
    one_word (lease_word want.lease) (lease-is_word want.lease lease)
argument_words-are_words arguments.Number want lease number =
    one_word (decimal want.number) (decimal-is_word want.number number)
argument_words-are_words arguments.Nothing want lease number = refl
argument_words-are_words arguments.Id want lease number =
    one_word (id_text want.id) (id_text-is_word want.id)
argument_words-are_words arguments.IdAndLease want lease number =
    let is_lease = is_lease_millis want.lease lease in
    let millis = one_word (lease_word want.lease) (lease-is_word want.lease is_lease) in
    and_from _ _ (id_text-is_word want.id) millis

-- a client and a thread
who_words : (client thread : ℕ) (words : List (List ℕ)) → AreNumbers client thread
    → IsTrue (are_words words) → IsTrue (are_words (decimal client ∷ decimal thread ∷ words))
who_words client thread words h rest =
    let named = and_from _ _ (decimal-is_word thread h.1) rest in
    and_from _ _ (decimal-is_word client h.0) named

mode-is_word : (mode : Mode) → IsMode mode → IsTrue (lacks 32 (mode_word mode))
mode-is_word modes.Once h = refl
mode-is_word (modes.For millis) h = decimal-is_word millis (omega arith)
mode-is_word modes.Long h = refl

-- behind a verb
more_words-are_words : (s : Spelled) → CanSpell s → IsTrue (are_words (more_words s))
more_words-are_words (Begin who mode want) h =
    let is_mode = mode-is_word mode (is_mode_fitting mode want.function h.1.wait) in
    let a = arguments_of want.function in
    let given = argument_words-are_words a want h.2.lease h.2.number in
    let named = and_from _ _ (name-lacks 32 want.name refl h.2.named) given in
    let wanted = and_from _ _ is_mode (and_from _ _ (function_word-lacks want.function) named) in
    who_words who.client who.thread (mode_word mode ∷ want_words want) h.0 wanted
more_words-are_words (Thread verb who) h = who_words who.client who.thread [] h refl
more_words-are_words (Client verb client) h = one_word (decimal client) (decimal-is_word client h)
more_words-are_words (Tick moment) h =
    one_word (decimal moment) (decimal-is_word moment (omega arith))
more_words-are_words (Renew verb who kind name) h =
    let named = one_word name (name-lacks 32 name refl h.1) in
    let of_kind = and_from _ _ (watch_word-lacks kind) named in
    who_words who.client who.thread (watch_word kind ∷ name ∷ []) h.0 of_kind
more_words-are_words (Force name) h = one_word name (name-lacks 32 name refl h)
more_words-are_words Show h = refl

-- no word that spells an event has a space
pub spelled-are_words : (s : Spelled) → CanSpell s
    → IsTrue (are_words (verb_word (verb_of s) ∷ more_words s))
spelled-are_words s h = and_from _ _ (verb_word-lacks (verb_of s)) (more_words-are_words s h)
