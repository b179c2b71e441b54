-- No event has a text of more than 512 bytes.
use Rattle.std.proofs.Common.{ℕ, ◌+◌, ◌<◌, ◌≤◌, ◌^◌, List, ◌∷◌, length, decimal, sym, ap, subst, arith}
use Rattle.std.proofs.lemmas.List.{length-append}
use Rattle.lr_limits.specs.Limits.{line_limit}
use Rattle.lr_text.proofs.NumberLaws.{length-decimal}
use Rattle.lr_text.specs.Words.{joined}
use Rattle.lr_names.proofs.OwnerLaws.{length-id_text}
use Rattle.lr_objects.specs.declared.form.Arguments.{Arguments}
use Rattle.lr_objects.specs.declared.form.Arguments.TheVariants as arguments
use Rattle.lr_objects.specs.declared.kinds.Function.{Function}
use Rattle.lr_objects.specs.declared.want.Lease.{Lease}
use Rattle.lr_objects.specs.declared.want.Lease.TheVariants as leases
use Rattle.lr_objects.specs.declared.want.Mode.{Mode}
use Rattle.lr_objects.specs.declared.want.Mode.TheVariants as modes
use Rattle.lr_objects.specs.declared.want.Want.{Want}
use Rattle.lr_objects.specs.Function.{arguments_of}
use Rattle.lr_objects.specs.Want.{mode_word, lease_word, argument_words}
use Rattle.lr_objects.proofs.FunctionLaws.{length-function_word}
use Rattle.lr_waiting.specs.declared.watch.WatchKind.{WatchKind}
use Rattle.lr_waiting.specs.declared.watch.WatchKind.TheVariants as watched
use Rattle.lr_waiting.specs.Begin.{FitsMode}
use Rattle.lr_machine.specs.declared.event.Event.{Event}
use Rattle.lr_machine.specs.declared.event.Event.TheVariants.{Begin, Ask, Exec, Take, Check, Wake, Fire, Quit, Sub, Push, Tick, RenewAsk, RenewExec, RenewTake, Force, Cut, Show}
use Rattle.lr_machine.specs.declared.schedule_line.ScheduleLine.TheVariants as kinds
use Rattle.lr_machine.specs.EventText.{event_text, watch_word, IsEvent, IsLease, IsMillis, IsSpelled, LeaseFits, NumberFits, IdFits}
use Rattle.lr_machine.specs.Transcript.{IsLine}

short_number : (n : ℕ) → n < 2 ^ 64 → length (decimal n) ≤ 20
short_number n lt = (length-decimal n lt).1

short_millis : (lease : Lease) → IsMillis lease → length (lease_word lease) ≤ 20
short_millis lease is =
    subst (λ l. length (lease_word l) ≤ 20) (sym is.1) (short_number is.0 is.2)

short_lease : (lease : Lease) → IsLease lease → length (lease_word lease) ≤ 20
short_lease leases.Watch is = omega arith
short_lease (leases.For millis) is = short_number millis is

short_kind : (kind : WatchKind) → length (watch_word kind) ≤ 20
short_kind watched.Lock = omega arith
short_kind watched.Fair = omega arith
short_kind watched.Fenced = omega arith
short_kind watched.Read = omega arith
short_kind watched.Write = omega arith

short_mode : (mode : Mode) (function : Function) → FitsMode mode function → length (mode_word mode) ≤ 20
short_mode modes.Once function fits = omega arith
short_mode (modes.For millis) function fits = short_number millis (let most = fits.1.1 in omega (arith, most))
short_mode modes.Long function fits = omega arith

-- the name with the words behind it
short_arguments : (args : Arguments) (want : Want) → LeaseFits args want.lease → NumberFits args want.number → IdFits args want.id → length (joined (want.name ∷ argument_words args want)) ≤ length want.name + 60
short_arguments arguments.Lease want lease number id = simp length-append (omega (arith, short_lease want.lease lease))
short_arguments arguments.Number want lease number id = simp length-append (omega (arith, short_number want.number number))
short_arguments arguments.Nothing want lease number id = omega arith
short_arguments arguments.Id want lease number id = simp length-append (omega (arith, length-id_text want.id))
short_arguments arguments.IdAndLease want lease number id = simp length-append (omega (arith, short_millis want.lease lease, length-id_text want.id))

pub short_text : (event : Event) → IsEvent event → length (event_text event) ≤ 512
short_text (Begin c t mode want) is =
    let spelled : IsSpelled want = is.2 in
    let word : length (mode_word mode) ≤ 20 = short_mode mode want.function is.1.wait in
    let behind = short_arguments (arguments_of want.function) want spelled.lease spelled.number spelled.id in
    simp length-append (omega (arith, short_number c is.0.0, short_number t is.0.1, word, length-function_word want.function, behind, spelled.named.short))
short_text (Ask c t) is = simp length-append (omega (arith, short_number c is.0, short_number t is.1))
short_text (Exec c t) is = simp length-append (omega (arith, short_number c is.0, short_number t is.1))
short_text (Take c t) is = simp length-append (omega (arith, short_number c is.0, short_number t is.1))
short_text (Check c t) is = simp length-append (omega (arith, short_number c is.0, short_number t is.1))
short_text (Wake c t) is = simp length-append (omega (arith, short_number c is.0, short_number t is.1))
short_text (Fire c t) is = simp length-append (omega (arith, short_number c is.0, short_number t is.1))
short_text (Quit c t) is = simp length-append (omega (arith, short_number c is.0, short_number t is.1))
short_text (Sub c) is = simp length-append (omega (arith, short_number c is))
short_text (Push c) is = simp length-append (omega (arith, short_number c is))
short_text (Tick moment) is = simp length-append (omega (arith, short_number moment (omega arith)))
short_text (RenewAsk c t kind name) is =
    simp length-append
    (omega (arith, short_number c is.0.0, short_number t is.0.1, short_kind kind, is.1.short))
short_text (RenewExec c t kind name) is =
    simp length-append
    (omega (arith, short_number c is.0.0, short_number t is.0.1, short_kind kind, is.1.short))
short_text (RenewTake c t kind name) is =
    simp length-append
    (omega (arith, short_number c is.0.0, short_number t is.0.1, short_kind kind, is.1.short))
short_text (Force name) is = simp length-append (omega (arith, is.short))
short_text (Cut c) is = simp length-append (omega (arith, short_number c is))
short_text Show is = omega arith

pub long_is_bad : (number : ℕ) (line : List ℕ) → line_limit < length line → IsLine number line kinds.Bad
long_is_bad number line long event is same = omega (arith, ap length same, short_text event is)
