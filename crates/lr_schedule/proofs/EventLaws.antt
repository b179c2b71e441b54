-- The lines of events are one to one: words give an event back.
use Rattle.std.proofs.Common.{◌≡◌, ℕ, List, [], ◌∷◌, refl, sym, ap, subst, ◌∙◌, append-nil}
use Rattle.lr_text.specs.Words.{words_of, joined}
use Rattle.lr_text.proofs.WordLaws.{words_of-joined}
use Rattle.lr_machine.specs.declared.event.Event.{Event}
use Rattle.lr_machine.specs.declared.event.Event.TheVariants.{Begin, Ask, Exec, Take, Check, Wake, Fire, Quit, Sub, Push, Tick, RenewAsk, RenewExec, RenewTake, Force, Cut, Show}
use Rattle.lr_machine.specs.declared.schedule_line.ScheduleLine.{ScheduleLine}
use Rattle.lr_machine.specs.declared.schedule_line.ScheduleLine.TheVariants as lines
use Rattle.lr_machine.specs.EventText.{event_text, IsEvent}
use Rattle.lr_machine.specs.Transcript.{IsLine}
use Rattle.lr_machine.specs.Within.{IsWithin}
use Rattle.lr_schedule.specs.declared.spelled.Spelled.{Spelled}
use Rattle.lr_schedule.specs.declared.spelled.Spelled.TheVariants as spelled
use Rattle.lr_schedule.specs.declared.spelled.Who.{Who}
use Rattle.lr_schedule.specs.declared.verb.ThreadVerb.TheVariants as thread_verbs
use Rattle.lr_schedule.specs.declared.verb.ClientVerb.TheVariants as client_verbs
use Rattle.lr_schedule.specs.declared.verb.RenewVerb.TheVariants as renew_verbs
use Rattle.lr_schedule.specs.Spelled.{event_of, verb_word, verb_of, more_words, CanSpell}
use Rattle.lr_schedule.proofs.SpelledLaws.{event_words-of, can_spell, spelled-injective}
use Rattle.lr_schedule.proofs.WordLaws.{spelled-are_words}

who_of : ℕ → ℕ → Who
who_of client thread = record { client = client; thread = thread }

-- each event can be spelled
abbrev HasSpelling : Event → Type 0
HasSpelling event = (s : Spelled) × (event_of s ≡ event)

pub spelled_of : (event : Event) → HasSpelling event
unfolding who_of
spelled_of (Begin c t mode want) = (spelled.Begin (who_of c t) mode want, refl)
spelled_of (Ask c t) = (spelled.Thread thread_verbs.Ask (who_of c t), refl)
spelled_of (Exec c t) = (spelled.Thread thread_verbs.Exec (who_of c t), refl)
spelled_of (Take c t) = (spelled.Thread thread_verbs.Take (who_of c t), refl)
spelled_of (Check c t) = (spelled.Thread thread_verbs.Check (who_of c t), refl)
spelled_of (Wake c t) = (spelled.Thread thread_verbs.Wake (who_of c t), refl)
spelled_of (Fire c t) = (spelled.Thread thread_verbs.Fire (who_of c t), refl)
spelled_of (Quit c t) = (spelled.Thread thread_verbs.Quit (who_of c t), refl)
spelled_of (Sub c) = (spelled.Client client_verbs.Sub c, refl)
spelled_of (Push c) = (spelled.Client client_verbs.Push c, refl)
spelled_of (Tick moment) = (spelled.Tick moment, refl)
spelled_of (RenewAsk c t kind name) =
    (spelled.Renew renew_verbs.Ask (who_of c t) kind name, refl)
spelled_of (RenewExec c t kind name) =
    (spelled.Renew renew_verbs.Exec (who_of c t) kind name, refl)
spelled_of (RenewTake c t kind name) =
    (spelled.Renew renew_verbs.Take (who_of c t) kind name, refl)
spelled_of (Force name) = (spelled.Force name, refl)
spelled_of (Cut c) = (spelled.Client client_verbs.Cut c, refl)
spelled_of Show = (spelled.Show, refl)

-- the words of a spelling's text are its words
pub words_of-spelled : (s : Spelled) → CanSpell s
    → words_of (event_text (event_of s)) ≡ verb_word (verb_of s) ∷ more_words s
words_of-spelled s h =
    ap (λ words. words_of (joined words)) (event_words-of s)
    ∙ words_of-joined (verb_word (verb_of s)) (more_words s) (spelled-are_words s h)

-- two events with one text are one
event_text-of : (a b : Spelled) → CanSpell a → CanSpell b
    → event_text (event_of a) ≡ event_text (event_of b) → a ≡ b
event_text-of a b in_a in_b same =
    let words = sym (words_of-spelled a in_a) ∙ ap words_of same ∙ words_of-spelled b in_b in
    spelled-injective a b [] in_a in_b
    (append-nil (verb_word (verb_of a) ∷ more_words a) ∙ words)

pub event_text-injective : (a b : Event) → IsEvent a → IsEvent b
    → event_text a ≡ event_text b → a ≡ b
event_text-injective a b in_a in_b same =
    let x = spelled_of a in
    let y = spelled_of b in
    let in_x = (can_spell x.0).0 (subst IsEvent (sym x.1) in_a) in
    let in_y = (can_spell y.0).0 (subst IsEvent (sym y.1) in_b) in
    let texts = ap event_text x.1 ∙ same ∙ ap event_text (sym y.1) in
    sym x.1 ∙ ap event_of (event_text-of x.0 y.0 in_x in_y texts) ∙ y.1

-- a line has one reading
pub one_kind : (number : ℕ) (line : List ℕ) (a b : ScheduleLine) → IsLine number line a
    → IsLine number line b → a ≡ b
one_kind number line (lines.Event a) (lines.Event b) in_a in_b =
    ap lines.Event (event_text-injective a b in_a.1 in_b.1 (sym in_a.0 ∙ in_b.0))
one_kind number line (lines.Event a) lines.Bad in_a in_b = absurd (in_b a in_a.1 in_a.0)
one_kind number line (lines.Event a) lines.TooMany in_a in_b =
    let same = event_text-injective a in_b.0 in_a.1 in_b.2 (sym in_a.0 ∙ in_b.1) in
    absurd (in_b.3 (subst IsWithin same in_a.2, in_a.3))
one_kind number line lines.Bad (lines.Event b) in_a in_b = absurd (in_a b in_b.1 in_b.0)
one_kind number line lines.Bad lines.Bad in_a in_b = refl
one_kind number line lines.Bad lines.TooMany in_a in_b = absurd (in_a in_b.0 in_b.2 in_b.1)
one_kind number line lines.TooMany (lines.Event b) in_a in_b =
    let same = event_text-injective b in_a.0 in_b.1 in_a.2 (sym in_b.0 ∙ in_a.1) in
    absurd (in_a.3 (subst IsWithin same in_b.2, in_b.3))
one_kind number line lines.TooMany lines.Bad in_a in_b = absurd (in_b in_a.0 in_a.2 in_a.1)
one_kind number line lines.TooMany lines.TooMany in_a in_b = refl
