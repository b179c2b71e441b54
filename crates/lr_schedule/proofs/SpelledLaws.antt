-- What a line spells, against its event, and given back by its words.
use Rattle.std.proofs.Common.{◌≡◌, ◌↔◌, ℕ, List, [], ◌∷◌, ◌++◌, length, drop, refl, sym, ap, ◌∙◌, arith, decimal, append-nil, length-append}
use Rattle.lr_names.specs.Name.{IsName}
use Rattle.lr_objects.specs.declared.want.Mode.{Mode}
use Rattle.lr_objects.specs.declared.want.Want.{Want}
use Rattle.lr_objects.specs.Want.{mode_word, want_words}
use Rattle.lr_waiting.specs.declared.watch.WatchKind.{WatchKind}
use Rattle.lr_waiting.specs.Begin.{CanBegin}
use Rattle.lr_machine.specs.EventText.{event_words, hold_words, watch_word, IsNumber, AreNumbers, IsEvent, IsSpelled}
use Rattle.lr_schedule.specs.declared.spelled.Who.{Who}
use Rattle.lr_schedule.specs.declared.spelled.Spelled.{Spelled}
use Rattle.lr_schedule.specs.declared.spelled.Spelled.TheVariants as spelled
use Rattle.lr_schedule.specs.declared.verb.ThreadVerb.{ThreadVerb}
use Rattle.lr_schedule.specs.declared.verb.ThreadVerb.TheVariants.{Ask}
use Rattle.lr_schedule.specs.declared.verb.ClientVerb.{ClientVerb}
use Rattle.lr_schedule.specs.declared.verb.ClientVerb.TheVariants.{Sub}
use Rattle.lr_schedule.specs.declared.verb.RenewVerb.{RenewVerb}
use Rattle.lr_schedule.specs.declared.verb.RenewVerb.TheVariants as renew_verbs
use Rattle.lr_schedule.specs.declared.verb.Verb.{Verb}
use Rattle.lr_schedule.specs.declared.verb.Verb.TheVariants as verbs
use Rattle.lr_schedule.specs.Spelled.{thread_word, client_word, renew_word, thread_event, client_event, renew_event, event_of, verb_word, verb_of, more_words, CanSpell, Completes}
use Rattle.lr_schedule.proofs.ArgumentLaws.{value, value-decimal, at, mode_of, mode_of-word, is_mode_fitting, function_of, want_in, want_in-words}
use Rattle.lr_schedule.proofs.VerbLaws.{verb_with, verb_with-verb_word}
use Rattle.lr_schedule.proofs.KindLaws.{kind_with, kind_with-watch_word}

-- what holds of each event of a thread
record OfThread (verb : ThreadVerb) (client thread : ℕ) : Type 0 where
  pub text : event_words (thread_event verb client thread)
      ≡ thread_word verb ∷ decimal client ∷ decimal thread ∷ []
  pub event : IsEvent (thread_event verb client thread) ↔ AreNumbers client thread

of_thread : (verb : ThreadVerb) (client thread : ℕ) → OfThread verb client thread
of_thread Ask client thread = record { text = refl; event = (λ h. h, λ h. h) }
of_thread _ client thread = record { text = refl; event = (λ h. h, λ h. h) }

-- and of each of a client
record OfClient (verb : ClientVerb) (client : ℕ) : Type 0 where
  pub text : event_words (client_event verb client) ≡ client_word verb ∷ decimal client ∷ []
  pub event : IsEvent (client_event verb client) ↔ IsNumber client

of_client : (verb : ClientVerb) (client : ℕ) → OfClient verb client
of_client Sub client = record { text = refl; event = (λ h. h, λ h. h) }
of_client _ client = record { text = refl; event = (λ h. h, λ h. h) }

-- and of each of a renewal
record OfRenewal (verb : RenewVerb) (client thread : ℕ) (kind : WatchKind) (name : List ℕ) :
    Type 0 where
  pub text : event_words (renew_event verb client thread kind name)
      ≡ renew_word verb ∷ hold_words client thread kind name
  pub event : IsEvent (renew_event verb client thread kind name)
      ↔ (AreNumbers client thread × IsName name)

of_renewal : (verb : RenewVerb) (client thread : ℕ) (kind : WatchKind) (name : List ℕ)
    → OfRenewal verb client thread kind name
of_renewal renew_verbs.Ask client thread kind name = record { text = refl; event = (λ h. h, λ h. h) }
of_renewal _ client thread kind name = record { text = refl; event = (λ h. h, λ h. h) }

-- the words of an event are those that spell it
pub event_words-of : (s : Spelled) → event_words (event_of s) ≡ verb_word (verb_of s) ∷ more_words s
event_words-of (spelled.Begin who mode want) = refl
event_words-of (spelled.Thread verb who) = (of_thread verb who.client who.thread).text
event_words-of (spelled.Client verb client) = (of_client verb client).text
event_words-of (spelled.Tick moment) = refl
event_words-of (spelled.Renew verb who kind name) =
    (of_renewal verb who.client who.thread kind name).text
event_words-of (spelled.Force name) = refl
event_words-of spelled.Show = refl

-- and it can be said exactly where it can be spelled
pub can_spell : (s : Spelled) → IsEvent (event_of s) ↔ CanSpell s
can_spell (spelled.Begin who mode want) = (λ h. h, λ h. h)
can_spell (spelled.Thread verb who) = (of_thread verb who.client who.thread).event
can_spell (spelled.Client verb client) = (of_client verb client).event
can_spell (spelled.Tick moment) = (λ h. h, λ h. h)
can_spell (spelled.Renew verb who kind name) =
    (of_renewal verb who.client who.thread kind name).event
can_spell (spelled.Force name) = (λ h. h, λ h. h)
can_spell spelled.Show = (λ h. h, λ h. h)

-- a client and a thread, from the words that begin with them
who_in : List (List ℕ) → Who
who_in words = record { client = value (at words 0); thread = value (at words 1) }

who_in-words : (who : Who) (rest : List (List ℕ)) → AreNumbers who.client who.thread
    → who_in (decimal who.client ∷ decimal who.thread ∷ rest) ≡ who
unfolding who_in
who_in-words who rest h =
    let with_client : ℕ → Who = λ c. record { client = c; thread = value (decimal who.thread) } in
    let with_thread : ℕ → Who = λ t. record { client = who.client; thread = t } in
    ap with_client (value-decimal who.client h.0) ∙ ap with_thread (value-decimal who.thread h.1)

-- what a verb spells, from the words behind it
spelled_in : Verb → List (List ℕ) → Spelled
spelled_in verbs.Begin words =
    let want = want_in (function_of (at words 3)) (at words 4) (drop 5 words) in
    spelled.Begin (who_in words) (mode_of (at words 2)) want
spelled_in (verbs.Thread verb) words = spelled.Thread verb (who_in words)
spelled_in (verbs.Client verb) words = spelled.Client verb (value (at words 0))
spelled_in verbs.Tick words = spelled.Tick (value (at words 0))
spelled_in (verbs.Renew verb) words =
    spelled.Renew verb (who_in words) (kind_with (at words 2)) (at words 3)
spelled_in verbs.Force words = spelled.Force (at words 0)
spelled_in verbs.Show words = spelled.Show

begin_of_parts : (who who' : Who) (mode mode' : Mode) (want want' : Want) → who ≡ who'
    → mode ≡ mode' → want ≡ want' → spelled.Begin who mode want ≡ spelled.Begin who' mode' want'
begin_of_parts who who' mode mode' want want' who_is mode_is want_is = cc

-- the words behind the verb give it back, whatever stands behind them
spelled_in-words : (s : Spelled) (rest : List (List ℕ)) → CanSpell s
    → spelled_in (verb_of s) (more_words s ++ rest) ≡ s
unfolding spelled_in
spelled_in-words (spelled.Begin who mode want) rest h =
    begin_of_parts _ _ _ _ _ _ (who_in-words who (mode_word mode ∷ want_words want ++ rest) h.0)
    (mode_of-word mode (is_mode_fitting mode want.function h.1.wait)) (want_in-words want rest h.2)
spelled_in-words (spelled.Thread verb who) rest h =
    ap (λ w. spelled.Thread verb w) (who_in-words who rest h)
spelled_in-words (spelled.Client verb client) rest h =
    ap (λ c. spelled.Client verb c) (value-decimal client h)
spelled_in-words (spelled.Tick moment) rest h = ap spelled.Tick (value-decimal moment (omega arith))
spelled_in-words (spelled.Renew verb who kind name) rest h =
    let read = who_in-words who (watch_word kind ∷ name ∷ rest) h.0 in
    ap (λ w. spelled.Renew verb w (kind_with (watch_word kind)) name) read
    ∙ ap (λ k. spelled.Renew verb who k name) (kind_with-watch_word kind)
spelled_in-words (spelled.Force name) rest h = refl
spelled_in-words spelled.Show rest h = refl

-- what all words spell
spelled_by : List (List ℕ) → Spelled
spelled_by [] = spelled.Show
spelled_by (verb ∷ words) = spelled_in (verb_with verb) words

spelled_by-words : (s : Spelled) (rest : List (List ℕ)) → CanSpell s
    → spelled_by (verb_word (verb_of s) ∷ more_words s ++ rest) ≡ s
unfolding spelled_by
spelled_by-words s rest h = rw (verb_with-verb_word (verb_of s)) (spelled_in-words s rest h)

-- two are one where the words of one begin those of the other
pub spelled-injective : (a b : Spelled) (rest : List (List ℕ)) → CanSpell a → CanSpell b
    → verb_word (verb_of a) ∷ more_words a ++ rest ≡ verb_word (verb_of b) ∷ more_words b → a ≡ b
spelled-injective a b rest in_a in_b same =
    sym (spelled_by-words a rest in_a)
    ∙ ap spelled_by (same ∙ sym (append-nil (verb_word (verb_of b) ∷ more_words b)))
    ∙ spelled_by-words b [] in_b

-- and then no word stands behind them
pub spelled-whole : (a b : Spelled) (rest : List (List ℕ)) → CanSpell a → CanSpell b
    → verb_word (verb_of a) ∷ more_words a ++ rest ≡ verb_word (verb_of b) ∷ more_words b
    → rest ≡ []
spelled-whole a b rest in_a in_b same =
    let e = spelled-injective a b rest in_a in_b same in
    no_more (verb_word (verb_of a) ∷ more_words a) rest
    (same ∙ ap (λ s. verb_word (verb_of s) ∷ more_words s) (sym e))
  where
    no_more : (words more : List (List ℕ)) → words ++ more ≡ words → more ≡ []
    no_more words [] e = refl
    no_more words (x ∷ more) e =
        absurd (omega (arith, length-append words (x ∷ more), ap length e))

-- words behind `begin`, by their parts
pub record BeginWords (words rest : List (List ℕ)) : Type 0 where
  pub who : Who
  pub mode : Mode
  pub want : Want
  pub text : words
      ≡ decimal who.client ∷ decimal who.thread ∷ mode_word mode ∷ want_words want ++ rest
  pub begins : CanBegin mode want
  pub spelled : IsSpelled want

pub begins_with : (words : List (List ℕ)) (s : Spelled) (rest : List (List ℕ))
    → Completes verbs.Begin words s rest → BeginWords words rest
begins_with words (spelled.Begin who mode want) rest h = record {
  who = who;
  mode = mode;
  want = want;
  text = h.text;
  begins = h.can.1;
  spelled = h.can.2;
}
begins_with words _ rest h = let other = h.verb_is in absurd cc

-- words behind a verb of a renewal, by their parts
pub record RenewalWords (words rest : List (List ℕ)) : Type 0 where
  pub who : Who
  pub kind : WatchKind
  pub name : List ℕ
  pub text : words
      ≡ decimal who.client ∷ decimal who.thread ∷ watch_word kind ∷ name ∷ rest
  pub numbers : AreNumbers who.client who.thread
  pub named : IsName name

pub renews_with : (verb : RenewVerb) (words : List (List ℕ)) (s : Spelled)
    (rest : List (List ℕ)) → Completes (verbs.Renew verb) words s rest → RenewalWords words rest
renews_with verb words (spelled.Renew v who kind name) rest h = record {
  who = who;
  kind = kind;
  name = name;
  text = h.text;
  numbers = h.can.0;
  named = h.can.1;
}
renews_with verb words _ rest h = let other = h.verb_is in absurd cc
