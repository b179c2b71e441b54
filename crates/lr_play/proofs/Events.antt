-- Lines that are the texts of events, and what these show.
use Rattle.std.proofs.Common.{◌≡◌, ℕ, suc, ◌+◌, ◌≤◌, List, [], ◌∷◌, ◌++◌, length, refl, sym, ap, ◌∙◌, subst, arith, append_assoc, append-nil}
use Rattle.std.specs.List.{AllByRecursion}
use Rattle.lr_limits.specs.Limits.{event_limit}
use Rattle.lr_machine.specs.declared.event.Event.{Event}
use Rattle.lr_machine.specs.declared.event.Event.TheVariants.{Begin}
use Rattle.lr_machine.specs.declared.schedule_line.ScheduleLine.TheVariants as kinds
use Rattle.lr_machine.specs.EventText.{IsEvent}
use Rattle.lr_machine.specs.Within.{IsWithin, MayBegin}
use Rattle.lr_machine.specs.Transcript.{IsLine, AreLinesOf, transcript, shown_line}
use Rattle.lr_machine.specs.Shown.{shown}
use Rattle.lr_machine.specs.World.{World, next, world_after}

-- an event more behind some events
pub AreLinesOf-push : (k number : ℕ) (lines : List (List ℕ)) (events : List Event) (line : List ℕ) (event : Event) → number ≡ length lines + k
    → AreLinesOf k lines events → IsLine number line (kinds.Event event) → AreLinesOf k (lines ++ line ∷ []) (events ++ event ∷ [])
AreLinesOf-push k number [] [] line event e are is = (subst (λ n. IsLine n line (kinds.Event event)) (omega arith) is, tt)
AreLinesOf-push k number [] (x ∷ events) line event e are is = absurd are
AreLinesOf-push k number (l ∷ lines) [] line event e are is = absurd are
AreLinesOf-push k number (l ∷ lines) (x ∷ events) line event e are is = (are.0, AreLinesOf-push (k + 1) number lines events line event (omega arith) are.1 is)

-- there are as many events as lines
pub AreLinesOf-length : (k : ℕ) (lines : List (List ℕ)) (events : List Event) → AreLinesOf k lines events → length events ≡ length lines
AreLinesOf-length k [] [] are = refl
AreLinesOf-length k [] (x ∷ events) are = absurd are
AreLinesOf-length k (l ∷ lines) [] are = absurd are
AreLinesOf-length k (l ∷ lines) (x ∷ events) are = ap (λ n. suc n) (AreLinesOf-length (k + 1) lines events are.1)

-- their numbers end at the limit
pub AreLinesOf-few : (k : ℕ) (lines : List (List ℕ)) (events : List Event) → k ≤ event_limit + 1 → AreLinesOf k lines events → k + length events ≤ event_limit + 1
AreLinesOf-few k [] [] few are = omega (arith, few)
AreLinesOf-few k [] (x ∷ events) few are = absurd are
AreLinesOf-few k (l ∷ lines) [] few are = absurd are
AreLinesOf-few k (l ∷ lines) (x ∷ events) few are =
    let limit = are.0.3 in
    let rest = AreLinesOf-few (k + 1) lines events (omega (arith, limit)) are.1 in
    omega (arith, rest)

-- the events of lines are within the limits
pub AreLinesOf-within : (k : ℕ) (lines : List (List ℕ)) (events : List Event) → AreLinesOf k lines events → AllByRecursion IsWithin events
AreLinesOf-within k [] [] are = tt
AreLinesOf-within k [] (x ∷ events) are = absurd are
AreLinesOf-within k (l ∷ lines) [] are = absurd are
AreLinesOf-within k (l ∷ lines) (x ∷ events) are = (are.0.2, AreLinesOf-within (k + 1) lines events are.1)

-- each of such lines is that of an event
pub AreLinesOf-at : (k : ℕ) (earlier : List (List ℕ)) (line : List ℕ) (later : List (List ℕ)) (events : List Event) → AreLinesOf k (earlier ++ line ∷ later) events
    → (event : Event) × IsLine (length earlier + k) line (kinds.Event event)
AreLinesOf-at k [] line later [] are = absurd are
AreLinesOf-at k [] line later (x ∷ events) are = (x, subst (λ n. IsLine n line (kinds.Event x)) (omega arith) are.0)
AreLinesOf-at k (e ∷ earlier) line later [] are = absurd are
AreLinesOf-at k (e ∷ earlier) line later (x ∷ events) are =
    let h = AreLinesOf-at (k + 1) earlier line later events are.1 in
    (h.0, subst (λ n. IsLine n line (kinds.Event h.0)) (omega arith) h.1)

-- the world after one event more
pub world_after-push : (world : World) (events : List Event) (event : Event) → world_after world (events ++ event ∷ []) ≡ next (world_after world events) event
world_after-push world [] event = refl
world_after-push world (x ∷ events) event = world_after-push (next world x) events event

-- and what is shown then
pub transcript-push : (world : World) (k : ℕ) (events : List Event) (event : Event)
    → transcript world k (events ++ event ∷ []) ≡ transcript world k events ++ shown_line (length events + k) (shown (world_after world events) event)
transcript-push world k [] event = append-nil (shown_line k (shown world event)) ∙ ap (λ n. shown_line n (shown world event)) (let e : k ≡ 0 + k = omega arith in e)
transcript-push world k (x ∷ events) event =
    let here : List ℕ = shown_line k (shown world x) in
    ap (λ (l : List ℕ). here ++ l) (transcript-push (next world x) (k + 1) events event)
    ∙ ap (λ n. here ++ (transcript (next world x) (k + 1) events ++ shown_line n (shown (world_after (next world x) events) event))) (let e : length events + (k + 1) ≡ length (x ∷ events) + k = omega arith in e)
    ∙ sym (append_assoc here (transcript (next world x) (k + 1) events) (shown_line (length (x ∷ events) + k) (shown (world_after (next world x) events) event)))

-- what a schedule says may begin
pub event_begins : (event : Event) → IsEvent event → MayBegin event
event_begins (Begin c t mode want) is = is.1
event_begins _ is = tt
