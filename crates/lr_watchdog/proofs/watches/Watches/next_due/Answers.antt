use Rattle.std.proofs.Common.{◌≤◌, ℕ, sym, subst, ◌∙◌, arith}
use Rattle.lr_waiting.specs.declared.watch.WatchKey.{WatchKey}
use Rattle.lr_waiting.specs.Watchdog.{FallsDue}
use Rattle.lr_watchdog.specs.Value.{WatchesValue, watchdog_of}
use Rattle.lr_watchdog.proofs.DueLemmas.{falls_at_place, falls_from_place, falls_near}
use Rattle.lr_watchdog.proofs.Watchdogs.{shown}
use Rattle.lr_watchdog.proofs.watches.Watches.next_due.Goals as goal

pub returns-then-least : goal.returns-then-least
returns-then-least c =
    let s = c.self.inside in
    let value = shown s.lease s.slots.entries s.generation in
    subst (λ (v : WatchesValue). (moment : ℕ) (key : WatchKey)
    → FallsDue (watchdog_of v) moment key → ⊥) c.self.view_is
    (λ moment key falls.
    let place = falls_at_place value s.due c.self.invariant.slots c.self.invariant.places moment
    key falls in
    let near = falls_near value s.due c.self.invariant.slots c.self.invariant.places moment key
    falls in
    let least = c.least-least.ensures.least place.0 place.1 in
    absurd (omega (arith, near, least, place.2, c.if-least.true)))

pub returns : goal.returns
returns c =
    let s = c.self.inside in
    let value = shown s.lease s.slots.entries s.generation in
    let some = c.least-least.ensures.some c.if-least.false in
    let found = falls_from_place value s.due c.self.invariant.slots c.self.invariant.places
    c.len-len.ensures.unique some.0 some.1 (λ none. c.if-least.false (sym some.2 ∙ none)) in
    let least : (other : ℕ) (key : WatchKey) → FallsDue (watchdog_of value) other key
    → c.least-least.result ≤ other = λ other key falls.
    let place = falls_at_place value s.due c.self.invariant.slots c.self.invariant.places other
    key falls in
    subst (λ n. c.least-least.result ≤ n) place.2
    (c.least-least.ensures.least place.0 place.1) in
    subst (λ (v : WatchesValue).
    ((key : WatchKey) × FallsDue (watchdog_of v) c.least-least.result key)
    × ((other : ℕ) (key : WatchKey) → FallsDue (watchdog_of v) other key
    → c.least-least.result ≤ other)) c.self.view_is
    ((found.0, subst (λ n. FallsDue (watchdog_of value) n found.0) some.2 found.1), least)
