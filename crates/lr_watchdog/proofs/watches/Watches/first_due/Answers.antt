use Rattle.std.proofs.Common.{◌≡◌, ◌≢◌, ◌≤◌, Some, slice_get, slice_index, sym, ap, subst, ◌∙◌, arith}
use Rattle.std.specs.Map.Iter.{deref_pair}
use Rattle.std.specs.Option.{option_map}
use Rattle.lr_expiry.specs.declared.limits.TheConstants.{NO_EXPIRY}
use Rattle.lr_waiting.specs.declared.watch.WatchKey.{WatchKey}
use Rattle.lr_waiting.specs.Watchdog.{IsToRenew}
use Rattle.lr_watchdog.specs.Value.{WatchesValue, watchdog_of}
use Rattle.lr_watchdog.proofs.DueLemmas.{falls_at_place, falls_due_by, falls_near, place_falls, to_renew}
use Rattle.lr_watchdog.proofs.Watchdogs.{shown}
use Rattle.lr_watchdog.proofs.watches.Watches.first_due.Goals as goal

pub returns-in_err-place-clause-none : goal.returns-in_err-place-clause-none
returns-in_err-place-clause-none c =
    let s = c.self.inside in
    let value = shown s.lease s.slots.entries s.generation in
    rw c.from_residual.ensures
    (subst (λ (v : WatchesValue). (key : WatchKey)
    → IsToRenew c.args.moment (watchdog_of v) key → ⊥) c.self.view_is
    (λ key is.
    let by = falls_due_by (watchdog_of value) c.args.moment key is in
    let place = falls_at_place value s.due c.self.invariant.slots c.self.invariant.places by.at
    key by.falls in
    let near = falls_near value s.due c.self.invariant.slots c.self.invariant.places by.at key
    by.falls in
    let late = c.in_err-place.ensures.none place.0 place.1 in
    absurd (grind (arith, near, late, place.2, by.early, c.min.ensures))))

pub returns-clause-some : goal.returns-clause-some
returns-clause-some c =
    let s = c.self.inside in
    let value = shown s.lease s.slots.entries s.generation in
    let place = c.in_ok-place.place in
    let key = c.unwrap.result.0.now in
    let slot = c.unwrap.result.1.now in
    let at : slice_get s.slots.entries place ≡ Some (key, slot) =
    sym c.get_index.ensures.entry ∙ ap (option_map deref_pair) c.unwrap.ensures in
    let early = c.in_ok-place.ensures.due in
    let some : slice_index s.due place ≢ NO_EXPIRY =
    λ none. omega (arith, early, c.min.ensures, none) in
    let before : slice_index s.due place ≤ c.args.moment = omega (arith, early, c.min.ensures) in
    subst (λ (v : WatchesValue). IsToRenew c.args.moment (watchdog_of v) key) c.self.view_is
    (to_renew (watchdog_of value) c.args.moment (slice_index s.due place) key
    (place_falls value s.due c.self.invariant.slots c.self.invariant.places
    c.len-len.ensures.unique place key slot at some) before)
