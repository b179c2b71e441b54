use Rattle.std.proofs.Common.{◌≡◌, ◌+◌, ◌<◌, ℕ, Option, None, Some, length, is_some, if◌then◌else◌, position, sym, ap, subst, ◌∙◌, arith}
use Rattle.std.specs.List.{swap_remove}
use Rattle.std.specs.Map.{keys_of}
use Rattle.std.specs.Option.{option_map}
use Rattle.std.proofs.lemmas.List.Quantifiers.{position-Some}
use Rattle.lr_waiting.specs.declared.watch.WatchKey.{WatchKey}
use Rattle.lr_waiting.specs.contracts.watch.WatchKeyPartialEq.TheImpl.{ghosts}
use Rattle.lr_watchdog.specs.declared.slot.Slot.{Slot}
use Rattle.lr_watchdog.specs.Value.{AreDue}
use Rattle.lr_watchdog.proofs.Rows.{slot_set}
use Rattle.lr_watchdog.proofs.Places.{AreDue-removed, length_keys, swap_remove_entry-at}
use Rattle.lr_watchdog.proofs.slots.remove_slot.Goals as goal

pub returns-in_default-clause-at : goal.returns-in_default-clause-at
returns-in_default-clause-at c =
    slot_set c.args.key.now None c.args.slots.now.entries
    c.swap_remove_full.new.self.entries c.swap_remove_full.ensures.updates.0

pub returns-clause-at : goal.returns-clause-at
returns-clause-at c =
    slot_set c.args.key.now None c.args.slots.now.entries
    c.swap_remove_full.new.self.entries c.swap_remove_full.ensures.updates.0

pub returns-clause-due : goal.returns-clause-due
returns-clause-due c =
    let rows = c.args.slots.now.entries in
    let key = c.args.key.now in
    let place = c.in-Some.place in
    let last = c.len.result in
    let removed : WatchKey × Slot = (c.in-Some.field-0-1, c.in-Some.field-0-2) in
    let found : position (ghosts.eq key) (keys_of rows) ≡ Some place =
    sym c.swap_remove_full.ensures.index
    ∙ ap (λ (r : Option (ℕ × WatchKey × Slot)). option_map (λ p. p.0) r) c.in-Some.is in
    let within : place < length rows =
    subst (λ n. place < n) (length_keys rows)
    (position-Some (ghosts.eq key) (keys_of rows) place key found).0 in
    let one : (if is_some c.swap_remove_full.result then 1 else 0) ≡ 1 =
    ap {B = ℕ} (λ (r : Option (ℕ × WatchKey × Slot)). if is_some r then 1 else 0) c.in-Some.is in
    let len : last + 1 ≡ length rows =
    omega (arith, c.len.ensures.len, c.swap_remove_full.ensures.len, one) in
    let left = c.swap_remove_full.ensures.entries
    ∙ swap_remove_entry-at (ghosts.eq key) rows place removed found in
    subst (λ rows. AreDue rows c.remove_place.new.due) (sym left)
    (subst (AreDue (swap_remove rows place removed)) (sym c.remove_place.ensures)
    (AreDue-removed rows c.args.due.now place last removed c.requires within len))
