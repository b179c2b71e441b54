use Rattle.std.proofs.Common.{◌≡◌, ◌+◌, ◌<◌, List, ℕ, Option, Some, length, is_some, if◌then◌else◌, position, sym, ap, subst, ◌∙◌, arith}
use Rattle.std.specs.List.{swap_remove}
use Rattle.std.specs.Option.{option_map}
use Rattle.std.specs.Str.{bytes_eq}
use Rattle.std.specs.Map.{keys_of}
use Rattle.std.proofs.lemmas.List.Quantifiers.{position-Some}
use Rattle.lr_keys.specs.declared.slot.Slot.{Slot}
use Rattle.lr_keys.specs.Slots.{AreExpiries}
use Rattle.lr_keys.proofs.ExpiryLemmas.{AreExpiries-removed, length_keys, swap_remove_entry-at}
use Rattle.lr_keys.proofs.expiry.remove_slot.Goals as goal

pub returns-clause-expiries : goal.returns-clause-expiries
returns-clause-expiries c =
    let es = c.args.slots.now.entries in
    let ds = c.args.expiries.now in
    let place = c.in-Some.place in
    let last = c.len.result in
    let removed : List ℕ × Slot = (c.in-Some.field-0-1, c.in-Some.field-0-2) in
    let found : position (bytes_eq c.args.key.now) (keys_of es) ≡ Some place =
    sym c.swap_remove_full.ensures.index
    ∙ ap (λ (r : Option (ℕ × List ℕ × Slot)). option_map (λ p. p.0) r) c.in-Some.is in
    let within : place < length es =
    subst (λ n. place < n) (length_keys es)
    (position-Some (bytes_eq c.args.key.now) (keys_of es) place c.args.key.now found).0 in
    let one : (if is_some c.swap_remove_full.result then 1 else 0) ≡ 1 =
    ap {B = ℕ} (λ (r : Option (ℕ × List ℕ × Slot)). if is_some r then 1 else 0) c.in-Some.is in
    let len : last + 1 ≡ length es =
    omega (arith, c.len.ensures.len, c.swap_remove_full.ensures.len, one) in
    let left = c.swap_remove_full.ensures.entries
    ∙ swap_remove_entry-at (bytes_eq c.args.key.now) es place removed found in
    subst (λ xs. AreExpiries xs c.remove_place.new.expiries) (sym left)
    (subst (AreExpiries (swap_remove es place removed)) (sym c.remove_place.ensures)
    (AreExpiries-removed es ds place last removed c.requires within len))
