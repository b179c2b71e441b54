use Rattle.std.proofs.Common.{◌≡◌, Some, slice_get, sym, ap, ◌∙◌}
use Rattle.std.specs.Option.{option_map}
use Rattle.std.specs.Str.{bytes_eq}
use Rattle.std.specs.Cmp.Lexicographic.{nat_list_eq_equiv}
use Rattle.std.specs.Map.Iter.{deref_pair}
use Rattle.std.proofs.lemmas.Map.Entries.{lookup_from_place}
use Rattle.indexmap.specs.IndexMap.{get}
use Rattle.lr_keys.proofs.LiveLemmas.{is_gone, live_slot-removed}
use Rattle.lr_keys.proofs.expiry.remove_at.Goals as goal

pub returns-clause-slots : goal.returns-clause-slots
returns-clause-slots c =
    let slots = c.args.slots.now in
    let key = c.unwrap.result.0.now in
    let slot = c.unwrap.result.1.now in
    let at : slice_get slots.entries c.args.place ≡ Some (key, slot) =
    sym c.get_index.ensures.entry ∙ ap (option_map deref_pair) c.unwrap.ensures in
    live_slot-removed c.args.moment (get bytes_eq slots) (get bytes_eq c.remove_slot.new.slots) key
    slot (lookup_from_place nat_list_eq_equiv slots.entries c.args.place key slot
    c.len-len.ensures.unique at)
    (is_gone slots.entries c.args.expiries.now c.args.place c.args.moment key slot
    c.requires.expiries at c.requires.due c.requires.moment)
    c.remove_slot.ensures.slots
