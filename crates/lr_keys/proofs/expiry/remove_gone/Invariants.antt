use Rattle.std.proofs.Common.{◌≡◌, ◌≤◌, ℕ, List, length}
use Rattle.std.specs.Str.{bytes_eq}
use Rattle.indexmap.specs.IndexMap.{get, index_map_len, spare}
use Rattle.lr_keys.specs.Slots.{AreExpiries, live_slot}
use Rattle.lr_keys.proofs.expiry.remove_gone.Given as goal

abbrev pub invariant-gone : goal.invariant-gone
invariant-gone l = record {
  slots : (q : List ℕ) → live_slot l.moment (get bytes_eq l.slots q)
      ≡ live_slot l.moment (get bytes_eq l.fn.slots q);
  expiries : AreExpiries l.slots.entries l.expiries;
  fewer : index_map_len l.slots ≤ index_map_len l.fn.slots;
  places : length l.expiries ≡ length l.fn.expiries;
  room : spare l.fn.slots ≤ spare l.slots;
}

abbrev pub decreases-gone : goal.decreases-gone
decreases-gone l = index_map_len l.slots
