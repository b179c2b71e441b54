use Rattle.std.proofs.Common.{◌≡◌, true}
use Rattle.lr_keys.specs.KeySpace.{ChangesOnly, count_at, entry_at, plan_at}
use Rattle.lr_sorted.specs.Members.{Members, is_in_order}
use Rattle.lr_expirable.specs.Leases.{members_entry}
use Rattle.lr_expirable.specs.Step.{HasLive}
use Rattle.lr_expirable.proofs.expired.remove_expired.Given as goal

abbrev pub invariant-expired : goal.invariant-expired
invariant-expired l = record {
  live : (members : Members) → is_in_order members ≡ true
      → entry_at l.fn.keys l.key ≡ members_entry members
      → HasLive (entry_at l.keys l.key) l.fn.keys.moment members;
  others : ChangesOnly l.key l.fn.keys l.keys;
  moment : l.keys.moment ≡ l.fn.keys.moment;
  prepared : plan_at l.keys ≡ plan_at l.fn.keys;
}

abbrev pub decreases-expired : goal.decreases-expired
decreases-expired l = count_at (entry_at l.keys l.key)
