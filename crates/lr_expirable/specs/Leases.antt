-- The sorted set that holds the leases of expirable permits, as Redisson keeps them: from the text of
-- each id to the deadline.
use Rattle.std.specs.Prelude.{◌≡◌, ◌≤◌, List, length, map, Option, None}
use Rattle.std.specs.List.{AllByRecursion}
use Rattle.lr_limits.specs.Limits.{member_limit, never}
use Rattle.lr_names.specs.Owner.{IsId, id_text}
use Rattle.lr_sorted.specs.Members.{Scored, Members as Scores}
use Rattle.lr_sorted.specs.Sorted.{AreDistinct, sorted}
use Rattle.lr_keys.specs.KeySpace.{KeyEntry, Members, entry_with_value}
use Rattle.lr_model.specs.Permits.{PermitLease}

-- a lease as a member with its score
abbrev pub member_of : PermitLease → Scored
member_of lease = (id_text lease.id, lease.deadline)

abbrev pub members_of : List PermitLease → Scores
members_of leases = map member_of leases

-- the leases in order of their deadlines
abbrev pub in_order_of : List PermitLease → Scores
in_order_of leases = sorted (members_of leases)

-- the entry of these members: it doesn't expire, and is there as long as there is one
abbrev pub members_entry : Scores → Option KeyEntry
members_entry members = entry_with_value (Members members) None

-- leases as keys can have them: of ids that differ, with deadlines of at most 63 bits
pub record AreLeases (leases : List PermitLease) : Type 0 where
  pub ids : AllByRecursion (λ lease. IsId lease.id) leases
  pub distinct : AreDistinct (members_of leases)
  pub early : AllByRecursion (λ lease. lease.deadline ≤ never) leases
  pub few : length leases ≤ member_limit

-- a key with this entry holds these leases
pub record AreLeasesAt (entry : Option KeyEntry) (leases : List PermitLease) : Type 0 where
  pub stands : entry ≡ members_entry (in_order_of leases)
  pub are : AreLeases leases
