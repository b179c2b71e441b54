-- Expirable permits, after the permit-expirable semaphore of the Redisson guide: unset, or a number of
-- permits, with the leases of those that are taken. Each lease is under an id of its own, and a
-- permit comes free by itself when its lease runs out. The functions see the permits as they stand,
-- with leases that may have expired: each removes these first.
use Rattle.std.specs.Prelude.{ℕ, ◌+◌, ◌-◌, nat_lt, min, Bool, not, List, [], ◌∷◌, length, filter, find, Option, Some, None, if◌then◌else◌}
use Rattle.std.specs.Str.{bytes_eq}
use Rattle.lr_limits.specs.Limits.{member_limit}
use Rattle.lr_names.specs.Post.{post_to}
use Rattle.lr_names.specs.declared.kind.Kind.TheVariants as kinds
use Rattle.lr_names.specs.declared.post.Post.{Post}
use Rattle.lr_objects.specs.declared.permits.PermitCall.{PermitCall}
use Rattle.lr_objects.specs.declared.permits.PermitCall.TheVariants as calls
use Rattle.lr_objects.specs.declared.reply.Reply.TheVariants.{Granted, Busy, Short, Freed, Set, AlreadySet, Count, Unknown, TooMany}
use Rattle.lr_model.specs.Moment.{is_live}
use Rattle.lr_model.specs.Outcome.{Outcome, silent_outcome, with_lease}

-- a permit that was taken: the sixteen bytes of the id under which it was, and the moment from which
-- on it is free again
pub record PermitLease : Type 0 where
  pub id : List ℕ
  pub deadline : ℕ

-- how many permits there are, if that was set, and the leases of those that were taken: the one that
-- was made last comes first
pub record Permits : Type 0 where
  pub number : Option ℕ
  pub leases : List PermitLease

-- before the number is set
abbrev pub unset_permits : Permits
unset_permits = record { number = None; leases = [] }

-- the leases whose deadlines haven't come
abbrev pub live_leases : ℕ → List PermitLease → List PermitLease
live_leases moment leases = filter (λ lease. is_live lease.deadline moment) leases

-- the permits without the leases that have expired
abbrev pub live_permits : ℕ → Permits → Permits
live_permits moment permits = record permits { leases = live_leases moment permits.leases }

-- whether a lease is under this id
abbrev pub is_under : List ℕ → PermitLease → Bool
is_under id lease = bytes_eq id lease.id

-- the lease under an id
abbrev pub lease_under : List ℕ → List PermitLease → Option PermitLease
lease_under id leases = find (is_under id) leases

-- the leases without the one under this id
abbrev pub without_lease : List ℕ → List PermitLease → List PermitLease
without_lease id leases = filter (λ lease. not (is_under id lease)) leases

-- the deadline that comes first
abbrev pub least_deadline : List PermitLease → ℕ
least_deadline [] = 0
least_deadline (lease ∷ []) = lease.deadline
least_deadline (lease ∷ next ∷ rest) = min lease.deadline (least_deadline (next ∷ rest))

-- the message that a permit may be free
abbrev pub permits_post : List ℕ → Post
permits_post name = post_to (record { kind = kinds.Permits; name = name; owner = None })

-- the permits with one more lease
abbrev pub with_new_lease : List ℕ → ℕ → Permits → Permits
with_new_lease id deadline permits =
    record permits { leases = record { id = id; deadline = deadline } ∷ permits.leases }

-- how many permits are free: none where the number isn't set
abbrev pub available_of : Option ℕ → List PermitLease → ℕ
available_of None leases = 0
available_of (Some number) leases = number - length leases

abbrev pub available : Permits → ℕ
available permits = available_of permits.number permits.leases

-- The steps of the functions, on permits whose leases are all live.

-- the number is set once, and those who wait are told
abbrev pub set_number : List ℕ → ℕ → Permits → Option ℕ → Outcome Permits
set_number name number live None = record {
  reply = Set;
  object = record live { number = Some number };
  post = Some (permits_post name);
}
set_number name number live (Some set) = silent_outcome AlreadySet live

-- Taking a permit, where the id has none: one must be free, else it is told how long it is until the
-- first lease runs out. There are 65,536 leases at most.
abbrev pub take_permit : ℕ → List ℕ → ℕ → Permits → ℕ → Outcome Permits
take_permit moment id lease live number =
    if nat_lt (length live.leases) number
    then (
    if nat_lt (length live.leases) member_limit
    then silent_outcome Granted (with_new_lease id (moment + lease) live)
    else silent_outcome TooMany live
    )
    else silent_outcome (Busy (least_deadline live.leases - moment)) live

-- by the lease that the id has: an id has one at most
abbrev pub take_beside : ℕ → List ℕ → ℕ → Permits → ℕ → Option PermitLease → Outcome Permits
take_beside moment id lease live number (Some own) = silent_outcome AlreadySet live
take_beside moment id lease live number None = take_permit moment id lease live number

-- by the number: before it is set there are no permits
abbrev pub take_of : ℕ → List ℕ → ℕ → Permits → Option ℕ → Outcome Permits
take_of moment id lease live None = silent_outcome Short live
take_of moment id lease live (Some number) =
    take_beside moment id lease live number (lease_under id live.leases)

-- a permit is given back by its id, and those who wait are told
abbrev pub give_back_lease : List ℕ → List ℕ → Permits → Option PermitLease → Outcome Permits
give_back_lease name id live None = silent_outcome Unknown live
give_back_lease name id live (Some own) = record {
  reply = Freed;
  object = record live { leases = without_lease id live.leases };
  post = Some (permits_post name);
}

-- the same steps, by what they look at
abbrev pub set_step : List ℕ → ℕ → Permits → Outcome Permits
set_step name number live = set_number name number live live.number

abbrev pub try_step : ℕ → List ℕ → ℕ → Permits → Outcome Permits
try_step moment id lease live = take_of moment id lease live live.number

abbrev pub release_step : List ℕ → List ℕ → Permits → Outcome Permits
release_step name id live = give_back_lease name id live (lease_under id live.leases)

abbrev pub count_step : Permits → Outcome Permits
count_step live = silent_outcome (Count (available live)) live

-- The functions. A lease out of range is refused first.
abbrev pub permit_set : List ℕ → ℕ → ℕ → Permits → Outcome Permits
permit_set name moment number permits = set_step name number (live_permits moment permits)

abbrev pub permit_try : ℕ → List ℕ → ℕ → Permits → Outcome Permits
permit_try moment id lease permits =
    with_lease lease permits (try_step moment id lease (live_permits moment permits))

abbrev pub permit_release : List ℕ → ℕ → List ℕ → Permits → Outcome Permits
permit_release name moment id permits = release_step name id (live_permits moment permits)

abbrev pub permit_count : ℕ → Permits → Outcome Permits
permit_count moment permits = count_step (live_permits moment permits)

-- what a call makes of the permits of this name
abbrev pub permit_call : List ℕ → ℕ → PermitCall → Permits → Outcome Permits
permit_call name moment (calls.Set number) = permit_set name moment number
permit_call name moment (calls.Try id lease) = permit_try moment id lease
permit_call name moment (calls.Release id) = permit_release name moment id
permit_call name moment calls.Count = permit_count moment
