-- What is true of every world: at first, and after each event.
use Rattle.std.proofs.Common.{◌≡◌, ◌<◌, ◌≤◌, ◌+◌, ◌^◌, ℕ, zero, suc, List, [], length, refl, ap, sym, ◌∙◌, subst, arith}
use Rattle.lr_limits.specs.Limits.{client_limit, event_limit, last_moment}
use Rattle.lr_model.specs.declared.entry.Entry.{Entry}
use Rattle.lr_machine.specs.declared.event.Event.{Event}
use Rattle.lr_machine.specs.Within.{IsWithin}
use Rattle.lr_machine.specs.Sound.{IsInOrder, clients_left}
use Rattle.lr_machine.specs.World.{World, first_client, first_world, next}
use Rattle.lr_machine_laws.proofs.Lengths.{length-next, with_closes}
use Rattle.lr_machine_laws.proofs.Worlds.{IsInOrder-first_world, IsInOrder-next}
use Rattle.lr_machine_renewals.specs.WatchFacts.{HaveWatches}
use Rattle.lr_machine_wakeups.specs.WorldFacts.{HaveFacts}
use Rattle.lr_waiting.specs.Client.{Client}
use Rattle.lr_server.specs.Server.{ServerValue}
use Rattle.lr_clients.specs.Client.{ClientValue, clients_of}
use Rattle.lr_world.specs.World.{IsWorld, WorldValue, world_of, world_with}

abbrev pub value_with : List Entry → ℕ → List ClientValue → ℕ → WorldValue
value_with entries moment clients applied =
    record { entries = entries; moment = moment; clients = clients; applied = applied }

-- from the world of the definitions to what contracts see
pub IsWorld-from : (last : ℕ) (value : WorldValue) (world : World) → last ≡ 128
    → world_of value ≡ world → IsInOrder world → HaveFacts value.applied world
    → HaveWatches value.applied world
    → with_closes world ≤ value.applied + 128 → value.moment ≤ last_moment
    → value.applied ≤ event_limit → IsWorld last value
IsWorld-from last value world first is order facts watches few early limited = record {
  first = first;
  in_order = subst IsInOrder (sym is) order;
  facts = subst (HaveFacts value.applied) (sym is) facts;
  watches = subst (HaveWatches value.applied) (sym is) watches;
  early = early;
  few = subst (λ (w : World). with_closes w ≤ value.applied + 128) (sym is) few;
  limited = limited;
}

-- Before the first event.

left-first : (n : ℕ) → clients_left n first_client ≡ n
unfolding clients_left
left-first zero = refl
left-first (suc n) = omega (arith, left-first n)

few-first : with_closes first_world ≤ 128
few-first = omega (arith, left-first client_limit)

pub is-first : (server : ServerValue) (clients : List ClientValue)
    → server ≡ record { last = 128; entries = [] } → clients_of clients ≡ first_client
    → world_with server.entries 0 clients ≡ first_world
is-first server clients new none =
    ap (λ (s : ServerValue). world_with s.entries 0 clients) new
    ∙ ap (λ (found : ℕ → Client). record { entries = []; moment = 0; clients = found }) none

pub IsWorld-first : (server : ServerValue) (clients : List ClientValue)
    → HaveFacts 0 first_world → HaveWatches 0 first_world
    → server ≡ record { last = 128; entries = [] } → clients_of clients ≡ first_client
    → IsWorld server.last
    (record { entries = server.entries; moment = 0; clients = clients; applied = 0 })
IsWorld-first server clients facts watches new none =
    IsWorld-from server.last
    (record { entries = server.entries; moment = 0; clients = clients; applied = 0 })
    first_world (ap (λ (s : ServerValue). s.last) new) (is-first server clients new none)
    IsInOrder-first_world facts watches few-first (omega arith) (omega arith)

-- After an event.

-- what the laws say of an event
abbrev pub Keeps : (ℕ → World → Type 0) → Type 0
Keeps Have = (n : ℕ) (world : World) (event : Event) → suc n < 2 ^ 64 → IsWithin event
    → IsInOrder world → Have n world → Have (suc n) (next world event)

pub IsWorld-next : (last now : ℕ) (old new : WorldValue) (event : Event)
    → Keeps HaveFacts → Keeps HaveWatches → IsWithin event → IsWorld last old → old.applied < event_limit → now ≡ last
    → world_of new ≡ next (world_of old) event → new.moment ≤ last_moment
    → new.applied ≡ old.applied + 1 → IsWorld now new
IsWorld-next last now old new event keeps watches within is room same next_is early one =
    let count : suc old.applied ≡ new.applied = omega arith in
    let facts : HaveFacts (suc old.applied) (next (world_of old) event) =
    keeps old.applied (world_of old) event (omega arith) within is.in_order is.facts in
    let watched : HaveWatches (suc old.applied) (next (world_of old) event) =
    watches old.applied (world_of old) event (omega arith) within is.in_order is.watches in
    let grown = length-next (world_of old) event within is.in_order in
    IsWorld-from now new (next (world_of old) event) (same ∙ is.first) next_is
    (IsInOrder-next (world_of old) event within is.in_order)
    (subst (λ (n : ℕ). HaveFacts n (next (world_of old) event)) count facts)
    (subst (λ (n : ℕ). HaveWatches n (next (world_of old) event)) count watched)
    (omega (arith, grown, is.few)) early (omega arith)

-- where an event found no memory
pub IsWorld-same : (last now : ℕ) (old new : WorldValue) → IsWorld last old → now ≡ last
    → world_of new ≡ world_of old → new.moment ≤ last_moment → new.applied ≡ old.applied
    → IsWorld now new
IsWorld-same last now old new is same world_is early one =
    IsWorld-from now new (world_of old) (same ∙ is.first) world_is is.in_order
    (subst (λ (n : ℕ). HaveFacts n (world_of old)) (sym one) is.facts)
    (subst (λ (n : ℕ). HaveWatches n (world_of old)) (sym one) is.watches)
    (omega (arith, is.few)) early (omega (arith, is.limited))

-- fewer entries, where none is kept for those who may be cut off
pub few_entries : (last : ℕ) (value : WorldValue) → IsWorld last value
    → length value.entries ≤ value.applied + 128
few_entries last value is = omega (arith, is.few)
