-- Every schedule within the limits goes well, and each front of it.
use Rattle.std.proofs.Common.{◌≡◌, List, [], ◌∷◌, ◌++◌, sym, ap, ◌∙◌, subst, append_assoc, append-nil}
use Rattle.std.specs.List.{AllByRecursion}
use Rattle.lr_machine.specs.declared.event.Event.{Event}
use Rattle.lr_machine.specs.Sound.{IsInOrder, IsSound, GoesWell, GoesWellThroughout}
use Rattle.lr_machine.specs.Within.{IsWithin}
use Rattle.lr_machine.specs.World.{World, first_world, next, world_after}
use Rattle.lr_machine.specs.Deeds.{deeds_of_event, deeds_made}
use Rattle.lr_model.specs.History.{Deed, deeds_of, deeds_by}
use Rattle.lr_laws.proofs.KindTable.{no_conflict}
use Rattle.lr_laws.proofs.Tokens.{tokens_grow}
use Rattle.lr_laws.proofs.Semaphores.{never_overgranted}
use Rattle.lr_laws.proofs.Permits.{never_more_than_set}
use Rattle.lr_laws.proofs.Latches.{counts_down}
use Rattle.lr_machine_laws.proofs.Worlds.{IsInOrder-first_world, IsInOrder-next}
use Rattle.lr_machine_laws.proofs.Growth.{deeds_of-next}

-- a world whose history is in order is sound
pub IsSound-from_order : (world : World) → IsInOrder world → IsSound world
IsSound-from_order world order = record {
  legal = order.legal;
  in_time = order.in_time;
  exclusive = no_conflict 128 world.entries order.legal;
  tokens = tokens_grow 128 world.entries order.legal;
  permits = never_overgranted 128 world.entries;
  leases = never_more_than_set 128 world.entries order.legal;
  counts = counts_down 128 world.entries;
}

pub IsInOrder-world_after : (events : List Event) (world : World)
    → AllByRecursion IsWithin events → IsInOrder world → IsInOrder (world_after world events)
IsInOrder-world_after [] world within order = order
IsInOrder-world_after (event ∷ events) world within order =
    IsInOrder-world_after events (next world event) within.1
    (IsInOrder-next world event within.0 order)

pub deeds_of-world_after : (events : List Event) (world : World)
    → deeds_of (world_after world events).entries
    ≡ deeds_of world.entries ++ deeds_made world events
deeds_of-world_after [] world = sym (append-nil (deeds_of world.entries))
deeds_of-world_after (event ∷ events) world =
    deeds_of-world_after events (next world event)
    ∙ ap (λ (deeds : List Deed). deeds ++ deeds_made (next world event) events)
    (deeds_of-next world event)
    ∙ append_assoc (deeds_of world.entries) (deeds_of_event world event)
    (deeds_made (next world event) events)

pub goes_well : (events : List Event) → AllByRecursion IsWithin events → GoesWell events
goes_well events within = record {
  sound =
      IsSound-from_order (world_after first_world events)
      (IsInOrder-world_after events first_world within IsInOrder-first_world);
  once = λ caller. ap (deeds_by caller) (deeds_of-world_after events first_world);
}

-- the events of a front are among all of them
AllByRecursion-front : (front later : List Event)
    → AllByRecursion IsWithin (front ++ later) → AllByRecursion IsWithin front
AllByRecursion-front [] later within = tt
AllByRecursion-front (event ∷ front) later within =
    (within.0, AllByRecursion-front front later within.1)

pub goes_well_throughout : (events : List Event)
    → AllByRecursion IsWithin events → GoesWellThroughout events
goes_well_throughout events within front later split =
    goes_well front
    (AllByRecursion-front front later (subst (AllByRecursion IsWithin) split within))
