-- What contracts see of a world, and the world of the definitions that it is.
use Rattle.std.specs.Prelude.{◌≡◌, ℕ, ◌≤◌, ◌+◌, ◌*◌, List, length}
use Rattle.lr_limits.specs.Limits.{client_limit, event_limit, last_moment}
use Rattle.lr_model.specs.declared.entry.Entry.{Entry}
use Rattle.lr_machine.specs.Sound.{IsInOrder, clients_left}
use Rattle.lr_machine.specs.World.{World}
use Rattle.lr_machine_renewals.specs.WatchFacts.{HaveWatches}
use Rattle.lr_machine_wakeups.specs.WorldFacts.{HaveFacts}
use Rattle.lr_clients.specs.Client.{ClientValue, clients_of}

-- the server's history, the moment, the clients, and how many events were applied
pub record WorldValue : Type 0 where
  pub entries : List Entry
  pub moment : ℕ
  pub clients : List ClientValue
  pub applied : ℕ

-- the world of a history, a moment and these clients
abbrev pub world_with : List Entry → ℕ → List ClientValue → World
world_with entries moment clients =
    record { entries = entries; moment = moment; clients = clients_of clients }

-- the world that it is
abbrev pub world_of : WorldValue → World
world_of value = world_with value.entries value.moment value.clients

-- What is true of every world: its server began with the connections 0 to 128, its history is in
-- order, and the facts that carry the wakeups and the renewals are so of each client. Each event made
-- one entry of the history at most, and each client that is left may make two more, when it is cut
-- off.
pub record IsWorld (last : ℕ) (value : WorldValue) : Type 0 where
  pub first : last ≡ 128
  pub in_order : IsInOrder (world_of value)
  pub facts : HaveFacts value.applied (world_of value)
  pub watches : HaveWatches value.applied (world_of value)
  pub early : value.moment ≤ last_moment
  pub few : length value.entries + 2 * clients_left client_limit (world_of value).clients
      ≤ value.applied + 128
  pub limited : value.applied ≤ event_limit
