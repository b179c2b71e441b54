-- What holds after every event of every schedule.
use Rattle.std.specs.Prelude.{◌≡◌, ◌≢◌, ℕ, zero, suc, ◌+◌, ◌≤◌, List, [], ◌++◌, IsTrue, false, if◌then◌else◌}
use Rattle.lr_model.specs.Board.{Board, is_open}
use Rattle.lr_model.specs.History.{IsLegal, CanCall, deeds_of, deeds_by}
use Rattle.lr_model.specs.Tenure.{NoConflict}
use Rattle.lr_model.specs.Tokens.{TokensGrow}
use Rattle.lr_model.specs.SemaphoreCounts.{NeverOvergranted}
use Rattle.lr_model.specs.PermitCounts.{NeverMoreThanSet}
use Rattle.lr_model.specs.CountdownCounts.{CountsDown}
use Rattle.lr_waiting.specs.Client.{Client}
use Rattle.lr_machine.specs.declared.event.Event.{Event}
use Rattle.lr_machine.specs.Clients.{command_connection, subscription_connection, operator_connection}
use Rattle.lr_machine.specs.Deeds.{deeds_made}
use Rattle.lr_machine.specs.Within.{IsClient}
use Rattle.lr_machine.specs.World.{World, first_state, state_of, world_after, first_world}

-- a client that wasn't cut off can call, and its other connection is open and wasn't dropped
pub record IsConnected (board : Board) (c : ℕ) : Type 0 where
  pub calls : CanCall (board (command_connection c))
  pub open_ : IsTrue (is_open (board (subscription_connection c)))
  pub kept : (board (subscription_connection c)).dropped ≡ false

-- a connection on which a client that wasn't cut off gets messages
pub record IsHeard (clients : ℕ → Client) (conn : ℕ) : Type 0 where
  pub client : ℕ
  pub within : IsClient client
  pub uncut : (clients client).session.is_cut ≡ false
  pub at : conn ≡ subscription_connection client

-- The operator can call, and so can each client that wasn't cut off. Only such a client's second
-- connection has channels.
pub record AreConnected (board : Board) (clients : ℕ → Client) : Type 0 where
  pub operator : CanCall (board operator_connection)
  pub each : (c : ℕ) → IsClient c → (clients c).session.is_cut ≡ false → IsConnected board c
  pub quiet : (conn : ℕ) → (board conn).channels ≢ [] → IsHeard clients conn

-- how many of the first clients weren't cut off
unfoldable pub clients_left : ℕ → (ℕ → Client) → ℕ
clients_left zero clients = 0
clients_left (suc n) clients =
    clients_left n clients + (if (clients (suc n)).session.is_cut then 0 else 1)

-- The history is legal and no later than the moment, and the connections fit the clients.
pub record IsInOrder (world : World) : Type 0 where
  pub legal : IsLegal first_state world.entries
  pub in_time : (state_of world).moment ≤ world.moment
  pub connected : AreConnected (state_of world).board world.clients

-- The history of a world is legal, time hasn't gone back behind its last entry, and no two claims
-- that conflict are held at once. Tokens strictly grow, of no semaphore more was granted than there
-- was, of no expirable permits more are live at once than were set, and latches count down.
pub record IsSound (world : World) : Type 0 where
  pub legal : IsLegal first_state world.entries
  pub in_time : (state_of world).moment ≤ world.moment
  pub exclusive : NoConflict first_state world.entries
  pub tokens : TokensGrow first_state world.entries
  pub permits : NeverOvergranted first_state world.entries
  pub leases : NeverMoreThanSet first_state world.entries
  pub counts : CountsDown first_state world.entries

-- After these events the world is sound, and what each caller did stands in its history once, in
-- the order of the events.
pub record GoesWell (events : List Event) : Type 0 where
  pub sound : IsSound (world_after first_world events)
  pub once : (caller : ℕ)
      → deeds_by caller (deeds_of (world_after first_world events).entries)
      ≡ deeds_by caller (deeds_made first_world events)

-- It goes well after each of these events.
abbrev pub GoesWellThroughout : List Event → Type 0
GoesWellThroughout events = (front later : List Event) → events ≡ front ++ later → GoesWell front
