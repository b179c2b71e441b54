-- Which clients can be cut off, one after the other.
use Rattle.std.specs.Prelude.{ℕ, List, [], ◌∷◌, IsTrue}
use Rattle.lr_model.specs.Board.{Board, closed_connection, is_open, with_connection}
use Rattle.lr_machine.specs.Clients.{command_connection, subscription_connection}
use Rattle.lr_machine.specs.Within.{IsClient}

-- a client whose two connections are open
pub record IsOpen (board : Board) (client : ℕ) : Type 0 where
  pub within : IsClient client
  pub calls : IsTrue (is_open (board (command_connection client)))
  pub hears : IsTrue (is_open (board (subscription_connection client)))

-- the board without the connections of a client
abbrev pub board_without : Board → ℕ → Board
board_without board client =
    with_connection (with_connection board (command_connection client) closed_connection)
    (subscription_connection client) closed_connection

-- clients of which each is such a one, once those before it were cut off
abbrev pub AreOpen : Board → List ℕ → Type 0
AreOpen board [] = Unit {0}
AreOpen board (client ∷ clients) =
    IsOpen board client × AreOpen (board_without board client) clients
