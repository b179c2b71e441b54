-- How a server's keys, its board and its stored history fit together.
use Rattle.std.specs.Prelude.{◌≡◌, ℕ, ◌<◌, ◌≤◌, List, length, false}
use Rattle.lr_limits.specs.Limits.{connection_limit, last_moment}
use Rattle.lr_keys.specs.KeySpace.{Keys}
use Rattle.lr_model.specs.Board.{Board, is_open, numbers_below}
use Rattle.lr_model.specs.History.{state_at_start, IsLegal}
use Rattle.lr_pubsub.specs.BoardValue.{BoardValue}
use Rattle.lr_server.specs.Server.{ServerValue, state_of, connection_of}
use Rattle.lr_server.specs.Stands.{StateStands}

-- the numbers of the connections that are open
abbrev pub open_numbers : Board → List ℕ
open_numbers board = numbers_below connection_limit (λ conn. is_open (board conn))

-- The history is legal; the keys and the board stand for the state that it leaves, and the moment is
-- that state's. Each open connection can be closed: there is room for the entry of its close.
pub record IsServing (server : ServerValue) (moment : ℕ) (keys : Keys) (board : BoardValue)
    (spare : ℕ) : Type 0 where
  pub first : server.last < connection_limit
  pub legal : IsLegal (state_at_start server.last) server.entries
  pub now : moment ≡ (state_of server).moment
  pub early : moment ≤ last_moment
  pub in_time : keys.moment ≤ moment
  pub stands : StateStands keys board (state_of server)
  pub numbered : (conn : ℕ) → connection_limit ≤ conn → is_open (connection_of server conn) ≡ false
  pub closable : length (open_numbers (state_of server).board) ≤ spare
