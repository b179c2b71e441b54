-- What a board shows: this project's own.
use Rattle.std.specs.Prelude.{List, Bool, unwrap_or, slice_get}
use Rattle.lr_model.specs.Board.{Board, Connection, closed_connection}

-- the connections in order of their numbers, and whether the next message, subscription or leave
-- needs no memory
pub record BoardValue : Type 0 where
  pub connections : List Connection
  pub ready : Bool

-- the board that a list of connections is
abbrev pub board_of : BoardValue → Board
board_of value = λ conn. unwrap_or (slice_get value.connections conn) closed_connection
