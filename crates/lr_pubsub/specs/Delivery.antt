-- A board while a message is delivered: this project's own steps to `board_after_post`.
use Rattle.std.specs.Prelude.{ℕ, List, ◌==◌, Bool, if◌then◌else◌}
use Rattle.std.specs.List.{list_any}
use Rattle.lr_names.specs.declared.post.Post.{Post}
use Rattle.lr_names.specs.declared.post.Push.TheVariants.{Message}
use Rattle.lr_model.specs.Board.{Board, Connection, dropped_connection, has_room, with_item}

-- a connection with a message more, if its outbox takes one
abbrev pub with_message : Post → Connection → Connection
with_message post connection =
    if has_room connection
    then with_item (Message post.channel post.wakes) connection
    else connection

-- the board when these connections were told, and none was dropped yet
abbrev pub board_with_message : Post → (ℕ → Bool) → Board → Board
board_with_message post is_told board =
    λ conn. if is_told conn then with_message post (board conn) else board conn

-- whether a number is in a list
abbrev pub is_listed : List ℕ → ℕ → Bool
is_listed numbers number = list_any (λ other. other == number) numbers

-- the board when these connections were dropped
abbrev pub board_after_drops : List ℕ → Board → Board
board_after_drops numbers board =
    λ conn. if is_listed numbers conn then dropped_connection (board conn) else board conn
