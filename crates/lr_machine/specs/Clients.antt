-- The clients of a schedule: their ids, their connections, and the numbers under which they call.
-- This project's own.
use Rattle.std.specs.Prelude.{ℕ, ◌+◌, ◌-◌, ◌*◌, ◌/◌, List}
use Rattle.std.specs.Int.{w128, to_be_bytes}

-- the id of a client is the one whose 128-bit number is the client's
abbrev pub client_id : ℕ → List ℕ
client_id client = to_be_bytes w128 client

-- a client sends calls on one connection, and gets messages on another
abbrev pub command_connection : ℕ → ℕ
command_connection client = 2 * client - 1

abbrev pub subscription_connection : ℕ → ℕ
subscription_connection client = 2 * client

-- the client that has a connection
abbrev pub client_at : ℕ → ℕ
client_at connection = (connection + 1) / 2

-- the number under which a thread calls, and that of the client for what no thread does
abbrev pub caller_of : ℕ → ℕ → ℕ
caller_of client thread = 1000 * client + thread

abbrev pub client_caller : ℕ → ℕ
client_caller client = 1000 * client

-- the number under which an operator calls, and its connection
abbrev pub operator : ℕ
operator = 0

abbrev pub operator_connection : ℕ
operator_connection = 0
