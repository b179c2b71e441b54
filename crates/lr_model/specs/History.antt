-- The state of the server after each entry of its history, what each entry gave, which histories
-- are legal, and who acts in them.
use Rattle.std.specs.Prelude.{◌≡◌, ◌≢◌, ℕ, ◌≤◌, ◌==◌, nat_le, List, [], ◌∷◌, length, take, IsTrue, false, Some, if◌then◌else◌, unwrap_or, slice_get}
use Rattle.lr_names.specs.declared.post.Push.{Push}
use Rattle.lr_objects.specs.declared.op.Op.{Op}
use Rattle.lr_objects.specs.declared.reply.Reply.{Reply}
use Rattle.lr_model.specs.declared.entry.Act.{Act}
use Rattle.lr_model.specs.declared.entry.Act.TheVariants.{Call, Subscribe, Unsubscribe, Open, Close, Drain}
use Rattle.lr_model.specs.declared.entry.Entry.{Entry}
use Rattle.lr_model.specs.Answer.{Objects, no_objects, reply_of, objects_after, post_of}
use Rattle.lr_model.specs.Board.{Board, Connection, is_open, has_room, closed_connection, new_connection, board_after_post, with_channel, without_channel, connection_after_subscribe, connection_after_unsubscribe, connection_after_drain, with_connection, free_numbers}

-- what a server is: a moment, the objects and the board
pub record State : Type 0 where
  pub moment : ℕ
  pub objects : Objects
  pub board : Board

-- a server that has just started, with the connections 0 to the last one open, by caller 0
abbrev pub state_at_start : ℕ → State
state_at_start last =
    record {
      moment = 0;
      objects = no_objects;
      board = λ conn. if nat_le conn last then new_connection 0 else closed_connection;
    }

-- the number that the next connection gets: the least free one
abbrev pub next_number : Board → ℕ
next_number board = unwrap_or (slice_get (free_numbers board) 0) 0

-- the objects after an act: only a call changes them
abbrev pub objects_by : State → ℕ → Act → Objects
objects_by state moment (Call op) = objects_after state.objects moment op
objects_by state moment _ = state.objects

-- the board after an act
abbrev pub board_by : State → Entry → Act → Board
board_by state entry (Call op) =
    board_after_post (post_of state.objects entry.moment op) state.board
board_by state entry (Subscribe channel) =
    with_connection state.board entry.conn
    (connection_after_subscribe channel (state.board entry.conn))
board_by state entry (Unsubscribe channel) =
    with_connection state.board entry.conn
    (connection_after_unsubscribe channel (state.board entry.conn))
board_by state entry Open = with_connection state.board entry.conn (new_connection entry.caller)
board_by state entry Close = with_connection state.board entry.conn closed_connection
board_by state entry (Drain most) =
    with_connection state.board entry.conn (connection_after_drain most (state.board entry.conn))

-- the state after an entry
abbrev pub step : State → Entry → State
step state entry = record {
  moment = entry.moment;
  objects = objects_by state entry.moment entry.act;
  board = board_by state entry entry.act;
}

-- what an entry gives: a reply, the number of channels that the connection then has, the number of
-- a new connection, the items that are handed out, or nothing but the close
pub data EntryResult : Type 0 where
  Replies : Reply → EntryResult
  Counts : ℕ → EntryResult
  Opens : ℕ → EntryResult
  HandsOut : List Push → EntryResult
  Closes : EntryResult

-- what an act gives in a state
abbrev pub result_by : State → Entry → Act → EntryResult
result_by state entry (Call op) = Replies (reply_of state.objects entry.moment op)
result_by state entry (Subscribe channel) =
    Counts (length (with_channel channel (state.board entry.conn)))
result_by state entry (Unsubscribe channel) =
    Counts (length (without_channel channel (state.board entry.conn)))
result_by state entry Open = Opens (next_number state.board)
result_by state entry Close = Closes
result_by state entry (Drain most) = HandsOut (take most (state.board entry.conn).outbox)

-- what an entry gives in the state before it
abbrev pub result_of : State → Entry → EntryResult
result_of state entry = result_by state entry entry.act

-- the state after these entries
abbrev pub after : State → List Entry → State
after state [] = state
after state (entry ∷ entries) = after (step state entry) entries

-- the connection is open, was not dropped, and its outbox takes an acknowledgement
pub record CanAcknowledge (connection : Connection) : Type 0 where
  pub open_ : IsTrue (is_open connection)
  pub kept : connection.dropped ≡ false
  pub room : IsTrue (has_room connection)

-- the connection is open, was not dropped, and has no channel: it may run functions
pub record CanCall (connection : Connection) : Type 0 where
  pub open_ : IsTrue (is_open connection)
  pub kept : connection.dropped ≡ false
  pub quiet : connection.channels ≡ []

-- something waits for the connection, and is asked for
pub record CanDrain (connection : Connection) (most : ℕ) : Type 0 where
  pub open_ : IsTrue (is_open connection)
  pub kept : connection.dropped ≡ false
  pub asked : 1 ≤ most
  pub waits : connection.outbox ≢ []

-- the connection has the least number that is free
pub record CanOpen (board : Board) (conn : ℕ) : Type 0 where
  pub free : slice_get (free_numbers board) 0 ≡ Some conn

-- when an act is allowed
abbrev pub IsAllowed : State → ℕ → Act → Type 0
IsAllowed state conn (Call op) = CanCall (state.board conn)
IsAllowed state conn (Subscribe channel) = CanAcknowledge (state.board conn)
IsAllowed state conn (Unsubscribe channel) = CanAcknowledge (state.board conn)
IsAllowed state conn Open = CanOpen state.board conn
IsAllowed state conn Close = IsTrue (is_open (state.board conn))
IsAllowed state conn (Drain most) = CanDrain (state.board conn) most

-- an entry may follow: moments never fall, and the act is allowed
pub record MayFollow (state : State) (entry : Entry) : Type 0 where
  pub in_time : state.moment ≤ entry.moment
  pub allowed : IsAllowed state entry.conn entry.act

-- a history is legal where each of its entries may follow those before it
abbrev pub IsLegal : State → List Entry → Type 0
IsLegal state [] = Unit {0}
IsLegal state (entry ∷ entries) = MayFollow state entry × IsLegal (step state entry) entries

-- Who acts in a history, on which connection, and how.

-- an act, with its caller and its connection
pub record Deed : Type 0 where
  pub caller : ℕ
  pub conn : ℕ
  pub act : Act

-- the deeds of a history
abbrev pub deeds_of : List Entry → List Deed
deeds_of [] = []
deeds_of (entry ∷ entries) =
    record { caller = entry.caller; conn = entry.conn; act = entry.act } ∷ deeds_of entries

-- those of one caller among these, in order
abbrev pub deeds_by : ℕ → List Deed → List Deed
deeds_by caller [] = []
deeds_by caller (deed ∷ deeds) =
    if deed.caller == caller then deed ∷ deeds_by caller deeds else deeds_by caller deeds

-- the entry of an act
abbrev pub entry_of : ℕ → ℕ → ℕ → Act → Entry
entry_of moment caller conn act =
    record { moment = moment; caller = caller; conn = conn; act = act }

-- the entry that a call makes
abbrev pub call_entry : ℕ → ℕ → ℕ → Op → Entry
call_entry moment caller conn op = entry_of moment caller conn (Call op)
