-- What a request of a connection is answered, and the entry that it makes of the history.
use Rattle.std.specs.Prelude.{◌≡◌, ℕ, List, [], ◌∷◌, ◌++◌, length, nat_le, Bool, true, false, ◌&&◌, Option, Some, None, option_map, if◌then◌else◌}
use Rattle.lr_names.specs.Channel.{ChannelOf}
use Rattle.lr_names.specs.declared.post.Post.{Post}
use Rattle.lr_names.specs.declared.post.Push.{Push}
use Rattle.lr_commands.specs.declared.request.Request.{Request}
use Rattle.lr_commands.specs.declared.request.Request.TheVariants as requests
use Rattle.lr_history.specs.Limit.{is_refused}
use Rattle.lr_model.specs.declared.entry.Act.{Act}
use Rattle.lr_model.specs.declared.entry.Act.TheVariants as acts
use Rattle.lr_model.specs.declared.entry.Entry.{Entry}
use Rattle.lr_model.specs.Answer.{post_of}
use Rattle.lr_model.specs.Board.{Board, Connection, reached_by, dropped_by}
use Rattle.lr_model.specs.History.{State, EntryResult, Replies, Counts, HandsOut, state_at_start, after, result_of}
use Rattle.lr_model.specs.Moment.{later}
use Rattle.lr_pubsub.specs.Connection.{is_shut}
use Rattle.lr_server.specs.declared.answered.Answer.{Answer}
use Rattle.lr_server.specs.declared.answered.Answer.TheVariants as answers
use Rattle.lr_server.specs.declared.answered.Answered.{Answered}
use Rattle.lr_server.specs.declared.fault.StepFault.{StepFault}
use Rattle.lr_server.specs.declared.fault.StepFault.TheVariants.{HistoryFull, Dropped}

-- a server: the connections 0 to the last one were open when it started, and these entries have
-- been made since
pub record ServerValue : Type 0 where
  pub last : ℕ
  pub entries : List Entry

-- what the server is now
abbrev pub state_of : ServerValue → State
state_of server = after (state_at_start server.last) server.entries

-- the connection with a number
abbrev pub connection_of : ServerValue → ℕ → Connection
connection_of server conn = (state_of server).board conn

-- the server with one entry more
abbrev pub with_entry : ServerValue → Entry → ServerValue
with_entry server entry = record server { entries = server.entries ++ entry ∷ [] }

-- the moment of an entry that is made at a reading of the clock: the server's own, where that is
-- later
abbrev pub moment_at : ServerValue → ℕ → ℕ
moment_at server reading = later (state_of server).moment reading

-- the entry of an act at a reading of the clock, for a caller on a connection
abbrev pub entry_of : ServerValue → ℕ → ℕ → ℕ → Act → Entry
entry_of server reading caller conn act =
    record { moment = moment_at server reading; caller = caller; conn = conn; act = act }

-- The acts of requests.

-- the act on the only one of these channels
abbrev pub act_on_one : (ChannelOf → Act) → List ChannelOf → Option Act
act_on_one act (channel ∷ []) = Some (act channel)
act_on_one act _ = None

-- the act of a request that is one step: a call, or one channel that is subscribed to or left
abbrev pub act_of : Request → Option Act
act_of (requests.Call op) = Some (acts.Call op)
act_of (requests.Subscribe channels) = act_on_one acts.Subscribe channels
act_of (requests.Unsubscribe channels) = act_on_one acts.Unsubscribe channels
act_of _ = None

-- whether a request asks for such an act
abbrev pub is_asked : Act → Bool
is_asked (acts.Call op) = true
is_asked (acts.Subscribe channel) = true
is_asked (acts.Unsubscribe channel) = true
is_asked _ = false

-- whether an act runs a function
abbrev pub is_call : Act → Bool
is_call (acts.Call op) = true
is_call _ = false

-- whether a connection has a channel: then it runs no functions (Redis command page SUBSCRIBE)
abbrev pub is_subscriber : Connection → Bool
is_subscriber connection = nat_le 1 (length connection.channels)

-- a call on a connection that has a channel
abbrev pub is_only_subscribed : Act → Connection → Bool
is_only_subscribed act connection = is_call act && is_subscriber connection

-- whether a connection that was dropped, or reads too slowly, stops an act: this project's own
abbrev pub is_stopped : Act → Connection → Bool
is_stopped (acts.Call op) connection = connection.dropped
is_stopped (acts.Drain most) connection = connection.dropped
is_stopped (acts.Subscribe channel) connection = is_shut connection
is_stopped (acts.Unsubscribe channel) connection = is_shut connection
is_stopped _ connection = false

-- whether a drain takes something
abbrev pub takes_some : ℕ → Connection → Bool
takes_some most connection = nat_le 1 most && nat_le 1 (length connection.outbox)

-- What is made: one entry at most.

-- the entry that a request's act makes: none where it is a call on a connection that has a channel
abbrev pub entry_made : ServerValue → ℕ → ℕ → ℕ → Act → Option Entry
entry_made server reading caller conn act =
    if is_only_subscribed act (connection_of server conn) then None
    else Some (entry_of server reading caller conn act)

-- the entry that a drain makes: none where it takes nothing
abbrev pub drain_made : ServerValue → ℕ → ℕ → ℕ → ℕ → Option Entry
drain_made server reading caller conn most =
    if takes_some most (connection_of server conn)
    then Some (entry_of server reading caller conn (acts.Drain most)) else None

-- the server with what was made
abbrev pub with_made : ServerValue → Option Entry → ServerValue
with_made server None = server
with_made server (Some entry) = with_entry server entry

-- what an entry gave, where one was made
abbrev pub result_in : State → Option Entry → Option EntryResult
result_in state made = option_map (result_of state) made

abbrev pub result_made : ServerValue → Option Entry → Option EntryResult
result_made server made = result_in (state_of server) made

-- the message that an act sends at a moment: only a call sends one
abbrev pub post_by : State → ℕ → Act → Option Post
post_by state moment (acts.Call op) = post_of state.objects moment op
post_by state moment _ = None

-- the message that was sent with what was made
abbrev pub post_in : State → Option Entry → Option Post
post_in state None = None
post_in state (Some entry) = post_by state entry.moment entry.act

abbrev pub post_made : ServerValue → Option Entry → Option Post
post_made server made = post_in (state_of server) made

-- how many connections a message reaches, and which it drops, where there is one
abbrev pub reached_of : Option Post → Board → ℕ
reached_of (Some post) board = reached_by post board
reached_of None board = 0

abbrev pub dropped_of : Option Post → Board → List ℕ
dropped_of (Some post) board = dropped_by post board
dropped_of None board = []

-- What is told of it.

-- the result that an answer tells: none where nothing was done
abbrev pub told_by : Answer → Option EntryResult
told_by (answers.Reply reply) = Some (Replies reply)
told_by (answers.Look frame) = None
told_by (answers.Queued count) = Some (Counts count)
told_by answers.OnlySubscribed = None

-- what was made in a state is told: its result, the message that it sent, whom that reached and
-- whom it dropped
pub record IsTold (state : State) (made : Option Entry) (answered : Answered) : Type 0 where
  pub answer : told_by answered.answer ≡ result_in state made
  pub post : answered.post ≡ post_in state made
  pub reached : answered.reached ≡ reached_of (post_in state made) state.board
  pub dropping : answered.dropped ≡ dropped_of (post_in state made) state.board

-- the items that were handed out are those of the result, or none where nothing was made
abbrev pub IsHandedOut : List Push → Option EntryResult → Type 0
IsHandedOut items (Some result) = HandsOut items ≡ result
IsHandedOut items None = items ≡ []

-- The faults beside want of memory, in their order: this project's own.

-- the fault of a request's act, if it has one: a full history comes before a connection that
-- stops it
abbrev pub fault_of : ServerValue → ℕ → Act → Option StepFault
fault_of server conn act =
    if is_only_subscribed act (connection_of server conn) then None
    else if is_refused server.entries act then Some HistoryFull
    else if is_stopped act (connection_of server conn) then Some Dropped
    else None

-- the fault of a drain: a full history, where it would take something, comes before a dropped
-- connection
abbrev pub drain_fault : ServerValue → ℕ → ℕ → Option StepFault
drain_fault server conn most =
    if takes_some most (connection_of server conn) && is_refused server.entries (acts.Drain most)
    then Some HistoryFull
    else if (connection_of server conn).dropped then Some Dropped
    else None
