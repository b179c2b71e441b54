-- What the calls of a service come to: the history at the turn, what was made then, what was told.
use Rattle.std.specs.Prelude.{◌≡◌, ◌≢◌, ◌↔◌, ℕ, List, [], ◌∷◌, ◌++◌, Option, Some, None, Result, Ok, Err, IfOk, OnOk, OnErr, IsTrue}
use Rattle.lr_history.specs.Limit.{is_refused}
use Rattle.lr_model.specs.declared.entry.Act.{Act}
use Rattle.lr_model.specs.declared.entry.Act.TheVariants as acts
use Rattle.lr_model.specs.declared.entry.Entry.{Entry}
use Rattle.lr_model.specs.Board.{free_numbers}
use Rattle.lr_model.specs.History.{Opens, result_of}
use Rattle.lr_names.specs.declared.post.Push.{Push}
use Rattle.lr_server.specs.declared.answered.Answered.{Answered}
use Rattle.lr_server.specs.declared.fault.StepFault.{StepFault}
use Rattle.lr_server.specs.declared.fault.StepFault.TheVariants.{TooManyConnections, HistoryFull, Dropped}
use Rattle.lr_commands.specs.declared.request.Request.{Request}
use Rattle.lr_server.specs.declared.answered.Answer.TheVariants as answers
use Rattle.lr_server.specs.Server.{state_of, connection_of, entry_of, entry_made, drain_made, result_made, is_only_subscribed, IsTold, IsHandedOut, fault_of, drain_fault}
use Rattle.lr_server.specs.Looked.{IsAnsweredQuietly, quiet_fault}
use Rattle.lr_service.specs.declared.fault.TryFault.{TryFault}
use Rattle.lr_service.specs.declared.fault.TryFault.TheVariants as tries
use Rattle.lr_turnstile.specs.declared.view.View.{View}
use Rattle.lr_turnstile.specs.Views.{Grew, HasOwn, IsSame}
use Rattle.lr_turnstile.specs.Passes.{WasBusy}
use Rattle.lr_service.specs.Served.{server_at}

-- the entries with what was made behind them
abbrev pub entries_with : List Entry → Option Entry → List Entry
entries_with entries None = entries
entries_with entries (Some entry) = entries ++ entry ∷ []

-- A pass had a turn when this was the history, and made this of its own, or nothing: what it has
-- seen begins with what it had seen, and goes on with none of its own up to what was made.
pub record HadTurn (before : View) (history : List Entry) (made : Option Entry) (now : View)
    : Type 0 where
  pub grew : Grew before history
  pub seen : now.seen ≡ entries_with history made
  pub mine : now.mine ≡ entries_with before.mine made
  pub own : HasOwn now
  pub same : IsSame before now

-- A request was served: its answer, its message and its faults are those at the history that the
-- pass had seen when it had the turn.
pub record IsServedTo (before : View) (reading conn : ℕ) (act : Act)
    (result : Result Answered StepFault) (now : View) : Type 0 where
  pub history : List Entry
  pub told : IfOk result (IsTold (state_of (server_at history))
      (entry_made (server_at history) reading before.caller conn act))
  pub only_subscribed : IfOk result (λ a. (a.answer ≡ answers.OnlySubscribed)
      ↔ IsTrue (is_only_subscribed act (connection_of (server_at history) conn)))
  pub ok : OnOk result (HadTurn before history
      (entry_made (server_at history) reading before.caller conn act) now)
  pub err : OnErr result (HadTurn before history None now)
  pub full : (result ≡ Err HistoryFull)
      ↔ (fault_of (server_at history) conn act ≡ Some HistoryFull)
  pub dropped : (result ≡ Err Dropped) ↔ (fault_of (server_at history) conn act ≡ Some Dropped)
  pub not_too_many : result ≢ Err TooManyConnections

-- A look or a ping was answered, as it is at the history that the pass had seen when it had the
-- turn. No entry was made.
pub record IsShownTo (before : View) (reading conn : ℕ) (request : Request)
    (result : Result Answered StepFault) (now : View) : Type 0 where
  pub history : List Entry
  pub answered : IfOk result (IsAnsweredQuietly (server_at history) reading conn request)
  pub turn : HadTurn before history None now
  pub not_full : result ≢ Err HistoryFull
  pub dropped : (result ≡ Err Dropped)
      ↔ (quiet_fault (connection_of (server_at history) conn) request ≡ Some Dropped)
  pub not_too_many : result ≢ Err TooManyConnections

-- the same of a call that waits for nobody, which may find the gate taken
abbrev pub IsTried : View → ℕ → ℕ → Act → Result Answered TryFault → View → Type 0
IsTried before reading conn act (Ok answered) now =
    IsServedTo before reading conn act (Ok answered) now
IsTried before reading conn act (Err (tries.Step fault)) now =
    IsServedTo before reading conn act (Err fault) now
IsTried before reading conn act (Err (tries.Busy word)) now = WasBusy before word now

abbrev pub IsTriedShown : View → ℕ → ℕ → Request → Result Answered TryFault → View → Type 0
IsTriedShown before reading conn request (Ok answered) now =
    IsShownTo before reading conn request (Ok answered) now
IsTriedShown before reading conn request (Err (tries.Step fault)) now =
    IsShownTo before reading conn request (Err fault) now
IsTriedShown before reading conn request (Err (tries.Busy word)) now = WasBusy before word now

-- A connection was opened, or not.
pub record IsOpened (before : View) (reading : ℕ) (result : Result ℕ StepFault) (now : View)
    : Type 0 where
  pub history : List Entry
  pub number : IfOk result (λ conn. Opens conn ≡ result_of (state_of (server_at history))
      (entry_of (server_at history) reading before.caller conn acts.Open))
  pub ok : IfOk result (λ conn. HadTurn before history
      (Some (entry_of (server_at history) reading before.caller conn acts.Open)) now)
  pub err : OnErr result (HadTurn before history None now)
  pub too_many : (result ≡ Err TooManyConnections)
      ↔ (free_numbers (state_of (server_at history)).board ≡ [])
  pub full : (result ≡ Err HistoryFull)
      ↔ (free_numbers (state_of (server_at history)).board ≢ [])
      × IsTrue (is_refused history acts.Open)
  pub not_dropped : result ≢ Err Dropped

-- The first items of an outbox were taken, or not.
pub record IsDrained (before : View) (reading conn most : ℕ)
    (result : Result (List Push) StepFault) (now : View) : Type 0 where
  pub history : List Entry
  pub items : IfOk result (λ items. IsHandedOut items (result_made (server_at history)
      (drain_made (server_at history) reading before.caller conn most)))
  pub ok : OnOk result (HadTurn before history
      (drain_made (server_at history) reading before.caller conn most) now)
  pub err : OnErr result (HadTurn before history None now)
  pub full : (result ≡ Err HistoryFull)
      ↔ (drain_fault (server_at history) conn most ≡ Some HistoryFull)
  pub dropped : (result ≡ Err Dropped)
      ↔ (drain_fault (server_at history) conn most ≡ Some Dropped)
  pub not_too_many : result ≢ Err TooManyConnections

-- A connection was closed.
pub record IsClosed (before : View) (reading conn : ℕ) (now : View) : Type 0 where
  pub history : List Entry
  pub made : HadTurn before history
      (Some (entry_of (server_at history) reading before.caller conn acts.Close)) now
