-- What contracts see of the core of a client, and the session of the definitions that it is.
use Rattle.std.specs.Prelude.{ℕ, ◌≡◌, ◌≤◌, ◌==◌, List, Bool, true, Option, Some}
use Rattle.std.specs.Map.{lookup}
use Rattle.lr_limits.specs.Limits.{last_moment}
use Rattle.lr_names.specs.Owner.{IsThread}
use Rattle.lr_objects.specs.declared.want.Mode.{Mode}
use Rattle.lr_waiting.specs.declared.waiter.Asking.{Asking}
use Rattle.lr_waiting.specs.declared.waiter.Stage.{Stage}
use Rattle.lr_waiting.specs.declared.waiter.Stage.TheVariants.{Asked, Refused, Asleep}
use Rattle.lr_waiting.specs.declared.waiter.Waiter.{Waiter}
use Rattle.lr_waiting.specs.Begin.{CanBegin}
use Rattle.lr_waiting.specs.Session.{Session, may_wait}
use Rattle.lr_latch.specs.Value.{LatchesValue, latches_of}
use Rattle.lr_watchdog.specs.Value.{WatchesValue, watchdog_of}

-- the client's id, the requests by their threads, the latches, the last ticket that was given, the
-- watches, whether the client was cut off, and for how many tickets there is room
pub record SessionValue : Type 0 where
  pub client : List ℕ
  pub waiters : List (ℕ × Waiter)
  pub latches : LatchesValue
  pub turn : ℕ
  pub watches : WatchesValue
  pub is_cut : Bool
  pub room : ℕ

-- the request of a thread
abbrev pub waiter_of : List (ℕ × Waiter) → ℕ → Option Waiter
waiter_of rows thread = lookup (λ other. thread == other) rows

-- the session that it is
abbrev pub session_of : SessionValue → Session
session_of value = record {
  client = value.client;
  waiters = waiter_of value.waiters;
  latches = latches_of value.latches;
  turn = value.turn;
  watchdog = watchdog_of value.watches;
  is_cut = value.is_cut;
}

-- a call was sent at a moment that a clock shows
pub record IsAsking (asking : Asking) : Type 0 where
  pub early : asking.at ≤ last_moment

-- what a request in this mode has sent, and that only one that may wait is refused or sleeps
abbrev pub IsStage : Mode → Stage → Type 0
IsStage mode (Asked asking) = IsAsking asking
IsStage mode (Refused refusal) = may_wait mode ≡ true
IsStage mode (Asleep refusal) = may_wait mode ≡ true
IsStage mode _ = Unit {0}

-- a request of a thread of the client, which began with what a request may begin with
pub record IsRequest (thread : ℕ) (waiter : Waiter) : Type 0 where
  pub thread_fits : IsThread thread
  pub begun : CanBegin waiter.mode waiter.want
  pub stage_fits : IsStage waiter.mode waiter.stage

-- all requests are such
pub record AreRequests (rows : List (ℕ × Waiter)) : Type 0 where
  pub at : (thread : ℕ) (waiter : Waiter) → waiter_of rows thread ≡ Some waiter
      → IsRequest thread waiter
