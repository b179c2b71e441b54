-- A race: threads that take and give back four locks of one server, each thread its calls one after
-- another. Which calls these are, and which histories may come of them: this project's own.
use Rattle.std.specs.Prelude.{◌≡◌, ℕ, zero, suc, ◌+◌, ◌/◌, ◌%◌, ◌==◌, ◌≤◌, List, [], ◌∷◌, length, codes, if◌then◌else◌, All, ⊤}
use Rattle.std.specs.Int.{w128, to_be_bytes}
use Rattle.lr_names.specs.Owner.{ThreadOfClient}
use Rattle.lr_objects.specs.declared.kinds.Call.TheVariants.{Lock}
use Rattle.lr_objects.specs.declared.lock.LockCall.{LockCall}
use Rattle.lr_objects.specs.declared.lock.LockCall.TheVariants.{Try, Unlock}
use Rattle.lr_objects.specs.declared.op.Op.{Op}
use Rattle.lr_objects.specs.Op.{call_on}
use Rattle.lr_model.specs.declared.entry.Act.TheVariants as acts
use Rattle.lr_model.specs.declared.entry.Entry.{Entry}
use Rattle.lr_model.specs.History.{IsLegal, state_at_start}
use Rattle.lr_turnstile.specs.Views.{entries_by}

-- How much a race may be.

abbrev pub race_thread_limit : ℕ
race_thread_limit = 64

abbrev pub race_call_limit : ℕ
race_call_limit = 10000

-- 1 to 64 threads, and at most 10,000 calls of each
abbrev pub IsRaceSize : ℕ → ℕ → Type 0
IsRaceSize threads calls =
    (1 ≤ threads) × (threads ≤ race_thread_limit) × (calls ≤ race_call_limit)

-- Which calls a thread makes.

-- the owner of a thread: all threads are of the client whose id is the number 1
abbrev pub racer : ℕ → ThreadOfClient
racer thread = record { client = to_be_bytes w128 1; thread = thread }

-- the name of each of the four locks
abbrev pub race_lock : ℕ → List ℕ
race_lock zero = codes "n0"
race_lock (suc zero) = codes "n1"
race_lock (suc (suc zero)) = codes "n2"
race_lock _ = codes "n3"

-- a lease of a second, and as much for a hold that stays
abbrev pub race_lease : ℕ
race_lease = 1000

-- even calls take a lock, and odd ones give it back
abbrev pub race_call : ℕ → ℕ → LockCall
race_call thread number =
    if number % 2 == 0 then Try (racer thread) race_lease else Unlock (racer thread) race_lease

-- call number j of a thread, from 0: each two calls are on the next lock
abbrev pub race_op : ℕ → ℕ → Op
race_op thread number = call_on (race_lock ((number / 2) % 4)) (Lock (race_call thread number))

-- What they come to.

-- an entry is call number j of a thread, which it made on connection 0 at the reading j or later
pub record IsRaceCall (thread number : ℕ) (entry : Entry) : Type 0 where
  pub caller : entry.caller ≡ thread
  pub conn : entry.conn ≡ 0
  pub act : entry.act ≡ acts.Call (race_op thread number)
  pub in_time : number ≤ entry.moment

-- entries are calls of a thread, in order, from this number on
abbrev pub AreCallsFrom : ℕ → ℕ → List Entry → Type 0
AreCallsFrom thread number [] = ⊤
AreCallsFrom thread number (entry ∷ entries) =
    IsRaceCall thread number entry × AreCallsFrom thread (number + 1) entries

-- entries are the first calls of a thread, so many, in order
pub record AreCalls (thread calls : ℕ) (entries : List Entry) : Type 0 where
  pub all : length entries ≡ calls
  pub each : AreCallsFrom thread 0 entries

-- the caller of an entry is one of the threads, which are numbered from 1
pub record IsByRacer (threads : ℕ) (entry : Entry) : Type 0 where
  pub first : 1 ≤ entry.caller
  pub last : entry.caller ≤ threads

-- A history is that of a race: it is legal, each thread's entries are its calls, all of them and in
-- its order, and there are no others.
pub record IsRace (threads calls : ℕ) (history : List Entry) : Type 0 where
  pub legal : IsLegal (state_at_start 0) history
  pub callers : All (IsByRacer threads) history
  pub each : (thread : ℕ) → 1 ≤ thread → thread ≤ threads
      → AreCalls thread calls (entries_by thread history)
