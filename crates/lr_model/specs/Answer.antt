-- What each call answers, over the objects. A further kind of object adds a field, a line to each
-- table, and a file of its own beside Mutex.antt.
use Rattle.std.specs.Prelude.{ℕ, List, [], Option, None}
use Rattle.std.specs.Str.{bytes_eq}
use Rattle.lr_names.specs.declared.post.Post.{Post}
use Rattle.lr_objects.specs.declared.op.Op.{Op}
use Rattle.lr_objects.specs.declared.kinds.Call.{Call}
use Rattle.lr_objects.specs.declared.kinds.Call.TheVariants as calls
use Rattle.lr_objects.specs.declared.reply.Reply.{Reply}
use Rattle.lr_model.specs.declared.hold.Hold.{Hold}
use Rattle.lr_model.specs.Table.{put}
use Rattle.lr_model.specs.Outcome.{Outcome}
use Rattle.lr_model.specs.Claim.{Concern, NoHold}
use Rattle.lr_model.specs.Mutex.{lock_call, lock_concern}
use Rattle.lr_model.specs.Fair.{FairLock, new_fair_lock, fair_call, fair_concern}
use Rattle.lr_model.specs.ReadWrite.{ReadWriteLock, read_write_call, read_write_concern}
use Rattle.lr_model.specs.Fenced.{FencedLock, new_fenced_lock, fenced_call, fenced_concern}
use Rattle.lr_model.specs.Semaphore.{semaphore_call}
use Rattle.lr_model.specs.Permits.{Permits, unset_permits, permit_call}
use Rattle.lr_model.specs.Countdown.{countdown_call}

-- the objects by their names, a table for each kind
pub record Objects : Type 0 where
  pub mutexes : List ℕ → Option Hold
  pub fair_locks : List ℕ → FairLock
  pub read_write_locks : List ℕ → ReadWriteLock
  pub fenced_locks : List ℕ → FencedLock
  pub semaphores : List ℕ → Option ℕ
  pub permits : List ℕ → Permits
  pub countdowns : List ℕ → ℕ

-- before the first call there is no object
abbrev pub no_objects : Objects
no_objects = record {
  mutexes = λ name. None;
  fair_locks = λ name. new_fair_lock;
  read_write_locks = λ name. [];
  fenced_locks = λ name. new_fenced_lock;
  semaphores = λ name. None;
  permits = λ name. unset_permits;
  countdowns = λ name. 0;
}

-- the reply to a call, the objects afterwards, and the message that it sends, if any
pub record Answered : Type 0 where
  pub reply : Reply
  pub objects : Objects
  pub post : Option Post

-- an outcome, with what becomes of the objects
abbrev pub answer_with : {X : Type 0} → Outcome X → (X → Objects) → Answered
answer_with outcome objects_with =
    record { reply = outcome.reply; objects = objects_with outcome.object; post = outcome.post }

-- the answer of a function on the object of this name in a table: all others stay as they are
abbrev pub on_object : {X : Type 0} → (List ℕ → X) → ((List ℕ → X) → Objects) → List ℕ
    → (X → Outcome X) → Answered
on_object table with_table name function =
    answer_with (function (table name)) (λ object. with_table (put bytes_eq table name object))

-- what a call on the object of this name answers at a moment
abbrev pub answer_call : Objects → ℕ → List ℕ → Call → Answered
answer_call objects moment name (calls.Lock call) =
    on_object objects.mutexes (λ table. record objects { mutexes = table }) name
    (lock_call name moment call)
answer_call objects moment name (calls.Fair call) =
    on_object objects.fair_locks (λ table. record objects { fair_locks = table }) name
    (fair_call name moment call)
answer_call objects moment name (calls.ReadWrite call) =
    on_object objects.read_write_locks (λ table. record objects { read_write_locks = table }) name
    (read_write_call name moment call)
answer_call objects moment name (calls.Fenced call) =
    on_object objects.fenced_locks (λ table. record objects { fenced_locks = table }) name
    (fenced_call name moment call)
answer_call objects moment name (calls.Semaphore call) =
    on_object objects.semaphores (λ table. record objects { semaphores = table }) name
    (semaphore_call name call)
answer_call objects moment name (calls.Permits call) =
    on_object objects.permits (λ table. record objects { permits = table }) name
    (permit_call name moment call)
answer_call objects moment name (calls.Countdown call) =
    on_object objects.countdowns (λ table. record objects { countdowns = table }) name
    (countdown_call name call)

abbrev pub answer : Objects → ℕ → Op → Answered
answer objects moment op = answer_call objects moment op.name op.call

-- what a call has to do with who holds its object: the objects of some kinds nobody holds
abbrev pub concern_of : Call → Concern
concern_of (calls.Lock call) = lock_concern call
concern_of (calls.Fair call) = fair_concern call
concern_of (calls.ReadWrite call) = read_write_concern call
concern_of (calls.Fenced call) = fenced_concern call
concern_of _ = NoHold

-- the reply to a call
abbrev pub reply_of : Objects → ℕ → Op → Reply
reply_of objects moment op = (answer objects moment op).reply

-- the objects after a call
abbrev pub objects_after : Objects → ℕ → Op → Objects
objects_after objects moment op = (answer objects moment op).objects

-- the message that a call sends
abbrev pub post_of : Objects → ℕ → Op → Option Post
post_of objects moment op = (answer objects moment op).post
