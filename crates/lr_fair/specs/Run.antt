-- What a call on a fair lock does to the keys.
use Rattle.std.specs.Prelude.{◌≡◌, ℕ, List, nat_lt, Bool, false, not, ◌&&◌, ◌||◌, is_none, Option, Some, Result, Ok}
use Rattle.lr_names.specs.Key.{keys_of}
use Rattle.lr_names.specs.Owner.{owner_text}
use Rattle.lr_names.specs.declared.kind.Kind.TheVariants as kinds
use Rattle.lr_names.specs.declared.post.Post.{Post}
use Rattle.lr_keys.specs.declared.fault.KeyFault.{KeyFault}
use Rattle.lr_keys.specs.KeySpace.{KeyEntry, Keys, OthersAreLive, score_at}
use Rattle.lr_objects.specs.Op.{call_on}
use Rattle.lr_objects.specs.declared.fair.FairCall.{FairCall}
use Rattle.lr_objects.specs.declared.fair.FairCall.TheVariants.{Try}
use Rattle.lr_objects.specs.declared.kinds.Call.TheVariants.{Fair as calls}
use Rattle.lr_objects.specs.declared.op.Op.{Op}
use Rattle.lr_objects.specs.declared.reply.Reply.{Reply}
use Rattle.lr_model.specs.Answer.{Objects, Answered, on_object}
use Rattle.lr_model.specs.Fair.{FairLock}
use Rattle.lr_model.specs.Moment.{is_lease}
use Rattle.lr_model.specs.Outcome.{Outcome}
use Rattle.lr_fair.specs.Stands.{FairLocksStand}

-- a call on the lock of this name
abbrev pub fair_op : List ℕ → FairCall → Op
fair_op name call = call_on name (calls call)

-- the answer of a function of the lock of this name
abbrev pub on_fair_lock : Objects → List ℕ → (FairLock → Outcome FairLock) → Answered
on_fair_lock objects name function =
    on_object objects.fair_locks (λ table. record objects { fair_locks = table }) name function

-- At a moment a call on the lock of this name was answered so: for all objects for which the keys
-- stood, the reply and the message are the right ones, and the keys stand for what becomes of the
-- objects. All other keys hold what is live of them.
pub record IsRun (old new : Keys) (moment : ℕ) (name : List ℕ) (answer : Reply × Option Post)
    (function : FairLock → Outcome FairLock) : Type 0 where
  pub reply : (objects : Objects) → FairLocksStand old objects
      → answer.0 ≡ (on_fair_lock objects name function).reply
  pub post : (objects : Objects) → FairLocksStand old objects
      → answer.1 ≡ (on_fair_lock objects name function).post
  pub stands : (objects : Objects) → FairLocksStand old objects
      → FairLocksStand new (on_fair_lock objects name function).objects
  pub frame : OthersAreLive (keys_of kinds.Fair name) old new
  pub now : new.moment ≡ moment

-- whether a place lasts beyond a moment, by its score
abbrev pub is_placed : ℕ → Result (Option ℕ) KeyFault → Bool
is_placed moment (Ok (Some stale)) = nat_lt moment stale
is_placed moment _ = false

-- whether a try that may take a place may need memory for it, by the sorted set of the stale moments
abbrev pub lacks_place : ℕ → List ℕ → Bool → Option KeyEntry → Bool
lacks_place moment text queues stales = queues && not (is_placed moment (score_at text stales))

-- whether a call may make a hold or a place, by what is live of the hash and by the sorted set: only
-- that takes memory
abbrev pub takes_memory : FairCall → ℕ → Option KeyEntry → Option KeyEntry → Bool
takes_memory (Try owner lease queues) moment hold stales =
    is_lease lease && (is_none hold || lacks_place moment (owner_text owner) queues stales)
takes_memory _ moment hold stales = false
