-- What a step does to the three keys of one fair lock, at the moment of the keys.
use Rattle.std.specs.Prelude.{◌≡◌, ◌≢◌, ◌≤◌, ◌<◌, ℕ, List, false, Option, Some}
use Rattle.std.specs.List.{AllByRecursion}
use Rattle.std.specs.Str.{bytes_eq}
use Rattle.lr_names.specs.Owner.{IsOwner, owner_text}
use Rattle.lr_names.specs.declared.post.Post.{Post}
use Rattle.lr_keys.specs.declared.value_kind.ValueKind.TheVariants.{List as ListKind, Zset}
use Rattle.lr_keys.specs.KeySpace.{KeyEntry, Keys, IsPrepared, entry_at}
use Rattle.lr_objects.specs.declared.reply.Reply.{Reply}
use Rattle.lr_model.specs.Fair.{FairLock, FairPlace, live_places, place_of}
use Rattle.lr_model.specs.Hold.{live_hold}
use Rattle.lr_model.specs.Outcome.{Outcome}
use Rattle.lr_hold.specs.Step.{IsHeld}
use Rattle.lr_fair.specs.Queue.{IsQueueAt}

-- the three keys are different ones
pub record AreApart (hold queue stales : List ℕ) : Type 0 where
  pub hold_queue : hold ≢ queue
  pub hold_stales : hold ≢ stales
  pub queue_stales : queue ≢ stales

-- the keys have this lock under these three: its hold, which is live, and its queue
pub record IsLockAt (keys : Keys) (hold queue stales : List ℕ) (lock : FairLock) : Type 0 where
  pub held : IsHeld keys.moment (entry_at keys hold) lock.held
  pub places : IsQueueAt (entry_at keys queue) (entry_at keys stales) lock.queue

-- the step was answered as the outcome says, and the keys have the outcome's lock now
pub record IsFairStep (new : Keys) (hold queue stales : List ℕ) (answer : Reply × Option Post)
    (outcome : Outcome FairLock) : Type 0 where
  pub reply : answer.0 ≡ outcome.reply
  pub post : answer.1 ≡ outcome.post
  pub lock : IsLockAt new hold queue stales outcome.object

-- of the keys no others than these two change
abbrev pub ChangesOnlyTwo : List ℕ → List ℕ → Keys → Keys → Type 0
ChangesOnlyTwo one two old new = (q : List ℕ) → bytes_eq one q ≡ false → bytes_eq two q ≡ false
    → entry_at new q ≡ entry_at old q

-- of the keys no others than these three change
abbrev pub ChangesOnlyThree : List ℕ → List ℕ → List ℕ → Keys → Keys → Type 0
ChangesOnlyThree one two three old new = (q : List ℕ) → bytes_eq one q ≡ false
    → bytes_eq two q ≡ false → bytes_eq three q ≡ false → entry_at new q ≡ entry_at old q

-- memory for an owner's place was taken in both keys of the queue
pub record IsReady (keys : Keys) (queue stales text : List ℕ) : Type 0 where
  pub queue_ready : IsPrepared keys queue ListKind text
  pub stales_ready : IsPrepared keys stales Zset text

-- a place in a queue that is stale at the moment, by its text
pub record IsStale (moment : ℕ) (queue : List FairPlace) (text : List ℕ) : Type 0 where
  pub place : FairPlace
  pub owner : IsOwner place.owner
  pub text_is : text ≡ owner_text place.owner
  pub found : place_of place.owner queue ≡ Some place
  pub gone : place.stale ≤ moment

-- the entries are those of a queue of which these places aren't stale
pub record HasLive (items stales : Option KeyEntry) (moment : ℕ) (live : List FairPlace)
    : Type 0 where
  pub queue : List FairPlace
  pub at : IsQueueAt items stales queue
  pub live_is : live_places moment queue ≡ live

-- what is live of a hold, beside all places
abbrev pub with_live_hold : ℕ → FairLock → FairLock
with_live_hold moment lock = record { held = live_hold moment lock.held; queue = lock.queue }

-- no place is stale at the moment
abbrev pub AreLive : ℕ → List FairPlace → Type 0
AreLive moment queue = AllByRecursion (λ place. moment < place.stale) queue
