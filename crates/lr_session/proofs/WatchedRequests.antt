-- What a reply changes of the watches, and that its request ends: which comes first makes no
-- difference.
use Rattle.std.proofs.Common.{◌≡◌, ℕ, Bool, true, false, Option, Some, None, if◌then◌else◌, refl}
use Rattle.lr_objects.specs.declared.reply.Reply.{Reply}
use Rattle.lr_objects.specs.declared.reply.Reply.TheVariants as replies
use Rattle.lr_waiting.specs.declared.waiter.Asking.{Asking}
use Rattle.lr_waiting.specs.declared.waiter.Waiter.{Waiter}
use Rattle.lr_waiting.specs.declared.watch.WatchKey.{WatchKey}
use Rattle.lr_waiting.specs.Latch.{leave_at}
use Rattle.lr_waiting.specs.Session.{Session, channel_in, watch_begun, watch_ended, watched_by, with_latches, with_waiter, without_waiter}

module _ (thread : ℕ) (waiter : Waiter) where
  -- the request ends, which waits on its channel or doesn't
  abbrev ended : Bool → Session → Session
  ended registered session =
      with_waiter thread None
      (if registered then with_latches (leave_at (channel_in session thread waiter) session.latches) session
      else session)

  ended-begun : (registered : Bool) (at : ℕ) (key : Option WatchKey) (session : Session)
      → ended registered (watch_begun at key session) ≡ watch_begun at key (ended registered session)
  ended-begun registered at None session = refl
  ended-begun true at (Some key) session = refl
  ended-begun false at (Some key) session = refl

  ended-ended : (registered : Bool) (key : Option WatchKey) (session : Session)
      → ended registered (watch_ended key session) ≡ watch_ended key (ended registered session)
  ended-ended registered None session = refl
  ended-ended true (Some key) session = refl
  ended-ended false (Some key) session = refl

  ended-if_begun : (watched registered : Bool) (at : ℕ) (key : Option WatchKey) (session : Session)
      → ended registered (if watched then watch_begun at key session else session)
      ≡ (if watched then watch_begun at key (ended registered session) else ended registered session)
  ended-if_begun true registered at key session = ended-begun registered at key session
  ended-if_begun false registered at key session = refl

  -- by the reply
  pub ended-watched : (reply : Reply) (asking : Asking) (key : Option WatchKey) (session : Session)
      → without_waiter thread waiter (watched_by reply asking key session)
      ≡ watched_by reply asking key (without_waiter thread waiter session)
  ended-watched replies.Granted asking key session =
      ended-if_begun asking.watched waiter.registered asking.at key session
  ended-watched (replies.GrantedToken token) asking key session =
      ended-if_begun asking.watched waiter.registered asking.at key session
  ended-watched replies.Freed asking key session = ended-ended waiter.registered key session
  ended-watched replies.NotHeld asking key session = ended-ended waiter.registered key session
  ended-watched _ asking key session = refl
