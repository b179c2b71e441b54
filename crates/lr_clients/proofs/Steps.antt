-- What a client's core tells of its steps.
use Rattle.std.proofs.Common.{◌≡◌, ◌≤◌, ◌+◌, ℕ, Bool, true, false, [], length, Option, Some, None, if◌then◌else◌, refl, ap, subst, arith}
use Rattle.std.proofs.lemmas.List.{length-map}
use Rattle.lr_limits.specs.Limits.{thread_limit}
use Rattle.lr_names.specs.Channel.{ChannelOf, channel_wakes}
use Rattle.lr_names.specs.declared.post.Push.{Push}
use Rattle.lr_names.specs.declared.post.Push.TheVariants as items
use Rattle.lr_model.specs.Board.{same_channel}
use Rattle.lr_model.proofs.Numbers.{below_few}
use Rattle.lr_model.proofs.SameChannel.{same_self}
use Rattle.lr_waiting.specs.declared.latch.LatchEntry.{LatchEntry}
use Rattle.lr_waiting.specs.declared.latch.Woken.{Woken}
use Rattle.lr_waiting.specs.declared.latch.Woken.TheVariants as wakings
use Rattle.lr_waiting.specs.declared.waiter.Stage.{Stage}
use Rattle.lr_waiting.specs.declared.waiter.Stage.TheVariants as stages
use Rattle.lr_waiting.specs.declared.waiter.Waiter.{Waiter}
use Rattle.lr_waiting.specs.Client.{Client}
use Rattle.lr_waiting.specs.Latch.{deliver_in, told_of_message, woken_in}
use Rattle.lr_waiting.specs.Session.{Session, entry_for, is_joining, joining_threads, of_waiter, wake_at, wake_row, woken}
use Rattle.lr_waiting.specs.Told.{hears_after, tickets_given, wakeup_at, wakeup_by, wakeup_of, wakeup_with, woken_by_acknowledgement}
use Rattle.lr_machine.specs.declared.event.Event.{Event}
use Rattle.lr_machine.specs.declared.event.Event.TheVariants as events
use Rattle.lr_machine.specs.declared.shown.Shown.TheVariants as shows
use Rattle.lr_machine.specs.Shown.{shown_item}
use Rattle.lr_machine.specs.Within.{IsClient, IsWithin}
use Rattle.lr_session.specs.Pushed.{pushed_by}
use Rattle.lr_clients.specs.Items.{AreFew, shown_pushed}
use Rattle.lr_clients.specs.Rows.{client_alone}

-- whose wakeup doesn't apply is told of none
pub no-wakeup : (thread : ℕ) (session : Session) → wake_row thread session ≡ None
    → wakeup_by thread session ≡ None
no-wakeup thread session none = by_waiter (session.waiters thread) none
  where
    by_found : (waiter : Waiter) (found : Woken) → woken thread waiter session found ≡ None
        → wakeup_with thread session found ≡ None
    by_found waiter wakings.NotYet e = refl
    by_found waiter wakings.Permit e = absurd (cc e)
    by_found waiter wakings.Broadcast e = absurd (cc e)

    by_stage : (waiter : Waiter) (stage : Stage) → wake_at thread session waiter stage ≡ None
        → wakeup_at thread session waiter stage ≡ None
    by_stage waiter (stages.Asleep refusal) e =
        by_found waiter (woken_in (entry_for session thread waiter) refusal.seen) e
    by_stage waiter (stages.Fresh turn) e = refl
    by_stage waiter (stages.Asked asking) e = refl
    by_stage waiter stages.Joining e = refl
    by_stage waiter (stages.Ready turn) e = refl
    by_stage waiter (stages.Refused refusal) e = refl
    by_stage waiter (stages.Leaving turn) e = refl

    by_waiter : (waiter : Option Waiter)
        → of_waiter (λ w. wake_at thread session w w.stage) waiter ≡ None
        → wakeup_of thread session waiter ≡ None
    by_waiter None e = refl
    by_waiter (Some waiter) e = by_stage waiter waiter.stage e

-- an acknowledgement wakes as many as it gives tickets
tickets-length : (channel : ChannelOf) (session : Session)
    → length (tickets_given channel session) ≡ length (woken_by_acknowledgement channel session)
tickets-length channel session = length-map (woken_by_acknowledgement channel session) _

few-woken : (channel : ChannelOf) (session : Session)
    → length (woken_by_acknowledgement channel session) ≤ thread_limit + 1
few-woken channel session = by (hears_after channel session)
  where
    by : (hears : Bool) → length (if hears then joining_threads channel session else [])
        ≤ thread_limit + 1
    by true = below_few (thread_limit + 1) (is_joining channel session)
    by false = omega arith

-- no item gives more tickets than 32 bits can count
pub few-pushed : (item : Push) (session : Session) → AreFew (pushed_by item session)
few-pushed (items.Subscribed channel channels) session =
    let same = tickets-length channel session in
    omega (arith, same, few-woken channel session)
few-pushed (items.Unsubscribed channel channels) session = tt
few-pushed (items.Message channel wakes) session = tt

-- what is told of an item is what is shown of it
pub shown-pushed : (item : Push) (session : Session)
    → shown_pushed (pushed_by item session) ≡ shown_item session item
shown-pushed (items.Subscribed channel channels) session =
    ap (shows.Acknowledged channel) (tickets-length channel session)
shown-pushed (items.Unsubscribed channel channels) session = refl
shown-pushed (items.Message channel wakes) session =
    ap (shows.Delivered channel) (ap (told_of_message (channel_wakes channel.kind)) same)
  where
    entry : LatchEntry
    entry = deliver_in (channel_wakes channel.kind) (session.latches.entries channel)

    same : (if same_channel channel channel then entry else session.latches.entries channel) ≡ entry
    same = ap (λ b. if b then entry else session.latches.entries channel) (same_self channel)

-- an event that is a step of a thread names a client within the limits
pub alone-within : (event : Event) (client : ℕ) → client_alone event ≡ Some client
    → IsWithin event → IsClient client
alone-within event client alone within = by event alone within
  where
    one : (c : ℕ) → Some c ≡ Some client → IsClient c → IsClient client
    one c same fits = let e : c ≡ client = cc same in subst IsClient e fits

    by : (event : Event) → client_alone event ≡ Some client → IsWithin event → IsClient client
    by (events.Begin c t mode want) same within = one c same within.0
    by (events.Ask c t) same within = one c same within.0
    by (events.Take c t) same within = one c same within.0
    by (events.Check c t) same within = one c same within.0
    by (events.Wake c t) same within = one c same within.0
    by (events.Fire c t) same within = one c same within.0
    by (events.Quit c t) same within = one c same within.0
    by (events.RenewAsk c t kind name) same within = one c same within.0
    by (events.RenewTake c t kind name) same within = one c same within.0
    by (events.RenewExec c t kind name) same within = absurd (cc same)
    by (events.Exec c t) same within = absurd (cc same)
    by (events.Sub c) same within = absurd (cc same)
    by (events.Push c) same within = absurd (cc same)
    by (events.Tick moment) same within = absurd (cc same)
    by (events.Force name) same within = absurd (cc same)
    by (events.Cut c) same within = absurd (cc same)
    by events.Show same within = absurd (cc same)

-- of one client there is one row
pub one-row : (a b : Client) → Some a ≡ Some b → a ≡ b
one-row a b same = cc same
