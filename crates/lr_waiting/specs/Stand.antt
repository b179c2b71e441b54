-- What stands for a sleeping thread: why it doesn't sleep for ever. This project's own.
use Rattle.std.specs.Prelude.{ℕ, ◌+◌, ◌==◌, nat_lt, min, List, [], ◌∷◌, Bool, true, false, not, ◌&&◌, Option, Some, None, if◌then◌else◌}
use Rattle.std.specs.List.{list_any}
use Rattle.lr_limits.specs.Limits.{thread_limit, watchdog_lease}
use Rattle.lr_names.specs.Channel.{ChannelOf, channel_wakes}
use Rattle.lr_names.specs.Owner.{ThreadOfClient}
use Rattle.lr_names.specs.declared.kind.Wakes.{Wakes}
use Rattle.lr_names.specs.declared.kind.Wakes.TheVariants.{One, All}
use Rattle.lr_names.specs.declared.post.Due.{Due}
use Rattle.lr_names.specs.declared.post.Due.TheVariants.{At, Never}
use Rattle.lr_names.specs.declared.post.Push.{Push}
use Rattle.lr_names.specs.declared.post.Push.TheVariants.{Message}
use Rattle.lr_objects.specs.Reply.{blocks}
use Rattle.lr_objects.specs.Want.{op_of}
use Rattle.lr_objects.specs.declared.kinds.Function.{Function}
use Rattle.lr_objects.specs.declared.op.Op.{Op}
use Rattle.lr_objects.specs.declared.reply.Reply.{Reply}
use Rattle.lr_objects.specs.declared.want.Want.{Want}
use Rattle.lr_waiting.specs.declared.stand.Stand.{Stand}
use Rattle.lr_waiting.specs.declared.stand.Stand.TheVariants as stands
use Rattle.lr_waiting.specs.declared.waiter.Refusal.{Refusal}
use Rattle.lr_waiting.specs.declared.waiter.Stage.{Stage}
use Rattle.lr_waiting.specs.declared.waiter.Stage.TheVariants.{Asked, Ready, Refused, Asleep}
use Rattle.lr_waiting.specs.declared.waiter.Waiter.{Waiter}
use Rattle.lr_model.specs.Answer.{Objects, reply_of}
use Rattle.lr_model.specs.Board.{same_channel, numbers_below}
use Rattle.lr_waiting.specs.Client.{Client, waiter_in}
use Rattle.lr_model.specs.History.{State}
use Rattle.lr_waiting.specs.Session.{owner_in, channel_in, entry_for, due_after}

-- whether an item is a message of a channel
abbrev pub is_message_on : ChannelOf → Push → Bool
is_message_on channel (Message other wakes) = same_channel channel other
is_message_on channel _ = false

-- whether a message of a channel is among what was sent
abbrev pub in_flight : ChannelOf → List Push → Bool
in_flight channel outbox = list_any (is_message_on channel) outbox

-- whether a request waits at the latch of a channel
abbrev pub waits_at : ChannelOf → Client → ℕ → Waiter → Bool
waits_at channel client thread waiter =
    waiter.registered && same_channel channel (channel_in client.session thread waiter)

-- whether a call that was sent gets its thread on: it hasn't been answered, or not by a refusal
abbrev pub gets_on : Option Reply → Function → Bool
gets_on None function = true
gets_on (Some reply) function = not (blocks reply function)

-- whether a thread must send a call, or end and hand a permit on, before it can sleep again
abbrev pub is_awake_at : Stage → Option Reply → Function → Bool
is_awake_at (Ready turn) reply function = true
is_awake_at (Asked asking) reply function = gets_on reply function
is_awake_at _ reply function = false

abbrev pub awake_with : ChannelOf → Client → ℕ → Option Waiter → Bool
awake_with channel client thread None = false
awake_with channel client thread (Some waiter) =
    waits_at channel client thread waiter
    && is_awake_at waiter.stage (client.replies thread) waiter.want.function

abbrev pub is_awake : ChannelOf → Client → ℕ → Bool
is_awake channel client thread = awake_with channel client thread (waiter_in client thread)

-- a due moment, unless it is never
abbrev pub moment_due : Due → Option ℕ
moment_due (At moment) = Some moment
moment_due Never = None

abbrev pub due_by_reply : ℕ → Option Reply → Option ℕ
due_by_reply at None = None
due_by_reply at (Some reply) = moment_due (due_after at reply)

-- when a thread whose call was refused asks again by itself
abbrev pub due_at : Stage → Option Reply → Option ℕ
due_at (Asked asking) reply = due_by_reply asking.at reply
due_at (Refused refusal) reply = moment_due refusal.due
due_at (Asleep refusal) reply = moment_due refusal.due
due_at _ reply = None

abbrev pub due_with : ChannelOf → Client → ℕ → Option Waiter → Option ℕ
due_with channel client thread None = None
due_with channel client thread (Some waiter) =
    if waits_at channel client thread waiter then due_at waiter.stage (client.replies thread)
    else None

abbrev pub due_of : ChannelOf → Client → ℕ → Option ℕ
due_of channel client thread = due_with channel client thread (waiter_in client thread)

-- the lesser of two moments, of which each may be missing
abbrev pub lesser : Option ℕ → Option ℕ → Option ℕ
lesser None other = other
lesser (Some moment) None = Some moment
lesser (Some moment) (Some other) = Some (min moment other)

-- the least of the moments of these threads
abbrev pub least_of : (ℕ → Option ℕ) → List ℕ → Option ℕ
least_of moment [] = None
least_of moment (thread ∷ threads) = lesser (moment thread) (least_of moment threads)

-- the threads that pass a test, in order
abbrev pub threads_with : (ℕ → Bool) → List ℕ
threads_with test = numbers_below (thread_limit + 1) test

-- the least due moment at the latch of a channel
abbrev pub least_due : ChannelOf → Client → Option ℕ
least_due channel client = least_of (due_of channel client) (threads_with (λ thread. true))

abbrev pub timer_or_nobody : Option ℕ → Stand
timer_or_nobody (Some moment) = stands.Timer moment
timer_or_nobody None = stands.Nobody

-- where a message wakes one: the first of these that is there
abbrev pub stand_of_one : ChannelOf → List Push → Client → Stand
stand_of_one channel outbox client =
    if in_flight channel outbox then stands.Message
    else if nat_lt 0 (client.session.latches.entries channel).permits then stands.Permit
    else if list_any (is_awake channel client) (threads_with (λ thread. true)) then stands.Awake
    else timer_or_nobody (least_due channel client)

-- the call by which it is told whether a request would be refused: it gets the lease of a watchdog,
-- if one at all
abbrev pub op_tried : ThreadOfClient → Want → Op
op_tried owner want = op_of want owner watchdog_lease false

-- whether a request would be refused at a moment
abbrev pub is_refused : Objects → ℕ → ThreadOfClient → Want → Bool
is_refused objects moment owner want =
    blocks (reply_of objects moment (op_tried owner want)) want.function

-- whether it would be refused now
abbrev pub would_wait : State → ℕ → Client → ℕ → Waiter → Bool
would_wait state now client thread waiter =
    is_refused state.objects now (owner_in client.session thread) waiter.want

-- where a message wakes all: the first of these that is there
abbrev pub stand_of_all : State → ℕ → List Push → Client → ℕ → Waiter → Refusal → Stand
stand_of_all state now outbox client thread waiter refusal =
    let channel = channel_in client.session thread waiter in
    if would_wait state now client thread waiter then stands.Held
    else if in_flight channel outbox then stands.Message
    else if not ((entry_for client.session thread waiter).broadcast == refusal.seen)
    then stands.Broadcast
    else timer_or_nobody (moment_due refusal.due)

abbrev pub stand_by : Wakes → State → ℕ → List Push → Client → ℕ → Waiter → Refusal → Stand
stand_by One state now outbox client thread waiter refusal =
    stand_of_one (channel_in client.session thread waiter) outbox client
stand_by All state now outbox client thread waiter refusal =
    stand_of_all state now outbox client thread waiter refusal

-- what stands for a thread that sleeps: none for one that doesn't
abbrev pub stand_at : State → ℕ → List Push → Client → ℕ → Waiter → Stage → Option Stand
stand_at state now outbox client thread waiter (Asleep refusal) =
    let kind = (channel_in client.session thread waiter).kind in
    Some (stand_by (channel_wakes kind) state now outbox client thread waiter refusal)
stand_at state now outbox client thread waiter _ = None

abbrev pub stand_with : State → ℕ → List Push → Client → ℕ → Option Waiter → Option Stand
stand_with state now outbox client thread None = None
stand_with state now outbox client thread (Some waiter) =
    stand_at state now outbox client thread waiter waiter.stage

abbrev pub stand_of : State → ℕ → List Push → Client → ℕ → Option Stand
stand_of state now outbox client thread =
    stand_with state now outbox client thread (waiter_in client thread)
