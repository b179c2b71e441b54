-- What a client's thread is told by each of its steps, where the step applies.
use Rattle.std.specs.Prelude.{ℕ, ◌==◌, List, [], map, Bool, false, Option, Some, None, if◌then◌else◌}
use Rattle.std.specs.Option.{option_map}
use Rattle.lr_names.specs.Channel.{ChannelOf}
use Rattle.lr_objects.specs.declared.kinds.Function.{Function}
use Rattle.lr_objects.specs.declared.reply.Reply.{Reply}
use Rattle.lr_waiting.specs.declared.latch.Checked.{Checked}
use Rattle.lr_waiting.specs.declared.latch.Checked.TheVariants as checks
use Rattle.lr_waiting.specs.declared.latch.Woken.{Woken}
use Rattle.lr_waiting.specs.declared.latch.Woken.TheVariants as wakings
use Rattle.lr_waiting.specs.declared.told.CheckedStep.{CheckedStep}
use Rattle.lr_waiting.specs.declared.told.CheckedStep.TheVariants as looks
use Rattle.lr_waiting.specs.declared.told.GaveUp.{GaveUp}
use Rattle.lr_waiting.specs.declared.told.GaveUp.TheVariants as ends
use Rattle.lr_waiting.specs.declared.told.Taken.{Taken}
use Rattle.lr_waiting.specs.declared.told.Taken.TheVariants as takes
use Rattle.lr_waiting.specs.declared.told.WokenStep.{WokenStep}
use Rattle.lr_waiting.specs.declared.told.WokenStep.TheVariants as wakes
use Rattle.lr_waiting.specs.declared.waiter.Ask.{Ask}
use Rattle.lr_waiting.specs.declared.waiter.Asking.{Asking}
use Rattle.lr_waiting.specs.declared.waiter.Refusal.{Refusal}
use Rattle.lr_waiting.specs.declared.waiter.Stage.{Stage}
use Rattle.lr_waiting.specs.declared.waiter.Stage.TheVariants.{Fresh, Asked, Ready, Refused, Asleep, Leaving}
use Rattle.lr_waiting.specs.declared.waiter.Waiter.{Waiter}
use Rattle.lr_waiting.specs.Latch.{next_count, is_subscribed, register_in, acknowledge_in, checked_in, woken_in}
use Rattle.lr_waiting.specs.Session.{Session, entry_for, waits_for, due_after, leaving_function, joining_threads, joining_ticket, ask_row}

-- Tickets.

-- the ticket that a client gives next, to a thread
abbrev pub next_ticket : ℕ → Session → Ask
next_ticket thread session = record { thread = thread; turn = next_count session.turn }

-- the ticket that a request has in this stage
abbrev pub ticket_at : Stage → Option ℕ
ticket_at (Fresh turn) = Some turn
ticket_at (Ready turn) = Some turn
ticket_at (Leaving turn) = Some turn
ticket_at _ = None

abbrev pub ticket_with : Option Waiter → Option ℕ
ticket_with None = None
ticket_with (Some waiter) = ticket_at waiter.stage

-- the ticket that a thread has
abbrev pub ticket_of : ℕ → Session → Option Ask
ticket_of thread session =
    option_map (λ turn. record { thread = thread; turn = turn })
    (ticket_with (session.waiters thread))

abbrev pub is_turn : ℕ → Option ℕ → Bool
is_turn turn None = false
is_turn turn (Some other) = other == turn

-- a thread sends its call by its ticket: an older one doesn't count
abbrev pub ask_by : Ask → ℕ → Session → Option Session
ask_by ticket moment session =
    if is_turn ticket.turn (ticket_with (session.waiters ticket.thread))
    then ask_row ticket.thread moment session else None

-- What comes of each step.

-- of a call that didn't get the object
abbrev pub refused_with : ℕ → Waiter → Asking → Reply → Session → Taken
refused_with thread waiter asking reply session =
    if waiter.registered then takes.Refused (due_after asking.at reply)
    else if is_subscribed (register_in (entry_for session thread waiter))
    then takes.Ready (next_ticket thread session)
    else takes.Joining

-- of a reply
abbrev pub taken_with : ℕ → Waiter → Asking → Reply → Session → Taken
taken_with thread waiter asking reply session =
    if waits_for reply waiter then refused_with thread waiter asking reply session
    else takes.Done reply

abbrev pub taken_at : ℕ → Reply → Session → Waiter → Stage → Option Taken
taken_at thread reply session waiter (Asked asking) =
    Some (taken_with thread waiter asking reply session)
taken_at thread reply session waiter _ = None

abbrev pub taken_of : ℕ → Reply → Session → Option Waiter → Option Taken
taken_of thread reply session None = None
taken_of thread reply session (Some waiter) =
    taken_at thread reply session waiter waiter.stage

abbrev pub taken_by : ℕ → Reply → Session → Option Taken
taken_by thread reply session = taken_of thread reply session (session.waiters thread)

-- of a look before sleep
abbrev pub look_with : ℕ → Refusal → Session → Checked → CheckedStep
look_with thread refusal session checks.Permit = looks.Permit (next_ticket thread session)
look_with thread refusal session checks.Broadcast = looks.Broadcast (next_ticket thread session)
look_with thread refusal session checks.Timer = looks.Timer (next_ticket thread session)
look_with thread refusal session checks.Sleep = looks.Asleep refusal.due

abbrev pub look_at : ℕ → ℕ → Session → Waiter → Stage → Option CheckedStep
look_at thread now session waiter (Refused refusal) =
    Some
    (look_with thread refusal session
    (checked_in (entry_for session thread waiter) refusal.seen refusal.due now))
look_at thread now session waiter _ = None

abbrev pub look_of : ℕ → ℕ → Session → Option Waiter → Option CheckedStep
look_of thread now session None = None
look_of thread now session (Some waiter) = look_at thread now session waiter waiter.stage

abbrev pub look_by : ℕ → ℕ → Session → Option CheckedStep
look_by thread now session = look_of thread now session (session.waiters thread)

-- of a wakeup
abbrev pub wakeup_with : ℕ → Session → Woken → Option WokenStep
wakeup_with thread session wakings.Permit = Some (wakes.Permit (next_ticket thread session))
wakeup_with thread session wakings.Broadcast = Some (wakes.Broadcast (next_ticket thread session))
wakeup_with thread session wakings.NotYet = None

abbrev pub wakeup_at : ℕ → Session → Waiter → Stage → Option WokenStep
wakeup_at thread session waiter (Asleep refusal) =
    wakeup_with thread session (woken_in (entry_for session thread waiter) refusal.seen)
wakeup_at thread session waiter _ = None

abbrev pub wakeup_of : ℕ → Session → Option Waiter → Option WokenStep
wakeup_of thread session None = None
wakeup_of thread session (Some waiter) = wakeup_at thread session waiter waiter.stage

abbrev pub wakeup_by : ℕ → Session → Option WokenStep
wakeup_by thread session = wakeup_of thread session (session.waiters thread)

-- of giving up
abbrev pub end_with : ℕ → Session → Option Function → GaveUp
end_with thread session None = ends.Done
end_with thread session (Some function) = ends.Leaving (next_ticket thread session)

abbrev pub end_of : ℕ → Session → Option Waiter → GaveUp
end_of thread session None = ends.Done
end_of thread session (Some waiter) =
    end_with thread session (leaving_function waiter.want.function)

abbrev pub end_by : ℕ → Session → GaveUp
end_by thread session = end_of thread session (session.waiters thread)

-- whether a client hears a channel once an order to subscribe is acknowledged
abbrev pub hears_after : ChannelOf → Session → Bool
hears_after channel session =
    is_subscribed (acknowledge_in (session.latches.entries channel))

-- the threads that may ask once more then, in order
abbrev pub woken_by_acknowledgement : ChannelOf → Session → List ℕ
woken_by_acknowledgement channel session =
    if hears_after channel session then joining_threads channel session else []

-- and their tickets
abbrev pub tickets_given : ChannelOf → Session → List Ask
tickets_given channel session =
    map
    (λ thread. record { thread = thread; turn = joining_ticket channel session thread })
    (woken_by_acknowledgement channel session)
