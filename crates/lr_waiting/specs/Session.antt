-- The core of a client: the requests of its threads, its latches and its watches. A row of the step
-- table is a function of one session, and gives none where the step doesn't apply. Threads of a
-- client wait as in Redisson; the rules are this project's own.
use Rattle.std.specs.Prelude.{ℕ, ◌+◌, ◌==◌, List, length, Bool, true, false, ◌&&◌, ◌||◌, Option, Some, None, if◌then◌else◌}
use Rattle.std.specs.Option.{option_map}
use Rattle.lr_limits.specs.Limits.{thread_limit}
use Rattle.lr_names.specs.Channel.{ChannelOf}
use Rattle.lr_names.specs.Owner.{ThreadOfClient}
use Rattle.lr_names.specs.declared.post.Due.{Due}
use Rattle.lr_names.specs.declared.post.Due.TheVariants.{At, Never}
use Rattle.lr_names.specs.declared.post.Push.{Push}
use Rattle.lr_names.specs.declared.post.Push.TheVariants.{Subscribed, Unsubscribed, Message}
use Rattle.lr_objects.specs.Op.{channel_of}
use Rattle.lr_objects.specs.Reply.{blocks}
use Rattle.lr_objects.specs.Want.{op_of}
use Rattle.lr_objects.specs.declared.fair.FairFunction.TheVariants as fair
use Rattle.lr_objects.specs.declared.kinds.Function.{Function}
use Rattle.lr_objects.specs.declared.kinds.Function.TheVariants as functions
use Rattle.lr_objects.specs.declared.read_write.ReadWriteFunction.{ReadWriteFunction}
use Rattle.lr_objects.specs.declared.read_write.ReadWriteFunction.TheVariants as read_write
use Rattle.lr_objects.specs.declared.reply.Reply.{Reply}
use Rattle.lr_objects.specs.declared.reply.Reply.TheVariants as replies
use Rattle.lr_objects.specs.declared.want.Lease.{Lease}
use Rattle.lr_objects.specs.declared.want.Lease.TheVariants as leases
use Rattle.lr_objects.specs.declared.want.Mode.{Mode}
use Rattle.lr_objects.specs.declared.want.Mode.TheVariants as modes
use Rattle.lr_objects.specs.declared.want.Want.{Want}
use Rattle.lr_waiting.specs.declared.latch.Checked.{Checked}
use Rattle.lr_waiting.specs.declared.latch.Checked.TheVariants as checks
use Rattle.lr_waiting.specs.declared.latch.Woken.{Woken}
use Rattle.lr_waiting.specs.declared.latch.Woken.TheVariants as wakings
use Rattle.lr_waiting.specs.declared.waiter.Asking.{Asking}
use Rattle.lr_waiting.specs.declared.waiter.Phase.{Phase}
use Rattle.lr_waiting.specs.declared.waiter.Phase.TheVariants as phases
use Rattle.lr_waiting.specs.declared.waiter.Refusal.{Refusal}
use Rattle.lr_waiting.specs.declared.waiter.Stage.{Stage}
use Rattle.lr_waiting.specs.declared.waiter.Stage.TheVariants.{Fresh, Asked, Joining, Ready, Refused, Asleep, Leaving}
use Rattle.lr_waiting.specs.declared.waiter.Waiter.{Waiter}
use Rattle.lr_waiting.specs.declared.watch.RenewFault.{RenewFault}
use Rattle.lr_waiting.specs.declared.watch.WatchKey.{WatchKey}
use Rattle.lr_waiting.specs.declared.watch.WatchKind.{WatchKind}
use Rattle.lr_waiting.specs.declared.watch.WatchKind.TheVariants as watched
use Rattle.lr_model.specs.Board.{same_channel, numbers_below}
use Rattle.lr_waiting.specs.declared.latch.LatchEntry.{LatchEntry}
use Rattle.lr_waiting.specs.Latch.{Latches, no_latches, count_on, next_count, is_subscribed, is_due, checked_in, woken_in, register_in, register_at, leave_at, acknowledge_in, acknowledge_at, deliver_at, after_check, after_waking, without_first_order}
use Rattle.lr_waiting.specs.Watchdog.{Watchdog, first_watchdog, cut_watchdog, is_watched, watch_granted, watch_dropped, renew_fault, renewal_asked, renewal_taken, is_renewed}
use Rattle.lr_model.specs.Table.{put}

-- a client's id, the requests of its threads, its latches, the last ticket that it gave, its
-- watchdog, and whether it was cut off
pub record Session : Type 0 where
  pub client : List ℕ
  pub waiters : ℕ → Option Waiter
  pub latches : Latches
  pub turn : ℕ
  pub watchdog : Watchdog
  pub is_cut : Bool

-- a client before its first request
abbrev pub first_session : List ℕ → ℕ → Session
first_session client lease = record {
  client = client;
  waiters = λ thread. None;
  latches = no_latches;
  turn = 0;
  watchdog = first_watchdog lease;
  is_cut = false;
}

-- a client that was cut off: what it knew is lost
abbrev pub cut_session : Session → Session
cut_session session = record session {
  waiters = λ thread. None;
  latches = no_latches;
  watchdog = cut_watchdog session.watchdog;
  is_cut = true;
}

-- a client's thread as an owner
abbrev pub owner_in : Session → ℕ → ThreadOfClient
owner_in session thread = record { client = session.client; thread = thread }

-- the channel on which those wait who want this
abbrev pub channel_for : ThreadOfClient → Want → ChannelOf
channel_for owner want = channel_of (op_of want owner 0 false)

-- the channel of a thread's request
abbrev pub channel_in : Session → ℕ → Waiter → ChannelOf
channel_in session thread waiter = channel_for (owner_in session thread) waiter.want

-- the entry of that channel
abbrev pub entry_for : Session → ℕ → Waiter → LatchEntry
entry_for session thread waiter = session.latches.entries (channel_in session thread waiter)

-- the phase of a request
abbrev pub phase_at : Stage → Phase
phase_at (Fresh turn) = phases.Fresh
phase_at (Asked asking) = phases.Asked
phase_at Joining = phases.Joining
phase_at (Ready turn) = phases.Ready
phase_at (Refused refusal) = phases.Refused
phase_at (Asleep refusal) = phases.Asleep
phase_at (Leaving turn) = phases.Leaving

abbrev pub phase_with : Option Waiter → Phase
phase_with None = phases.Idle
phase_with (Some waiter) = phase_at waiter.stage

-- the phase of a thread
abbrev pub phase_in : Session → ℕ → Phase
phase_in session thread =
    if session.is_cut then phases.Cut else phase_with (session.waiters thread)

-- Changes of a session.

-- another request of a thread, or none
abbrev pub with_waiter : ℕ → Option Waiter → Session → Session
with_waiter thread waiter session =
    record session { waiters = put ◌==◌ session.waiters thread waiter }

-- a request at another stage
abbrev pub at_stage : Stage → Waiter → Waiter
at_stage stage waiter =
    record { mode = waiter.mode; want = waiter.want; stage = stage; registered = waiter.registered }

-- a thread's request at another stage
abbrev pub with_stage : ℕ → Waiter → Stage → Session → Session
with_stage thread waiter stage session =
    with_waiter thread (Some (at_stage stage waiter)) session

abbrev pub with_latches : Latches → Session → Session
with_latches latches session = record session { latches = latches }

-- a thread's request gets the next ticket, for a stage that has one
abbrev pub with_ticket : ℕ → Waiter → (ℕ → Stage) → Session → Session
with_ticket thread waiter stage session =
    let turn = next_count session.turn in
    with_stage thread waiter (stage turn) (record session { turn = turn })

-- the request of a thread ends, and the thread leaves its channel where it waits
abbrev pub without_waiter : ℕ → Waiter → Session → Session
without_waiter thread waiter session =
    with_waiter thread None
    (if waiter.registered
    then with_latches (leave_at (channel_in session thread waiter) session.latches) session
    else session)

-- a step of a thread that has a request
abbrev pub of_waiter : (Waiter → Option Session) → Option Waiter → Option Session
of_waiter row None = None
of_waiter row (Some waiter) = row waiter

-- Watches.

-- Of a read-write lock, a function is about the hold to read or that to write. A renewal that a
-- request is made of is of the hold to read.
abbrev pub access_watched : ReadWriteFunction → WatchKind
access_watched read_write.Read = watched.Read
access_watched read_write.UnlockRead = watched.Read
access_watched read_write.Write = watched.Write
access_watched read_write.UnlockWrite = watched.Write
access_watched read_write.Renew = watched.Read

-- what kind of hold a function is about, where a watchdog can renew it
abbrev pub watch_kind : Function → Option WatchKind
watch_kind (functions.Lock function) = Some watched.Lock
watch_kind (functions.Fair function) = Some watched.Fair
watch_kind (functions.Fenced function) = Some watched.Fenced
watch_kind (functions.ReadWrite function) = Some (access_watched function)
watch_kind _ = None

-- the hold that a request is about
abbrev pub watch_key : ThreadOfClient → List ℕ → WatchKind → WatchKey
watch_key owner name kind = record { owner = owner; kind = kind; name = name }

abbrev pub key_in : Session → ℕ → Want → Option WatchKey
key_in session thread want =
    option_map (watch_key (owner_in session thread) want.name) (watch_kind want.function)

-- whether that hold is renewed already
abbrev pub is_watched_in : Session → Option WatchKey → Bool
is_watched_in session None = false
is_watched_in session (Some key) = is_watched session.watchdog key

-- whether a lease is the watchdog's
abbrev pub is_watch : Lease → Bool
is_watch leases.Watch = true
is_watch (leases.For millis) = false

-- whether a request gets the watchdog's lease: it says so, or its hold is renewed already
abbrev pub asks_watched : Session → ℕ → Want → Bool
asks_watched session thread want =
    is_watch want.lease || is_watched_in session (key_in session thread want)

-- the lease in milliseconds
abbrev pub lease_in : Session → Lease → ℕ
lease_in session leases.Watch = session.watchdog.lease
lease_in session (leases.For millis) = millis

abbrev pub lease_asked : Session → ℕ → Want → ℕ
lease_asked session thread want =
    if asks_watched session thread want then session.watchdog.lease
    else lease_in session want.lease

abbrev pub with_watchdog : Watchdog → Session → Session
with_watchdog watchdog session = record session { watchdog = watchdog }

abbrev pub watch_begun : ℕ → Option WatchKey → Session → Session
watch_begun at None session = session
watch_begun at (Some key) session =
    with_watchdog (watch_granted at key session.watchdog) session

abbrev pub watch_ended : Option WatchKey → Session → Session
watch_ended None session = session
watch_ended (Some key) session = with_watchdog (watch_dropped key session.watchdog) session

-- A grant under the watchdog's lease begins a watch. What was freed or isn't held needs none.
abbrev pub watched_by : Reply → Asking → Option WatchKey → Session → Session
watched_by replies.Granted asking key session =
    if asking.watched then watch_begun asking.at key session else session
watched_by (replies.GrantedToken token) asking key session =
    if asking.watched then watch_begun asking.at key session else session
watched_by replies.Freed asking key session = watch_ended key session
watched_by replies.NotHeld asking key session = watch_ended key session
watched_by _ asking key session = session

-- a renewal is asked for, where its watch has fallen due and none is asked for
abbrev pub renew_unless : Option RenewFault → ℕ → WatchKey → Session → Option Session
renew_unless (Some fault) moment key session = None
renew_unless None moment key session =
    Some (with_watchdog (renewal_asked moment key session.watchdog) session)

abbrev pub renew_row : WatchKey → ℕ → Session → Option Session
renew_row key moment session =
    renew_unless (renew_fault moment key session.watchdog) moment key session

-- the reply to a renewal is taken, where one is asked for
abbrev pub renewed_row : WatchKey → Reply → Session → Option Session
renewed_row key reply session =
    option_map
    (λ renewal. with_watchdog (renewal_taken (is_renewed reply) key session.watchdog) session)
    (session.watchdog.renewals key)

-- The rows.

-- a thread without a request begins one
abbrev pub new_waiter : Mode → Want → ℕ → Waiter
new_waiter mode want turn =
    record { mode = mode; want = want; stage = Fresh turn; registered = false }

abbrev pub begin_at : ℕ → Mode → Want → Session → Option Waiter → Option Session
begin_at thread mode want session (Some waiter) = None
begin_at thread mode want session None =
    let turn = next_count session.turn in
    Some (with_waiter thread (Some (new_waiter mode want turn)) (record session { turn = turn }))

abbrev pub begin_row : ℕ → Mode → Want → Session → Option Session
begin_row thread mode want session =
    if session.is_cut then None
    else begin_at thread mode want session (session.waiters thread)

-- whether a request may wait
abbrev pub may_wait : Mode → Bool
may_wait modes.Once = false
may_wait (modes.For millis) = true
may_wait modes.Long = true

-- the function by which a place in a queue is given up: only a fair lock has a queue
abbrev pub leaving_function : Function → Option Function
leaving_function (functions.Fair function) = Some (functions.Fair fair.Leave)
leaving_function _ = None

-- what a request wants once it gives its place up
abbrev pub leaving_want : Want → Option Function → Want
leaving_want want None = want
leaving_want want (Some function) = record want { function = function }

-- The call that a thread sends: at a moment, with its lease, and with what it has heard by then. A
-- thread that may wait takes its place in a queue.
abbrev pub asking_for : ℕ → ℕ → Want → Waiter → Session → Asking
asking_for thread moment want waiter session = record {
  op = op_of want (owner_in session thread) (lease_asked session thread want)
      (may_wait waiter.mode);
  at = moment;
  seen = (entry_for session thread waiter).broadcast;
  watched = asks_watched session thread want;
}

-- a thread with a ticket sends its call
abbrev pub asked : ℕ → ℕ → Want → Waiter → Session → Session
asked thread moment want waiter session =
    with_stage thread waiter (Asked (asking_for thread moment want waiter session)) session

abbrev pub ask_at : ℕ → ℕ → Session → Waiter → Stage → Option Session
ask_at thread moment session waiter (Fresh turn) =
    Some (asked thread moment waiter.want waiter session)
ask_at thread moment session waiter (Ready turn) =
    Some (asked thread moment waiter.want waiter session)
ask_at thread moment session waiter (Leaving turn) =
    Some
    (asked thread moment (leaving_want waiter.want (leaving_function waiter.want.function)) waiter
    session)
ask_at thread moment session waiter _ = None

abbrev pub ask_row : ℕ → ℕ → Session → Option Session
ask_row thread moment session =
    of_waiter (λ waiter. ask_at thread moment session waiter waiter.stage)
    (session.waiters thread)

-- when a thread that was refused asks again by itself: once the object can have come free
abbrev pub due_after : ℕ → Reply → Due
due_after at (replies.Busy millis) = At (at + millis)
due_after at _ = Never

-- a thread that has to wait registers at its channel: it may ask at once where its client hears the
-- channel already
abbrev pub registered : ℕ → Waiter → Session → Session
registered thread waiter session =
    let channel = channel_in session thread waiter in
    let latches = register_at channel session.latches in
    let joined : Waiter =
    record {
      mode = waiter.mode;
      want = waiter.want;
      stage = waiter.stage;
      registered = true;
    } in
    let waiting = with_latches latches session in
    if is_subscribed (register_in (session.latches.entries channel))
    then with_ticket thread joined Ready waiting
    else with_stage thread joined Joining waiting

-- a call that didn't get the object: the thread registers, or sleeps next
abbrev pub refused : ℕ → Waiter → Asking → Reply → Session → Session
refused thread waiter asking reply session =
    if waiter.registered
    then with_stage thread waiter
    (Refused (record { due = due_after asking.at reply; seen = asking.seen })) session
    else registered thread waiter session

-- whether a reply lets a request wait
abbrev pub waits_for : Reply → Waiter → Bool
waits_for reply waiter = may_wait waiter.mode && blocks reply waiter.want.function

-- a thread takes the reply to its call
abbrev pub taken : ℕ → Waiter → Asking → Reply → Session → Session
taken thread waiter asking reply session =
    if waits_for reply waiter then refused thread waiter asking reply session
    else watched_by reply asking (key_in session thread waiter.want)
    (without_waiter thread waiter session)

abbrev pub take_at : ℕ → Reply → Session → Waiter → Stage → Option Session
take_at thread reply session waiter (Asked asking) =
    Some (taken thread waiter asking reply session)
take_at thread reply session waiter _ = None

abbrev pub take_row : ℕ → Reply → Session → Option Session
take_row thread reply session =
    of_waiter (λ waiter. take_at thread reply session waiter waiter.stage)
    (session.waiters thread)

-- a thread that was refused looks whether it is to sleep
abbrev pub checked : ℕ → Waiter → Refusal → Session → Checked → Session
checked thread waiter refusal session checks.Sleep =
    with_stage thread waiter (Asleep refusal) session
checked thread waiter refusal session found =
    with_ticket thread waiter Ready
    (with_latches (after_check (channel_in session thread waiter) found session.latches) session)

abbrev pub check_at : ℕ → ℕ → Session → Waiter → Stage → Option Session
check_at thread now session waiter (Refused refusal) =
    Some
    (checked thread waiter refusal session
    (checked_in (entry_for session thread waiter) refusal.seen refusal.due now))
check_at thread now session waiter _ = None

abbrev pub check_row : ℕ → ℕ → Session → Option Session
check_row thread now session =
    of_waiter (λ waiter. check_at thread now session waiter waiter.stage)
    (session.waiters thread)

-- a sleeping thread finds a permit, or hears that a message has woken all
abbrev pub woken : ℕ → Waiter → Session → Woken → Option Session
woken thread waiter session wakings.NotYet = None
woken thread waiter session found =
    Some
    (with_ticket thread waiter Ready
    (with_latches (after_waking (channel_in session thread waiter) found session.latches) session))

abbrev pub wake_at : ℕ → Session → Waiter → Stage → Option Session
wake_at thread session waiter (Asleep refusal) =
    woken thread waiter session (woken_in (entry_for session thread waiter) refusal.seen)
wake_at thread session waiter _ = None

abbrev pub wake_row : ℕ → Session → Option Session
wake_row thread session =
    of_waiter (λ waiter. wake_at thread session waiter waiter.stage) (session.waiters thread)

-- the timer of a sleeping thread has come
abbrev pub fire_at : ℕ → ℕ → Session → Waiter → Stage → Option Session
fire_at thread now session waiter (Asleep refusal) =
    if is_due refusal.due now then Some (with_ticket thread waiter Ready session) else None
fire_at thread now session waiter _ = None

abbrev pub fire_row : ℕ → ℕ → Session → Option Session
fire_row thread now session =
    of_waiter (λ waiter. fire_at thread now session waiter waiter.stage)
    (session.waiters thread)

-- a waiting thread gives up: it ends, or first gives back its place in a queue
abbrev pub given_up : ℕ → Waiter → Session → Option Function → Session
given_up thread waiter session None = without_waiter thread waiter session
given_up thread waiter session (Some function) = with_ticket thread waiter Leaving session

abbrev pub quit : ℕ → Waiter → Session → Session
quit thread waiter session =
    given_up thread waiter session (leaving_function waiter.want.function)

abbrev pub quit_at : ℕ → Session → Waiter → Stage → Option Session
quit_at thread session waiter Joining = Some (quit thread waiter session)
quit_at thread session waiter (Ready turn) = Some (quit thread waiter session)
quit_at thread session waiter (Refused refusal) = Some (quit thread waiter session)
quit_at thread session waiter (Asleep refusal) = Some (quit thread waiter session)
quit_at thread session waiter _ = None

abbrev pub quit_row : ℕ → Session → Option Session
quit_row thread session =
    of_waiter (λ waiter. quit_at thread session waiter waiter.stage) (session.waiters thread)

-- What the server tells a client.

-- whether a thread waits until its client hears this channel
abbrev pub is_joining_at : Stage → Bool
is_joining_at Joining = true
is_joining_at _ = false

abbrev pub joins : ChannelOf → Session → ℕ → Option Waiter → Bool
joins channel session thread None = false
joins channel session thread (Some waiter) =
    is_joining_at waiter.stage && same_channel channel (channel_in session thread waiter)

abbrev pub is_joining : ChannelOf → Session → ℕ → Bool
is_joining channel session thread = joins channel session thread (session.waiters thread)

-- the threads that wait so, in order
abbrev pub joining_threads : ChannelOf → Session → List ℕ
joining_threads channel session =
    numbers_below (thread_limit + 1) (is_joining channel session)

-- the ticket of one of them: they get the next ones in order of their numbers
abbrev pub joining_ticket : ChannelOf → Session → ℕ → ℕ
joining_ticket channel session thread =
    count_on session.turn
    (length (numbers_below (thread + 1) (is_joining channel session)))

-- a thread that waited so may ask once more
abbrev pub joined_waiter : ChannelOf → Session → ℕ → Option Waiter → Option Waiter
joined_waiter channel session thread None = None
joined_waiter channel session thread (Some waiter) =
    if is_joining channel session thread
    then Some (at_stage (Ready (joining_ticket channel session thread)) waiter)
    else Some waiter

-- the client hears the channel now, and all who waited for that may ask once more
abbrev pub with_joined : ChannelOf → Session → Session
with_joined channel session = record session {
  waiters = λ thread. joined_waiter channel session thread (session.waiters thread);
  turn = count_on session.turn (length (joining_threads channel session));
}

-- an order to subscribe was acknowledged: only after the last one the client hears the channel
abbrev pub acknowledged : ChannelOf → Session → Session
acknowledged channel session =
    let latches = acknowledge_at channel session.latches in
    let heard = with_latches latches session in
    if is_subscribed (acknowledge_in (session.latches.entries channel))
    then with_joined channel heard else heard

-- an item that the server has sent
abbrev pub pushed : Push → Session → Session
pushed (Subscribed channel channels) session = acknowledged channel session
pushed (Unsubscribed channel channels) session = session
pushed (Message channel wakes) session =
    with_latches (deliver_at channel session.latches) session

-- the oldest order is on its way to the server
abbrev pub order_taken : Session → Session
order_taken session = with_latches (without_first_order session.latches) session

-- Threads whose timers have come.

abbrev pub is_due_at : ℕ → Stage → Bool
is_due_at now (Asleep refusal) = is_due refusal.due now
is_due_at now _ = false

abbrev pub has_timer : ℕ → Option Waiter → Bool
has_timer now None = false
has_timer now (Some waiter) = is_due_at now waiter.stage

-- in order of their numbers
abbrev pub due_threads : ℕ → Session → List ℕ
due_threads now session =
    numbers_below (thread_limit + 1) (λ thread. has_timer now (session.waiters thread))
