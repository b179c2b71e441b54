-- A client of a schedule: its core, and the replies that the server has given and that it hasn't
-- taken yet.
use Rattle.std.specs.Prelude.{ℕ, ◌==◌, List, Bool, Option, Some, None, is_some, if◌then◌else◌}
use Rattle.std.specs.Option.{option_map}
use Rattle.lr_objects.specs.declared.reply.Reply.{Reply}
use Rattle.lr_waiting.specs.declared.waiter.Asking.{Asking}
use Rattle.lr_waiting.specs.declared.waiter.Phase.{Phase}
use Rattle.lr_waiting.specs.declared.waiter.Phase.TheVariants as phases
use Rattle.lr_waiting.specs.declared.waiter.Stage.{Stage}
use Rattle.lr_waiting.specs.declared.waiter.Stage.TheVariants.{Asked}
use Rattle.lr_waiting.specs.declared.waiter.Waiter.{Waiter}
use Rattle.lr_waiting.specs.declared.watch.Renewal.{Renewal}
use Rattle.lr_waiting.specs.declared.watch.WatchKey.{WatchKey}
use Rattle.lr_waiting.specs.Session.{Session, first_session, cut_session, phase_in, take_row, renewed_row}
use Rattle.lr_waiting.specs.Watchdog.{same_watch}
use Rattle.lr_model.specs.Table.{put}

-- its core, the replies to the calls of its threads, and those to its renewals
pub record Client : Type 0 where
  pub session : Session
  pub replies : ℕ → Option Reply
  pub renewed : WatchKey → Option Reply

-- a client before its first request
abbrev pub new_client : List ℕ → ℕ → Client
new_client id lease = record {
  session = first_session id lease;
  replies = λ thread. None;
  renewed = λ key. None;
}

-- a client that was cut off: replies that weren't taken are lost
abbrev pub cut_client : Client → Client
cut_client client = record {
  session = cut_session client.session;
  replies = λ thread. None;
  renewed = λ key. None;
}

-- the request of a thread
abbrev pub waiter_in : Client → ℕ → Option Waiter
waiter_in client thread = client.session.waiters thread

-- a client whose core makes a step
abbrev pub client_row : (Session → Option Session) → Client → Option Client
client_row row client =
    option_map (λ session. record client { session = session }) (row client.session)

-- a reply that waits for a thread, or none
abbrev pub with_reply : ℕ → Option Reply → Client → Client
with_reply thread reply client =
    record client { replies = put ◌==◌ client.replies thread reply }

-- a call that was sent is answered once its reply is there
abbrev pub once_answered : Phase → Bool → Phase
once_answered phases.Asked answered = if answered then phases.Answered else phases.Asked
once_answered phase answered = phase

-- the phase of a thread
abbrev pub phase_of : Client → ℕ → Phase
phase_of client thread =
    once_answered (phase_in client.session thread) (is_some (client.replies thread))

-- the call that a thread has sent and the server hasn't run
abbrev pub asked_at : Stage → Option Reply → Option Asking
asked_at (Asked asking) None = Some asking
asked_at _ _ = None

abbrev pub asked_by : Option Waiter → Option Reply → Option Asking
asked_by None reply = None
asked_by (Some waiter) reply = asked_at waiter.stage reply

abbrev pub asked_of : Client → ℕ → Option Asking
asked_of client thread = asked_by (waiter_in client thread) (client.replies thread)

-- a thread takes the reply that waits for it
abbrev pub take_with : ℕ → Option Reply → Client → Option Client
take_with thread None client = None
take_with thread (Some reply) client =
    client_row (take_row thread reply) (with_reply thread None client)

abbrev pub take_reply : ℕ → Client → Option Client
take_reply thread client = take_with thread (client.replies thread) client

-- Renewals.

-- a reply that waits for a renewal, or none
abbrev pub with_renewed : WatchKey → Option Reply → Client → Client
with_renewed key reply client =
    record client { renewed = put same_watch client.renewed key reply }

-- the renewal of a hold that was asked for and that the server hasn't run
abbrev pub renewing_at : Option Renewal → Option Reply → Option Renewal
renewing_at (Some renewal) None = Some renewal
renewing_at _ _ = None

abbrev pub renewing_of : Client → WatchKey → Option Renewal
renewing_of client key =
    renewing_at (client.session.watchdog.renewals key) (client.renewed key)

-- a client takes the reply that waits for a renewal
abbrev pub take_renewed_with : WatchKey → Option Reply → Client → Option Client
take_renewed_with key None client = None
take_renewed_with key (Some reply) client =
    client_row (renewed_row key reply) (with_renewed key None client)

abbrev pub take_renewed : WatchKey → Client → Option Client
take_renewed key client = take_renewed_with key (client.renewed key) client
