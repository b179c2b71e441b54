-- No step of a client's core cuts it off.
use Rattle.std.proofs.Common.{◌≡◌, ℕ, Bool, true, false, Option, Some, None, if◌then◌else◌, refl, ◌∙◌}
use Rattle.std.specs.Option.{option_map}
use Rattle.lr_names.specs.declared.post.Push.{Push}
use Rattle.lr_names.specs.declared.post.Push.TheVariants.{Subscribed, Unsubscribed, Message}
use Rattle.lr_objects.specs.declared.kinds.Function.{Function}
use Rattle.lr_objects.specs.declared.reply.Reply.{Reply}
use Rattle.lr_objects.specs.declared.reply.Reply.TheVariants as replies
use Rattle.lr_objects.specs.declared.want.Mode.{Mode}
use Rattle.lr_objects.specs.declared.want.Want.{Want}
use Rattle.lr_waiting.specs.declared.latch.Checked.{Checked}
use Rattle.lr_waiting.specs.declared.latch.Checked.TheVariants as checks
use Rattle.lr_waiting.specs.declared.latch.Woken.{Woken}
use Rattle.lr_waiting.specs.declared.latch.Woken.TheVariants as wakings
use Rattle.lr_waiting.specs.declared.waiter.Asking.{Asking}
use Rattle.lr_waiting.specs.declared.waiter.Refusal.{Refusal}
use Rattle.lr_waiting.specs.declared.waiter.Stage.{Stage}
use Rattle.lr_waiting.specs.declared.waiter.Stage.TheVariants.{Fresh, Asked, Joining, Ready, Refused, Asleep, Leaving}
use Rattle.lr_waiting.specs.declared.waiter.Waiter.{Waiter}
use Rattle.lr_waiting.specs.declared.watch.RenewFault.{RenewFault}
use Rattle.lr_waiting.specs.declared.watch.Renewal.{Renewal}
use Rattle.lr_waiting.specs.declared.watch.WatchKey.{WatchKey}
use Rattle.lr_waiting.specs.Client.{Client, client_row, with_reply, take_with, take_reply, with_renewed, take_renewed_with, take_renewed}
use Rattle.lr_waiting.specs.Watchdog.{renew_fault, renewal_taken, is_renewed}
use Rattle.lr_waiting.specs.Latch.{acknowledge_in, is_due, is_subscribed, checked_in, register_in, woken_in}
use Rattle.lr_waiting.specs.Session.{Session, begin_row, begin_at, ask_row, ask_at, take_row, take_at, check_row, check_at, checked, wake_row, wake_at, woken, fire_row, fire_at, leaving_function, given_up, quit, quit_row, quit_at, pushed, of_waiter, taken, refused, registered, without_waiter, watched_by, watch_begun, watch_ended, waits_for, due_after, key_in, entry_for, channel_in, with_latches, with_stage, with_ticket, with_waiter, with_joined, with_watchdog, renew_unless, renew_row, renewed_row}
use Rattle.lr_waiting.specs.Latch.{leave_at, register_at, acknowledge_at}

-- a step, where it applies, leaves a client as cut off as it was
abbrev pub KeepsCut : Session → Option Session → Type 0
KeepsCut session None = Unit {0}
KeepsCut session (Some now) = now.is_cut ≡ session.is_cut

-- the same of a client with its replies
abbrev pub ClientKeepsCut : Client → Option Client → Type 0
ClientKeepsCut client None = Unit {0}
ClientKeepsCut client (Some now) = now.session.is_cut ≡ client.session.is_cut

pub keeps-client_row : (row : Session → Option Session) (client : Client)
    → KeepsCut client.session (row client.session) → ClientKeepsCut client (client_row row client)
keeps-client_row row client = by (row client.session)
  where
    by : (after : Option Session) → KeepsCut client.session after
        → ClientKeepsCut client (client_row (λ s. after) client)
    by None keeps = tt
    by (Some now) keeps = keeps

keeps-of_waiter : (session : Session) (row : Waiter → Option Session)
    → ((waiter : Waiter) → KeepsCut session (row waiter)) → (found : Option Waiter)
    → KeepsCut session (of_waiter row found)
keeps-of_waiter session row keeps None = tt
keeps-of_waiter session row keeps (Some waiter) = keeps waiter

keeps-begin_at : (thread : ℕ) (mode : Mode) (want : Want) (session : Session)
    (found : Option Waiter) → KeepsCut session (begin_at thread mode want session found)
keeps-begin_at thread mode want session None = refl
keeps-begin_at thread mode want session (Some waiter) = tt

pub keeps-begin : (thread : ℕ) (mode : Mode) (want : Want) (session : Session)
    → KeepsCut session (begin_row thread mode want session)
keeps-begin thread mode want session = by session.is_cut
  where
    by : (cut : Bool)
        → KeepsCut session
        (if cut then None else begin_at thread mode want session (session.waiters thread))
    by true = tt
    by false = keeps-begin_at thread mode want session (session.waiters thread)

keeps-ask_at : (thread moment : ℕ) (session : Session) (waiter : Waiter) (stage : Stage)
    → KeepsCut session (ask_at thread moment session waiter stage)
keeps-ask_at thread moment session waiter (Fresh turn) = refl
keeps-ask_at thread moment session waiter (Ready turn) = refl
keeps-ask_at thread moment session waiter (Leaving turn) = refl
keeps-ask_at thread moment session waiter (Asked asking) = tt
keeps-ask_at thread moment session waiter Joining = tt
keeps-ask_at thread moment session waiter (Refused refusal) = tt
keeps-ask_at thread moment session waiter (Asleep refusal) = tt

pub keeps-ask : (thread moment : ℕ) (session : Session)
    → KeepsCut session (ask_row thread moment session)
keeps-ask thread moment session =
    keeps-of_waiter session (λ waiter. ask_at thread moment session waiter waiter.stage)
    (λ waiter. keeps-ask_at thread moment session waiter waiter.stage) (session.waiters thread)

-- a request that ends
cut-without_waiter : (thread : ℕ) (waiter : Waiter) (session : Session)
    → (without_waiter thread waiter session).is_cut ≡ session.is_cut
cut-without_waiter thread waiter session = by waiter.registered
  where
    by : (waits : Bool)
        → (with_waiter thread None
        (if waits
        then with_latches (leave_at (channel_in session thread waiter) session.latches) session
        else session)).is_cut ≡ session.is_cut
    by true = refl
    by false = refl

cut-watch_begun : (at : ℕ) (key : Option WatchKey) (session : Session)
    → (watch_begun at key session).is_cut ≡ session.is_cut
cut-watch_begun at None session = refl
cut-watch_begun at (Some key) session = refl

cut-watch_ended : (key : Option WatchKey) (session : Session)
    → (watch_ended key session).is_cut ≡ session.is_cut
cut-watch_ended None session = refl
cut-watch_ended (Some key) session = refl

cut-if_watched : (watched : Bool) (at : ℕ) (key : Option WatchKey) (session : Session)
    → (if watched then watch_begun at key session else session).is_cut ≡ session.is_cut
cut-if_watched true at key session = cut-watch_begun at key session
cut-if_watched false at key session = refl

cut-watched_by : (reply : Reply) (asking : Asking) (key : Option WatchKey) (session : Session)
    → (watched_by reply asking key session).is_cut ≡ session.is_cut
cut-watched_by replies.Granted asking key session =
    cut-if_watched asking.watched asking.at key session
cut-watched_by (replies.GrantedToken token) asking key session =
    cut-if_watched asking.watched asking.at key session
cut-watched_by replies.Freed asking key session = cut-watch_ended key session
cut-watched_by replies.NotHeld asking key session = cut-watch_ended key session
cut-watched_by _ asking key session = refl

cut-registered : (thread : ℕ) (waiter : Waiter) (session : Session)
    → (registered thread waiter session).is_cut ≡ session.is_cut
cut-registered thread waiter session =
    by (is_subscribed (register_in (session.latches.entries (channel_in session thread waiter))))
  where
    by : (hears : Bool)
        → (let joined : Waiter = record {
          mode = waiter.mode;
          want = waiter.want;
          stage = waiter.stage;
          registered = true;
        } in
        let waiting =
        with_latches (register_at (channel_in session thread waiter) session.latches) session in
        if hears then with_ticket thread joined Ready waiting
        else with_stage thread joined Joining waiting).is_cut ≡ session.is_cut
    by true = refl
    by false = refl

cut-refused : (thread : ℕ) (waiter : Waiter) (asking : Asking) (reply : Reply) (session : Session)
    → (refused thread waiter asking reply session).is_cut ≡ session.is_cut
cut-refused thread waiter asking reply session = by waiter.registered
  where
    by : (waits : Bool)
        → (let refusal : Refusal = record {
          due = due_after asking.at reply;
          seen = asking.seen;
        } in
        if waits
        then with_stage thread waiter (Refused refusal) session
        else registered thread waiter session).is_cut ≡ session.is_cut
    by true = refl
    by false = cut-registered thread waiter session

cut-taken : (thread : ℕ) (waiter : Waiter) (asking : Asking) (reply : Reply) (session : Session)
    → (taken thread waiter asking reply session).is_cut ≡ session.is_cut
cut-taken thread waiter asking reply session = by (waits_for reply waiter)
  where
    by : (waits : Bool)
        → (if waits then refused thread waiter asking reply session
        else watched_by reply asking (key_in session thread waiter.want)
        (without_waiter thread waiter session)).is_cut ≡ session.is_cut
    by true = cut-refused thread waiter asking reply session
    by false =
        cut-watched_by reply asking (key_in session thread waiter.want)
        (without_waiter thread waiter session)
        ∙ cut-without_waiter thread waiter session

keeps-take_at : (thread : ℕ) (reply : Reply) (session : Session) (waiter : Waiter) (stage : Stage)
    → KeepsCut session (take_at thread reply session waiter stage)
keeps-take_at thread reply session waiter (Asked asking) =
    cut-taken thread waiter asking reply session
keeps-take_at thread reply session waiter (Fresh turn) = tt
keeps-take_at thread reply session waiter (Ready turn) = tt
keeps-take_at thread reply session waiter (Leaving turn) = tt
keeps-take_at thread reply session waiter Joining = tt
keeps-take_at thread reply session waiter (Refused refusal) = tt
keeps-take_at thread reply session waiter (Asleep refusal) = tt

keeps-take_row : (thread : ℕ) (reply : Reply) (session : Session)
    → KeepsCut session (take_row thread reply session)
keeps-take_row thread reply session =
    keeps-of_waiter session (λ waiter. take_at thread reply session waiter waiter.stage)
    (λ waiter. keeps-take_at thread reply session waiter waiter.stage) (session.waiters thread)

pub keeps-take : (thread : ℕ) (client : Client) → ClientKeepsCut client (take_reply thread client)
keeps-take thread client = by (client.replies thread)
  where
    by : (reply : Option Reply) → ClientKeepsCut client (take_with thread reply client)
    by None = tt
    by (Some reply) =
        keeps-client_row (take_row thread reply) (with_reply thread None client)
        (keeps-take_row thread reply client.session)

cut-checked : (thread : ℕ) (waiter : Waiter) (refusal : Refusal) (session : Session)
    (found : Checked) → (checked thread waiter refusal session found).is_cut ≡ session.is_cut
cut-checked thread waiter refusal session checks.Sleep = refl
cut-checked thread waiter refusal session checks.Permit = refl
cut-checked thread waiter refusal session checks.Broadcast = refl
cut-checked thread waiter refusal session checks.Timer = refl

keeps-check_at : (thread now : ℕ) (session : Session) (waiter : Waiter) (stage : Stage)
    → KeepsCut session (check_at thread now session waiter stage)
keeps-check_at thread now session waiter (Refused refusal) =
    cut-checked thread waiter refusal session
    (checked_in (entry_for session thread waiter) refusal.seen refusal.due now)
keeps-check_at thread now session waiter (Fresh turn) = tt
keeps-check_at thread now session waiter (Ready turn) = tt
keeps-check_at thread now session waiter (Leaving turn) = tt
keeps-check_at thread now session waiter Joining = tt
keeps-check_at thread now session waiter (Asked asking) = tt
keeps-check_at thread now session waiter (Asleep refusal) = tt

pub keeps-check : (thread now : ℕ) (session : Session)
    → KeepsCut session (check_row thread now session)
keeps-check thread now session =
    keeps-of_waiter session (λ waiter. check_at thread now session waiter waiter.stage)
    (λ waiter. keeps-check_at thread now session waiter waiter.stage) (session.waiters thread)

keeps-woken : (thread : ℕ) (waiter : Waiter) (session : Session) (found : Woken)
    → KeepsCut session (woken thread waiter session found)
keeps-woken thread waiter session wakings.NotYet = tt
keeps-woken thread waiter session wakings.Permit = refl
keeps-woken thread waiter session wakings.Broadcast = refl

keeps-wake_at : (thread : ℕ) (session : Session) (waiter : Waiter) (stage : Stage)
    → KeepsCut session (wake_at thread session waiter stage)
keeps-wake_at thread session waiter (Asleep refusal) =
    keeps-woken thread waiter session (woken_in (entry_for session thread waiter) refusal.seen)
keeps-wake_at thread session waiter (Fresh turn) = tt
keeps-wake_at thread session waiter (Ready turn) = tt
keeps-wake_at thread session waiter (Leaving turn) = tt
keeps-wake_at thread session waiter Joining = tt
keeps-wake_at thread session waiter (Asked asking) = tt
keeps-wake_at thread session waiter (Refused refusal) = tt

pub keeps-wake : (thread : ℕ) (session : Session) → KeepsCut session (wake_row thread session)
keeps-wake thread session =
    keeps-of_waiter session (λ waiter. wake_at thread session waiter waiter.stage)
    (λ waiter. keeps-wake_at thread session waiter waiter.stage) (session.waiters thread)

keeps-fire_at : (thread now : ℕ) (session : Session) (waiter : Waiter) (stage : Stage)
    → KeepsCut session (fire_at thread now session waiter stage)
keeps-fire_at thread now session waiter (Asleep refusal) = by (is_due refusal.due now)
  where
    by : (due : Bool)
        → KeepsCut session (if due then Some (with_ticket thread waiter Ready session) else None)
    by true = refl
    by false = tt
keeps-fire_at thread now session waiter (Fresh turn) = tt
keeps-fire_at thread now session waiter (Ready turn) = tt
keeps-fire_at thread now session waiter (Leaving turn) = tt
keeps-fire_at thread now session waiter Joining = tt
keeps-fire_at thread now session waiter (Asked asking) = tt
keeps-fire_at thread now session waiter (Refused refusal) = tt

pub keeps-fire : (thread now : ℕ) (session : Session)
    → KeepsCut session (fire_row thread now session)
keeps-fire thread now session =
    keeps-of_waiter session (λ waiter. fire_at thread now session waiter waiter.stage)
    (λ waiter. keeps-fire_at thread now session waiter waiter.stage) (session.waiters thread)

-- who gives up ends, or gives its place up first
cut-quit : (thread : ℕ) (waiter : Waiter) (session : Session)
    → (quit thread waiter session).is_cut ≡ session.is_cut
cut-quit thread waiter session = by (leaving_function waiter.want.function)
  where
    by : (found : Option Function)
        → (given_up thread waiter session found).is_cut ≡ session.is_cut
    by None = cut-without_waiter thread waiter session
    by (Some function) = refl

keeps-quit_at : (thread : ℕ) (session : Session) (waiter : Waiter) (stage : Stage)
    → KeepsCut session (quit_at thread session waiter stage)
keeps-quit_at thread session waiter Joining = cut-quit thread waiter session
keeps-quit_at thread session waiter (Ready turn) = cut-quit thread waiter session
keeps-quit_at thread session waiter (Refused refusal) = cut-quit thread waiter session
keeps-quit_at thread session waiter (Asleep refusal) = cut-quit thread waiter session
keeps-quit_at thread session waiter (Fresh turn) = tt
keeps-quit_at thread session waiter (Asked asking) = tt
keeps-quit_at thread session waiter (Leaving turn) = tt

pub keeps-quit : (thread : ℕ) (session : Session) → KeepsCut session (quit_row thread session)
keeps-quit thread session =
    keeps-of_waiter session (λ waiter. quit_at thread session waiter waiter.stage)
    (λ waiter. keeps-quit_at thread session waiter waiter.stage) (session.waiters thread)

pub cut-pushed : (push : Push) (session : Session)
    → (pushed push session).is_cut ≡ session.is_cut
cut-pushed (Subscribed channel channels) session =
    by (is_subscribed (acknowledge_in (session.latches.entries channel)))
  where
    by : (hears : Bool)
        → (if hears then with_joined channel (with_latches (acknowledge_at channel session.latches) session)
        else with_latches (acknowledge_at channel session.latches) session).is_cut
        ≡ session.is_cut
    by true = refl
    by false = refl
cut-pushed (Unsubscribed channel channels) session = refl
cut-pushed (Message channel wakes) session = refl

-- Renewals.

keeps-renew_unless : (fault : Option RenewFault) (moment : ℕ) (key : WatchKey) (session : Session)
    → KeepsCut session (renew_unless fault moment key session)
keeps-renew_unless (Some fault) moment key session = tt
keeps-renew_unless None moment key session = refl

pub keeps-renew : (key : WatchKey) (moment : ℕ) (session : Session)
    → KeepsCut session (renew_row key moment session)
keeps-renew key moment session =
    keeps-renew_unless (renew_fault moment key session.watchdog) moment key session

keeps-renewed_row : (key : WatchKey) (reply : Reply) (session : Session)
    → KeepsCut session (renewed_row key reply session)
keeps-renewed_row key reply session = by (session.watchdog.renewals key)
  where
    by : (found : Option Renewal)
        → KeepsCut session
        (option_map
        (λ renewal. with_watchdog (renewal_taken (is_renewed reply) key session.watchdog) session)
        found)
    by None = tt
    by (Some renewal) = refl

pub keeps-take_renewed : (key : WatchKey) (client : Client)
    → ClientKeepsCut client (take_renewed key client)
keeps-take_renewed key client = by (client.renewed key)
  where
    by : (reply : Option Reply) → ClientKeepsCut client (take_renewed_with key reply client)
    by None = tt
    by (Some reply) =
        keeps-client_row (renewed_row key reply) (with_renewed key None client)
        (keeps-renewed_row key reply client.session)
