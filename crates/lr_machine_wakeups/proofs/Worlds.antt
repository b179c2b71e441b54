-- Each event keeps the facts of all clients.
use Rattle.std.proofs.Common.{◌≡◌, ℕ, suc, ◌<◌, ◌≤◌, ◌==◌, ◌^◌, nat_le, List, [], ◌∷◌, slice_get, Bool, true, false, not, ◌&&◌, ◌||◌, Option, Some, None, is_some, if◌then◌else◌, refl, sym, ap, ◌∙◌, subst, arith, inl, inr}
use Rattle.std.specs.List.{list_any}
use Rattle.std.specs.Str.{bytes_eq}
use Rattle.std.proofs.lemmas.Bool.{false≢true, eq-eqb, eqb-true}
use Rattle.lr_limits.specs.Limits.{thread_limit, watchdog_lease}
use Rattle.lr_names.specs.Channel.{ChannelOf, is_fair}
use Rattle.lr_names.specs.Owner.{ThreadOfClient}
use Rattle.lr_names.specs.declared.kind.Kind.{Kind}
use Rattle.lr_names.specs.declared.kind.Kind.TheVariants as kinds
use Rattle.lr_names.specs.declared.post.Post.{Post}
use Rattle.lr_names.specs.declared.post.Push.{Push}
use Rattle.lr_names.specs.declared.post.Push.TheVariants.{Message}
use Rattle.lr_objects.specs.declared.op.Op.{Op}
use Rattle.lr_objects.specs.declared.reply.Reply.{Reply}
use Rattle.lr_model.specs.declared.entry.Act.TheVariants.{Subscribe, Unsubscribe, Drain}
use Rattle.lr_model.specs.declared.entry.Entry.{Entry}
use Rattle.lr_model.specs.Answer.{reply_of, objects_after, post_of}
use Rattle.lr_model.specs.Board.{Board, Connection, same_kind, same_channel, same_queue_owner, has_channel, has_room, is_overrun, new_connection, closed_connection, dropped_connection, with_item, with_connection, connection_after_post, connection_after_subscribe, connection_after_unsubscribe, connection_after_drain, board_after_post}
use Rattle.lr_model.specs.History.{State, step, call_entry, entry_of}
use Rattle.lr_waiting.specs.declared.latch.Order.{Order}
use Rattle.lr_waiting.specs.declared.waiter.Asking.{Asking}
use Rattle.lr_waiting.specs.declared.waiter.Waiter.{Waiter}
use Rattle.lr_waiting.specs.declared.watch.Renewal.{Renewal}
use Rattle.lr_waiting.specs.declared.watch.WatchKey.{WatchKey}
use Rattle.lr_waiting.specs.Client.{Client, waiter_in, cut_client, client_row, with_reply, asked_by, asked_of, take_reply, with_renewed, renewing_of, take_renewed}
use Rattle.lr_waiting.specs.Latch.{first_order_of}
use Rattle.lr_waiting.specs.Peak.{live_until, tells, peak_by_call, peak_by_act, peak_after}
use Rattle.lr_waiting.specs.Queue.{leaves_place, is_own_try, stale_on, place_by_call, place_by_act, is_told, told_by_call, told_by_act}
use Rattle.lr_waiting.specs.Session.{Session, begin_row, ask_row, check_row, wake_row, fire_row, quit_row, renew_row, pushed, order_taken}
use Rattle.lr_wakeups.specs.Facts.{Facts}
use Rattle.lr_wakeups.specs.Queued.{QueueGoesOn, NobodyIsBlocked}
use Rattle.lr_wakeups.specs.Reached.{Present, GoesOn}
use Rattle.lr_wakeups.proofs.Rows.{facts_later, facts_begin, facts_ask, facts_answered, facts_check, facts_wake, facts_fire, facts_quit, facts_take}
use Rattle.lr_wakeups.proofs.Renewals.{facts_renew, facts_renewed, facts_take_renewed}
use Rattle.lr_wakeups.proofs.ServerSteps.{facts_push, facts_order, facts_post, facts_going_on, facts_cut, facts_at_start}
use Rattle.lr_machine.specs.declared.event.Event.{Event}
use Rattle.lr_machine.specs.declared.event.Event.TheVariants.{Begin, Ask, Exec, Take, Check, Wake, Fire, Quit, Sub, Push as push, Tick, RenewAsk, RenewExec, RenewTake, Force, Cut, Show}
use Rattle.lr_machine.specs.Clients.{client_id, command_connection, subscription_connection, operator, operator_connection, caller_of, client_caller}
use Rattle.lr_machine.specs.Sound.{IsInOrder, IsHeard, AreConnected}
use Rattle.lr_machine.specs.Within.{IsClient, IsWithin}
use Rattle.lr_machine.specs.World.{World, first_state, first_world, state_of, connection_of, force_of, next_row, next_step, with_entry, cut_among, with_cut, clients_dropped, dropped_at, with_call, answered_in, next_exec, hold_key, renewal_for, renewed_in, next_renewal, next_order, next_item, next}
use Rattle.lr_machine_laws.proofs.Connections.{overrun-heard, AreConnected-after_post}
use Rattle.lr_machine_laws.proofs.Worlds.{IsInOrder-answered, IsInOrder-renewed, IsInOrder-first_world, IsInOrder-next}
use Rattle.lr_machine_wakeups.specs.WorldFacts.{is_shared, peak_for, peak_of, left_of, told_of, present_of, AskedWith, AreAsked, HaveFacts}
use Rattle.lr_machine_wakeups.proofs.Answers.{never, asked-is, answered-in_time}
use Rattle.lr_machine_wakeups.proofs.FairAnswers.{turn_of, answered-queued}
use Rattle.lr_machine_wakeups.proofs.OwnCalls.{caller-unblocked, operator-unblocked, renewal-unblocked}
use Rattle.lr_machine_wakeups.proofs.QueueHistory.{places-stay}
use Rattle.lr_machine_wakeups.proofs.Answered.{answered-waiting}
use Rattle.lr_machine_wakeups.proofs.Asked.{AskedAfter, ClientAsked, asked-later, asked-client_row, asked-begin, asked-ask, asked-take, asked-check, asked-wake, asked-fire, asked-quit, asked-pushed, asked-renew, asked-take_renewed}
use Rattle.lr_machine_wakeups.proofs.Deadlines.{quiet_peak, quiet-more}
use Rattle.lr_machine_wakeups.proofs.Entries.{state-entry, objects-cut, peak-entry, peak-cut, left-entry, left-cut, told-entry, told-cut, connection-cut}
use Rattle.lr_machine_wakeups.proofs.Posts.{NamesOwnerIfFair, post-names_owner}
use Rattle.lr_machine_wakeups.proofs.Waits.{call-goes_on, time-goes_on}

-- what holds of all clients but what their places are: each event keeps it
record Kept (n : ℕ) (world : World) : Type 0 where
  facts : (c : ℕ) → IsClient c
      → Facts n (present_of world) (world.clients c) (connection_of world c)
  asked : (c : ℕ) → AreAsked world.moment (client_id c) (world.clients c).session

-- the same present, written otherwise
record IsPresent (present then_ : Present) : Type 0 where
  objects : then_.objects ≡ present.objects
  now : then_.now ≡ present.now
  peak : (channel : ChannelOf) → then_.peak channel ≡ present.peak channel
  left : (channel : ChannelOf) → then_.left channel ≡ present.left channel
  told : (channel : ChannelOf) → then_.told channel ≡ present.told channel

-- the facts, where present and connection are written otherwise
facts-moved : (n : ℕ) (present then_ : Present) (client : Client) (connection hears : Connection)
    → IsPresent present then_ → hears ≡ connection
    → Facts n present client connection → Facts n then_ client hears
facts-moved n present then_ client connection hears same is facts =
    subst (λ p. Facts n p client hears)
    (λ i. record {
      objects = sym same.objects i;
      now = sym same.now i;
      peak = λ channel. sym (same.peak channel) i;
      left = λ channel. sym (same.left channel) i;
      told = λ channel. sym (same.told channel) i;
    })
    (subst (Facts n present client) (sym is) facts)

-- there may be more orders
kept-later : (n : ℕ) (world : World) → Kept n world → Kept (suc n) world
kept-later n world kept = record {
  facts = λ c within.
      facts_later n (present_of world) (world.clients c) (connection_of world c)
      (kept.facts c within);
  asked = kept.asked;
}

-- Rows of a client: all others stay.

kept-row : (n : ℕ) (world : World) (c : ℕ) (row : Option Client)
    → ((after : Client) → row ≡ Some after
    → Facts (suc n) (present_of world) after (connection_of world c))
    → ClientAsked world.moment (client_id c) row → Kept n world
    → Kept (suc n) (next_row world c row)
kept-row n world c None facts asked kept = kept-later n world kept
kept-row n world c (Some client) facts asked kept = record {
  facts = λ d within. by d within (c == d) refl;
  asked = λ d. asked_by d (c == d) refl;
}
  where
    by : (d : ℕ) → IsClient d → (same : Bool) → (c == d) ≡ same
        → Facts (suc n) (present_of world) (if same then client else world.clients d)
        (connection_of world d)
    by d within true e =
        subst (λ k. Facts (suc n) (present_of world) client (connection_of world k))
        (eqb-true c d e) (facts client refl)
    by d within false e = (kept-later n world kept).facts d within

    asked_by : (d : ℕ) (same : Bool) → (c == d) ≡ same
        → AreAsked world.moment (client_id d) (if same then client else world.clients d).session
    asked_by d true e =
        subst (λ k. AreAsked world.moment (client_id k) client.session) (eqb-true c d e) asked
    asked_by d false e = kept.asked d

kept-step : (n : ℕ) (world : World) (c : ℕ) (row : Session → Option Session)
    → ((after : Client) → client_row row (world.clients c) ≡ Some after
    → Facts (suc n) (present_of world) after (connection_of world c))
    → AskedAfter world.moment (client_id c) (row (world.clients c).session) → Kept n world
    → Kept (suc n) (next_step world c row)
kept-step n world c row facts asked kept =
    kept-row n world c (client_row row (world.clients c)) facts
    (asked-client_row world.moment (client_id c) row (world.clients c) asked) kept

-- Clients that are cut off.

kept-cut : (n : ℕ) (world : World) (cs : List ℕ)
    → ((d : ℕ) → IsClient d → list_any (λ other. d == other) cs ≡ false
    → Facts n (present_of world) (world.clients d) (connection_of world d))
    → ((d : ℕ) → AreAsked world.moment (client_id d) (world.clients d).session)
    → Kept n (with_cut cs world)
kept-cut n world cs facts asked = record {
  facts = λ d within.
      facts-moved n (present_of world) (present_of (with_cut cs world))
      (cut_among cs world.clients d)
      (if list_any (λ other. d == other) cs then closed_connection else connection_of world d)
      (connection_of (with_cut cs world) d)
      (record {
        objects = objects-cut cs world;
        now = refl;
        peak = peak-cut cs world;
        left = left-cut cs world;
        told = told-cut cs world;
      })
      (connection-cut cs world d within)
      (by d within (list_any (λ other. d == other) cs) refl);
  asked = λ d. asked_by d (list_any (λ other. d == other) cs);
}
  where
    by : (d : ℕ) → IsClient d → (among : Bool) → list_any (λ other. d == other) cs ≡ among
        → Facts n (present_of world) (if among then cut_client (world.clients d) else world.clients d)
        (if among then closed_connection else connection_of world d)
    by d within true e = facts_cut n (present_of world) (world.clients d)
    by d within false e = facts d within e

    asked_by : (d : ℕ) (among : Bool)
        → AreAsked world.moment (client_id d)
        (if among then cut_client (world.clients d) else world.clients d).session
    asked_by d true = record { own = (asked d).own; each = λ thread. tt }
    asked_by d false = asked d

kept-cut_one : (n : ℕ) (world : World) (c : ℕ) → Kept n world
    → Kept n (with_cut (c ∷ []) world)
kept-cut_one n world c kept =
    kept-cut n world (c ∷ []) (λ d within apart. kept.facts d within) kept.asked

-- Peaks after a call: only that of the message's channel may fall.

raised : (kind : Kind) (name : List ℕ) (state : State) (moment : ℕ) (op : Op) (peak : ℕ)
    → tells kind name (post_of state.objects moment op) ≡ false
    → peak ≤ peak_by_call kind name state moment op peak
raised kind name state moment op peak quiet =
    subst
    (λ told. peak
    ≤ (if told then live_until (objects_after state.objects moment op) kind name moment
    else quiet_peak kind name state moment op peak))
    (sym quiet) (quiet-more kind name state moment op peak)

-- the same of a channel, where nobody is told who waits for its object together with others
raised-for : (channel : ChannelOf) (state : State) (moment : ℕ) (op : Op) (peak : ℕ)
    → (is_shared channel ≡ true
    → tells channel.kind channel.name (post_of state.objects moment op) ≡ false)
    → peak_for (is_shared channel) peak
    ≤ peak_for (is_shared channel)
    (peak_by_call channel.kind channel.name state moment op peak)
raised-for channel state moment op peak quiet = by (is_shared channel) refl
  where
    by : (shared : Bool) → is_shared channel ≡ shared
        → peak_for shared peak
        ≤ peak_for shared (peak_by_call channel.kind channel.name state moment op peak)
    by true e = raised channel.kind channel.name state moment op peak (quiet e)
    by false e = omega arith

and_true : (b : Bool) → (b && true) ≡ b
and_true true = refl
and_true false = refl

-- channels without owners are one where they are of one object
same-object : (a b : ChannelOf) → a.owner ≡ None → b.owner ≡ None
    → same_channel a b ≡ (same_kind a.kind b.kind && bytes_eq a.name b.name)
unfolding same_channel
same-object a b e f =
    (λ i. (same_kind a.kind b.kind && bytes_eq a.name b.name) && same_queue_owner (e i) (f i))
    ∙ and_true (same_kind a.kind b.kind && bytes_eq a.name b.name)

-- what a channel that is shared is
shared-parts : (channel : ChannelOf) → is_shared channel ≡ true
    → (channel.owner ≡ None) × (is_fair channel.kind ≡ false)
shared-parts channel = by channel.owner (is_fair channel.kind)
  where
    by : (owner : Option ThreadOfClient) (fair : Bool)
        → (not (is_some owner) && not fair) ≡ true → (owner ≡ None) × (fair ≡ false)
    by None false e = (refl, refl)
    by None true e = absurd (false≢true e)
    by (Some owner) fair e = absurd (false≢true e)

-- a fair lock is of another kind
other-kind : (a b : Kind) → is_fair a ≡ false → is_fair b ≡ true → same_kind a b ≡ false
other-kind kinds.Fair b e f = absurd (false≢true (sym e))
other-kind kinds.Mutex kinds.Fair e f = refl
other-kind kinds.Rw kinds.Fair e f = refl
other-kind kinds.Fenced kinds.Fair e f = refl
other-kind kinds.Semaphore kinds.Fair e f = refl
other-kind kinds.Permits kinds.Fair e f = refl
other-kind kinds.Countdown kinds.Fair e f = refl
other-kind a _ e f = absurd (false≢true f)

-- so where nobody on a shared channel is told, nobody is who waits for its object
shared-untold : (channel : ChannelOf) (post : Post) → is_shared channel ≡ true
    → NamesOwnerIfFair (Some post) → same_channel channel post.channel ≡ false
    → tells channel.kind channel.name (Some post) ≡ false
shared-untold channel post shared (inl none) other =
    sym (same-object channel post.channel (shared-parts channel shared).0 none) ∙ other
shared-untold channel post shared (inr fair) other =
    ap (λ b. b && bytes_eq channel.name post.channel.name)
    (other-kind channel.kind post.channel.kind (shared-parts channel shared).1 fair)

-- Calls.

overrun-drops : (post : Post) (connection : Connection) → is_overrun post connection ≡ true
    → (connection_after_post post connection).dropped ≡ true
overrun-drops post connection = by (has_channel post.channel connection) (has_room connection)
  where
    by : (has room : Bool) → (has && not room) ≡ true
        → (if has
        then (if room then with_item (Message post.channel post.wakes) connection
        else dropped_connection connection)
        else connection).dropped
        ≡ true
    by true true over = absurd (false≢true over)
    by true false over = refl
    by false room over = absurd (false≢true over)

-- who isn't among those that a message drops isn't overrun
not-overrun : (post : Post) (board : Board) (clients : ℕ → Client) → AreConnected board clients
    → (d : ℕ) → IsClient d
    → list_any (λ other. d == other) (clients_dropped board (Some post)) ≡ false
    → is_overrun post (board (subscription_connection d)) ≡ false
not-overrun post board clients connected d within apart =
    by (is_overrun post (board (subscription_connection d))) refl
  where
    by : (over : Bool) → is_overrun post (board (subscription_connection d)) ≡ over
        → over ≡ false
    by false e = refl
    by true e =
        let heard : IsHeard clients (subscription_connection d) =
        overrun-heard post board clients connected (subscription_connection d) e in
        let same : d ≡ heard.client = omega (arith, heard.at) in
        let left : (cut_among (clients_dropped board (Some post)) clients d).session.is_cut ≡ false =
        ap (λ b. (if b then cut_client (clients d) else clients d).session.is_cut) apart
        ∙ ap (λ k. (clients k).session.is_cut) same
        ∙ heard.uncut in
        absurd
        (false≢true
        (sym ((AreConnected-after_post post board clients connected).each d within left).kept
        ∙ overrun-drops post (board (subscription_connection d)) e))

-- the owner of a channel makes a call about its place: nobody was refused there, so the facts don't
-- speak of it
facts-turn : (n : ℕ) (world : World) (op : Op) (client : Client) (connection : Connection)
    → NobodyIsBlocked (λ q. leaves_place q op) client
    → Facts n (present_of world) client connection → Facts n (turn_of world op) client connection
facts-turn n world op client connection nobody facts =
    facts_going_on n (present_of world) client connection facts (turn_of world op)
    (λ q. leaves_place q op)
    (time-goes_on (state_of world).objects world.moment world.moment (peak_of world)
    (omega arith) (left_of world) (turn_of world op).left (told_of world) (turn_of world op).told)
    (record {
      untold = λ q none now. untold (is_own_try q op) (told_of world q) now;
      places = λ q other.
          ap
          (λ b. if b
          then stale_on q (objects_after (state_of world).objects world.moment op)
          else left_of world q)
          other;
    })
    nobody
  where
    untold : (own told : Bool) → (if own then false else told) ≡ true → told ≡ true
    untold true told e = absurd (false≢true e)
    untold false told e = e

-- who is told by a call was told before, or is by its message
untold-call : (own told says : Bool) → says ≡ false
    → (if own then false else told || says) ≡ true → (if own then false else told) ≡ true
untold-call true told says quiet now = now
untold-call false true says quiet now = refl
untold-call false false says quiet now = absurd (false≢true (sym quiet ∙ now))

kept-call : (n : ℕ) (world : World) (caller conn : ℕ) (op : Op) → IsInOrder world
    → ((d : ℕ) → IsClient d
    → Facts n (turn_of world op) (world.clients d) (connection_of world d))
    → ((d : ℕ) → AreAsked world.moment (client_id d) (world.clients d).session)
    → Kept n (with_call caller conn op world)
kept-call n world caller conn op order turned asked =
    kept-cut n (with_entry entry world) (dropped_at state world.moment op) facts asked
  where
    state : State
    state = state_of world

    entry : Entry
    entry = call_entry world.moment caller conn op

    peaks : ChannelOf → ℕ
    peaks channel =
        peak_for (is_shared channel)
        (peak_by_call channel.kind channel.name (state_of world) world.moment op
        (peak_after channel.kind channel.name first_state world.entries 0))

    called : Present
    called = record {
      objects = objects_after (state_of world).objects world.moment op;
      now = world.moment;
      peak = peaks;
      left = λ q. place_by_call q (state_of world) world.moment op (left_of world q);
      told = λ q. told_by_call q (state_of world) world.moment op (told_of world q);
    }

    -- on the channels of which nobody is told all goes on
    goes : (told : ChannelOf → Bool)
        → ((channel : ChannelOf) → is_shared channel ≡ true → told channel ≡ false
        → tells channel.kind channel.name (post_of (state_of world).objects world.moment op)
        ≡ false)
        → GoesOn told (turn_of world op) called
    goes told quiet =
        call-goes_on (state_of world).objects world.moment op (peak_of world) peaks told
        (λ channel untold.
        raised-for channel (state_of world) world.moment op
        (peak_after channel.kind channel.name first_state world.entries 0)
        (λ shared. quiet channel shared untold))
        quiet (turn_of world op).left called.left (turn_of world op).told called.told

    queues : (told : ChannelOf → Bool)
        → ((channel : ChannelOf) → told channel ≡ false
        → is_told channel (post_of (state_of world).objects world.moment op) ≡ false)
        → QueueGoesOn told (λ q. false) (turn_of world op) called
    queues told quiet = record {
      untold = λ q none now.
          untold-call (is_own_try q op) (told_of world q)
          (is_told q (post_of (state_of world).objects world.moment op)) (quiet q none) now;
      places = λ q other. refl;
    }

    posted : (d : ℕ) → IsClient d → (post : Option Post)
        → post_of (state_of world).objects world.moment op ≡ post
        → list_any (λ other. d == other) (clients_dropped (state_of world).board post) ≡ false
        → Facts n called (world.clients d)
        (board_after_post post (state_of world).board (subscription_connection d))
    posted d within None e apart =
        facts_going_on n (turn_of world op) (world.clients d) (connection_of world d)
        (turned d within) called (λ q. false)
        (goes (λ channel. false)
        (λ channel shared untold. ap (tells channel.kind channel.name) e))
        (queues (λ channel. false) (λ channel untold. ap (is_told channel) e))
        (λ q thread acts. absurd (false≢true acts))
    posted d within (Some post) e apart =
        facts_post n (turn_of world op) (world.clients d) (connection_of world d)
        (turned d within) post called (λ q. false)
        (not-overrun post (state_of world).board world.clients order.connected d within apart)
        (goes (λ channel. same_channel channel post.channel)
        (λ channel shared other.
        ap (tells channel.kind channel.name) e
        ∙ shared-untold channel post shared
        (subst NamesOwnerIfFair e (post-names_owner (state_of world).objects world.moment op))
        other))
        (queues (λ channel. same_channel channel post.channel)
        (λ channel other. ap (is_told channel) e ∙ other))
        (λ q thread acts. absurd (false≢true acts))

    facts : (d : ℕ) → IsClient d
        → list_any (λ other. d == other) (dropped_at (state_of world) world.moment op) ≡ false
        → Facts n (present_of (with_entry entry world)) (world.clients d)
        (connection_of (with_entry entry world) d)
    facts d within apart =
        facts-moved n called (present_of (with_entry entry world)) (world.clients d)
        (board_after_post (post_of (state_of world).objects world.moment op) (state_of world).board
        (subscription_connection d))
        (connection_of (with_entry entry world) d)
        (record {
          objects = ap (λ (s : State). s.objects) (state-entry entry world);
          now = refl;
          peak = peak-entry entry world;
          left = left-entry entry world;
          told = told-entry entry world;
        })
        (ap (λ (s : State). s.board (subscription_connection d)) (state-entry entry world))
        (posted d within (post_of (state_of world).objects world.moment op) refl apart)

kept-exec : (n : ℕ) (world : World) (c t : ℕ) → IsClient c → t ≤ thread_limit → IsInOrder world
    → Kept n world → (found : Option Asking) → asked_of (world.clients c) t ≡ found
    → (cut : Bool) → Kept (suc n) (next_exec world c t (if cut then None else found))
kept-exec n world c t client thread order kept found e true = kept-later n world kept
kept-exec n world c t client thread order kept None e false = kept-later n world kept
kept-exec n world c t client thread order kept (Some asking) e false =
    kept-call (suc n) (answered_in world c t asking.op) (caller_of c t) (command_connection c)
    asking.op (IsInOrder-answered world c t asking.op order)
    (λ d within. turned d within (c == d) refl) (λ d. asked_by d (c == d) refl)
  where
    answered : Client
    answered =
        with_reply t (Some (reply_of (state_of world).objects world.moment asking.op))
        (world.clients c)

    -- nobody was refused on the thread's own channel
    nobody : (d : ℕ) → IsClient d → NobodyIsBlocked (λ q. leaves_place q asking.op) (world.clients d)
    nobody d within = by (waiter_in (world.clients c) t) refl
      where
        by : (found : Option Waiter) → waiter_in (world.clients c) t ≡ found
            → NobodyIsBlocked (λ q. leaves_place q asking.op) (world.clients d)
        by None was =
            absurd
            (never asking
            (sym (ap (λ f. asked_by f ((world.clients c).replies t)) was) ∙ e))
        by (Some waiter) was =
            caller-unblocked c t world.clients world.moment waiter.mode waiter.want asking client
            (asked-is world.moment (record { client = client_id c; thread = t }) waiter
            ((world.clients c).replies t) asking
            (subst
            (AskedWith world.moment (record { client = client_id c; thread = t })) was
            ((kept.asked c).each t))
            (ap (λ f. asked_by f ((world.clients c).replies t)) (sym was) ∙ e))
            e d within (kept.asked d).own

    -- its turn has come
    before : (d : ℕ) → IsClient d
        → Facts (suc n) (turn_of world asking.op) (world.clients d) (connection_of world d)
    before d within =
        facts_later n (turn_of world asking.op) (world.clients d) (connection_of world d)
        (facts-turn n world asking.op (world.clients d) (connection_of world d) (nobody d within)
        (kept.facts d within))

    turned : (d : ℕ) → IsClient d → (same : Bool) → (c == d) ≡ same
        → Facts (suc n) (turn_of world asking.op) (if same then answered else world.clients d)
        (connection_of world d)
    turned d within true f =
        subst
        (λ k. Facts (suc n) (turn_of world asking.op) answered (connection_of world k))
        (eqb-true c d f)
        (facts_answered (suc n) (turn_of world asking.op) (world.clients c)
        (connection_of world c) (before c client) t thread asking
        (reply_of (state_of world).objects world.moment asking.op) e
        (answered-in_time world (world.clients c) (client_id c) t asking (kept.asked c).own order
        ((kept.asked c).each t) e)
        (answered-waiting world (world.clients c) (client_id c) t asking (kept.asked c).own order
        ((kept.asked c).each t) e)
        (answered-queued world (world.clients c) (client_id c) t asking (kept.asked c).own
        ((kept.asked c).each t) e))
    turned d within false f = before d within

    asked_by : (d : ℕ) (same : Bool) → (c == d) ≡ same
        → AreAsked world.moment (client_id d)
        (if same then answered else world.clients d).session
    asked_by d true f =
        subst (λ k. AreAsked world.moment (client_id k) answered.session) (eqb-true c d f)
        (record { own = (kept.asked c).own; each = (kept.asked c).each })
    asked_by d false f = kept.asked d

-- A renewal is about no place, so it is nobody's turn by it.
kept-renewal : (n : ℕ) (world : World) (c : ℕ) (key : WatchKey) → IsClient c → IsInOrder world
    → Kept n world → (found : Option Renewal) → (cut : Bool)
    → Kept n (next_renewal world c key (if cut then None else found))
kept-renewal n world c key client order kept found true = kept
kept-renewal n world c key client order kept None false = kept
kept-renewal n world c key client order kept (Some renewal) false =
    kept-call n (renewed_in world c key op) (client_caller c) (command_connection c) op
    (IsInOrder-renewed world c key op order)
    (λ d within. turned d within (c == d) refl) (λ d. asked_by d (c == d) refl)
  where
    op : Op
    op = renewal_for world c key

    reply : Reply
    reply = reply_of (state_of world).objects world.moment (renewal_for world c key)

    renewed : Client
    renewed = with_renewed key (Some reply) (world.clients c)

    before : (d : ℕ) → IsClient d
        → Facts n (turn_of world op) (world.clients d) (connection_of world d)
    before d within =
        facts-turn n world op (world.clients d) (connection_of world d)
        (renewal-unblocked key (world.clients c).session.watchdog.lease (world.clients d))
        (kept.facts d within)

    turned : (d : ℕ) → IsClient d → (same : Bool) → (c == d) ≡ same
        → Facts n (turn_of world op) (if same then renewed else world.clients d)
        (connection_of world d)
    turned d within true e =
        subst (λ k. Facts n (turn_of world op) renewed (connection_of world k)) (eqb-true c d e)
        (facts_renewed n (turn_of world op) (world.clients c) (connection_of world c)
        (before c client) key (Some reply))
    turned d within false e = before d within

    asked_by : (d : ℕ) (same : Bool) → (c == d) ≡ same
        → AreAsked world.moment (client_id d)
        (if same then renewed else world.clients d).session
    asked_by d true e =
        subst (λ k. AreAsked world.moment (client_id k) renewed.session) (eqb-true c d e)
        (kept.asked c)
    asked_by d false e = kept.asked d

-- Orders and items.

-- a client makes a step, and acts on the connection for its messages
kept-hearing : (n : ℕ) (world : World) (c : ℕ) (client : Client) (now : Connection) (entry : Entry)
    → IsClient c → Facts n (present_of world) client now
    → AreAsked world.moment (client_id c) client.session
    → (step (state_of world) entry).board
    ≡ with_connection (state_of world).board (subscription_connection c) now
    → (step (state_of world) entry).objects ≡ (state_of world).objects
    → ((channel : ChannelOf) (peak : ℕ)
    → peak_by_act channel.kind channel.name (state_of world) entry.moment entry.act peak ≡ peak)
    → ((channel : ChannelOf) (left : Option ℕ)
    → place_by_act channel (state_of world) entry.moment entry.act left ≡ left)
    → ((channel : ChannelOf) (told : Bool)
    → told_by_act channel (state_of world) entry.moment entry.act told ≡ told)
    → Kept n world → Kept n (with_entry entry (next_row world c (Some client)))
kept-hearing n world c client now entry is facts asked board same quiet stay mute kept = record {
  facts = λ d within.
      facts-moved n (present_of world)
      (present_of (with_entry entry (next_row world c (Some client))))
      (if c == d then client else world.clients d)
      (with_connection (state_of world).board (subscription_connection c) now
      (subscription_connection d))
      (connection_of (with_entry entry (next_row world c (Some client))) d)
      (record {
        objects = ap (λ (s : State). s.objects)
            (state-entry entry (next_row world c (Some client))) ∙ same;
        now = refl;
        peak = λ channel.
            peak-entry entry (next_row world c (Some client)) channel
            ∙ ap (peak_for (is_shared channel))
            (quiet channel (peak_after channel.kind channel.name first_state world.entries 0));
        left = λ channel.
            left-entry entry (next_row world c (Some client)) channel
            ∙ stay channel (left_of world channel);
        told = λ channel.
            told-entry entry (next_row world c (Some client)) channel
            ∙ mute channel (told_of world channel);
      })
      (ap (λ (s : State). s.board (subscription_connection d))
      (state-entry entry (next_row world c (Some client)))
      ∙ ap (λ (b : Board). b (subscription_connection d)) board)
      (by d within (c == d) (subscription_connection c == subscription_connection d) refl refl);
  asked = λ d. asked_by d (c == d) refl;
}
  where
    by : (d : ℕ) → IsClient d → (same hears : Bool) → (c == d) ≡ same
        → (subscription_connection c == subscription_connection d) ≡ hears
        → Facts n (present_of world) (if same then client else world.clients d)
        (if hears then now else connection_of world d)
    by d within true true e f = facts
    by d within false false e f = kept.facts d within
    by d within true false e f =
        absurd
        (false≢true
        (sym f
        ∙ eq-eqb (subscription_connection c) (subscription_connection d)
        (ap subscription_connection (eqb-true c d e))))
    by d within false true e f =
        let equal : subscription_connection c ≡ subscription_connection d =
        eqb-true (subscription_connection c) (subscription_connection d) f in
        absurd (false≢true (sym e ∙ eq-eqb c d (omega (arith, equal))))

    asked_by : (d : ℕ) (same : Bool) → (c == d) ≡ same
        → AreAsked world.moment (client_id d) (if same then client else world.clients d).session
    asked_by d true e =
        subst (λ k. AreAsked world.moment (client_id k) client.session) (eqb-true c d e) asked
    asked_by d false e = kept.asked d

kept-order : (n : ℕ) (world : World) (c : ℕ) (order : Order) → IsClient c
    → first_order_of (world.clients c).session.latches ≡ Some order → Kept n world
    → (subscribe room : Bool) → order.subscribe ≡ subscribe
    → Kept n
    (if room
    then with_entry
    (entry_of world.moment (client_caller c) (subscription_connection c)
    (if subscribe then Subscribe order.channel else Unsubscribe order.channel))
    (next_step world c (λ session. Some (order_taken session)))
    else with_cut (c ∷ []) world)
kept-order n world c order client first kept subscribe room e =
    by subscribe room
    (subst
    (λ b. Facts n (present_of world) taken
    (if b then connection_after_subscribe order.channel (connection_of world c)
    else connection_after_unsubscribe order.channel (connection_of world c)))
    e
    (facts_order n (present_of world) (world.clients c) (connection_of world c) (kept.facts c client)
    order first))
  where
    taken : Client
    taken = record (world.clients c) { session = order_taken (world.clients c).session }

    by : (subscribe room : Bool)
        → Facts n (present_of world) taken
        (if subscribe then connection_after_subscribe order.channel (connection_of world c)
        else connection_after_unsubscribe order.channel (connection_of world c))
        → Kept n
        (if room
        then with_entry
        (entry_of world.moment (client_caller c) (subscription_connection c)
        (if subscribe then Subscribe order.channel else Unsubscribe order.channel))
        (next_step world c (λ session. Some (order_taken session)))
        else with_cut (c ∷ []) world)
    by subscribe false facts = kept-cut_one n world c kept
    by true true facts =
        kept-hearing n world c taken
        (connection_after_subscribe order.channel (connection_of world c))
        (entry_of world.moment (client_caller c) (subscription_connection c)
        (Subscribe order.channel))
        client facts (record { own = (kept.asked c).own; each = (kept.asked c).each }) refl refl
        (λ channel peak. refl) (λ channel left. refl) (λ channel told. refl) kept
    by false true facts =
        kept-hearing n world c taken
        (connection_after_unsubscribe order.channel (connection_of world c))
        (entry_of world.moment (client_caller c) (subscription_connection c)
        (Unsubscribe order.channel))
        client facts (record { own = (kept.asked c).own; each = (kept.asked c).each }) refl refl
        (λ channel peak. refl) (λ channel left. refl) (λ channel told. refl) kept

kept-next_order : (n : ℕ) (world : World) (c : ℕ) → IsClient c → Kept n world
    → (found : Option Order) → first_order_of (world.clients c).session.latches ≡ found
    → (cut : Bool) → Kept n (next_order world c (if cut then None else found))
kept-next_order n world c client kept found e true = kept
kept-next_order n world c client kept None e false = kept
kept-next_order n world c client kept (Some order) e false =
    kept-order n world c order client e kept order.subscribe (has_room (connection_of world c)) refl

kept-next_item : (n : ℕ) (world : World) (c : ℕ) → suc n < 2 ^ 64 → IsClient c
    → Kept n world
    → (found : Option Push) → slice_get (connection_of world c).outbox 0 ≡ found
    → (cut : Bool) → Kept (suc n) (next_item world c (if cut then None else found))
kept-next_item n world c few client kept found e true = kept-later n world kept
kept-next_item n world c few client kept None e false = kept-later n world kept
kept-next_item n world c few client kept (Some item) e false =
    kept-hearing (suc n) world c
    (record (world.clients c) { session = pushed item (world.clients c).session })
    (connection_after_drain 1 (connection_of world c))
    (entry_of world.moment (client_caller c) (subscription_connection c) (Drain 1)) client
    (facts_push n (present_of world) (world.clients c) (connection_of world c) (kept.facts c client)
    item few e)
    (asked-pushed world.moment (client_id c) item (world.clients c).session (kept.asked c)) refl
    refl (λ channel peak. refl) (λ channel left. refl) (λ channel told. refl)
    (kept-later n world kept)

kept-next_cut : (n : ℕ) (world : World) (c : ℕ) → Kept n world → (cut : Bool)
    → Kept n (if cut then world else with_cut (c ∷ []) world)
kept-next_cut n world c kept true = kept
kept-next_cut n world c kept false = kept-cut_one n world c kept

-- At the start.

pub kept-first : HaveFacts 0 first_world
kept-first = record {
  facts = λ c within.
      facts_at_start 0 (present_of first_world) (client_id c) watchdog_lease
      (first_state.board (subscription_connection c))
      (no_channels (nat_le (subscription_connection c) 128))
      (no_items (nat_le (subscription_connection c) 128));
  asked = λ c. record { own = refl; each = λ thread. tt };
  places = places-stay first_world IsInOrder-first_world;
}
  where
    no_channels : (opens : Bool)
        → (if opens then new_connection 0 else closed_connection).channels ≡ []
    no_channels true = refl
    no_channels false = refl

    no_items : (opens : Bool)
        → (if opens then new_connection 0 else closed_connection).outbox ≡ []
    no_items true = refl
    no_items false = refl

-- Events.

kept-event : (n : ℕ) (world : World) (event : Event) → suc n < 2 ^ 64 → IsWithin event
    → IsInOrder world → Kept n world → Kept (suc n) (next world event)
kept-event n world event few within order kept = by event within
  where
    later : (c : ℕ) → IsClient c
        → Facts (suc n) (present_of world) (world.clients c) (connection_of world c)
    later = (kept-later n world kept).facts

    by : (e : Event) → IsWithin e → Kept (suc n) (next world e)
    by (Begin c t mode want) inside =
        kept-step n world c (begin_row t mode want)
        (facts_begin (suc n) (present_of world) (world.clients c) (connection_of world c)
        (later c inside.0) t inside.1.1 mode want)
        (asked-begin world.moment (client_id c) (world.clients c).session (kept.asked c) t
        mode want) kept
    by (Ask c t) inside =
        kept-step n world c (ask_row t world.moment)
        (facts_ask (suc n) (present_of world) (world.clients c) (connection_of world c)
        (later c inside.0) t inside.1.1 world.moment)
        (asked-ask world.moment (client_id c) (world.clients c).session (kept.asked c) t) kept
    by (Exec c t) inside =
        kept-exec n world c t inside.0 inside.1.1 order kept (asked_of (world.clients c) t) refl
        (world.clients c).session.is_cut
    by (Take c t) inside =
        kept-row n world c (take_reply t (world.clients c))
        (λ after.
        facts_take n (present_of world) (world.clients c) (connection_of world c)
        (kept.facts c inside.0) t inside.1.1 after few)
        (asked-take world.moment (client_id c) t (world.clients c) (kept.asked c)) kept
    by (Check c t) inside =
        kept-step n world c (check_row t world.moment)
        (facts_check (suc n) (present_of world) (world.clients c) (connection_of world c)
        (later c inside.0) t inside.1.1 world.moment)
        (asked-check world.moment (client_id c) (world.clients c).session (kept.asked c) t
        world.moment) kept
    by (Wake c t) inside =
        kept-step n world c (wake_row t)
        (facts_wake (suc n) (present_of world) (world.clients c) (connection_of world c)
        (later c inside.0) t inside.1.1)
        (asked-wake world.moment (client_id c) (world.clients c).session (kept.asked c) t) kept
    by (Fire c t) inside =
        kept-step n world c (fire_row t world.moment)
        (facts_fire (suc n) (present_of world) (world.clients c) (connection_of world c)
        (later c inside.0) t inside.1.1 world.moment)
        (asked-fire world.moment (client_id c) (world.clients c).session (kept.asked c) t
        world.moment) kept
    by (Quit c t) inside =
        kept-step n world c (quit_row t)
        (facts_quit (suc n) (present_of world) (world.clients c) (connection_of world c)
        (later c inside.0) t inside.1.1)
        (asked-quit world.moment (client_id c) (world.clients c).session (kept.asked c) t) kept
    by (Sub c) inside =
        kept-later n (next world (Sub c))
        (kept-next_order n world c inside kept
        (first_order_of (world.clients c).session.latches) refl (world.clients c).session.is_cut)
    by (push c) inside =
        kept-next_item n world c few inside kept (slice_get (connection_of world c).outbox 0) refl
        (world.clients c).session.is_cut
    by (Tick moment) inside = record {
      facts = λ c client.
          facts_going_on (suc n) (present_of world) (world.clients c) (connection_of world c)
          (later c client) (present_of (next world (Tick moment))) (λ q. false)
          (time-goes_on (state_of world).objects world.moment
          (next world (Tick moment)).moment (peak_of world) (omega arith) (left_of world)
          (left_of world) (told_of world) (told_of world))
          (record { untold = λ q none now. now; places = λ q other. refl })
          (λ q thread acts. absurd (false≢true acts));
      asked = λ c. record {
        own = (kept.asked c).own;
        each = λ thread.
            asked-later world.moment (next world (Tick moment)).moment
            (record { client = client_id c; thread = thread })
            ((world.clients c).session.waiters thread) (omega arith) ((kept.asked c).each thread);
      };
    }
    by (RenewAsk c t kind name) inside =
        kept-step n world c (renew_row (hold_key c t kind name) world.moment)
        (facts_renew (suc n) (present_of world) (world.clients c) (connection_of world c)
        (later c inside.0) (hold_key c t kind name) world.moment)
        (asked-renew world.moment (client_id c) (hold_key c t kind name) world.moment
        (world.clients c).session (kept.asked c))
        kept
    by (RenewExec c t kind name) inside =
        kept-later n (next world (RenewExec c t kind name))
        (kept-renewal n world c (hold_key c t kind name) inside.0 order kept
        (renewing_of (world.clients c) (hold_key c t kind name))
        (world.clients c).session.is_cut)
    by (RenewTake c t kind name) inside =
        kept-row n world c (take_renewed (hold_key c t kind name) (world.clients c))
        (facts_take_renewed (suc n) (present_of world) (world.clients c) (connection_of world c)
        (later c inside.0) (hold_key c t kind name))
        (asked-take_renewed world.moment (client_id c) (hold_key c t kind name)
        (world.clients c) (kept.asked c))
        kept
    by (Force name) inside =
        kept-later n (next world (Force name))
        (kept-call n world operator operator_connection (force_of name) order
        (λ c client.
        facts-turn n world (force_of name) (world.clients c) (connection_of world c)
        (operator-unblocked name (world.clients c)) (kept.facts c client))
        kept.asked)
    by (Cut c) inside =
        kept-later n (next world (Cut c))
        (kept-next_cut n world c kept (world.clients c).session.is_cut)
    by Show inside = kept-later n world kept

pub kept-next : (n : ℕ) (world : World) (event : Event) → suc n < 2 ^ 64 → IsWithin event
    → IsInOrder world → HaveFacts n world → HaveFacts (suc n) (next world event)
kept-next n world event few within order kept =
    let after = kept-event n world event few within order
    (record { facts = kept.facts; asked = kept.asked }) in record {
      facts = after.facts;
      asked = after.asked;
      places = places-stay (next world event) (IsInOrder-next world event within order);
    }
