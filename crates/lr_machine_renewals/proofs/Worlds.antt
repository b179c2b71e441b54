-- Each event keeps what is so of the watchdogs of all clients.
use Rattle.std.proofs.Common.{◌≡◌, ℕ, suc, ◌+◌, ◌<◌, ◌≤◌, ◌==◌, ◌^◌, List, [], ◌∷◌, slice_get, Bool, true, false, Option, Some, None, if◌then◌else◌, refl, sym, ◌∙◌, subst, arith, ◌⊎◌, inl}
use Rattle.std.specs.List.{list_any}
use Rattle.std.proofs.lemmas.Bool.{eqb-true}
use Rattle.lr_limits.specs.Limits.{watchdog_lease}
use Rattle.lr_names.specs.declared.post.Push.{Push}
use Rattle.lr_objects.specs.declared.op.Op.{Op}
use Rattle.lr_model.specs.declared.entry.Act.TheVariants.{Subscribe, Unsubscribe}
use Rattle.lr_model.specs.declared.entry.Entry.{Entry}
use Rattle.lr_model.specs.Answer.{Objects, reply_of, objects_after}
use Rattle.lr_model.specs.Board.{has_room}
use Rattle.lr_model.specs.History.{step, call_entry, entry_of}
use Rattle.lr_waiting.specs.declared.latch.Order.{Order}
use Rattle.lr_waiting.specs.declared.waiter.Asking.{Asking}
use Rattle.lr_waiting.specs.declared.watch.Renewal.{Renewal}
use Rattle.lr_waiting.specs.declared.watch.WatchKey.{WatchKey}
use Rattle.lr_waiting.specs.Client.{Client, cut_client, client_row, with_reply, asked_of, take_reply, with_renewed, renewing_of, take_renewed}
use Rattle.lr_waiting.specs.Latch.{first_order_of}
use Rattle.lr_waiting.specs.Session.{Session, begin_row, ask_row, check_row, wake_row, fire_row, quit_row, renew_row, pushed, order_taken}
use Rattle.lr_waiting.specs.Watchdog.{renewal_op}
use Rattle.lr_machine.specs.declared.event.Event.{Event}
use Rattle.lr_machine.specs.declared.event.Event.TheVariants as events
use Rattle.lr_machine.specs.Clients.{client_id, command_connection, subscription_connection, operator, operator_connection, caller_of, client_caller}
use Rattle.lr_machine.specs.Renewals.{RenewsInTime, slack, held_until}
use Rattle.lr_machine.specs.Sound.{IsInOrder}
use Rattle.lr_machine.specs.Within.{IsClient, IsWithin}
use Rattle.lr_machine.specs.World.{World, first_world, state_of, connection_of, force_of, hold_key, next_row, next_step, with_entry, with_cut, dropped_at, with_call, answered_in, next_exec, renewed_in, next_renewal, next_order, next_item, next}
use Rattle.lr_machine_renewals.specs.WatchFacts.{WatchedWith, AreWatched, HaveWatches}
use Rattle.lr_machine_renewals.proofs.CallUntil.{apart-world}
use Rattle.lr_machine_renewals.proofs.KeyLaws.{later-until}
use Rattle.lr_machine_renewals.proofs.Histories.{objects-entry, objects-cut}
use Rattle.lr_machine_renewals.proofs.Watched.{CoreWatched, ClientWatched, watched-client_row, watched-more}
use Rattle.lr_machine_renewals.proofs.WatchRows.{watched-begin, watched-ask, watched-check, watched-wake, watched-fire, watched-quit, watched-latches, watched-pushed}
use Rattle.lr_machine_renewals.proofs.TakeRows.{watched-take}
use Rattle.lr_machine_renewals.proofs.RenewRows.{watched-renew, watched-take_renewed}
use Rattle.lr_machine_renewals.proofs.CallSteps.{watched-on, watched-cut, asking-is}
use Rattle.lr_machine_renewals.proofs.Replies.{force-kept, asked-kept, asked-answered, renewal-kept, renewal-answered}

-- there may be more grants
watches-more : (n : ℕ) (world : World) → HaveWatches n world → HaveWatches (suc n) world
watches-more n world were = record {
  each = λ c within.
      watched-more n (state_of world).objects world.moment (client_id c) (world.clients c)
      (were.each c within);
}

-- the facts, where the objects are written otherwise
watches-moved : (n : ℕ) (world : World) (objects : Objects) → (state_of world).objects ≡ objects
    → ((c : ℕ) → IsClient c
    → AreWatched n objects world.moment (client_id c) (world.clients c))
    → HaveWatches n world
watches-moved n world objects same clients = record {
  each = λ c within.
      subst
      (λ (o : Objects). AreWatched n o world.moment (client_id c) (world.clients c))
      (sym same) (clients c within);
}

-- one client becomes another
among : (n : ℕ) (objects : Objects) (moment : ℕ) (clients : ℕ → Client) (c : ℕ) (client : Client)
    → ((d : ℕ) → IsClient d → AreWatched n objects moment (client_id d) (clients d))
    → AreWatched n objects moment (client_id c) client → (d : ℕ) → IsClient d → (same : Bool)
    → (c == d) ≡ same
    → AreWatched n objects moment (client_id d) (if same then client else clients d)
among n objects moment clients c client others now d within true e =
    subst (λ k. AreWatched n objects moment (client_id k) client) (eqb-true c d e) now
among n objects moment clients c client others now d within false e = others d within

-- Rows of a client.

watches-row : (n : ℕ) (world : World) (c : ℕ) (row : Option Client)
    → ClientWatched (suc n) (state_of world).objects world.moment (client_id c) row
    → HaveWatches n world → HaveWatches (suc n) (next_row world c row)
watches-row n world c None now were = watches-more n world were
watches-row n world c (Some client) now were = record {
  each = λ d within.
      among (suc n) (state_of world).objects world.moment world.clients c client
      (watches-more n world were).each now d within (c == d) refl;
}

watches-step : (n : ℕ) (world : World) (c : ℕ) (row : Session → Option Session)
    → CoreWatched (suc n) (state_of world).objects world.moment (client_id c) (world.clients c)
    (row (world.clients c).session)
    → HaveWatches n world → HaveWatches (suc n) (next_step world c row)
watches-step n world c row now were =
    watches-row n world c (client_row row (world.clients c))
    (watched-client_row (suc n) (state_of world).objects world.moment (client_id c) row
    (world.clients c) now)
    were

-- Clients that are cut off.

watches-cut : (n : ℕ) (world : World) (cs : List ℕ) → HaveWatches n world
    → HaveWatches n (with_cut cs world)
watches-cut n world cs were =
    watches-moved n (with_cut cs world) (state_of world).objects (objects-cut cs world)
    (λ c within. by c within (list_any (λ other. c == other) cs))
  where
    by : (c : ℕ) → IsClient c → (out : Bool)
        → AreWatched n (state_of world).objects world.moment (client_id c)
        (if out then cut_client (world.clients c) else world.clients c)
    by c within true =
        watched-cut n (state_of world).objects world.moment (client_id c) (world.clients c)
        (were.each c within)
    by c within false = were.each c within

watches-next_cut : (n : ℕ) (world : World) (c : ℕ) → HaveWatches n world → (cut : Bool)
    → HaveWatches n (if cut then world else with_cut (c ∷ []) world)
watches-next_cut n world c were true = were
watches-next_cut n world c were false = watches-cut n world (c ∷ []) were

-- Orders and items.

-- an entry that changes no object
watches-entry : (n : ℕ) (world : World) (entry : Entry)
    → (step (state_of world) entry).objects ≡ (state_of world).objects → HaveWatches n world
    → HaveWatches n (with_entry entry world)
watches-entry n world entry same were =
    watches-moved n (with_entry entry world) (state_of world).objects
    (objects-entry entry world ∙ same) were.each

watches-order : (n : ℕ) (world : World) (c : ℕ) (order : Order) → IsClient c
    → HaveWatches n world → (subscribe room : Bool)
    → HaveWatches (suc n)
    (if room
    then with_entry
    (entry_of world.moment (client_caller c) (subscription_connection c)
    (if subscribe then Subscribe order.channel else Unsubscribe order.channel))
    (next_step world c (λ session. Some (order_taken session)))
    else with_cut (c ∷ []) world)
watches-order n world c order within were subscribe false =
    watches-more n (with_cut (c ∷ []) world) (watches-cut n world (c ∷ []) were)
watches-order n world c order within were subscribe true = by subscribe
  where
    taken : HaveWatches (suc n) (next_step world c (λ session. Some (order_taken session)))
    taken =
        watches-step n world c (λ session. Some (order_taken session))
        (watched-latches (suc n) (state_of world).objects world.moment (client_id c)
        (world.clients c) ((watches-more n world were).each c within) _ refl refl refl)
        were

    by : (subscribes : Bool)
        → HaveWatches (suc n)
        (with_entry
        (entry_of world.moment (client_caller c) (subscription_connection c)
        (if subscribes then Subscribe order.channel else Unsubscribe order.channel))
        (next_step world c (λ session. Some (order_taken session))))
    by true = watches-entry (suc n) _ _ refl taken
    by false = watches-entry (suc n) _ _ refl taken

watches-next_order : (n : ℕ) (world : World) (c : ℕ) → IsClient c → HaveWatches n world
    → (found : Option Order) (cut : Bool)
    → HaveWatches (suc n) (next_order world c (if cut then None else found))
watches-next_order n world c within were found true = watches-more n world were
watches-next_order n world c within were None false = watches-more n world were
watches-next_order n world c within were (Some order) false =
    watches-order n world c order within were order.subscribe (has_room (connection_of world c))

watches-next_item : (n : ℕ) (world : World) (c : ℕ) → IsClient c → HaveWatches n world
    → (found : Option Push) (cut : Bool)
    → HaveWatches (suc n) (next_item world c (if cut then None else found))
watches-next_item n world c within were found true = watches-more n world were
watches-next_item n world c within were None false = watches-more n world were
watches-next_item n world c within were (Some push) false =
    watches-entry (suc n) _ _ refl
    (watches-step n world c (λ session. Some (pushed push session))
    (watched-pushed (suc n) (state_of world).objects world.moment (client_id c)
    (world.clients c) ((watches-more n world were).each c within) push)
    were)

-- Time.

watches-tick : (n : ℕ) (world : World) (later : ℕ) → world.moment ≤ later → HaveWatches n world
    → HaveWatches n (record world { moment = later })
watches-tick n world later le were = record {
  each = λ c within.
      watched-on objects objects world.moment later n (client_id c) (world.clients c) le
      (were.each c within) (λ key watched. still key)
      (λ thread reply key e own. still key);
}
  where
    objects : Objects
    objects = (state_of world).objects

    still : (key : WatchKey) (deadline : ℕ) → held_until objects key later ≡ Some deadline
        → (held_until objects key world.moment ≡ Some deadline)
        ⊎ (later + watchdog_lease ≤ deadline)
    still key deadline held =
        inl (later-until objects key world.moment later deadline (apart-world world) le held)

-- Calls.

watches-call : (n : ℕ) (world : World) (caller conn : ℕ) (op : Op)
    → ((c : ℕ) → IsClient c
    → AreWatched n (objects_after (state_of world).objects world.moment op) world.moment
    (client_id c) (world.clients c))
    → HaveWatches n (with_call caller conn op world)
watches-call n world caller conn op clients =
    watches-cut n (with_entry entry world) (dropped_at (state_of world) world.moment op)
    (watches-moved n (with_entry entry world)
    (objects_after (state_of world).objects world.moment op) (objects-entry entry world) clients)
  where
    entry : Entry
    entry = call_entry world.moment caller conn op

watches-exec : (n : ℕ) (world : World) (c t : ℕ) → IsClient c → HaveWatches n world
    → (found : Option Asking) → asked_of (world.clients c) t ≡ found → (cut : Bool)
    → HaveWatches (suc n) (next_exec world c t (if cut then None else found))
watches-exec n world c t within were found e true = watches-more n world were
watches-exec n world c t within were None e false = watches-more n world were
watches-exec n world c t within were (Some asking) e false =
    watches-more n
    (next_exec world c t (Some asking))
    (watches-call n (answered_in world c t asking.op) (caller_of c t) (command_connection c)
    asking.op
    (λ d inside.
    among n (objects_after objects world.moment asking.op) world.moment world.clients c
    (with_reply t (Some (reply_of objects world.moment asking.op)) (world.clients c))
    (asked-kept objects world.moment (apart-world world) n world.clients were.each c t
    asking within (asking-is (world.clients c) t asking e))
    (asked-answered objects world.moment (apart-world world) n world.clients were.each c
    t asking within (asking-is (world.clients c) t asking e))
    d inside (c == d) refl))
  where
    objects : Objects
    objects = (state_of world).objects

watches-renewal : (n : ℕ) (world : World) (c : ℕ) (key : WatchKey) → IsClient c
    → HaveWatches n world → (found : Option Renewal)
    → renewing_of (world.clients c) key ≡ found → (cut : Bool)
    → HaveWatches (suc n) (next_renewal world c key (if cut then None else found))
watches-renewal n world c key within were found e true = watches-more n world were
watches-renewal n world c key within were None e false = watches-more n world were
watches-renewal n world c key within were (Some renewal) e false =
    watches-call (suc n) (renewed_in world c key op) (client_caller c) (command_connection c) op
    (λ d inside.
    among (suc n) (objects_after objects world.moment op) world.moment world.clients c
    (with_renewed key (Some (reply_of objects world.moment op)) (world.clients c))
    (λ k other.
    watched-more n (objects_after objects world.moment op) world.moment (client_id k)
    (world.clients k)
    (renewal-kept objects world.moment (apart-world world) n world.clients were.each c
    key renewal within e k other))
    (renewal-answered objects world.moment (apart-world world) n world.clients were.each
    c key renewal within e)
    d inside (c == d) refl)
  where
    objects : Objects
    objects = (state_of world).objects

    op : Op
    op = renewal_op key (world.clients c).session.watchdog.lease

-- Events.

watches-event : (n : ℕ) (world : World) → suc n < 2 ^ 64 → HaveWatches n world
    → (event : Event) → IsWithin event → HaveWatches (suc n) (next world event)
watches-event n world few were = by
  where
    objects : Objects
    objects = (state_of world).objects

    later : (c : ℕ) → IsClient c
        → AreWatched (suc n) objects world.moment (client_id c) (world.clients c)
    later = (watches-more n world were).each

    by : (event : Event) → IsWithin event → HaveWatches (suc n) (next world event)
    by (events.Begin c t mode want) inside =
        watches-step n world c (begin_row t mode want)
        (watched-begin (suc n) objects world.moment (client_id c) (world.clients c)
        (later c inside.0) t mode want)
        were
    by (events.Ask c t) inside =
        watches-step n world c (ask_row t world.moment)
        (watched-ask (suc n) objects world.moment (client_id c) (world.clients c)
        (later c inside.0) t)
        were
    by (events.Exec c t) inside =
        watches-exec n world c t inside.0 were (asked_of (world.clients c) t) refl
        (world.clients c).session.is_cut
    by (events.Take c t) inside =
        watches-row n world c (take_reply t (world.clients c))
        (watched-take n objects world.moment (client_id c) (world.clients c)
        (were.each c inside.0) few t)
        were
    by (events.Check c t) inside =
        watches-step n world c (check_row t world.moment)
        (watched-check (suc n) objects world.moment (client_id c) (world.clients c)
        (later c inside.0) t world.moment)
        were
    by (events.Wake c t) inside =
        watches-step n world c (wake_row t)
        (watched-wake (suc n) objects world.moment (client_id c) (world.clients c)
        (later c inside.0) t)
        were
    by (events.Fire c t) inside =
        watches-step n world c (fire_row t world.moment)
        (watched-fire (suc n) objects world.moment (client_id c) (world.clients c)
        (later c inside.0) t world.moment)
        were
    by (events.Quit c t) inside =
        watches-step n world c (quit_row t)
        (watched-quit (suc n) objects world.moment (client_id c) (world.clients c)
        (later c inside.0) t)
        were
    by (events.Sub c) inside =
        watches-next_order n world c inside were
        (first_order_of (world.clients c).session.latches) (world.clients c).session.is_cut
    by (events.Push c) inside =
        watches-next_item n world c inside were (slice_get (connection_of world c).outbox 0)
        (world.clients c).session.is_cut
    by (events.Tick moment) inside =
        watches-more n (next world (events.Tick moment))
        (watches-tick n world (next world (events.Tick moment)).moment (omega arith) were)
    by (events.RenewAsk c t kind name) inside =
        watches-step n world c (renew_row (hold_key c t kind name) world.moment)
        (watched-renew n objects world.moment (client_id c) (world.clients c)
        (were.each c inside.0) (hold_key c t kind name))
        were
    by (events.RenewExec c t kind name) inside =
        watches-renewal n world c (hold_key c t kind name) inside.0 were
        (renewing_of (world.clients c) (hold_key c t kind name)) refl
        (world.clients c).session.is_cut
    by (events.RenewTake c t kind name) inside =
        watches-row n world c (take_renewed (hold_key c t kind name) (world.clients c))
        (watched-take_renewed n objects world.moment (client_id c) (world.clients c)
        (were.each c inside.0) (hold_key c t kind name))
        were
    by (events.Force name) inside =
        watches-more n (next world (events.Force name))
        (watches-call n world operator operator_connection (force_of name)
        (force-kept objects world.moment (apart-world world) n world.clients were.each
        name))
    by (events.Cut c) inside =
        watches-more n (next world (events.Cut c))
        (watches-next_cut n world c were (world.clients c).session.is_cut)
    by events.Show inside = watches-more n world were

pub watches-next : (n : ℕ) (world : World) (event : Event) → suc n < 2 ^ 64 → IsWithin event
    → IsInOrder world → HaveWatches n world → HaveWatches (suc n) (next world event)
watches-next n world event few within order were =
    watches-event n world few were event within

-- The beginning, and what follows.

pub watches-first : HaveWatches 0 first_world
watches-first = record {
  each = λ c within. record {
    own = refl;
    lease = refl;
    grants = omega arith;
    watches = λ key. tt;
    renewals = λ key. refl;
    threads = λ thread. refl;
  };
}

pub renewed-in_time : (n : ℕ) (world : World) → HaveWatches n world → RenewsInTime world
renewed-in_time n world were = record {
  due = λ c key watch deadline within uncut watched held.
      let now = were.each c within in
      let seen =
      subst
      (WatchedWith (state_of world).objects world.moment (client_id c)
      (world.clients c).session.watchdog.generation key)
      watched (now.watches key) in
      subst (λ lease. watch.due + slack lease ≤ deadline) (sym now.lease)
      (seen.lasts deadline held);
}
