-- The world after an event: its history is in order, and has what the event made the server do.
use Rattle.std.proofs.Common.{◌≡◌, ℕ, ◌≤◌, ◌==◌, List, [], ◌∷◌, ◌++◌, Bool, true, false, IsTrue, Option, Some, None, is_some, ◌≢◌, slice_get, if◌then◌else◌, refl, sym, ap, ◌∙◌, subst, arith, append_assoc, ◌⊎◌, inl, inr}
use Rattle.std.proofs.lemmas.Bool.{eq-eqb, ne_eqb, cases_eq}
use Rattle.lr_names.specs.declared.post.Post.{Post}
use Rattle.lr_names.specs.declared.post.Push.{Push}
use Rattle.lr_objects.specs.declared.op.Op.{Op}
use Rattle.lr_model.specs.declared.entry.Entry.{Entry}
use Rattle.lr_model.specs.declared.entry.Act.{Act}
use Rattle.lr_model.specs.declared.entry.Act.TheVariants.{Subscribe, Unsubscribe, Drain}
use Rattle.lr_model.specs.Answer.{reply_of, post_of}
use Rattle.lr_model.specs.Board.{Board, Connection, has_room, is_open, board_after_post, with_connection, connection_after_subscribe, connection_after_unsubscribe, connection_after_drain}
use Rattle.lr_model.specs.History.{State, step, after, CanCall, MayFollow, IsLegal, call_entry, entry_of, board_by}
use Rattle.lr_model.specs.Table.{put}
use Rattle.lr_waiting.specs.declared.latch.Order.{Order}
use Rattle.lr_waiting.specs.declared.waiter.Asking.{Asking}
use Rattle.lr_waiting.specs.declared.watch.Renewal.{Renewal}
use Rattle.lr_waiting.specs.declared.watch.WatchKey.{WatchKey}
use Rattle.lr_waiting.specs.Client.{Client, client_row, with_reply, asked_of, take_reply, with_renewed, renewing_of, take_renewed}
use Rattle.lr_waiting.specs.Latch.{first_order_of}
use Rattle.lr_waiting.specs.Session.{Session, begin_row, ask_row, check_row, wake_row, fire_row, quit_row, renew_row, pushed, order_taken}
use Rattle.lr_machine.specs.declared.event.Event.{Event}
use Rattle.lr_machine.specs.declared.event.Event.TheVariants.{Begin, Ask, Exec, Take, Check, Wake, Fire, Quit, Sub, Push as push, Tick, RenewAsk, RenewExec, RenewTake, Force, Cut, Show}
use Rattle.lr_machine.specs.Clients.{command_connection, subscription_connection, operator, operator_connection, caller_of, client_caller}
use Rattle.lr_machine.specs.Sound.{IsInOrder, IsConnected, IsHeard, AreConnected}
use Rattle.lr_machine.specs.Within.{IsWithin, IsClient}
use Rattle.lr_machine.specs.World.{World, first_state, first_world, state_of, connection_of, force_of, clients_after, next_row, next_step, with_entry, closes_of_all, cut_among, with_cut, clients_dropped, dropped_at, with_call, answered_in, next_exec, hold_key, renewal_for, renewed_in, next_renewal, next_order, next_item, next}
use Rattle.lr_machine_laws.proofs.Closes.{GoesOn, GoesOn-cut, GoesOn-closes, AreClosable, AreClosable-dropped, AreDistinct-dropped}
use Rattle.lr_machine_laws.proofs.Connections.{AreConnected-first, AreConnected-same_cut, AreConnected-after_post}
use Rattle.lr_machine_laws.proofs.Cuts.{KeepsCut, ClientKeepsCut, keeps-client_row, keeps-begin, keeps-ask, keeps-take, keeps-check, keeps-wake, keeps-fire, keeps-quit, keeps-renew, keeps-take_renewed, cut-pushed}

pub IsInOrder-first_world : IsInOrder first_world
IsInOrder-first_world =
    record { legal = tt; in_time = omega arith; connected = AreConnected-first }

-- Histories that grow by several entries.

pub after-append : (state : State) (xs ys : List Entry)
    → after state (xs ++ ys) ≡ after (after state xs) ys
after-append state [] ys = refl
after-append state (x ∷ xs) ys = after-append (step state x) xs ys

pub IsLegal-append : (state : State) (xs ys : List Entry) → IsLegal state xs
    → IsLegal (after state xs) ys → IsLegal state (xs ++ ys)
IsLegal-append state [] ys legal more = more
IsLegal-append state (x ∷ xs) ys legal more =
    (legal.0, IsLegal-append (step state x) xs ys legal.1 more)

-- what goes on from a world's state goes on its history
IsInOrder-more : (world : World) (entries : List Entry) (clients : ℕ → Client)
    → IsLegal first_state world.entries → GoesOn (state_of world) entries world.moment clients
    → IsInOrder
    (record { entries = world.entries ++ entries; moment = world.moment; clients = clients })
IsInOrder-more world entries clients legal more =
    let now = after-append first_state world.entries entries in
    record {
      legal = IsLegal-append first_state world.entries entries legal more.legal;
      in_time = subst (λ (s : State). s.moment ≤ world.moment) (sym now) more.in_time;
      connected = subst (λ (s : State). AreConnected s.board clients) (sym now) more.connected;
    }

-- Rows of a client.

pub same_cut-after : (clients : ℕ → Client) (c : ℕ) (row : Option Client)
    → ClientKeepsCut (clients c) row → (d : ℕ)
    → (clients_after clients c row d).session.is_cut ≡ (clients d).session.is_cut
same_cut-after clients c None keeps d = refl
same_cut-after clients c (Some client) keeps d = by (cases_eq c d)
  where
    by : (c ≡ d) ⊎ (c ≡ d → ⊥)
        → (put ◌==◌ clients c client d).session.is_cut ≡ (clients d).session.is_cut
    by (inl same) =
        ap (λ b. (if b then client else clients d).session.is_cut) (eq-eqb c d same)
        ∙ keeps ∙ ap (λ n. (clients n).session.is_cut) same
    by (inr apart) =
        ap (λ b. (if b then client else clients d).session.is_cut) (ne_eqb c d apart)

IsInOrder-row : (world : World) (c : ℕ) (row : Option Client) → ClientKeepsCut (world.clients c) row
    → IsInOrder world → IsInOrder (next_row world c row)
IsInOrder-row world c row keeps order = record {
  legal = order.legal;
  in_time = order.in_time;
  connected =
      AreConnected-same_cut (state_of world).board world.clients
      (clients_after world.clients c row) (same_cut-after world.clients c row keeps)
      order.connected;
}

IsInOrder-step : (world : World) (c : ℕ) (row : Session → Option Session)
    → ((session : Session) → KeepsCut session (row session))
    → IsInOrder world → IsInOrder (next_step world c row)
IsInOrder-step world c row keeps order =
    IsInOrder-row world c (client_row row (world.clients c))
    (keeps-client_row row (world.clients c) (keeps (world.clients c).session)) order

-- Calls.

-- a call of a connection that may call, and the clients that its message drops
IsInOrder-call : (world : World) (caller conn : ℕ) (op : Op)
    → CanCall ((state_of world).board conn) → IsInOrder world
    → IsInOrder (with_call caller conn op world)
IsInOrder-call world caller conn op may order =
    by (post_of state.objects world.moment op) refl
  where
    state : State
    state = state_of world

    entry : Entry
    entry = call_entry world.moment caller conn op

    called : State
    called = step state entry

    -- the message, and what it drops
    by : (post : Option Post) → post_of state.objects world.moment op ≡ post
        → IsInOrder (with_call caller conn op world)
    by post e =
        subst
        (λ entries. IsInOrder (record { entries = entries; moment = world.moment; clients = cut_among dropped world.clients }))
        (sym (append_assoc world.entries (entry ∷ []) (closes_of_all world.moment dropped)))
        (IsInOrder-more world (entry ∷ closes_of_all world.moment dropped)
        (cut_among dropped world.clients) order.legal
        (goes_on post e))
      where
        dropped : List ℕ
        dropped = dropped_at state world.moment op

        closed : (post : Option Post) → post_of state.objects world.moment op ≡ post
            → GoesOn called (closes_of_all world.moment dropped) world.moment
            (cut_among dropped world.clients)
        closed None e =
            subst
            (λ cs. GoesOn called (closes_of_all world.moment cs) world.moment (cut_among cs world.clients))
            (sym (ap (clients_dropped state.board) e))
            (record {
              legal = tt;
              in_time = omega arith;
              connected = subst (λ p. AreConnected (board_after_post p state.board) world.clients) (sym e) order.connected;
            })
        closed (Some post) e =
            subst
            (λ cs. GoesOn called (closes_of_all world.moment cs) world.moment (cut_among cs world.clients))
            (sym (ap (clients_dropped state.board) e))
            (GoesOn-closes (clients_dropped state.board (Some post)) called world.moment
            (cut_among (clients_dropped state.board (Some post)) world.clients) (omega arith)
            (subst (λ p. AreConnected (board_after_post p state.board) (cut_among (clients_dropped state.board (Some post)) world.clients)) (sym e)
            (AreConnected-after_post post state.board world.clients order.connected))
            (subst (λ p. AreClosable (board_after_post p state.board) (cut_among (clients_dropped state.board (Some post)) world.clients) (clients_dropped state.board (Some post))) (sym e)
            (AreClosable-dropped post state.board world.clients order.connected))
            (AreDistinct-dropped post state.board world.clients order.connected))

        goes_on : (post : Option Post) → post_of state.objects world.moment op ≡ post
            → GoesOn state (entry ∷ closes_of_all world.moment dropped) world.moment
            (cut_among dropped world.clients)
        goes_on post e =
            let rest = closed post e in
            record {
              legal = (record { in_time = order.in_time; allowed = may }, rest.legal);
              in_time = rest.in_time;
              connected = rest.connected;
            }

-- a reply waits for a thread
pub IsInOrder-answered : (world : World) (c t : ℕ) (op : Op) → IsInOrder world
    → IsInOrder (answered_in world c t op)
IsInOrder-answered world c t op order =
    IsInOrder-row world c
    (Some
    (with_reply t (Some (reply_of (state_of world).objects world.moment op)) (world.clients c)))
    refl order

-- a thread's call, whose reply waits for it
IsInOrder-exec : (world : World) (c t : ℕ) (asking : Option Asking)
    → (cut : Bool) → (world.clients c).session.is_cut ≡ cut
    → IsClient c → IsInOrder world
    → IsInOrder (next_exec world c t (if cut then None else asking))
IsInOrder-exec world c t asking true e client order = order
IsInOrder-exec world c t None false e client order = order
IsInOrder-exec world c t (Some asking) false e client order =
    IsInOrder-call (answered_in world c t asking.op) (caller_of c t) (command_connection c)
    asking.op (order.connected.each c client e).calls
    (IsInOrder-answered world c t asking.op order)

-- a reply waits for a renewal
pub IsInOrder-renewed : (world : World) (c : ℕ) (key : WatchKey) (op : Op) → IsInOrder world
    → IsInOrder (renewed_in world c key op)
IsInOrder-renewed world c key op order =
    IsInOrder-row world c
    (Some
    (with_renewed key (Some (reply_of (state_of world).objects world.moment op))
    (world.clients c)))
    refl order

-- a renewal, whose reply waits for its client
IsInOrder-renewal : (world : World) (c : ℕ) (key : WatchKey) (renewal : Option Renewal)
    → (cut : Bool) → (world.clients c).session.is_cut ≡ cut
    → IsClient c → IsInOrder world
    → IsInOrder (next_renewal world c key (if cut then None else renewal))
IsInOrder-renewal world c key renewal true e client order = order
IsInOrder-renewal world c key None false e client order = order
IsInOrder-renewal world c key (Some renewal) false e client order =
    IsInOrder-call (renewed_in world c key (renewal_for world c key)) (client_caller c)
    (command_connection c) (renewal_for world c key) (order.connected.each c client e).calls
    (IsInOrder-renewed world c key (renewal_for world c key) order)

-- Orders, items and cuts.

-- a board whose connection of a client changes, and stays open
AreConnected-hearing : (board : Board) (clients : ℕ → Client) (c : ℕ) (now : Connection)
    → IsClient c → (clients c).session.is_cut ≡ false
    → now.opener ≡ (board (subscription_connection c)).opener
    → now.dropped ≡ (board (subscription_connection c)).dropped → AreConnected board clients
    → AreConnected (with_connection board (subscription_connection c) now) clients
AreConnected-hearing board clients c now client uncut opener dropped connected = record {
  operator = subst CanCall (sym (other operator_connection (λ e. omega (arith, e, client.0)))) connected.operator;
  each = λ d within uncut_too.
      let old = connected.each d within uncut_too in
      record {
        calls =
            subst CanCall
            (sym (other (command_connection d) (λ e. omega (arith, e, within.0)))) old.calls;
        open_ = open_at d (cases_eq (subscription_connection c) (subscription_connection d)) old;
        kept = kept_at d (cases_eq (subscription_connection c) (subscription_connection d)) old;
      };
  quiet = λ conn some. heard conn (cases_eq (subscription_connection c) conn) some;
}
  where
    board_now : Board
    board_now = with_connection board (subscription_connection c) now

    other : (conn : ℕ) → (subscription_connection c ≡ conn → ⊥) → board_now conn ≡ board conn
    other conn apart =
        ap (λ b. if b then now else board conn) (ne_eqb (subscription_connection c) conn apart)

    here : (conn : ℕ) → subscription_connection c ≡ conn → board_now conn ≡ now
    here conn same =
        ap (λ b. if b then now else board conn) (eq-eqb (subscription_connection c) conn same)

    open_at : (d : ℕ)
        → (subscription_connection c ≡ subscription_connection d)
        ⊎ (subscription_connection c ≡ subscription_connection d → ⊥)
        → IsConnected board d → IsTrue (is_open (board_now (subscription_connection d)))
    open_at d (inl same) old =
        subst IsTrue
        (sym (ap is_open (here (subscription_connection d) same)
        ∙ ap is_some opener
        ∙ ap (λ conn. is_open (board conn)) same))
        old.open_
    open_at d (inr apart) old =
        subst (λ (x : Connection). IsTrue (is_open x))
        (sym (other (subscription_connection d) apart)) old.open_

    kept_at : (d : ℕ)
        → (subscription_connection c ≡ subscription_connection d)
        ⊎ (subscription_connection c ≡ subscription_connection d → ⊥)
        → IsConnected board d → (board_now (subscription_connection d)).dropped ≡ false
    kept_at d (inl same) old =
        ap (λ (x : Connection). x.dropped) (here (subscription_connection d) same)
        ∙ dropped ∙ ap (λ conn. (board conn).dropped) same ∙ old.kept
    kept_at d (inr apart) old =
        ap (λ (x : Connection). x.dropped) (other (subscription_connection d) apart) ∙ old.kept

    heard : (conn : ℕ)
        → (subscription_connection c ≡ conn) ⊎ (subscription_connection c ≡ conn → ⊥)
        → (board_now conn).channels ≢ [] → IsHeard clients conn
    heard conn (inl same) some =
        record { client = c; within = client; uncut = uncut; at = sym same }
    heard conn (inr apart) some =
        connected.quiet conn
        (λ none. some (ap (λ (x : Connection). x.channels) (other conn apart) ∙ none))

-- an act of a client on the connection on which it gets messages
IsInOrder-hearing : (world : World) (c : ℕ) (act : Act) (now : Connection)
    → IsClient c → (world.clients c).session.is_cut ≡ false
    → MayFollow (state_of world)
    (entry_of world.moment (client_caller c) (subscription_connection c) act)
    → board_by (state_of world)
    (entry_of world.moment (client_caller c) (subscription_connection c) act) act
    ≡ with_connection (state_of world).board (subscription_connection c) now
    → now.opener ≡ (connection_of world c).opener → now.dropped ≡ (connection_of world c).dropped
    → IsInOrder world
    → IsInOrder
    (with_entry (entry_of world.moment (client_caller c) (subscription_connection c) act) world)
IsInOrder-hearing world c act now client uncut may board opener dropped order =
    IsInOrder-more world
    (entry_of world.moment (client_caller c) (subscription_connection c) act ∷ []) world.clients
    order.legal
    (record {
      legal = (may, tt);
      in_time = omega arith;
      connected =
          subst (λ b. AreConnected b world.clients) (sym board)
          (AreConnected-hearing (state_of world).board world.clients c now client uncut opener
          dropped order.connected);
    })

-- one client is cut off
IsInOrder-cut : (world : World) (c : ℕ) → IsClient c → (world.clients c).session.is_cut ≡ false
    → IsInOrder world → IsInOrder (with_cut (c ∷ []) world)
IsInOrder-cut world c client uncut order =
    IsInOrder-more world (closes_of_all world.moment (c ∷ [])) (cut_among (c ∷ []) world.clients)
    order.legal
    (GoesOn-cut (state_of world) world.moment world.clients c order.in_time client uncut
    order.connected)

-- a client that wasn't cut off makes a step, and then acts on the connection for its messages
IsInOrder-acts : (world : World) (c : ℕ) (row : Session → Session)
    → ((session : Session) → (row session).is_cut ≡ session.is_cut) → (act : Act)
    → (now : Connection) → IsClient c → (world.clients c).session.is_cut ≡ false
    → MayFollow (state_of world)
    (entry_of world.moment (client_caller c) (subscription_connection c) act)
    → board_by (state_of world)
    (entry_of world.moment (client_caller c) (subscription_connection c) act) act
    ≡ with_connection (state_of world).board (subscription_connection c) now
    → now.opener ≡ (connection_of world c).opener → now.dropped ≡ (connection_of world c).dropped
    → IsInOrder world
    → IsInOrder
    (with_entry (entry_of world.moment (client_caller c) (subscription_connection c) act)
    (next_step world c (λ session. Some (row session))))
IsInOrder-acts world c row keeps act now client uncut may board opener dropped order =
    IsInOrder-hearing (next_step world c (λ session. Some (row session))) c act now client
    (same_cut-after world.clients c
    (client_row (λ session. Some (row session)) (world.clients c))
    (keeps (world.clients c).session) c ∙ uncut) may board opener dropped
    (IsInOrder-step world c (λ session. Some (row session)) keeps order)

IsInOrder-order : (world : World) (c : ℕ) (order : Order) → IsClient c
    → (world.clients c).session.is_cut ≡ false → IsInOrder world
    → (subscribe room : Bool) → order.subscribe ≡ subscribe
    → has_room (connection_of world c) ≡ room
    → IsInOrder
    (if room
    then with_entry
    (entry_of world.moment (client_caller c) (subscription_connection c)
    (if subscribe then Subscribe order.channel else Unsubscribe order.channel))
    (next_step world c (λ session. Some (order_taken session)))
    else with_cut (c ∷ []) world)
IsInOrder-order world c order client uncut in_order subscribe false e full =
    IsInOrder-cut world c client uncut in_order
IsInOrder-order world c order client uncut in_order true true e room =
    let old = in_order.connected.each c client uncut in
    IsInOrder-acts world c order_taken (λ session. refl) (Subscribe order.channel)
    (connection_after_subscribe order.channel (connection_of world c)) client uncut
    (record {
      in_time = in_order.in_time;
      allowed = record { open_ = old.open_; kept = old.kept; room = room };
    }) refl refl refl in_order
IsInOrder-order world c order client uncut in_order false true e room =
    let old = in_order.connected.each c client uncut in
    IsInOrder-acts world c order_taken (λ session. refl) (Unsubscribe order.channel)
    (connection_after_unsubscribe order.channel (connection_of world c)) client uncut
    (record {
      in_time = in_order.in_time;
      allowed = record { open_ = old.open_; kept = old.kept; room = room };
    }) refl refl refl in_order

IsInOrder-next_order : (world : World) (c : ℕ) (found : Option Order) → IsClient c
    → (cut : Bool) → (world.clients c).session.is_cut ≡ cut → IsInOrder world
    → IsInOrder (next_order world c (if cut then None else found))
IsInOrder-next_order world c found client true e in_order = in_order
IsInOrder-next_order world c None client false e in_order = in_order
IsInOrder-next_order world c (Some order) client false e in_order =
    IsInOrder-order world c order client e in_order order.subscribe
    (has_room (connection_of world c)) refl refl

-- what is handed out first wasn't nothing
first-some : (outbox : List Push) (item : Push) → slice_get outbox 0 ≡ Some item → outbox ≢ []
first-some outbox item first none = absurd (cc (first, ap (λ xs. slice_get xs 0) none))

IsInOrder-next_item : (world : World) (c : ℕ) (found : Option Push)
    → slice_get (connection_of world c).outbox 0 ≡ found → IsClient c
    → (cut : Bool) → (world.clients c).session.is_cut ≡ cut → IsInOrder world
    → IsInOrder (next_item world c (if cut then None else found))
IsInOrder-next_item world c found first client true e in_order = in_order
IsInOrder-next_item world c None first client false e in_order = in_order
IsInOrder-next_item world c (Some item) first client false e in_order =
    let old = in_order.connected.each c client e in
    IsInOrder-acts world c (pushed item) (cut-pushed item) (Drain 1)
    (connection_after_drain 1 (connection_of world c)) client e
    (record {
      in_time = in_order.in_time;
      allowed = record {
        open_ = old.open_;
        kept = old.kept;
        asked = omega arith;
        waits = first-some (connection_of world c).outbox item first;
      };
    }) refl refl refl in_order

IsInOrder-next_cut : (world : World) (c : ℕ) → IsClient c
    → (cut : Bool) → (world.clients c).session.is_cut ≡ cut → IsInOrder world
    → IsInOrder (if cut then world else with_cut (c ∷ []) world)
IsInOrder-next_cut world c client true e in_order = in_order
IsInOrder-next_cut world c client false e in_order = IsInOrder-cut world c client e in_order

-- an event within the limits keeps the history in order
pub IsInOrder-next : (world : World) (event : Event)
    → IsWithin event → IsInOrder world → IsInOrder (next world event)
IsInOrder-next world (Begin c t mode want) within order =
    IsInOrder-step world c (begin_row t mode want) (keeps-begin t mode want) order
IsInOrder-next world (Ask c t) within order =
    IsInOrder-step world c (ask_row t world.moment) (keeps-ask t world.moment) order
IsInOrder-next world (Exec c t) within order =
    IsInOrder-exec world c t (asked_of (world.clients c) t) (world.clients c).session.is_cut refl
    within.0 order
IsInOrder-next world (Take c t) within order =
    IsInOrder-row world c (take_reply t (world.clients c)) (keeps-take t (world.clients c)) order
IsInOrder-next world (Check c t) within order =
    IsInOrder-step world c (check_row t world.moment) (keeps-check t world.moment) order
IsInOrder-next world (Wake c t) within order =
    IsInOrder-step world c (wake_row t) (keeps-wake t) order
IsInOrder-next world (Fire c t) within order =
    IsInOrder-step world c (fire_row t world.moment) (keeps-fire t world.moment) order
IsInOrder-next world (Quit c t) within order =
    IsInOrder-step world c (quit_row t) (keeps-quit t) order
IsInOrder-next world (Sub c) within order =
    IsInOrder-next_order world c (first_order_of (world.clients c).session.latches) within
    (world.clients c).session.is_cut refl order
IsInOrder-next world (push c) within order =
    IsInOrder-next_item world c (slice_get (connection_of world c).outbox 0) refl within
    (world.clients c).session.is_cut refl order
IsInOrder-next world (Tick moment) within order = record {
  legal = order.legal;
  in_time = omega (arith, order.in_time);
  connected = order.connected;
}
IsInOrder-next world (RenewAsk c t kind name) within order =
    IsInOrder-step world c (renew_row (hold_key c t kind name) world.moment)
    (keeps-renew (hold_key c t kind name) world.moment) order
IsInOrder-next world (RenewExec c t kind name) within order =
    IsInOrder-renewal world c (hold_key c t kind name)
    (renewing_of (world.clients c) (hold_key c t kind name)) (world.clients c).session.is_cut refl
    within.0 order
IsInOrder-next world (RenewTake c t kind name) within order =
    IsInOrder-row world c (take_renewed (hold_key c t kind name) (world.clients c))
    (keeps-take_renewed (hold_key c t kind name) (world.clients c)) order
IsInOrder-next world (Force name) within order =
    IsInOrder-call world operator operator_connection (force_of name) order.connected.operator order
IsInOrder-next world (Cut c) within order =
    IsInOrder-next_cut world c within (world.clients c).session.is_cut refl order
IsInOrder-next world Show within order = order
