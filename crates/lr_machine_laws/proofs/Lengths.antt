-- How long a history grows: an event makes one entry, and each client that it cuts off two more, and
-- is cut off once.
use Rattle.std.proofs.Common.{◌≡◌, ◌≢◌, ℕ, zero, suc, ◌+◌, ◌*◌, ◌≤◌, ◌==◌, List, [], ◌∷◌, length, Bool, true, false, ◌||◌, Option, Some, None, if◌then◌else◌, refl, sym, ap, ◌∙◌, arith, length-append, ◌⊎◌, inl, inr}
use Rattle.std.proofs.lemmas.Bool.{eq-eqb, ne_eqb, cases_eq}
use Rattle.std.specs.List.{list_any}
use Rattle.lr_limits.specs.Limits.{client_limit}
use Rattle.lr_names.specs.declared.post.Post.{Post}
use Rattle.lr_names.specs.declared.post.Push.{Push}
use Rattle.lr_objects.specs.declared.op.Op.{Op}
use Rattle.lr_model.specs.declared.entry.Entry.{Entry}
use Rattle.lr_model.specs.Answer.{reply_of, post_of}
use Rattle.lr_model.specs.Board.{has_room}
use Rattle.lr_model.specs.History.{call_entry, entry_of}
use Rattle.lr_waiting.specs.declared.latch.Order.{Order}
use Rattle.lr_waiting.specs.declared.waiter.Asking.{Asking}
use Rattle.lr_waiting.specs.declared.watch.Renewal.{Renewal}
use Rattle.lr_waiting.specs.declared.watch.WatchKey.{WatchKey}
use Rattle.lr_waiting.specs.Client.{Client, cut_client, client_row, with_reply, take_reply, with_renewed, take_renewed}
use Rattle.lr_waiting.specs.Latch.{first_order_of}
use Rattle.lr_waiting.specs.Session.{Session, begin_row, ask_row, check_row, wake_row, fire_row, quit_row, renew_row, pushed, order_taken}
use Rattle.lr_machine.specs.declared.event.Event.{Event}
use Rattle.lr_machine.specs.declared.event.Event.TheVariants.{Begin, Ask, Exec, Take, Check, Wake, Fire, Quit, Sub, Push as push, Tick, RenewAsk, RenewExec, RenewTake, Force, Cut, Show}
use Rattle.lr_machine.specs.Clients.{command_connection, subscription_connection, operator, operator_connection, caller_of, client_caller}
use Rattle.lr_machine.specs.Sound.{IsInOrder, clients_left}
use Rattle.lr_machine.specs.Within.{IsWithin, IsClient}
use Rattle.lr_machine.specs.World.{World, state_of, connection_of, force_of, clients_after, next_row, next_step, with_entry, closes_of_all, cut_among, with_cut, clients_dropped, dropped_at, with_call, answered_in, next_exec, hold_key, renewing_in, renewal_for, renewed_in, next_renewal, asking_of, item_for, act_of, next_order, next_item, next}
use Rattle.lr_machine_laws.proofs.Closes.{AreApart, AreDistinct, AreLeft, AreDistinct-dropped, AreLeft-dropped, others_left}
use Rattle.lr_machine_laws.proofs.Cuts.{KeepsCut, ClientKeepsCut, keeps-client_row, keeps-begin, keeps-ask, keeps-take, keeps-check, keeps-wake, keeps-fire, keeps-quit, keeps-renew, keeps-take_renewed, cut-pushed}
use Rattle.lr_machine_laws.proofs.Worlds.{same_cut-after, IsInOrder-answered, IsInOrder-renewed}

-- how many entries there may be still: two for each client that may be cut off
abbrev pub with_closes : World → ℕ
with_closes world = length world.entries + 2 * clients_left client_limit world.clients

-- Clients of which the same are cut off.

left-same : (n : ℕ) (before now : ℕ → Client)
    → ((c : ℕ) → c ≤ n → (now c).session.is_cut ≡ (before c).session.is_cut)
    → clients_left n now ≡ clients_left n before
unfolding clients_left
left-same zero before now same = refl
left-same (suc n) before now same =
    (λ i. left-same n before now (λ c le. same c (omega arith)) i
    + (if same (suc n) (omega arith) i then 0 else 1))

-- one client fewer
left-cut : (n : ℕ) (clients : ℕ → Client) (c : ℕ) → 1 ≤ c → c ≤ n
    → (clients c).session.is_cut ≡ false
    → clients_left n (cut_among (c ∷ []) clients) + 1 ≡ clients_left n clients
unfolding clients_left
left-cut zero clients c from to uncut = absurd (omega (arith, from, to))
left-cut (suc n) clients c from to uncut =
    by (cases_eq c (suc n)) (λ le. left-cut n clients c from le uncut)
  where
    now : ℕ → Client
    now = cut_among (c ∷ []) clients

    flag : Bool → ℕ
    flag cut = if cut then 0 else 1

    other : (d : ℕ) → d ≢ c → (now d).session.is_cut ≡ (clients d).session.is_cut
    other d apart =
        ap (λ b. (if b || false then cut_client (clients d) else clients d).session.is_cut)
        (ne_eqb d c apart)

    here : (d : ℕ) → d ≡ c → (now d).session.is_cut ≡ true
    here d same =
        ap (λ b. (if b || false then cut_client (clients d) else clients d).session.is_cut)
        (eq-eqb d c same)

    by : (c ≡ suc n) ⊎ (c ≡ suc n → ⊥)
        → (c ≤ n → clients_left n now + 1 ≡ clients_left n clients)
        → clients_left n now + flag (now (suc n)).session.is_cut + 1
        ≡ clients_left n clients + flag (clients (suc n)).session.is_cut
    by (inl last) before =
        let same = left-same n clients now (λ d le. other d (λ e. omega (arith, e, last, le))) in
        let cut : flag (now (suc n)).session.is_cut ≡ 0 = ap flag (here (suc n) (sym last)) in
        let left : flag (clients (suc n)).session.is_cut ≡ 1 =
        ap flag (ap (λ d. (clients d).session.is_cut) (sym last) ∙ uncut) in
        omega (arith, same, cut, left)
    by (inr apart) before =
        let fewer = before (omega (arith, to, apart)) in
        let kept = ap flag (other (suc n) (λ e. apart (sym e))) in
        omega (arith, fewer, kept)

-- cut off one after the other, or all at once
cut-in_turn : (clients : ℕ → Client) (c : ℕ) (cs : List ℕ) (d : ℕ)
    → (cut_among (c ∷ cs) clients d).session.is_cut
    ≡ (cut_among cs (cut_among (c ∷ []) clients) d).session.is_cut
cut-in_turn clients c cs d = by (d == c) (list_any (λ other. d == other) cs)
  where
    by : (here among : Bool)
        → (if here || among then cut_client (clients d) else clients d).session.is_cut
        ≡ (if among
        then cut_client (if here || false then cut_client (clients d) else clients d)
        else (if here || false then cut_client (clients d) else clients d)).session.is_cut
    by true true = refl
    by true false = refl
    by false true = refl
    by false false = refl

left-cut_all : (cs : List ℕ) (clients : ℕ → Client) → AreDistinct cs → AreLeft clients cs
    → clients_left client_limit (cut_among cs clients) + length cs
    ≡ clients_left client_limit clients
left-cut_all [] clients distinct left = omega arith
left-cut_all (c ∷ cs) clients distinct left =
    let turn =
    left-same client_limit (cut_among cs (cut_among (c ∷ []) clients))
    (cut_among (c ∷ cs) clients) (λ d le. cut-in_turn clients c cs d) in
    let rest =
    left-cut_all cs (cut_among (c ∷ []) clients) distinct.1 (still cs distinct.0 left.1) in
    let one = left-cut client_limit clients c left.0.0.0 left.0.0.1 left.0.1 in
    omega (arith, turn, rest, one)
  where
    still : (ds : List ℕ) → AreApart c ds → AreLeft clients ds
        → AreLeft (cut_among (c ∷ []) clients) ds
    still [] apart left = tt
    still (d ∷ ds) apart left = (
      (left.0.0, others_left clients c d (λ e. apart.0 (sym e)) left.0.1),
      still ds apart.1 left.1,
    )

length-closes : (moment : ℕ) (cs : List ℕ) → length (closes_of_all moment cs) ≡ 2 * length cs
length-closes moment [] = refl
length-closes moment (c ∷ cs) = omega (arith, length-closes moment cs)

-- Worlds.

-- clients that are cut off make the entries that were kept for them
length-cut : (cs : List ℕ) (world : World) → AreDistinct cs → AreLeft world.clients cs
    → with_closes (with_cut cs world) ≡ with_closes world
length-cut cs world distinct left =
    let more = length-append world.entries (closes_of_all world.moment cs) in
    let closes = length-closes world.moment cs in
    let fewer = left-cut_all cs world.clients distinct left in
    omega (arith, more, closes, fewer)

length-row : (world : World) (c : ℕ) (row : Option Client) → ClientKeepsCut (world.clients c) row
    → with_closes (next_row world c row) ≡ with_closes world
length-row world c row keeps =
    let same =
    left-same client_limit world.clients (clients_after world.clients c row)
    (λ d le. same_cut-after world.clients c row keeps d) in
    omega (arith, same)

length-step : (world : World) (c : ℕ) (row : Session → Option Session)
    → ((session : Session) → KeepsCut session (row session))
    → with_closes (next_step world c row) ≡ with_closes world
length-step world c row keeps =
    length-row world c (client_row row (world.clients c))
    (keeps-client_row row (world.clients c) (keeps (world.clients c).session))

length-call : (world : World) (caller conn : ℕ) (op : Op) → IsInOrder world
    → with_closes (with_call caller conn op world) ≤ with_closes world + 1
length-call world caller conn op order =
    let cut =
    length-cut (dropped_at (state_of world) world.moment op)
    (with_entry (call_entry world.moment caller conn op) world)
    (distinct (post_of (state_of world).objects world.moment op))
    (left (post_of (state_of world).objects world.moment op)) in
    let more = length-append world.entries (call_entry world.moment caller conn op ∷ []) in
    omega (arith, cut, more)
  where
    distinct : (post : Option Post) → AreDistinct (clients_dropped (state_of world).board post)
    distinct None = tt
    distinct (Some post) =
        AreDistinct-dropped post (state_of world).board world.clients order.connected

    left : (post : Option Post)
        → AreLeft world.clients (clients_dropped (state_of world).board post)
    left None = tt
    left (Some post) = AreLeft-dropped post (state_of world).board world.clients order.connected

length-exec : (world : World) (c t : ℕ) (asking : Option Asking) → IsInOrder world
    → (answered : (op : Op) → IsInOrder (answered_in world c t op))
    → with_closes (next_exec world c t asking) ≤ with_closes world + 1
length-exec world c t None order answered = omega arith
length-exec world c t (Some asking) order answered =
    let row =
    length-row world c
    (Some
    (with_reply t (Some (reply_of (state_of world).objects world.moment asking.op))
    (world.clients c))) refl in
    let call =
    length-call (answered_in world c t asking.op) (caller_of c t) (command_connection c)
    asking.op (answered asking.op) in
    omega (arith, row, call)

length-renewal : (world : World) (c : ℕ) (key : WatchKey) (renewal : Option Renewal)
    → IsInOrder world → IsInOrder (renewed_in world c key (renewal_for world c key))
    → with_closes (next_renewal world c key renewal) ≤ with_closes world + 1
length-renewal world c key None order renewed = omega arith
length-renewal world c key (Some renewal) order renewed =
    let op = renewal_for world c key in
    let row =
    length-row world c
    (Some
    (with_renewed key (Some (reply_of (state_of world).objects world.moment op))
    (world.clients c))) refl in
    let call =
    length-call (renewed_in world c key op) (client_caller c) (command_connection c) op renewed in
    omega (arith, row, call)

one_client : (world : World) (c : ℕ) → IsClient c → (world.clients c).session.is_cut ≡ false
    → with_closes (with_cut (c ∷ []) world) ≡ with_closes world
one_client world c client uncut =
    length-cut (c ∷ []) world (tt, tt) ((client, uncut), tt)

-- a client's step, and an act of it
length-acts : (world : World) (c : ℕ) (row : Session → Session) (entry : Entry)
    → ((session : Session) → (row session).is_cut ≡ session.is_cut)
    → with_closes (with_entry entry (next_step world c (λ session. Some (row session))))
    ≤ with_closes world + 1
length-acts world c row entry keeps =
    let step = length-step world c (λ session. Some (row session)) keeps in
    let more = length-append world.entries (entry ∷ []) in
    omega (arith, step, more)

length-order : (world : World) (c : ℕ) (found : Option Order) → IsClient c
    → (cut : Bool) → (world.clients c).session.is_cut ≡ cut
    → with_closes (next_order world c (if cut then None else found)) ≤ with_closes world + 1
length-order world c found client true e = omega arith
length-order world c None client false e = omega arith
length-order world c (Some order) client false e = by (has_room (connection_of world c))
  where
    by : (room : Bool)
        → with_closes (if room
        then with_entry
        (entry_of world.moment (client_caller c) (subscription_connection c) (act_of order))
        (next_step world c (λ session. Some (order_taken session)))
        else with_cut (c ∷ []) world) ≤ with_closes world + 1
    by true = length-acts world c order_taken _ (λ session. refl)
    by false = omega (arith, one_client world c client e)

length-item : (world : World) (c : ℕ) (found : Option Push)
    → with_closes (next_item world c found) ≤ with_closes world + 1
length-item world c None = omega arith
length-item world c (Some item) = length-acts world c (pushed item) _ (cut-pushed item)

length-next_cut : (world : World) (c : ℕ) → IsClient c
    → (cut : Bool) → (world.clients c).session.is_cut ≡ cut
    → with_closes (if cut then world else with_cut (c ∷ []) world) ≤ with_closes world + 1
length-next_cut world c client true e = omega arith
length-next_cut world c client false e = omega (arith, one_client world c client e)

-- an event makes one entry at most, beside those that were kept for clients that are cut off
pub length-next : (world : World) (event : Event) → IsWithin event → IsInOrder world
    → with_closes (next world event) ≤ with_closes world + 1
length-next world (Begin c t mode want) within order =
    omega (arith, length-step world c (begin_row t mode want) (keeps-begin t mode want))
length-next world (Ask c t) within order =
    omega (arith, length-step world c (ask_row t world.moment) (keeps-ask t world.moment))
length-next world (Exec c t) within order =
    length-exec world c t (asking_of world c t) order
    (λ op. IsInOrder-answered world c t op order)
length-next world (Take c t) within order =
    omega (
      arith,
      length-row world c (take_reply t (world.clients c)) (keeps-take t (world.clients c)),
    )
length-next world (Check c t) within order =
    omega (arith, length-step world c (check_row t world.moment) (keeps-check t world.moment))
length-next world (Wake c t) within order =
    omega (arith, length-step world c (wake_row t) (keeps-wake t))
length-next world (Fire c t) within order =
    omega (arith, length-step world c (fire_row t world.moment) (keeps-fire t world.moment))
length-next world (Quit c t) within order =
    omega (arith, length-step world c (quit_row t) (keeps-quit t))
length-next world (Sub c) within order =
    length-order world c (first_order_of (world.clients c).session.latches) within
    (world.clients c).session.is_cut refl
length-next world (push c) within order = length-item world c (item_for world c)
length-next world (Tick moment) within order = omega arith
length-next world (RenewAsk c t kind name) within order =
    omega (
      arith,
      length-step world c (renew_row (hold_key c t kind name) world.moment)
          (keeps-renew (hold_key c t kind name) world.moment),
    )
length-next world (RenewExec c t kind name) within order =
    let key = hold_key c t kind name in
    length-renewal world c key (renewing_in world c key) order
    (IsInOrder-renewed world c key (renewal_for world c key) order)
length-next world (RenewTake c t kind name) within order =
    omega (
      arith,
      length-row world c (take_renewed (hold_key c t kind name) (world.clients c))
          (keeps-take_renewed (hold_key c t kind name) (world.clients c)),
    )
length-next world (Force name) within order =
    length-call world operator operator_connection (force_of name) order
length-next world (Cut c) within order =
    length-next_cut world c within (world.clients c).session.is_cut refl
length-next world Show within order = omega arith
