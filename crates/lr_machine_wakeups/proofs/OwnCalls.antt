-- The owner of a channel makes a call: no thread was refused there.
use Rattle.std.proofs.Common.{◌≡◌, ℕ, ◌<◌, ◌^◌, List, Bool, true, false, not, ◌&&◌, Option, Some, None, refl, sym, ap, ◌∙◌, arith, ◌⊎◌, inl, inr}
use Rattle.std.specs.Int.{w128, from_be_bytes}
use Rattle.std.proofs.lemmas.Bool.{and_parts, false≢true}
use Rattle.std.proofs.lemmas.Option.{same_Some}
use Rattle.uuid.proofs.OrderLemmas.{from_be_bytes-to_be_bytes_16}
use Rattle.lr_names.specs.Channel.{ChannelOf, is_fair}
use Rattle.lr_names.specs.Owner.{ThreadOfClient}
use Rattle.lr_objects.specs.FairCalls.{fair_owner, fair_call_of}
use Rattle.lr_objects.specs.Kinds.{call_of, call_kind}
use Rattle.lr_objects.specs.Op.{queued_by, channel_of}
use Rattle.lr_objects.specs.Want.{op_of}
use Rattle.lr_objects.specs.declared.fair.FairFunction.{FairFunction}
use Rattle.lr_objects.specs.declared.fair.FairFunction.TheVariants as fair
use Rattle.lr_objects.specs.declared.kinds.Function.{Function}
use Rattle.lr_objects.specs.declared.kinds.Function.TheVariants as functions
use Rattle.lr_objects.specs.declared.op.Op.{Op}
use Rattle.lr_objects.specs.declared.reply.Reply.{Reply}
use Rattle.lr_objects.specs.declared.want.Mode.{Mode}
use Rattle.lr_objects.specs.declared.want.Want.{Want}
use Rattle.lr_model.specs.Board.{same_channel}
use Rattle.lr_model.proofs.SameChannel.{same_is}
use Rattle.lr_waiting.specs.declared.waiter.Asking.{Asking}
use Rattle.lr_waiting.specs.declared.waiter.Stage.{Stage}
use Rattle.lr_waiting.specs.declared.waiter.Stage.TheVariants.{Asked}
use Rattle.lr_waiting.specs.declared.waiter.Waiter.{Waiter}
use Rattle.lr_waiting.specs.declared.watch.WatchKey.{WatchKey}
use Rattle.lr_waiting.specs.declared.watch.WatchKind.{WatchKind}
use Rattle.lr_waiting.specs.declared.watch.WatchKind.TheVariants as watched
use Rattle.lr_waiting.specs.Client.{Client, waiter_in, asked_at, asked_by, asked_of}
use Rattle.lr_waiting.specs.Queue.{is_own_call, renews_fair, leaves_place}
use Rattle.lr_waiting.specs.Session.{channel_for, owner_in, may_wait, leaving_function, leaving_want}
use Rattle.lr_waiting.specs.Stand.{waits_at}
use Rattle.lr_waiting.specs.Watchdog.{renewal_call, renewal_op}
use Rattle.lr_wakeups.specs.Queued.{NobodyIsBlocked}
use Rattle.lr_wakeups.specs.Standing.{is_blocked_at, blocked_with, is_blocked}
use Rattle.lr_wakeups.proofs.FairChannels.{registered_owner}
use Rattle.lr_wakeups.proofs.Standing.{blocked_registered}
use Rattle.lr_machine.specs.Clients.{client_id}
use Rattle.lr_machine.specs.Within.{IsClient}
use Rattle.lr_machine.specs.World.{force_of}
use Rattle.lr_machine_wakeups.specs.WorldFacts.{IsAsked}

never : {A : Type 0} (x : A) → None ≡ Some x → ⊥
never x e = absurd (cc e)

-- clients with one id are one
pub one-client : (c d : ℕ) → IsClient c → IsClient d → client_id c ≡ client_id d → c ≡ d
one-client c d first second same =
    let few : c < 2 ^ 128 = omega (arith, first.1) in
    let also : d < 2 ^ 128 = omega (arith, second.1) in
    sym (from_be_bytes-to_be_bytes_16 c few) ∙ ap (from_be_bytes w128) same
    ∙ from_be_bytes-to_be_bytes_16 d also

-- the channel of a call on a fair lock is that of the request, and names the owner
pub own_channel : (owner : ThreadOfClient) (want : Want) (lease : ℕ) (queue : Bool)
    → is_fair (channel_for owner want).kind ≡ true
    → channel_of (op_of want owner lease queue) ≡ channel_for owner want
own_channel owner want lease queue = by want.function
  where
    of : Function → ℕ → Bool → ChannelOf
    of function l q = record {
      kind = call_kind (call_of function want owner l q);
      name = want.name;
      owner = queued_by (call_of function want owner l q);
    }

    by_fair : (f : FairFunction)
        → of (functions.Fair f) lease queue ≡ of (functions.Fair f) 0 false
    by_fair fair.Try = refl
    by_fair fair.Unlock = refl
    by_fair fair.Leave = refl
    by_fair fair.Renew = refl

    by : (function : Function)
        → is_fair (call_kind (call_of function want owner 0 false)) ≡ true
        → of function lease queue ≡ of function 0 false
    by (functions.Fair f) is = by_fair f
    by (functions.Lock f) is = refl
    by (functions.Fenced f) is = refl
    by (functions.ReadWrite f) is = refl
    by (functions.Semaphore f) is = refl
    by (functions.Permits f) is = refl
    by (functions.Countdown f) is = refl

-- who made it
made_by : (owner : ThreadOfClient) (want : Want) (lease : ℕ) (queue : Bool)
    → is_fair (channel_of (op_of want owner lease queue)).kind ≡ true
    → (channel_of (op_of want owner lease queue)).owner ≡ Some owner
made_by owner want lease queue = by want.function
  where
    by_fair : (f : FairFunction)
        → Some (fair_owner (fair_call_of f owner lease queue)) ≡ Some owner
    by_fair fair.Try = refl
    by_fair fair.Unlock = refl
    by_fair fair.Leave = refl
    by_fair fair.Renew = refl

    by : (function : Function)
        → is_fair (call_kind (call_of function want owner lease queue)) ≡ true
        → queued_by (call_of function want owner lease queue) ≡ Some owner
    by (functions.Fair f) is = by_fair f
    by (functions.Lock f) is = absurd (false≢true is)
    by (functions.Fenced f) is = absurd (false≢true is)
    by (functions.ReadWrite f) is = absurd (false≢true is)
    by (functions.Semaphore f) is = absurd (false≢true is)
    by (functions.Permits f) is = absurd (false≢true is)
    by (functions.Countdown f) is = absurd (false≢true is)

sent_by : (moment : ℕ) (owner : ThreadOfClient) (mode : Mode) (want : Want) (asking : Asking)
    → IsAsked moment owner mode want asking → is_fair (channel_of asking.op).kind ≡ true
    → (channel_of asking.op).owner ≡ Some owner
sent_by moment owner mode want asking sent is = by sent.op
  where
    of : (op other : Op) → op ≡ other
        → (is_fair (channel_of other).kind ≡ true → (channel_of other).owner ≡ Some owner)
        → is_fair (channel_of op).kind ≡ true → (channel_of op).owner ≡ Some owner
    of op other same made here =
        ap (λ (o : Op). (channel_of o).owner) same
        ∙ made (ap (λ (o : Op). is_fair (channel_of o).kind) (sym same) ∙ here)

    left : Want
    left = leaving_want want (leaving_function want.function)

    by : (asking.op ≡ op_of want owner sent.lease (may_wait mode))
        ⊎ (asking.op
        ≡ op_of (leaving_want want (leaving_function want.function)) owner sent.lease
        (may_wait mode))
        → (channel_of asking.op).owner ≡ Some owner
    by (inl e) =
        of asking.op (op_of want owner sent.lease (may_wait mode)) e
        (made_by owner want sent.lease (may_wait mode)) is
    by (inr e) =
        of asking.op (op_of left owner sent.lease (may_wait mode)) e
        (made_by owner left sent.lease (may_wait mode)) is

-- a call of the channel's owner about its place
own_call : (q : ChannelOf) (op : Op) → leaves_place q op ≡ true
    → (is_fair q.kind ≡ true) × (q ≡ channel_of op)
own_call q op leaves =
    let own = (and_parts (is_own_call q op) (not (renews_fair op.call)) leaves).0 in
    let parts = and_parts (is_fair q.kind) (same_channel q (channel_of op)) own in
    (parts.0, same_is q (channel_of op) parts.1)

-- who has sent a call that wasn't answered wasn't refused
unblocked : (q : ChannelOf) (client : Client) (thread : ℕ) (asking : Asking)
    → asked_of client thread ≡ Some asking → is_blocked q client thread ≡ false
unblocked q client thread asking = by (waiter_in client thread) (client.replies thread) refl
  where
    by_stage : (function : Function) (stage : Stage) (reply : Option Reply)
        → asked_at stage reply ≡ Some asking → is_blocked_at stage reply function ≡ false
    by_stage function (Asked other) None e = refl
    by_stage function _ reply e = absurd (never asking e)

    and_no : (b : Bool) → (b && false) ≡ false
    and_no true = refl
    and_no false = refl

    by : (found : Option Waiter) (reply : Option Reply) → client.replies thread ≡ reply
        → asked_by found reply ≡ Some asking → blocked_with q client thread found ≡ false
    by None reply e f = refl
    by (Some waiter) reply e f =
        ap
        (λ r. waits_at q client thread waiter
        && is_blocked_at waiter.stage r waiter.want.function) e
        ∙ ap (λ b. waits_at q client thread waiter && b)
        (by_stage waiter.want.function waiter.stage reply f)
        ∙ and_no (waits_at q client thread waiter)

-- no thread of any client was refused on the channel of the owner whose call it is
pub caller-unblocked : (c t : ℕ) (clients : ℕ → Client) (moment : ℕ) (mode : Mode) (want : Want)
    (asking : Asking) → IsClient c
    → IsAsked moment (record { client = client_id c; thread = t }) mode want asking
    → asked_of (clients c) t ≡ Some asking
    → (d : ℕ) → IsClient d → (clients d).session.client ≡ client_id d
    → NobodyIsBlocked (λ q. leaves_place q asking.op) (clients d)
caller-unblocked c t clients moment mode want asking caller sent asked d other id =
    λ q thread own within. by q thread own (is_blocked q (clients d) thread) refl
  where
    by : (q : ChannelOf) (thread : ℕ) → leaves_place q asking.op ≡ true → (b : Bool)
        → is_blocked q (clients d) thread ≡ b → is_blocked q (clients d) thread ≡ false
    by q thread own false e = e
    by q thread own true e =
        let parts = own_call q asking.op own in
        let named : q.owner ≡ Some (record { client = client_id c; thread = t }) =
        ap (λ (o : ChannelOf). o.owner) parts.1
        ∙ sent_by moment (record { client = client_id c; thread = t }) mode want asking sent
        (ap (λ (o : ChannelOf). is_fair o.kind) (sym parts.1) ∙ parts.0) in
        let there = registered_owner q (clients d) thread parts.0
        (blocked_registered q (clients d) thread e) in
        let same = same_Some (owner_in (clients d).session thread)
        (record { client = client_id c; thread = t }) (sym there ∙ named) in
        let one : d ≡ c = one-client d c other caller
        (sym id ∙ ap (λ (o : ThreadOfClient). o.client) same) in
        let turn : thread ≡ t = ap (λ (o : ThreadOfClient). o.thread) same in
        (λ i. is_blocked q (clients (one i)) (turn i))
        ∙ unblocked q (clients c) t asking asked

-- an operator's call isn't any owner's
pub operator-unblocked : (name : List ℕ) (client : Client)
    → NobodyIsBlocked (λ q. leaves_place q (force_of name)) client
operator-unblocked name client q thread own within =
    let parts = own_call q (force_of name) own in
    absurd
    (false≢true (sym (ap (λ (o : ChannelOf). is_fair o.kind) parts.1) ∙ parts.0))

-- A renewal is about no place: that of a fair lock is its owner's own call, and the others are on
-- objects that have no queue.
pub renewal-unblocked : (key : WatchKey) (lease : ℕ) (client : Client)
    → NobodyIsBlocked (λ q. leaves_place q (renewal_op key lease)) client
renewal-unblocked key lease client q thread own within = by key.kind refl
  where
    -- it is on no fair lock
    not_fair : is_fair (call_kind (renewal_op key lease).call) ≡ false
        → is_blocked q client thread ≡ false
    not_fair other =
        let parts = own_call q (renewal_op key lease) own in
        absurd
        (false≢true
        (sym other ∙ ap (λ (o : ChannelOf). is_fair o.kind) (sym parts.1) ∙ parts.0))

    of : (kind : WatchKind) → key.kind ≡ kind
        → is_fair (call_kind (renewal_call kind key.owner lease)) ≡ false
        → is_blocked q client thread ≡ false
    of kind e other =
        not_fair (ap (λ k. is_fair (call_kind (renewal_call k key.owner lease))) e ∙ other)

    by : (kind : WatchKind) → key.kind ≡ kind → is_blocked q client thread ≡ false
    by watched.Fair e =
        absurd
        (false≢true
        (sym (ap (λ k. not (renews_fair (renewal_call k key.owner lease))) e)
        ∙ (and_parts (is_own_call q (renewal_op key lease))
        (not (renews_fair (renewal_op key lease).call)) own).1))
    by watched.Lock e = of watched.Lock e refl
    by watched.Fenced e = of watched.Fenced e refl
    by watched.Read e = of watched.Read e refl
    by watched.Write e = of watched.Write e refl
