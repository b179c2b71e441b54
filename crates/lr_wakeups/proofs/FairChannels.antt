-- On the channel of a fair lock only its owner waits.
use Rattle.std.proofs.Common.{◌≡◌, ℕ, true, false, Option, Some, None, is_some, refl, ap, sym, ◌∙◌}
use Rattle.std.proofs.lemmas.Bool.{and_parts, false≢true}
use Rattle.std.proofs.lemmas.Option.{same_Some}
use Rattle.lr_names.specs.Channel.{ChannelOf, channel_wakes, is_fair}
use Rattle.lr_names.specs.Owner.{ThreadOfClient}
use Rattle.lr_names.specs.declared.kind.Kind.{Kind}
use Rattle.lr_names.specs.declared.kind.Kind.TheVariants.{Mutex, Fair, Fenced}
use Rattle.lr_names.specs.declared.kind.Wakes.TheVariants.{One}
use Rattle.lr_objects.specs.FairCalls.{fair_owner, fair_call_of}
use Rattle.lr_objects.specs.Kinds.{call_of, call_kind}
use Rattle.lr_objects.specs.Op.{queued_by}
use Rattle.lr_objects.specs.declared.fair.FairFunction.{FairFunction}
use Rattle.lr_objects.specs.declared.fair.FairFunction.TheVariants as fair
use Rattle.lr_objects.specs.declared.kinds.Function.{Function}
use Rattle.lr_objects.specs.declared.kinds.Function.TheVariants as functions
use Rattle.lr_objects.specs.declared.want.Want.{Want}
use Rattle.lr_waiting.specs.declared.waiter.Waiter.{Waiter}
use Rattle.lr_model.specs.Board.{same_channel}
use Rattle.lr_model.proofs.SameChannel.{same_is}
use Rattle.lr_waiting.specs.Client.{Client, waiter_in}
use Rattle.lr_waiting.specs.Session.{channel_for, channel_in, owner_in, leaving_function}
use Rattle.lr_wakeups.specs.Registered.{registered_with, is_registered}
use Rattle.lr_wakeups.specs.Standing.{wakes_one_of_many}

-- a message that wakes one of many wakes one
pub wakes_one : (kind : Kind) → wakes_one_of_many kind ≡ true → channel_wakes kind ≡ One
wakes_one Mutex many = refl
wakes_one Fenced many = refl
wakes_one _ many = absurd (false≢true many)

-- and so does that of a fair lock
pub fair_wakes_one : (kind : Kind) → is_fair kind ≡ true → channel_wakes kind ≡ One
fair_wakes_one Fair fair = refl
fair_wakes_one _ fair = absurd (false≢true fair)

-- a place is given up in the queue of a fair lock
pub leaves_fair : (owner : ThreadOfClient) (want : Want)
    → is_some (leaving_function want.function) ≡ true
    → wakes_one_of_many (channel_for owner want).kind ≡ false
leaves_fair owner want = by want.function
  where
    by : (function : Function) → is_some (leaving_function function) ≡ true
        → wakes_one_of_many (call_kind (call_of function want owner 0 false)) ≡ false
    by (functions.Fair f) leaves = refl
    by _ leaves = absurd (false≢true leaves)

-- the channel of a request for a fair lock names the owner
pub names_owner : (owner : ThreadOfClient) (want : Want)
    → is_fair (channel_for owner want).kind ≡ true
    → (channel_for owner want).owner ≡ Some owner
names_owner owner want = by want.function
  where
    of_call : (f : FairFunction) → Some (fair_owner (fair_call_of f owner 0 false)) ≡ Some owner
    of_call fair.Try = refl
    of_call fair.Unlock = refl
    of_call fair.Leave = refl
    of_call fair.Renew = refl

    by : (function : Function)
        → is_fair (call_kind (call_of function want owner 0 false)) ≡ true
        → queued_by (call_of function want owner 0 false) ≡ Some owner
    by (functions.Fair f) fair = of_call f
    by (functions.Lock f) fair = absurd (false≢true fair)
    by (functions.Fenced f) fair = absurd (false≢true fair)
    by (functions.ReadWrite f) fair = absurd (false≢true fair)
    by (functions.Semaphore f) fair = absurd (false≢true fair)
    by (functions.Permits f) fair = absurd (false≢true fair)
    by (functions.Countdown f) fair = absurd (false≢true fair)

-- who is registered there is the owner
pub registered_owner : (q : ChannelOf) (client : Client) (thread : ℕ) → is_fair q.kind ≡ true
    → is_registered q client thread ≡ true → q.owner ≡ Some (owner_in client.session thread)
registered_owner q client thread fair = by (waiter_in client thread)
  where
    by : (found : Option Waiter) → registered_with q client thread found ≡ true
        → q.owner ≡ Some (owner_in client.session thread)
    by None there = absurd (false≢true there)
    by (Some waiter) there =
        let parts = and_parts waiter.registered
        (same_channel q (channel_in client.session thread waiter)) there in
        let own : q ≡ channel_in client.session thread waiter =
        same_is q (channel_in client.session thread waiter) parts.1 in
        ap (λ (c : ChannelOf). c.owner) own
        ∙ names_owner (owner_in client.session thread) waiter.want
        (ap (λ (c : ChannelOf). is_fair c.kind) (sym own) ∙ fair)

-- so two threads that are registered there are one
pub one_waits : (q : ChannelOf) (client : Client) (thread other : ℕ) → is_fair q.kind ≡ true
    → is_registered q client thread ≡ true → is_registered q client other ≡ true
    → other ≡ thread
one_waits q client thread other fair here there =
    ap (λ (o : ThreadOfClient). o.thread)
    (same_Some (owner_in client.session other) (owner_in client.session thread)
    (sym (registered_owner q client other fair there)
    ∙ registered_owner q client thread fair here))
