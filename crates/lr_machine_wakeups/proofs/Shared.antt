-- Which channels are shared, and what a call that was sent is where they are.
use Rattle.std.proofs.Common.{◌≡◌, ℕ, Bool, true, false, None, refl, ap, ◌∙◌, ◌⊎◌, inl, inr}
use Rattle.std.proofs.lemmas.Bool.{false≢true}
use Rattle.lr_names.specs.Channel.{ChannelOf, channel_wakes}
use Rattle.lr_names.specs.Owner.{ThreadOfClient}
use Rattle.lr_names.specs.declared.kind.Wakes.TheVariants.{All}
use Rattle.lr_objects.specs.Kinds.{call_of, call_kind}
use Rattle.lr_objects.specs.Op.{queued_by}
use Rattle.lr_objects.specs.Want.{op_of}
use Rattle.lr_objects.specs.declared.kinds.Function.{Function}
use Rattle.lr_objects.specs.declared.kinds.Function.TheVariants as functions
use Rattle.lr_objects.specs.declared.op.Op.{Op}
use Rattle.lr_objects.specs.declared.want.Want.{Want}
use Rattle.lr_waiting.specs.Session.{channel_for, leaving_function, leaving_want}
use Rattle.lr_wakeups.specs.Standing.{wakes_one_of_many}
use Rattle.lr_machine_wakeups.specs.WorldFacts.{is_shared}

-- the channel of a function
abbrev channel_by : Want → ThreadOfClient → Function → ChannelOf
channel_by want owner function = record {
  kind = call_kind (call_of function want owner 0 false);
  name = want.name;
  owner = queued_by (call_of function want owner 0 false);
}

-- one where a message wakes one of many, or all, is shared, and nobody there has a place to give up
pub shared-many : (owner : ThreadOfClient) (want : Want)
    → wakes_one_of_many (channel_for owner want).kind ≡ true
    → is_shared (channel_for owner want) ≡ true
shared-many owner want = by want.function
  where
    by : (f : Function) → wakes_one_of_many (call_kind (call_of f want owner 0 false)) ≡ true
        → is_shared (channel_by want owner f) ≡ true
    by (functions.Lock f) many = refl
    by (functions.Fenced f) many = refl
    by (functions.Fair f) many = absurd (false≢true many)
    by (functions.ReadWrite f) many = absurd (false≢true many)
    by (functions.Semaphore f) many = absurd (false≢true many)
    by (functions.Permits f) many = absurd (false≢true many)
    by (functions.Countdown f) many = absurd (false≢true many)

pub shared-all : (owner : ThreadOfClient) (want : Want)
    → channel_wakes (channel_for owner want).kind ≡ All
    → is_shared (channel_for owner want) ≡ true
shared-all owner want = by want.function
  where
    by : (f : Function) → channel_wakes (call_kind (call_of f want owner 0 false)) ≡ All
        → is_shared (channel_by want owner f) ≡ true
    by (functions.Lock f) all = absurd (cc all)
    by (functions.Fenced f) all = absurd (cc all)
    by (functions.Fair f) all = absurd (cc all)
    by (functions.ReadWrite f) all = refl
    by (functions.Semaphore f) all = refl
    by (functions.Permits f) all = refl
    by (functions.Countdown f) all = refl

pub stays-many : (owner : ThreadOfClient) (want : Want)
    → wakes_one_of_many (channel_for owner want).kind ≡ true
    → leaving_function want.function ≡ None
stays-many owner want = by want.function
  where
    by : (f : Function) → wakes_one_of_many (call_kind (call_of f want owner 0 false)) ≡ true
        → leaving_function f ≡ None
    by (functions.Fair f) many = absurd (false≢true many)
    by _ many = refl

pub stays-all : (owner : ThreadOfClient) (want : Want)
    → channel_wakes (channel_for owner want).kind ≡ All
    → leaving_function want.function ≡ None
stays-all owner want = by want.function
  where
    by : (f : Function) → channel_wakes (call_kind (call_of f want owner 0 false)) ≡ All
        → leaving_function f ≡ None
    by (functions.Fair f) all = absurd (cc all)
    by _ all = refl

-- so a call that was sent there is that of its request
pub own-op : (want : Want) (owner : ThreadOfClient) (lease : ℕ) (queue : Bool) (op : Op)
    → leaving_function want.function ≡ None
    → (op ≡ op_of want owner lease queue)
    ⊎ (op ≡ op_of (leaving_want want (leaving_function want.function)) owner lease queue)
    → op ≡ op_of want owner lease queue
own-op want owner lease queue op stays (inl own) = own
own-op want owner lease queue op stays (inr leaving) =
    leaving ∙ ap (λ found. op_of (leaving_want want found) owner lease queue) stays
