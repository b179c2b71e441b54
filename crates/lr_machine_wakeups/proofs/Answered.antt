-- A reply that refuses a call, where a message wakes all, leaves its thread waiting.
use Rattle.std.proofs.Common.{◌≡◌, ℕ, ◌≤◌, List, false, Some, sym, ap, ◌∙◌, subst}
use Rattle.lr_names.specs.Channel.{channel_wakes}
use Rattle.lr_names.specs.Owner.{ThreadOfClient}
use Rattle.lr_names.specs.declared.kind.Kind.TheVariants.{Rw}
use Rattle.lr_names.specs.declared.kind.Wakes.TheVariants.{All}
use Rattle.lr_objects.specs.Kinds.{call_of, call_kind}
use Rattle.lr_objects.specs.Op.{queued_by}
use Rattle.lr_objects.specs.Want.{op_of}
use Rattle.lr_model.specs.Answer.{reply_of}
use Rattle.lr_model.specs.ReadWrite.{live_holds, last_deadline}
use Rattle.lr_waiting.specs.declared.waiter.Asking.{Asking}
use Rattle.lr_waiting.specs.declared.waiter.Waiter.{Waiter}
use Rattle.lr_waiting.specs.Client.{Client, waiter_in, asked_by, asked_of}
use Rattle.lr_waiting.specs.Peak.{peak_after}
use Rattle.lr_waiting.specs.Session.{channel_for, owner_in, may_wait}
use Rattle.lr_wakeups.specs.Reached.{IsLeftWaiting}
use Rattle.lr_machine.specs.Sound.{IsInOrder}
use Rattle.lr_machine.specs.World.{World, first_state, state_of}
use Rattle.lr_machine_wakeups.specs.WorldFacts.{is_shared, peak_for, IsAsked, AskedWith}
use Rattle.lr_machine_wakeups.proofs.Answers.{asked-is}
use Rattle.lr_machine_wakeups.proofs.Deadlines.{below-history}
use Rattle.lr_machine_wakeups.proofs.FairAnswers.{turn_of}
use Rattle.lr_machine_wakeups.proofs.Shared.{stays-all, own-op}
use Rattle.lr_machine_wakeups.proofs.Waits.{reply-left_waiting}

pub answered-waiting : (world : World) (client : Client) (id : List ℕ) (thread : ℕ)
    (asking : Asking) → client.session.client ≡ id → IsInOrder world
    → AskedWith world.moment (record { client = id; thread = thread }) (waiter_in client thread)
    → asked_of client thread ≡ Some asking
    → (waiter : Waiter) → waiter_in client thread ≡ Some waiter
    → IsLeftWaiting (turn_of world asking.op) (owner_in client.session thread) waiter.want
    asking.at (reply_of (state_of world).objects world.moment asking.op)
answered-waiting world client id thread asking mine order asked sent waiter was = record {
  waits = λ all blocked.
      (left_so all).waits all blocked;
}
  where
    own : ThreadOfClient
    own = record { client = id; thread = thread }

    asks : IsAsked world.moment (record { client = id; thread = thread }) waiter.mode waiter.want
        asking
    asks =
        asked-is world.moment (record { client = id; thread = thread }) waiter
        (client.replies thread) asking
        (subst (AskedWith world.moment (record { client = id; thread = thread })) was asked)
        (ap (λ found. asked_by found (client.replies thread)) (sym was) ∙ sent)

    is_own : channel_wakes (channel_for (owner_in client.session thread) waiter.want).kind ≡ All
        → asking.op
        ≡ op_of waiter.want (record { client = id; thread = thread }) asks.lease
        (may_wait waiter.mode)
    is_own all =
        own-op waiter.want (record { client = id; thread = thread }) asks.lease
        (may_wait waiter.mode) asking.op
        (stays-all (owner_in client.session thread) waiter.want all) asks.op

    left : IsLeftWaiting (turn_of world asking.op) (owner_in client.session thread) waiter.want
        asking.at
        (reply_of (state_of world).objects world.moment
        (op_of waiter.want (record { client = id; thread = thread }) asks.lease
        (may_wait waiter.mode)))
    left =
        reply-left_waiting (turn_of world asking.op) (owner_in client.session thread)
        (record { client = id; thread = thread }) waiter.want asking.at asks.lease
        (may_wait waiter.mode) asks.past
        (λ f is.
        subst
        (λ g. last_deadline
        (live_holds world.moment ((state_of world).objects.read_write_locks waiter.want.name))
        ≤ peak_for
        (is_shared
        (record {
          kind = call_kind
              (call_of g waiter.want (owner_in client.session thread) 0 false);
          name = waiter.want.name;
          owner = queued_by
              (call_of g waiter.want (owner_in client.session thread) 0 false);
        }))
        (peak_after
        (call_kind (call_of g waiter.want (owner_in client.session thread) 0 false))
        waiter.want.name first_state world.entries 0))
        (sym is)
        (below-history world.entries Rw waiter.want.name order.legal world.moment order.in_time))

    left_so : channel_wakes (channel_for (owner_in client.session thread) waiter.want).kind ≡ All
        → IsLeftWaiting (turn_of world asking.op) (owner_in client.session thread) waiter.want
        asking.at (reply_of (state_of world).objects world.moment asking.op)
    left_so all =
        subst
        (λ op. IsLeftWaiting (turn_of world asking.op) (owner_in client.session thread)
        waiter.want asking.at (reply_of (state_of world).objects world.moment op))
        (sym (is_own all)) left
