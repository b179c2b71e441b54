-- Where a client hears a channel, all is told.
use Rattle.std.proofs.Common.{◌≡◌, ℕ, ◌+◌, ◌==◌, nat_lt, List, [], ◌∷◌, Bool, true, false, ◌&&◌, refl, subst, arith}
use Rattle.std.proofs.lemmas.Bool.{and_parts, eqb-true, false≢true}
use Rattle.lr_names.specs.Channel.{ChannelOf}
use Rattle.lr_names.specs.declared.post.Push.{Push}
use Rattle.lr_waiting.specs.declared.latch.LatchEntry.{LatchEntry}
use Rattle.lr_waiting.specs.declared.latch.Order.{Order}
use Rattle.lr_model.specs.Board.{same_channel}
use Rattle.lr_waiting.specs.Latch.{is_subscribed}
use Rattle.lr_wakeups.specs.Counting.{one_if, count_of}
use Rattle.lr_wakeups.specs.Outstanding.{IsAccounted, subscribes_waiting}
use Rattle.lr_wakeups.specs.Orders.{OrdersMatch, LeadsTo, TurnsOver, is_wanted, is_order_on, IsHeard}

-- what has no subscription isn't led to one without an order to subscribe
no_way : (c : ChannelOf) (os : List Order) → LeadsTo true c os false
    → subscribes_waiting c os ≡ 0 → ⊥
no_way c [] h none = false≢true h
no_way c (o ∷ os) h none =
    by (same_channel c o.channel) o.subscribe h none (no_way c os)
  where
    by : (same subscribe : Bool) → TurnsOver same subscribe false (LeadsTo true c os)
        → one_if (subscribe && same) + subscribes_waiting c os ≡ 0
        → (LeadsTo true c os false → subscribes_waiting c os ≡ 0 → ⊥) → ⊥
    by true true h none rest = absurd (omega (arith, none))
    by true false h none rest = false≢true h.0
    by false true h none rest = rest h (omega (arith, none))
    by false false h none rest = rest h (omega (arith, none))

-- what is led to a subscription without such an order has it, and no order waits at all
stays : (c : ChannelOf) (os : List Order) (has : Bool) → LeadsTo true c os has
    → subscribes_waiting c os ≡ 0 → (count_of (is_order_on c) os ≡ 0) × (has ≡ true)
stays c [] has h none = (refl, h)
stays c (o ∷ os) has h none =
    by (same_channel c o.channel) o.subscribe h none (stays c os has) (no_way c os)
  where
    by : (same subscribe : Bool) → TurnsOver same subscribe has (LeadsTo true c os)
        → one_if (subscribe && same) + subscribes_waiting c os ≡ 0
        → (LeadsTo true c os has → subscribes_waiting c os ≡ 0
        → (count_of (is_order_on c) os ≡ 0) × (has ≡ true))
        → (LeadsTo true c os false → subscribes_waiting c os ≡ 0 → ⊥)
        → (one_if same + count_of (is_order_on c) os ≡ 0) × (has ≡ true)
    by true true h none rest never = absurd (omega (arith, none))
    by true false h none rest never = absurd (never h.1 (omega (arith, none)))
    by false true h none rest never =
        let r = rest h (omega (arith, none)) in (omega (arith, r.0), r.1)
    by false false h none rest never =
        let r = rest h (omega (arith, none)) in (omega (arith, r.0), r.1)

-- an entry that is subscribed: all was acknowledged, and the channel is wanted
pub subscribed_parts : (entry : LatchEntry) → is_subscribed entry ≡ true
    → (is_wanted entry ≡ true) × (entry.acknowledged ≡ entry.sent)
subscribed_parts entry heard =
    let parts = and_parts (nat_lt 0 entry.registered) (entry.acknowledged == entry.sent) heard in
    (parts.0, eqb-true entry.acknowledged entry.sent parts.1)

pub is_heard : (n : ℕ) (c : ChannelOf) (entry : LatchEntry) (os : List Order) (has : Bool)
    (box : List Push) → IsAccounted n c entry os box → OrdersMatch c entry os has
    → is_subscribed entry ≡ true → IsHeard c os has box
is_heard n c entry os has box accounted matched heard =
    let parts = subscribed_parts entry heard in
    let all = stays c os has (subst (λ b. LeadsTo b c os has) parts.0 matched.leads)
    (omega (arith, accounted.sum, parts.1)) in
    record {
      ordered = all.0;
      acknowledged = omega (arith, accounted.sum, parts.1);
      subscribed = all.1;
    }
