-- Outstanding acknowledgements stay accounted for at each change.
use Rattle.std.proofs.Common.{◌≡◌, ℕ, suc, ◌+◌, ◌<◌, ◌^◌, List, [], ◌∷◌, ◌++◌, Bool, true, false, refl, ap, ◌∙◌, subst, arith, Some}
use Rattle.lr_names.specs.Channel.{ChannelOf, channel_wakes}
use Rattle.lr_names.specs.declared.kind.Wakes.{Wakes}
use Rattle.lr_names.specs.declared.kind.Wakes.TheVariants.{One, All}
use Rattle.lr_names.specs.declared.post.Push.{Push}
use Rattle.lr_names.specs.declared.post.Push.TheVariants.{Subscribed, Unsubscribed}
use Rattle.lr_waiting.specs.declared.latch.LatchEntry.{LatchEntry}
use Rattle.lr_waiting.specs.declared.latch.Order.{Order}
use Rattle.lr_model.specs.Board.{same_channel}
use Rattle.lr_waiting.specs.Latch.{register_first, leave_last, leave_more, deliver_to, deliver_in, acknowledge_in}
use Rattle.lr_model.proofs.SameChannel.{same_self}
use Rattle.lr_wakeups.specs.Counting.{one_if}
use Rattle.lr_wakeups.specs.Outstanding.{IsAccounted, is_subscribe_on, is_acknowledgement_on, subscribes_waiting, acknowledgements_in_flight}
use Rattle.lr_wakeups.proofs.Counts.{count_of-push}
use Rattle.lr_wakeups.proofs.Entries.{kept_or_none, acknowledged_by, delivered_by}
use Rattle.lr_wakeups.proofs.ChannelFacts.{ChannelFact, IsKept, order_for}

abbrev pub Fact : ChannelFact
Fact n channel entry orders has outbox = IsAccounted n channel entry orders outbox

-- another order at the end
pushed : (channel : ChannelOf) (orders : List Order) (order : Order) (passes : Bool)
    → is_subscribe_on channel order ≡ passes
    → subscribes_waiting channel (orders ++ order ∷ []) ≡ subscribes_waiting channel orders + one_if passes
pushed channel orders order passes e =
    count_of-push (is_subscribe_on channel) orders order
    ∙ ap (λ b. subscribes_waiting channel orders + one_if b) e

-- another item at the end
sent : (channel : ChannelOf) (outbox : List Push) (push : Push) (passes : Bool)
    → is_acknowledgement_on channel push ≡ passes
    → acknowledgements_in_flight channel (outbox ++ push ∷ []) ≡ acknowledgements_in_flight channel outbox + one_if passes
sent channel outbox push passes e =
    count_of-push (is_acknowledgement_on channel) outbox push
    ∙ ap (λ b. acknowledgements_in_flight channel outbox + one_if b) e

registers_first : (n : ℕ) (c : ChannelOf) (e : LatchEntry) (os : List Order) (has : Bool)
    (box : List Push) → suc n < 2 ^ 64 → e.registered ≡ 0 → Fact n c e os has box
    → Fact (suc n) c (register_first e) (os ++ order_for true c ∷ []) has box
registers_first n c e os has box few none fact =
    let more = pushed c os (order_for true c) true (same_self c) in
    record {
      sum = omega (arith, fact.sum, fact.few, few, more);
      few = omega (arith, fact.few, few);
    }

leaves_last : (n : ℕ) (c : ChannelOf) (e : LatchEntry) (os : List Order) (has : Bool)
    (box : List Push) → e.registered ≡ 1 → Fact n c e os has box
    → Fact n c (leave_last e) (os ++ order_for false c ∷ []) has box
leaves_last n c e os has box one fact =
    let more = pushed c os (order_for false c) false refl in
    kept_or_none (λ x. Fact n c x (os ++ order_for false c ∷ []) has box)
    (record e { registered = 0; permits = 0 })
    (record { sum = omega (arith, fact.sum, more); few = fact.few })
    (λ none same. record { sum = omega (arith, fact.sum, more, same); few = omega arith })

leaves_more : (n : ℕ) (c : ChannelOf) (e : LatchEntry) (os : List Order) (has : Bool)
    (box : List Push) → (e.registered ≡ 1 → ⊥) → Fact n c e os has box
    → Fact n c (leave_more (channel_wakes c.kind) e) os has box
leaves_more n c e os has box more fact = by (channel_wakes c.kind)
  where
    by : (wakes : Wakes) → Fact n c (leave_more wakes e) os has box
    by One = record { sum = fact.sum; few = fact.few }
    by All = record { sum = fact.sum; few = fact.few }

orders_elsewhere : (n : ℕ) (c : ChannelOf) (e : LatchEntry) (os : List Order) (has : Bool)
    (box : List Push) (subscribe : Bool) (other : ChannelOf) → same_channel c other ≡ false
    → Fact n c e os has box → Fact n c e (os ++ order_for subscribe other ∷ []) has box
orders_elsewhere n c e os has box subscribe other apart fact =
    let same = pushed c os (order_for subscribe other) false (by subscribe) in
    record { sum = omega (arith, fact.sum, same); few = fact.few }
  where
    by : (b : Bool) → is_subscribe_on c (order_for b other) ≡ false
    by true = apart
    by false = refl

sends : (n : ℕ) (c : ChannelOf) (e : LatchEntry) (os : List Order) (has : Bool) (box : List Push)
    (push : Push) → is_acknowledgement_on c push ≡ false → Fact n c e os has box
    → Fact n c e os has (box ++ push ∷ [])
sends n c e os has box push other fact =
    let same = sent c box push false other in
    record { sum = omega (arith, fact.sum, same); few = fact.few }

drains : (n : ℕ) (c : ChannelOf) (e : LatchEntry) (os : List Order) (has : Bool) (box : List Push)
    (push : Push) → is_acknowledgement_on c push ≡ false → Fact n c e os has (push ∷ box)
    → Fact n c e os has box
drains n c e os has box push other fact =
    let sum : e.sent
    ≡ e.acknowledged + (subscribes_waiting c os + (0 + acknowledgements_in_flight c box)) =
    subst
    (λ b. e.sent
    ≡ e.acknowledged + (subscribes_waiting c os + (one_if b + acknowledgements_in_flight c box)))
    other fact.sum in
    record { sum = omega (arith, sum); few = fact.few }

-- one acknowledgement was on its way
outstanding : (n : ℕ) (c : ChannelOf) (e : LatchEntry) (os : List Order) (box : List Push)
    (count : ℕ) → IsAccounted n c e os (Subscribed c count ∷ box)
    → e.sent ≡ e.acknowledged + (subscribes_waiting c os + (1 + acknowledgements_in_flight c box))
outstanding n c e os box count fact =
    subst
    (λ b. e.sent ≡ e.acknowledged + (subscribes_waiting c os + (one_if b + acknowledgements_in_flight c box)))
    (same_self c) fact.sum

-- so the entry isn't subscribed
pub unacknowledged : (n : ℕ) (c : ChannelOf) (e : LatchEntry) (os : List Order) (box : List Push)
    (count : ℕ) → IsAccounted n c e os (Subscribed c count ∷ box) → e.acknowledged ≡ e.sent → ⊥
unacknowledged n c e os box count fact same =
    omega (arith, outstanding n c e os box count fact, same)

acknowledges : (n : ℕ) (c : ChannelOf) (e : LatchEntry) (os : List Order) (has : Bool)
    (box : List Push) (count : ℕ) → n < 2 ^ 64 → Fact n c e os has (Subscribed c count ∷ box)
    → Fact n c (acknowledge_in e) os has box
acknowledges n c e os has box count few fact =
    let sum = outstanding n c e os box count fact in
    acknowledged_by (λ x. Fact n c x os has box) e
    (λ same. absurd (unacknowledged n c e os box count fact same))
    (record { sum = omega (arith, sum, fact.few, few); few = fact.few })
    (λ none last. record { sum = omega (arith, sum, fact.few, few, last); few = omega arith })

delivers : (n : ℕ) (c : ChannelOf) (e : LatchEntry) (os : List Order) (has : Bool)
    (box : List Push) → Fact n c e os has box
    → Fact n c (deliver_in (channel_wakes c.kind) e) os has box
delivers n c e os has box fact =
    delivered_by (λ x. Fact n c x os has box) (channel_wakes c.kind) e (λ none. fact)
    (λ some. by (channel_wakes c.kind))
  where
    by : (wakes : Wakes) → Fact n c (deliver_to wakes e) os has box
    by One = record { sum = fact.sum; few = fact.few }
    by All = record { sum = fact.sum; few = fact.few }

subscribes : (n : ℕ) (c : ChannelOf) (e : LatchEntry) (os : List Order) (has : Bool)
    (box : List Push) (count : ℕ) → Fact n c e (order_for true c ∷ os) has box
    → Fact n c e os true (box ++ Subscribed c count ∷ [])
subscribes n c e os has box count fact =
    let more = sent c box (Subscribed c count) true (same_self c) in
    let before : e.sent ≡ e.acknowledged + ((1 + subscribes_waiting c os) + acknowledgements_in_flight c box) =
    subst
    (λ b. e.sent ≡ e.acknowledged + ((one_if b + subscribes_waiting c os) + acknowledgements_in_flight c box))
    (same_self c) fact.sum in
    record { sum = omega (arith, before, more); few = fact.few }

unsubscribes : (n : ℕ) (c : ChannelOf) (e : LatchEntry) (os : List Order) (has : Bool)
    (box : List Push) (count : ℕ) → Fact n c e (order_for false c ∷ os) has box
    → Fact n c e os false (box ++ Unsubscribed (Some c) count ∷ [])
unsubscribes n c e os has box count fact =
    let same = sent c box (Unsubscribed (Some c) count) false refl in
    record { sum = omega (arith, fact.sum, same); few = fact.few }

executes_elsewhere : (n : ℕ) (c : ChannelOf) (e : LatchEntry) (os : List Order) (has : Bool)
    (box : List Push) (subscribe : Bool) (other : ChannelOf) → same_channel c other ≡ false
    → Fact n c e (order_for subscribe other ∷ os) has box → Fact n c e os has box
executes_elsewhere n c e os has box subscribe other apart fact = by subscribe fact
  where
    by : (b : Bool) → Fact n c e (order_for b other ∷ os) has box → Fact n c e os has box
    by false before = record { sum = omega (arith, before.sum); few = before.few }
    by true before =
        let sum : e.sent
        ≡ e.acknowledged + ((0 + subscribes_waiting c os) + acknowledgements_in_flight c box) =
        subst
        (λ b. e.sent
        ≡ e.acknowledged + ((one_if b + subscribes_waiting c os) + acknowledgements_in_flight c box))
        apart before.sum in
        record { sum = omega (arith, sum); few = before.few }

pub accounted : IsKept Fact
accounted = record {
  at_start = λ n c. record { sum = refl; few = omega arith };
  later = λ n c e os has box fact. record { sum = fact.sum; few = omega (arith, fact.few) };
  registers_first = registers_first;
  registers_more = λ n c e os has box some fact. record { sum = fact.sum; few = fact.few };
  leaves_last = leaves_last;
  leaves_more = leaves_more;
  takes_permit = λ n c e os has box fact. record { sum = fact.sum; few = fact.few };
  orders_elsewhere = orders_elsewhere;
  sends = sends;
  drains = drains;
  acknowledges = acknowledges;
  delivers = delivers;
  subscribes = subscribes;
  unsubscribes = unsubscribes;
  executes_elsewhere = executes_elsewhere;
}
