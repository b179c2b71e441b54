-- Orders stay matched to what is registered at each change.
use Rattle.std.proofs.Common.{◌≡◌, ℕ, suc, ◌+◌, ◌-◌, ◌<◌, ◌^◌, nat_lt, List, [], ◌∷◌, ◌++◌, Bool, true, false, not, refl, ap, sym, subst, arith}
use Rattle.std.proofs.lemmas.Bool.Decides.{nat_tests}
use Rattle.std.proofs.lemmas.Bool.{lt-ltb, le-ltb}
use Rattle.lr_names.specs.Channel.{ChannelOf, channel_wakes}
use Rattle.lr_names.specs.declared.kind.Wakes.{Wakes}
use Rattle.lr_names.specs.declared.kind.Wakes.TheVariants.{One, All}
use Rattle.lr_names.specs.declared.post.Push.{Push}
use Rattle.lr_names.specs.declared.post.Push.TheVariants.{Subscribed}
use Rattle.lr_waiting.specs.declared.latch.LatchEntry.{LatchEntry}
use Rattle.lr_waiting.specs.declared.latch.Order.{Order}
use Rattle.lr_model.specs.Board.{same_channel}
use Rattle.lr_waiting.specs.Latch.{register_first, register_more, leave_last, leave_more, deliver_to, deliver_in, acknowledge_in}
use Rattle.lr_model.proofs.SameChannel.{same_self}
use Rattle.lr_wakeups.specs.Orders.{OrdersMatch, LeadsTo, TurnsOver, is_wanted}
use Rattle.lr_wakeups.proofs.Entries.{kept_or_none, acknowledged_by, delivered_by}
use Rattle.lr_wakeups.proofs.ChannelFacts.{ChannelFact, IsKept, order_for}

abbrev pub Fact : ChannelFact
Fact n channel entry orders has outbox = OrdersMatch channel entry orders has

-- what follows after the orders behind the first
turned : (P Q : Bool → Type 0) → ((b : Bool) → P b → Q b) → (same subscribe has : Bool)
    → TurnsOver same subscribe has P → TurnsOver same subscribe has Q
turned P Q more true subscribe has h = (h.0, more subscribe h.1)
turned P Q more false subscribe has h = more has h

-- one more order of the channel, to what wasn't wanted before
leads_on : (wanted : Bool) (c : ChannelOf) (os : List Order) (has : Bool) → LeadsTo wanted c os has
    → LeadsTo (not wanted) c (os ++ order_for (not wanted) c ∷ []) has
leads_on wanted c [] has h =
    subst (λ b. TurnsOver b (not wanted) has (λ now. now ≡ not wanted)) (sym (same_self c))
    (ap not (sym h), refl)
leads_on wanted c (o ∷ os) has h =
    turned (LeadsTo wanted c os) (LeadsTo (not wanted) c (os ++ order_for (not wanted) c ∷ []))
    (λ now. leads_on wanted c os now) (same_channel c o.channel) o.subscribe has h

-- and one of another channel
leads_past : (wanted : Bool) (c : ChannelOf) (os : List Order) (has : Bool) (subscribe : Bool)
    (other : ChannelOf) → same_channel c other ≡ false → LeadsTo wanted c os has
    → LeadsTo wanted c (os ++ order_for subscribe other ∷ []) has
leads_past wanted c [] has subscribe other apart h =
    subst (λ b. TurnsOver b subscribe has (λ now. now ≡ wanted)) (sym apart) h
leads_past wanted c (o ∷ os) has subscribe other apart h =
    turned (LeadsTo wanted c os) (LeadsTo wanted c (os ++ order_for subscribe other ∷ []))
    (λ now. leads_past wanted c os now subscribe other apart)
    (same_channel c o.channel) o.subscribe has h

-- a change by which as much is wanted as before
same_wanted : (c : ChannelOf) (e f : LatchEntry) (os : List Order) (has : Bool)
    → is_wanted f ≡ is_wanted e → OrdersMatch c e os has → OrdersMatch c f os has
same_wanted c e f os has same fact =
    record { leads = subst (λ b. LeadsTo b c os has) (sym same) fact.leads }

registers_first : (n : ℕ) (c : ChannelOf) (e : LatchEntry) (os : List Order) (has : Bool)
    (box : List Push) → suc n < 2 ^ 64 → e.registered ≡ 0 → Fact n c e os has box
    → Fact (suc n) c (register_first e) (os ++ order_for true c ∷ []) has box
registers_first n c e os has box few none fact = record {
  leads = leads_on false c os has
      (subst (λ b. LeadsTo b c os has) (le-ltb 0 e.registered (omega (arith, none))) fact.leads);
}

leaves_last : (n : ℕ) (c : ChannelOf) (e : LatchEntry) (os : List Order) (has : Bool)
    (box : List Push) → e.registered ≡ 1 → Fact n c e os has box
    → Fact n c (leave_last e) (os ++ order_for false c ∷ []) has box
leaves_last n c e os has box one fact =
    kept_or_none (λ x. Fact n c x (os ++ order_for false c ∷ []) has box)
    (record e { registered = 0; permits = 0 }) (record { leads = left })
    (λ none same. record { leads = left })
  where
    left : LeadsTo false c (os ++ order_for false c ∷ []) has
    left = leads_on true c os has
        (subst (λ b. LeadsTo b c os has) (lt-ltb 0 e.registered (omega (arith, one))) fact.leads)

still_wanted : (r : ℕ) → (r ≡ 1 → ⊥) → nat_lt 0 (r - 1) ≡ nat_lt 0 r
still_wanted r more = grind (arith, nat_tests)

more_wanted : (r : ℕ) → (r ≡ 0 → ⊥) → nat_lt 0 (r + 1) ≡ nat_lt 0 r
more_wanted r some = grind (arith, nat_tests)

leaves_more : (n : ℕ) (c : ChannelOf) (e : LatchEntry) (os : List Order) (has : Bool)
    (box : List Push) → (e.registered ≡ 1 → ⊥) → Fact n c e os has box
    → Fact n c (leave_more (channel_wakes c.kind) e) os has box
leaves_more n c e os has box more fact =
    same_wanted c e (leave_more (channel_wakes c.kind) e) os has (by (channel_wakes c.kind)) fact
  where
    by : (wakes : Wakes) → is_wanted (leave_more wakes e) ≡ is_wanted e
    by One = still_wanted e.registered more
    by All = still_wanted e.registered more

acknowledges : (n : ℕ) (c : ChannelOf) (e : LatchEntry) (os : List Order) (has : Bool)
    (box : List Push) (count : ℕ) → n < 2 ^ 64 → Fact n c e os has (Subscribed c count ∷ box)
    → Fact n c (acknowledge_in e) os has box
acknowledges n c e os has box count few fact =
    same_wanted c e (acknowledge_in e) os has
    (acknowledged_by (λ x. is_wanted x ≡ is_wanted e) e (λ same. refl) refl
    (λ none last. sym none)) fact

delivers : (n : ℕ) (c : ChannelOf) (e : LatchEntry) (os : List Order) (has : Bool)
    (box : List Push) → Fact n c e os has box
    → Fact n c (deliver_in (channel_wakes c.kind) e) os has box
delivers n c e os has box fact =
    same_wanted c e (deliver_in (channel_wakes c.kind) e) os has
    (delivered_by (λ x. is_wanted x ≡ is_wanted e) (channel_wakes c.kind) e (λ none. refl)
    (λ some. by (channel_wakes c.kind))) fact
  where
    by : (wakes : Wakes) → is_wanted (deliver_to wakes e) ≡ is_wanted e
    by One = refl
    by All = refl

-- the first order is executed
executed : (wanted : Bool) (c : ChannelOf) (os : List Order) (has subscribe : Bool)
    → LeadsTo wanted c (order_for subscribe c ∷ os) has → LeadsTo wanted c os subscribe
executed wanted c os has subscribe h =
    let turns : TurnsOver true subscribe has (LeadsTo wanted c os) =
    subst (λ b. TurnsOver b subscribe has (LeadsTo wanted c os)) (same_self c) h in turns.1

pub matched : IsKept Fact
matched = record {
  at_start = λ n c. record { leads = refl };
  later = λ n c e os has box fact. fact;
  registers_first = registers_first;
  registers_more = λ n c e os has box some fact.
      same_wanted c e (register_more e) os has (more_wanted e.registered some) fact;
  leaves_last = leaves_last;
  leaves_more = leaves_more;
  takes_permit = λ n c e os has box fact. record { leads = fact.leads };
  orders_elsewhere = λ n c e os has box subscribe other apart fact.
      record { leads = leads_past (is_wanted e) c os has subscribe other apart fact.leads };
  sends = λ n c e os has box push other fact. fact;
  drains = λ n c e os has box push other fact. fact;
  acknowledges = acknowledges;
  delivers = delivers;
  subscribes = λ n c e os has box count fact.
      record { leads = executed (is_wanted e) c os has true fact.leads };
  unsubscribes = λ n c e os has box count fact.
      record { leads = executed (is_wanted e) c os has false fact.leads };
  executes_elsewhere = λ n c e os has box subscribe other apart fact.
      record {
        leads = subst (λ b. TurnsOver b subscribe has (LeadsTo (is_wanted e) c os)) apart
            fact.leads;
      };
}
