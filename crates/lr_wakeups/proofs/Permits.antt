-- Permits stay bounded at each change.
use Rattle.std.proofs.Common.{◌≡◌, refl, sym, ◌∙◌, arith}
use Rattle.lr_names.specs.Channel.{ChannelOf, channel_wakes}
use Rattle.lr_names.specs.declared.kind.Wakes.{Wakes}
use Rattle.lr_names.specs.declared.kind.Wakes.TheVariants.{One, All}
use Rattle.lr_waiting.specs.declared.latch.LatchEntry.{LatchEntry}
use Rattle.lr_waiting.specs.Latch.{leave_more, deliver_to, deliver_in, no_entry}
use Rattle.lr_wakeups.specs.Permits.{IsBounded}
use Rattle.lr_wakeups.proofs.Entries.{kept_or_none, acknowledged_by, delivered_by}
use Rattle.lr_wakeups.proofs.ChannelFacts.{ChannelFact, IsKept}

abbrev pub Fact : ChannelFact
Fact n channel entry orders has outbox = IsBounded channel entry

none_bounded : (c : ChannelOf) → IsBounded c no_entry
none_bounded c = record { few = omega arith; none = λ all. refl }

different : One ≡ All → ⊥
different e = absurd (cc e)

leaves_more : (c : ChannelOf) (e : LatchEntry) → IsBounded c e
    → IsBounded c (leave_more (channel_wakes c.kind) e)
leaves_more c e fact = by (channel_wakes c.kind) refl
  where
    by : (wakes : Wakes) → channel_wakes c.kind ≡ wakes → IsBounded c (leave_more wakes e)
    by One is = record { few = omega arith; none = λ all. absurd (different (sym is ∙ all)) }
    by All is = record { few = omega (arith, fact.none is); none = fact.none }

delivers : (c : ChannelOf) (e : LatchEntry) → IsBounded c e
    → IsBounded c (deliver_in (channel_wakes c.kind) e)
delivers c e fact =
    delivered_by (IsBounded c) (channel_wakes c.kind) e (λ none. fact)
    (λ some. by (channel_wakes c.kind) refl)
  where
    by : (wakes : Wakes) → channel_wakes c.kind ≡ wakes → IsBounded c (deliver_to wakes e)
    by One is = record { few = omega arith; none = λ all. absurd (different (sym is ∙ all)) }
    by All is = record { few = fact.few; none = fact.none }

pub bounded : IsKept Fact
bounded = record {
  at_start = λ n c. none_bounded c;
  later = λ n c e os has box fact. fact;
  registers_first = λ n c e os has box few none fact.
      record { few = omega (arith, none, fact.few); none = fact.none };
  registers_more = λ n c e os has box some fact.
      record { few = omega (arith, fact.few); none = fact.none };
  leaves_last = λ n c e os has box one fact.
      kept_or_none (IsBounded c) (record e { registered = 0; permits = 0 })
      (record { few = omega arith; none = λ all. refl }) (λ none same. none_bounded c);
  leaves_more = λ n c e os has box more fact. leaves_more c e fact;
  takes_permit = λ n c e os has box fact.
      record { few = omega (arith, fact.few); none = λ all. omega (arith, fact.none all) };
  orders_elsewhere = λ n c e os has box subscribe other apart fact. fact;
  sends = λ n c e os has box push other fact. fact;
  drains = λ n c e os has box push other fact. fact;
  acknowledges = λ n c e os has box count few fact.
      acknowledged_by (IsBounded c) e (λ same. fact)
      (record { few = fact.few; none = fact.none }) (λ none last. none_bounded c);
  delivers = λ n c e os has box fact. delivers c e fact;
  subscribes = λ n c e os has box count fact. fact;
  unsubscribes = λ n c e os has box count fact. fact;
  executes_elsewhere = λ n c e os has box subscribe other apart fact. fact;
}
