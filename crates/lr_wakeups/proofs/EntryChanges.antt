-- A change of one entry: every other entry stays.
use Rattle.std.proofs.Common.{◌≡◌, ℕ, ◌+◌, ◌-◌, ◌<◌, ◌≤◌, ◌==◌, nat_lt, Bool, true, false, ◌&&◌, refl, ap, sym, ◌∙◌, subst, arith, if◌then◌else◌}
use Rattle.std.proofs.lemmas.Bool.{eqb-true}
use Rattle.std.proofs.lemmas.Bool.Decides.{nat_tests}
use Rattle.lr_names.specs.Channel.{ChannelOf, channel_wakes}
use Rattle.lr_names.specs.declared.kind.Wakes.{Wakes}
use Rattle.lr_names.specs.declared.kind.Wakes.TheVariants.{One, All}
use Rattle.lr_waiting.specs.declared.latch.LatchEntry.{LatchEntry}
use Rattle.lr_model.specs.Board.{same_channel}
use Rattle.lr_waiting.specs.Latch.{Latches, is_subscribed, register_first, register_more, register_in, register_at, leave_last, leave_more, leave_in, leave_at, deliver_to, deliver_in, acknowledge_in, with_entry, with_order}
use Rattle.lr_model.specs.Table.{put}
use Rattle.lr_model.proofs.SameChannel.{same_is, same_self, same_symm}
use Rattle.lr_wakeups.proofs.Entries.{kept_or_none, acknowledged_by, delivered_by}

-- afterwards this entry stands at a channel
pub record ChangesEntry (channel : ChannelOf) (entry : LatchEntry)
    (before after : ChannelOf → LatchEntry) : Type 0 where
  pub here : after channel ≡ entry
  pub there : (q : ChannelOf) → same_channel q channel ≡ false → after q ≡ before q

pub entry_put : (channel : ChannelOf) (entry : LatchEntry) (before : ChannelOf → LatchEntry)
    → ChangesEntry channel entry before (put same_channel before channel entry)
entry_put channel entry before = record {
  here = ap (λ b. if b then entry else before channel) (same_self channel);
  there = λ q apart.
      ap (λ b. if b then entry else before q) (same_symm channel q ∙ apart);
}

pub entry_registered : (channel : ChannelOf) (latches : Latches)
    → ChangesEntry channel (register_in (latches.entries channel)) latches.entries
    (register_at channel latches).entries
entry_registered channel latches = by ((latches.entries channel).registered == 0)
  where
    by : (first : Bool)
        → ChangesEntry channel (register_in (latches.entries channel)) latches.entries
        (if first
        then with_order true channel
        (with_entry channel (register_in (latches.entries channel)) latches)
        else with_entry channel (register_in (latches.entries channel)) latches).entries
    by true = entry_put channel (register_in (latches.entries channel)) latches.entries
    by false = entry_put channel (register_in (latches.entries channel)) latches.entries

pub entry_left : (channel : ChannelOf) (latches : Latches)
    → ChangesEntry channel (leave_in (channel_wakes channel.kind) (latches.entries channel))
    latches.entries (leave_at channel latches).entries
entry_left channel latches = by ((latches.entries channel).registered == 1)
  where
    entry : LatchEntry
    entry = leave_in (channel_wakes channel.kind) (latches.entries channel)

    by : (last : Bool)
        → ChangesEntry channel (leave_in (channel_wakes channel.kind) (latches.entries channel))
        latches.entries
        (if last
        then with_order false channel
        (with_entry channel
        (leave_in (channel_wakes channel.kind) (latches.entries channel)) latches)
        else with_entry channel
        (leave_in (channel_wakes channel.kind) (latches.entries channel)) latches).entries
    by true =
        entry_put channel (leave_in (channel_wakes channel.kind) (latches.entries channel))
        latches.entries
    by false =
        entry_put channel (leave_in (channel_wakes channel.kind) (latches.entries channel))
        latches.entries

-- what is so at the channel and at every other
pub by_channel : (P : ChannelOf → LatchEntry → Type 0) (channel : ChannelOf) (entry : LatchEntry)
    (before after : ChannelOf → LatchEntry) → ChangesEntry channel entry before after
    → P channel entry → ((q : ChannelOf) → same_channel q channel ≡ false → P q (before q))
    → (q : ChannelOf) → P q (after q)
by_channel P channel entry before after changes here there q = by (same_channel q channel) refl
  where
    by : (same : Bool) → same_channel q channel ≡ same → P q (after q)
    by true e =
        subst (λ c. P c (after c)) (sym (same_is q channel e))
        (subst (P channel) (sym changes.here) here)
    by false e = subst (P q) (sym (changes.there q e)) (there q e)

-- What the changes make of the numbers.

pub registered_in : (entry : LatchEntry) → (register_in entry).registered ≡ entry.registered + 1
registered_in entry = by (entry.registered == 0) refl
  where
    by : (first : Bool) → (entry.registered == 0) ≡ first
        → (if first then register_first entry else register_more entry).registered
        ≡ entry.registered + 1
    by true e = omega (arith, eqb-true entry.registered 0 e)
    by false e = refl

pub permits_registered : (entry : LatchEntry) → (register_in entry).permits ≡ entry.permits
permits_registered entry = by (entry.registered == 0)
  where
    by : (first : Bool)
        → (if first then register_first entry else register_more entry).permits ≡ entry.permits
    by true = refl
    by false = refl

-- where threads wait already, one more changes nothing of whether the client hears the channel
pub heard_registered : (entry : LatchEntry) → 1 ≤ entry.registered
    → is_subscribed (register_in entry) ≡ is_subscribed entry
heard_registered entry some = by (entry.registered == 0) refl
  where
    wanted : (r : ℕ) → 1 ≤ r → nat_lt 0 (r + 1) ≡ nat_lt 0 r
    wanted r more = grind (arith, nat_tests)

    by : (first : Bool) → (entry.registered == 0) ≡ first
        → is_subscribed (if first then register_first entry else register_more entry)
        ≡ is_subscribed entry
    by true e = absurd (omega (arith, eqb-true entry.registered 0 e, some))
    by false e = ap (λ b. b && (entry.acknowledged == entry.sent)) (wanted entry.registered some)

pub registered_left : (wakes : Wakes) (entry : LatchEntry)
    → (leave_in wakes entry).registered ≡ entry.registered - 1
registered_left wakes entry = by (entry.registered == 1) refl
  where
    fewer : (w : Wakes) → (leave_more w entry).registered ≡ entry.registered - 1
    fewer One = refl
    fewer All = refl

    by : (last : Bool) → (entry.registered == 1) ≡ last
        → (if last then leave_last entry else leave_more wakes entry).registered
        ≡ entry.registered - 1
    by true e =
        kept_or_none (λ x. x.registered ≡ entry.registered - 1)
        (record entry { registered = 0; permits = 0 })
        (omega (arith, eqb-true entry.registered 1 e))
        (λ none same. omega (arith, eqb-true entry.registered 1 e))
    by false e = fewer wakes

-- where one of many leaves, nothing changes of whether the client hears the channel
pub heard_left : (wakes : Wakes) (entry : LatchEntry) → 2 ≤ entry.registered
    → is_subscribed (leave_in wakes entry) ≡ is_subscribed entry
heard_left wakes entry many = by (entry.registered == 1) refl
  where
    wanted : (r : ℕ) → 2 ≤ r → nat_lt 0 (r - 1) ≡ nat_lt 0 r
    wanted r more = grind (arith, nat_tests)

    fewer : (w : Wakes) → is_subscribed (leave_more w entry) ≡ is_subscribed entry
    fewer One =
        ap (λ b. b && (entry.acknowledged == entry.sent)) (wanted entry.registered many)
    fewer All =
        ap (λ b. b && (entry.acknowledged == entry.sent)) (wanted entry.registered many)

    by : (last : Bool) → (entry.registered == 1) ≡ last
        → is_subscribed (if last then leave_last entry else leave_more wakes entry)
        ≡ is_subscribed entry
    by true e = absurd (omega (arith, eqb-true entry.registered 1 e, many))
    by false e = fewer wakes

-- and where a message wakes one, there is a permit then
pub permit_left : (entry : LatchEntry) → 2 ≤ entry.registered
    → 0 < (leave_in One entry).permits
permit_left entry many = by (entry.registered == 1) refl
  where
    by : (last : Bool) → (entry.registered == 1) ≡ last
        → 0 < (if last then leave_last entry else leave_more One entry).permits
    by true e = absurd (omega (arith, eqb-true entry.registered 1 e, many))
    by false e = omega (arith, many)

pub registered_acknowledged : (entry : LatchEntry)
    → (acknowledge_in entry).registered ≡ entry.registered
registered_acknowledged entry =
    acknowledged_by (λ x. x.registered ≡ entry.registered) entry (λ same. refl) refl
    (λ none last. zero_of entry.registered none)
  where
    zero_of : (r : ℕ) → nat_lt 0 r ≡ false → 0 ≡ r
    zero_of r none = grind (arith, nat_tests)

-- permits that are bounded aren't lost by an acknowledgement
pub permits_acknowledged : (entry : LatchEntry) → entry.permits ≤ entry.registered
    → 0 < entry.permits → 0 < (acknowledge_in entry).permits
permits_acknowledged entry few some =
    acknowledged_by (λ x. 0 < x.permits) entry (λ same. some) some
    (λ none last. absurd (zero_of entry.registered none (omega (arith, few, some))))
  where
    zero_of : (r : ℕ) → nat_lt 0 r ≡ false → 0 < r → ⊥
    zero_of r none more = grind (arith, nat_tests)

pub registered_delivered : (wakes : Wakes) (entry : LatchEntry)
    → (deliver_in wakes entry).registered ≡ entry.registered
registered_delivered wakes entry =
    delivered_by (λ x. x.registered ≡ entry.registered) wakes entry (λ none. refl) (λ some. by wakes)
  where
    by : (w : Wakes) → (deliver_to w entry).registered ≡ entry.registered
    by One = refl
    by All = refl

pub heard_delivered : (wakes : Wakes) (entry : LatchEntry)
    → is_subscribed (deliver_in wakes entry) ≡ is_subscribed entry
heard_delivered wakes entry =
    delivered_by (λ x. is_subscribed x ≡ is_subscribed entry) wakes entry (λ none. refl)
    (λ some. by wakes)
  where
    by : (w : Wakes) → is_subscribed (deliver_to w entry) ≡ is_subscribed entry
    by One = refl
    by All = refl

-- where threads wait and a message wakes one, there is a permit then
pub permit_delivered : (entry : LatchEntry) → 1 ≤ entry.registered
    → 0 < (deliver_in One entry).permits
permit_delivered entry some =
    delivered_by (λ x. 0 < x.permits) One entry (λ none. absurd (omega (arith, none, some)))
    (λ more. omega (arith, some))
