-- Facts of one channel of a client: what is so of its entry, of the orders that wait, of whether the
-- connection has the channel, and of what is on its way. Such a fact says for each named change that
-- it stays; that every other channel stays is proved here once.
use Rattle.std.proofs.Common.{◌≡◌, ℕ, suc, ◌<◌, ◌^◌, ◌==◌, List, [], ◌∷◌, ◌++◌, Bool, true, false, not, ◌&&◌, Some, Option, refl, sym, subst, if◌then◌else◌}
use Rattle.std.proofs.lemmas.Bool.{eqb-true, eqb-false, false≢true}
use Rattle.lr_names.specs.Channel.{ChannelOf, channel_wakes}
use Rattle.lr_names.specs.declared.kind.Wakes.{Wakes}
use Rattle.lr_names.specs.declared.post.Post.{Post}
use Rattle.lr_names.specs.declared.post.Push.{Push}
use Rattle.lr_names.specs.declared.post.Push.TheVariants.{Subscribed, Unsubscribed, Message}
use Rattle.lr_waiting.specs.declared.latch.LatchEntry.{LatchEntry}
use Rattle.lr_waiting.specs.declared.latch.Order.{Order}
use Rattle.lr_model.specs.Board.{same_channel, Connection, has_channel, has_room, is_overrun, closed_connection, with_item, dropped_connection, connection_after_post, connection_after_subscribe, connection_after_unsubscribe}
use Rattle.lr_waiting.specs.Latch.{Latches, no_entry, no_latches, register_first, register_more, register_at, leave_last, leave_more, leave_at, take_permit, take_permit_at, acknowledge_in, acknowledge_at, deliver_in, deliver_at, with_entry, with_order}
use Rattle.lr_model.proofs.SameChannel.{same_is}
use Rattle.lr_wakeups.specs.Outstanding.{is_acknowledgement_on}
use Rattle.lr_wakeups.specs.Orders.{connection_after_order}
use Rattle.lr_wakeups.proofs.Tables.{at_channel}
use Rattle.lr_wakeups.proofs.Subscriptions.{has_after_subscribe, has_elsewhere_after_subscribe, has_after_unsubscribe, has_elsewhere_after_unsubscribe}

abbrev pub order_for : Bool → ChannelOf → Order
order_for subscribe channel = record { subscribe = subscribe; channel = channel }

-- what is said of one channel, where at most so many orders to subscribe were made
abbrev pub ChannelFact : Type 1
ChannelFact = ℕ → ChannelOf → LatchEntry → List Order → Bool → List Push → Type 0

-- a fact stays at each named change
pub record IsKept (F : ℕ → ChannelOf → LatchEntry → List Order → Bool → List Push → Type 0)
    : Type 0 where
  pub at_start : (n : ℕ) (c : ChannelOf) → F n c no_entry [] false []
  -- there may be more orders
  pub later : (n : ℕ) (c : ChannelOf) (e : LatchEntry) (os : List Order) (has : Bool)
      (box : List Push) → F n c e os has box → F (suc n) c e os has box
  pub registers_first : (n : ℕ) (c : ChannelOf) (e : LatchEntry) (os : List Order) (has : Bool)
      (box : List Push) → suc n < 2 ^ 64 → e.registered ≡ 0 → F n c e os has box
      → F (suc n) c (register_first e) (os ++ order_for true c ∷ []) has box
  pub registers_more : (n : ℕ) (c : ChannelOf) (e : LatchEntry) (os : List Order) (has : Bool)
      (box : List Push) → (e.registered ≡ 0 → ⊥) → F n c e os has box
      → F n c (register_more e) os has box
  pub leaves_last : (n : ℕ) (c : ChannelOf) (e : LatchEntry) (os : List Order) (has : Bool)
      (box : List Push) → e.registered ≡ 1 → F n c e os has box
      → F n c (leave_last e) (os ++ order_for false c ∷ []) has box
  pub leaves_more : (n : ℕ) (c : ChannelOf) (e : LatchEntry) (os : List Order) (has : Bool)
      (box : List Push) → (e.registered ≡ 1 → ⊥) → F n c e os has box
      → F n c (leave_more (channel_wakes c.kind) e) os has box
  pub takes_permit : (n : ℕ) (c : ChannelOf) (e : LatchEntry) (os : List Order) (has : Bool)
      (box : List Push) → F n c e os has box → F n c (take_permit e) os has box
  pub orders_elsewhere : (n : ℕ) (c : ChannelOf) (e : LatchEntry) (os : List Order) (has : Bool)
      (box : List Push) (subscribe : Bool) (other : ChannelOf) → same_channel c other ≡ false
      → F n c e os has box → F n c e (os ++ order_for subscribe other ∷ []) has box
  -- an item that isn't an acknowledgement of the channel
  pub sends : (n : ℕ) (c : ChannelOf) (e : LatchEntry) (os : List Order) (has : Bool)
      (box : List Push) (push : Push) → is_acknowledgement_on c push ≡ false
      → F n c e os has box → F n c e os has (box ++ push ∷ [])
  pub drains : (n : ℕ) (c : ChannelOf) (e : LatchEntry) (os : List Order) (has : Bool)
      (box : List Push) (push : Push) → is_acknowledgement_on c push ≡ false
      → F n c e os has (push ∷ box) → F n c e os has box
  pub acknowledges : (n : ℕ) (c : ChannelOf) (e : LatchEntry) (os : List Order) (has : Bool)
      (box : List Push) (count : ℕ) → n < 2 ^ 64 → F n c e os has (Subscribed c count ∷ box)
      → F n c (acknowledge_in e) os has box
  pub delivers : (n : ℕ) (c : ChannelOf) (e : LatchEntry) (os : List Order) (has : Bool)
      (box : List Push) → F n c e os has box
      → F n c (deliver_in (channel_wakes c.kind) e) os has box
  -- the server executes the oldest order
  pub subscribes : (n : ℕ) (c : ChannelOf) (e : LatchEntry) (os : List Order) (has : Bool)
      (box : List Push) (count : ℕ) → F n c e (order_for true c ∷ os) has box
      → F n c e os true (box ++ Subscribed c count ∷ [])
  pub unsubscribes : (n : ℕ) (c : ChannelOf) (e : LatchEntry) (os : List Order) (has : Bool)
      (box : List Push) (count : ℕ) → F n c e (order_for false c ∷ os) has box
      → F n c e os false (box ++ Unsubscribed (Some c) count ∷ [])
  pub executes_elsewhere : (n : ℕ) (c : ChannelOf) (e : LatchEntry) (os : List Order) (has : Bool)
      (box : List Push) (subscribe : Bool) (other : ChannelOf) → same_channel c other ≡ false
      → F n c e (order_for subscribe other ∷ os) has box → F n c e os has box

module _ (F : ℕ → ChannelOf → LatchEntry → List Order → Bool → List Push → Type 0)
    (kept : IsKept F) where
  -- the fact at each channel
  abbrev pub AtEach : ℕ → Latches → Connection → Type 0
  AtEach n latches connection =
      (q : ChannelOf)
      → F n q (latches.entries q) latches.orders (has_channel q connection) connection.outbox

  pub each_at_start : (n : ℕ) → AtEach n no_latches closed_connection
  each_at_start n q = kept.at_start n q

  module _ (n : ℕ) (latches : Latches) (connection : Connection)
      (each : AtEach n latches connection) where
    pub each_later : AtEach (suc n) latches connection
    each_later q = kept.later _ _ _ _ _ _ (each q)

    module _ (channel : ChannelOf) where
      entry : LatchEntry
      entry = latches.entries channel

      -- the others have another order behind theirs
      ordered : (subscribe : Bool) (q : ChannelOf) → same_channel q channel ≡ false
          → F n q (latches.entries q) (latches.orders ++ order_for subscribe channel ∷ [])
          (has_channel q connection) connection.outbox
      ordered subscribe q other = kept.orders_elsewhere _ _ _ _ _ _ subscribe channel other (each q)

      pub each_registers : suc n < 2 ^ 64 → AtEach (suc n) (register_at channel latches) connection
      unfolding entry
      each_registers few = by (entry.registered == 0) refl
        where
          by : (first : Bool) → (entry.registered == 0) ≡ first
              → AtEach (suc n)
              (if first
              then with_order true channel (with_entry channel
              (if first then register_first entry else register_more entry) latches)
              else with_entry channel
              (if first then register_first entry else register_more entry) latches) connection
          by true e =
              at_channel
              (λ q x. F (suc n) q x (latches.orders ++ order_for true channel ∷ [])
              (has_channel q connection) connection.outbox)
              latches.entries channel (register_first entry)
              (kept.registers_first _ _ _ _ _ _ few (eqb-true entry.registered 0 e) (each channel))
              (λ q other. kept.later _ _ _ _ _ _ (ordered true q other))
          by false e =
              at_channel
              (λ q x. F (suc n) q x latches.orders (has_channel q connection) connection.outbox)
              latches.entries channel (register_more entry)
              (kept.later _ _ _ _ _ _
              (kept.registers_more _ _ _ _ _ _ (eqb-false entry.registered 0 e) (each channel)))
              (λ q other. kept.later _ _ _ _ _ _ (each q))

      pub each_leaves : AtEach n (leave_at channel latches) connection
      unfolding entry
      each_leaves = by (entry.registered == 1) refl
        where
          left : Bool → LatchEntry
          left last = if last then leave_last entry
              else leave_more (channel_wakes channel.kind) entry

          by : (last : Bool) → (entry.registered == 1) ≡ last
              → AtEach n
              (if last then with_order false channel (with_entry channel (left last) latches)
              else with_entry channel (left last) latches) connection
          by true e =
              at_channel
              (λ q x. F n q x (latches.orders ++ order_for false channel ∷ [])
              (has_channel q connection) connection.outbox)
              latches.entries channel (leave_last entry)
              (kept.leaves_last _ _ _ _ _ _ (eqb-true entry.registered 1 e) (each channel))
              (λ q other. ordered false q other)
          by false e =
              at_channel
              (λ q x. F n q x latches.orders (has_channel q connection) connection.outbox)
              latches.entries channel (leave_more (channel_wakes channel.kind) entry)
              (kept.leaves_more _ _ _ _ _ _ (eqb-false entry.registered 1 e) (each channel))
              (λ q other. each q)

      pub each_takes_permit : AtEach n (take_permit_at channel latches) connection
      each_takes_permit =
          at_channel
          (λ q x. F n q x latches.orders (has_channel q connection) connection.outbox)
          latches.entries channel (take_permit (latches.entries channel))
          (kept.takes_permit _ _ _ _ _ _ (each channel)) (λ q other. each q)

  -- An item is taken from the outbox.
  module _ (n : ℕ) (latches : Latches) (channels : ChannelOf → Bool) (rest : List Push) where
    -- with this item in front of the others
    abbrev WithFirst : Push → Type 0
    WithFirst push =
        (q : ChannelOf) → F n q (latches.entries q) latches.orders (channels q) (push ∷ rest)

    abbrev AfterFirst : Latches → Type 0
    AfterFirst after =
        (q : ChannelOf) → F n q (after.entries q) after.orders (channels q) rest

    pub each_hears_subscribed : (channel : ChannelOf) (count : ℕ) → n < 2 ^ 64
        → WithFirst (Subscribed channel count) → AfterFirst (acknowledge_at channel latches)
    each_hears_subscribed channel count few each =
        at_channel (λ q x. F n q x latches.orders (channels q) rest)
        latches.entries channel (acknowledge_in (latches.entries channel))
        (kept.acknowledges _ _ _ _ _ _ count few (each channel))
        (λ q other. kept.drains _ _ _ _ _ _ (Subscribed channel count) other (each q))

    pub each_hears_unsubscribed : (channel : Option ChannelOf) (count : ℕ)
        → WithFirst (Unsubscribed channel count) → AfterFirst latches
    each_hears_unsubscribed channel count each q =
        kept.drains _ _ _ _ _ _ (Unsubscribed channel count) refl (each q)

    pub each_hears_message : (channel : ChannelOf) (wakes : Wakes)
        → WithFirst (Message channel wakes) → AfterFirst (deliver_at channel latches)
    each_hears_message channel wakes each =
        at_channel (λ q x. F n q x latches.orders (channels q) rest)
        latches.entries channel (deliver_in (channel_wakes channel.kind) (latches.entries channel))
        (kept.delivers _ _ _ _ _ _
        (kept.drains _ _ _ _ _ _ (Message channel wakes) refl (each channel)))
        (λ q other. kept.drains _ _ _ _ _ _ (Message channel wakes) refl (each q))

  -- the server executes the oldest order
  module _ (n : ℕ) (entries : ChannelOf → LatchEntry) (connection : Connection)
      (rest : List Order) where
    pub each_executes : (subscribe : Bool) (channel : ChannelOf)
        → AtEach n (record { entries = entries; orders = order_for subscribe channel ∷ rest })
        connection
        → AtEach n (record { entries = entries; orders = rest })
        (connection_after_order (order_for subscribe channel) connection)
    each_executes true channel each q = by (same_channel q channel) refl
      where
        by : (same : Bool) → same_channel q channel ≡ same
            → F n q (entries q) rest (has_channel q (connection_after_subscribe channel connection))
            (connection_after_subscribe channel connection).outbox
        by true e =
            let is = same_is q channel e in
            subst
            (λ c. F n c (entries c) rest
            (has_channel c (connection_after_subscribe channel connection))
            (connection_after_subscribe channel connection).outbox) (sym is)
            (subst
            (λ has. F n channel (entries channel) rest has
            (connection_after_subscribe channel connection).outbox)
            (sym (has_after_subscribe channel connection))
            (kept.subscribes _ _ _ _ _ _ _ (each channel)))
        by false e =
            subst
            (λ has. F n q (entries q) rest has
            (connection_after_subscribe channel connection).outbox)
            (sym (has_elsewhere_after_subscribe q channel connection e))
            (kept.sends _ _ _ _ _ _ _ e
            (kept.executes_elsewhere _ _ _ _ _ _ true channel e (each q)))
    each_executes false channel each q = by (same_channel q channel) refl
      where
        by : (same : Bool) → same_channel q channel ≡ same
            → F n q (entries q) rest
            (has_channel q (connection_after_unsubscribe channel connection))
            (connection_after_unsubscribe channel connection).outbox
        by true e =
            let is = same_is q channel e in
            subst
            (λ c. F n c (entries c) rest
            (has_channel c (connection_after_unsubscribe channel connection))
            (connection_after_unsubscribe channel connection).outbox) (sym is)
            (subst
            (λ has. F n channel (entries channel) rest has
            (connection_after_unsubscribe channel connection).outbox)
            (sym (has_after_unsubscribe channel connection))
            (kept.unsubscribes _ _ _ _ _ _ _ (each channel)))
        by false e =
            subst
            (λ has. F n q (entries q) rest has
            (connection_after_unsubscribe channel connection).outbox)
            (sym (has_elsewhere_after_unsubscribe q channel connection e))
            (kept.sends _ _ _ _ _ _ _ refl
            (kept.executes_elsewhere _ _ _ _ _ _ false channel e (each q)))

  -- a message that is sent to the channel of an object, and drops nobody here
  pub each_posted : (n : ℕ) (latches : Latches) (connection : Connection) (post : Post)
      → is_overrun post connection ≡ false → AtEach n latches connection
      → AtEach n latches (connection_after_post post connection)
  each_posted n latches connection post kept_open each =
      by (has_channel post.channel connection) (has_room connection) kept_open
    where
      by : (has room : Bool) → (has && not room) ≡ false
          → AtEach n latches (if has then (if room
          then with_item (Message post.channel post.wakes) connection
          else dropped_connection connection) else connection)
      by false room e = each
      by true true e = λ q. kept.sends _ _ _ _ _ _ (Message post.channel post.wakes) refl (each q)
      by true false e = absurd (false≢true (sym e))
