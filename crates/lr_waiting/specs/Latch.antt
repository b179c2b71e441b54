-- The latches of a client: what it keeps of the channels on which its threads wait, and what it has
-- still to tell the server. All threads of a client that wait on a channel share one subscription,
-- as in Redisson. The rules are this project's own. Each change of an entry has a name.
use Rattle.std.specs.Prelude.{ℕ, ◌+◌, ◌-◌, ◌%◌, ◌^◌, ◌==◌, nat_lt, nat_le, min, List, [], ◌∷◌, ◌++◌, Bool, true, false, not, ◌&&◌, ◌||◌, Option, if◌then◌else◌, slice_get, drop}
use Rattle.lr_names.specs.Channel.{ChannelOf, channel_wakes}
use Rattle.lr_names.specs.declared.kind.Wakes.{Wakes}
use Rattle.lr_names.specs.declared.kind.Wakes.TheVariants.{One, All}
use Rattle.lr_names.specs.declared.post.Due.{Due}
use Rattle.lr_names.specs.declared.post.Due.TheVariants.{At, Never}
use Rattle.lr_waiting.specs.declared.latch.LatchEntry.{LatchEntry}
use Rattle.lr_waiting.specs.declared.latch.Order.{Order}
use Rattle.lr_waiting.specs.declared.latch.Checked.{Checked}
use Rattle.lr_waiting.specs.declared.latch.Checked.TheVariants as checks
use Rattle.lr_waiting.specs.declared.latch.Woken.{Woken}
use Rattle.lr_waiting.specs.declared.latch.Woken.TheVariants as wakings
use Rattle.lr_model.specs.Board.{same_channel}
use Rattle.lr_model.specs.Table.{put}

-- the number that is so many later: numbers that only grow have 64 bits, and go on from 0
abbrev pub count_on : ℕ → ℕ → ℕ
count_on number more = (number + more) % (2 ^ 64)

-- the number after this one
abbrev pub next_count : ℕ → ℕ
next_count number = count_on number 1

-- a channel on which nobody waits, and for which nothing is outstanding
abbrev pub no_entry : LatchEntry
no_entry = record { sent = 0; acknowledged = 0; registered = 0; permits = 0; broadcast = 0 }

-- whether the client keeps an entry: threads wait, or an acknowledgement is still to come
abbrev pub is_kept : LatchEntry → Bool
is_kept entry = nat_lt 0 entry.registered || not (entry.acknowledged == entry.sent)

-- an entry that isn't needed any longer is forgotten
abbrev pub if_kept : LatchEntry → LatchEntry
if_kept entry = if is_kept entry then entry else no_entry

-- whether the client hears what is sent on the channel: threads wait, and each of its orders to
-- subscribe was acknowledged
abbrev pub is_subscribed : LatchEntry → Bool
is_subscribed entry = nat_lt 0 entry.registered && (entry.acknowledged == entry.sent)

-- Changes of an entry.

-- the first thread registers: an order to subscribe is made
abbrev pub register_first : LatchEntry → LatchEntry
register_first entry = record entry { registered = 1; sent = next_count entry.sent }

-- one more registers
abbrev pub register_more : LatchEntry → LatchEntry
register_more entry = record entry { registered = entry.registered + 1 }

abbrev pub register_in : LatchEntry → LatchEntry
register_in entry = if entry.registered == 0 then register_first entry else register_more entry

-- there is a permit more, but never more permits than threads that wait
abbrev pub hand_on : LatchEntry → LatchEntry
hand_on entry = record entry { permits = min (entry.permits + 1) entry.registered }

-- the last thread leaves: an order to leave the channel is made
abbrev pub leave_last : LatchEntry → LatchEntry
leave_last entry = if_kept (record entry { registered = 0; permits = 0 })

-- One of many leaves. Where a message wakes one, the thread may have been woken in vain, so it
-- hands its turn on to another.
abbrev pub leave_more : Wakes → LatchEntry → LatchEntry
leave_more One entry = hand_on (record entry { registered = entry.registered - 1 })
leave_more All entry = record entry { registered = entry.registered - 1 }

abbrev pub leave_in : Wakes → LatchEntry → LatchEntry
leave_in wakes entry =
    if entry.registered == 1 then leave_last entry else leave_more wakes entry

-- the server has acknowledged an order to subscribe: whether it was the last one is told by the
-- numbers
abbrev pub acknowledge_in : LatchEntry → LatchEntry
acknowledge_in entry =
    if is_kept entry
    then if_kept (record entry { acknowledged = next_count entry.acknowledged })
    else entry

-- a message has come: for one thread a permit, for all another number
abbrev pub deliver_to : Wakes → LatchEntry → LatchEntry
deliver_to One entry = hand_on entry
deliver_to All entry = record entry { broadcast = next_count entry.broadcast }

-- where nobody waits a message is lost on nobody
abbrev pub deliver_in : Wakes → LatchEntry → LatchEntry
deliver_in wakes entry = if entry.registered == 0 then entry else deliver_to wakes entry

-- a thread takes a permit
abbrev pub take_permit : LatchEntry → LatchEntry
take_permit entry = record entry { permits = entry.permits - 1 }

-- Whether a thread has to sleep.

-- whether a due moment has come
abbrev pub is_due : Due → ℕ → Bool
is_due (At moment) now = nat_le moment now
is_due Never now = false

-- what a thread finds that looks before it sleeps: a permit, a message since it asked, or that its
-- due moment has come
abbrev pub checked_in : LatchEntry → ℕ → Due → ℕ → Checked
checked_in entry seen due now =
    if nat_lt 0 entry.permits then checks.Permit
    else if not (entry.broadcast == seen) then checks.Broadcast
    else if is_due due now then checks.Timer
    else checks.Sleep

-- what a sleeping thread finds
abbrev pub woken_in : LatchEntry → ℕ → Woken
woken_in entry seen =
    if nat_lt 0 entry.permits then wakings.Permit
    else if not (entry.broadcast == seen) then wakings.Broadcast
    else wakings.NotYet

-- All latches of a client.

-- the entries by their channels, and the orders that wait for the server, the oldest first
pub record Latches : Type 0 where
  pub entries : ChannelOf → LatchEntry
  pub orders : List Order

-- before the first thread waits
abbrev pub no_latches : Latches
no_latches = record { entries = λ channel. no_entry; orders = [] }

-- the latches with another entry of a channel
abbrev pub with_entry : ChannelOf → LatchEntry → Latches → Latches
with_entry channel entry latches =
    record latches { entries = put same_channel latches.entries channel entry }

-- and with one more order
abbrev pub with_order : Bool → ChannelOf → Latches → Latches
with_order subscribe channel latches =
    record latches {
      orders = latches.orders ++ record { subscribe = subscribe; channel = channel } ∷ [];
    }

-- a thread registers at a channel
abbrev pub register_at : ChannelOf → Latches → Latches
register_at channel latches =
    let entry = latches.entries channel in
    let registered = with_entry channel (register_in entry) latches in
    if entry.registered == 0 then with_order true channel registered else registered

-- a thread leaves a channel
abbrev pub leave_at : ChannelOf → Latches → Latches
leave_at channel latches =
    let entry = latches.entries channel in
    let left = with_entry channel (leave_in (channel_wakes channel.kind) entry) latches in
    if entry.registered == 1 then with_order false channel left else left

-- the server has acknowledged an order to subscribe
abbrev pub acknowledge_at : ChannelOf → Latches → Latches
acknowledge_at channel latches =
    with_entry channel (acknowledge_in (latches.entries channel)) latches

-- a message has come on a channel
abbrev pub deliver_at : ChannelOf → Latches → Latches
deliver_at channel latches =
    with_entry channel (deliver_in (channel_wakes channel.kind) (latches.entries channel)) latches

-- a thread takes a permit of a channel
abbrev pub take_permit_at : ChannelOf → Latches → Latches
take_permit_at channel latches =
    with_entry channel (take_permit (latches.entries channel)) latches

-- the latches after a thread has looked before it sleeps, or when it was woken
abbrev pub after_check : ChannelOf → Checked → Latches → Latches
after_check channel checks.Permit latches = take_permit_at channel latches
after_check channel _ latches = latches

abbrev pub after_waking : ChannelOf → Woken → Latches → Latches
after_waking channel wakings.Permit latches = take_permit_at channel latches
after_waking channel _ latches = latches

-- the order that waits longest
abbrev pub first_order_of : Latches → Option Order
first_order_of latches = slice_get latches.orders 0

-- the latches without it
abbrev pub without_first_order : Latches → Latches
without_first_order latches = record latches { orders = drop 1 latches.orders }

-- what a message left for those who wait: their permits, or the number of messages
abbrev pub told_of_message : Wakes → LatchEntry → ℕ
told_of_message One entry = entry.permits
told_of_message All entry = if entry.registered == 0 then 0 else entry.broadcast
