-- What is registered is counted: an entry has the number of the threads that wait on its channel.
use Rattle.std.specs.Prelude.{◌≡◌, ℕ, ◌+◌, Bool, false, Option, Some, None}
use Rattle.lr_limits.specs.Limits.{thread_limit}
use Rattle.lr_names.specs.Channel.{ChannelOf}
use Rattle.lr_waiting.specs.declared.waiter.Waiter.{Waiter}
use Rattle.lr_waiting.specs.Client.{Client, waiter_in}
use Rattle.lr_waiting.specs.Stand.{waits_at}
use Rattle.lr_wakeups.specs.Counting.{count_below}

abbrev pub registered_with : ChannelOf → Client → ℕ → Option Waiter → Bool
registered_with channel client thread None = false
registered_with channel client thread (Some waiter) = waits_at channel client thread waiter

-- whether a thread is registered at a channel
abbrev pub is_registered : ChannelOf → Client → ℕ → Bool
is_registered channel client thread =
    registered_with channel client thread (waiter_in client thread)

-- how many are
abbrev pub registered_on : ChannelOf → Client → ℕ
registered_on channel client = count_below (thread_limit + 1) (is_registered channel client)

pub record IsCounted (channel : ChannelOf) (client : Client) : Type 0 where
  pub count : (client.session.latches.entries channel).registered ≡ registered_on channel client
