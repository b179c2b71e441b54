-- Permits are bounded: there are never more of them than threads that wait.
use Rattle.std.specs.Prelude.{◌≡◌, ◌≤◌}
use Rattle.lr_names.specs.Channel.{ChannelOf, channel_wakes}
use Rattle.lr_names.specs.declared.kind.Wakes.TheVariants.{All}
use Rattle.lr_waiting.specs.declared.latch.LatchEntry.{LatchEntry}

-- where a message wakes all there are none
pub record IsBounded (channel : ChannelOf) (entry : LatchEntry) : Type 0 where
  pub few : entry.permits ≤ entry.registered
  pub none : channel_wakes channel.kind ≡ All → entry.permits ≡ 0
