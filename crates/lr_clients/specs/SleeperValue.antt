-- What contracts see of a thread that sleeps.
use Rattle.lr_names.specs.Channel.{ChannelOf}
use Rattle.lr_names.specs.Owner.{ThreadOfClient}
use Rattle.lr_objects.specs.declared.want.Want.{Want}
use Rattle.lr_waiting.specs.declared.waiter.Refusal.{Refusal}

-- the channel on which it waits, what it wants, who it is to the server, and what it knows since its
-- call was refused
pub record SleeperValue : Type 0 where
  pub channel : ChannelOf
  pub want : Want
  pub owner : ThreadOfClient
  pub refusal : Refusal
