use Rattle.std.proofs.Common.{◌≡◌, map, take}
use Rattle.std.specs.List.{AllByRecursion}
use Rattle.lr_names.specs.Channel.{IsChannel, channel_text}
use Rattle.lr_requests.proofs.channel_list.read_channels.Given as goal

-- the channels are those of the words before the place
abbrev pub invariant-loop-place : goal.invariant-loop-place
invariant-loop-place l = record {
  texts : take l.place l.words ≡ map channel_text l.channels;
  known : AllByRecursion IsChannel l.channels;
}
