-- What contracts see of a reply that is shown.
use Rattle.std.specs.Prelude.{ℕ, List, Option}
use Rattle.lr_objects.specs.declared.reply.Reply.{Reply}
use Rattle.lr_machine.specs.declared.shown.Reached.{Reached}

-- a reply, the message that the call sent, and the clients that were cut off by it
pub record RepliedValue : Type 0 where
  pub reply : Reply
  pub post : Option Reached
  pub cut : List ℕ
