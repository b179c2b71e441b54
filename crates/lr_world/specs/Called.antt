-- What a call of a world gave.
use Rattle.std.specs.Prelude.{◌≡◌, ℕ, Option}
use Rattle.std.specs.Option.{option_map}
use Rattle.lr_names.specs.declared.post.Post.{Post}
use Rattle.lr_objects.specs.declared.op.Op.{Op}
use Rattle.lr_model.specs.Answer.{reply_of, post_of}
use Rattle.lr_model.specs.History.{State}
use Rattle.lr_machine.specs.Shown.{reached_post}
use Rattle.lr_machine.specs.declared.shown.Reached.{Reached}
use Rattle.lr_server.specs.Server.{dropped_of}
use Rattle.lr_world.specs.declared.call.Called.{Called}

-- a message, with the number of connections that it reached
abbrev pub reached_with : Option Post → ℕ → Option Reached
reached_with post connections =
    option_map (λ p. record { channel = p.channel; connections = connections }) post

-- the reply to a call in a state, the message that it sent, and the connections that this dropped
pub record IsCalled (state : State) (moment : ℕ) (op : Op) (called : Called) : Type 0 where
  pub reply : called.reply ≡ reply_of state.objects moment op
  pub post : called.post ≡ reached_post state.board (post_of state.objects moment op)
  pub dropped : called.dropped ≡ dropped_of (post_of state.objects moment op) state.board
