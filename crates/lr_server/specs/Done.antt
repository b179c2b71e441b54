-- What the call of a function and the act of an entry do to the keys and the board.
use Rattle.std.specs.Prelude.{◌≡◌, ℕ, ◌≤◌, Option, Some, Result, IfOk, OnErr}
use Rattle.lr_names.specs.declared.post.Post.{Post}
use Rattle.lr_objects.specs.declared.op.Op.{Op}
use Rattle.lr_objects.specs.declared.reply.Reply.{Reply}
use Rattle.lr_keys.specs.KeySpace.{Keys}
use Rattle.lr_model.specs.declared.entry.Entry.{Entry}
use Rattle.lr_model.specs.Answer.{Objects, reply_of, objects_after, post_of}
use Rattle.lr_model.specs.Board.{board_after_post}
use Rattle.lr_model.specs.History.{State, step}
use Rattle.lr_pubsub.specs.BoardValue.{BoardValue, board_of}
use Rattle.lr_server.specs.declared.answered.Answer.TheVariants as answers
use Rattle.lr_server.specs.declared.answered.Answered.{Answered}
use Rattle.lr_server.specs.Server.{IsTold, reached_of, dropped_of}
use Rattle.lr_server.specs.Stands.{KeysStand, StateStands}

-- A function ran at a moment: where the keys stood for some objects, the reply and the message
-- are those of these objects, and now the keys stand for the objects after it.
pub record HasRun (old new : Keys) (moment : ℕ) (op : Op)
    (reply : Reply) (post : Option Post) : Type 0 where
  pub replies : (objects : Objects) → KeysStand old objects → reply ≡ reply_of objects moment op
  pub posts : (objects : Objects) → KeysStand old objects → post ≡ post_of objects moment op
  pub stands : (objects : Objects) → KeysStand old objects
      → KeysStand new (objects_after objects moment op)
  pub in_time : new.moment ≤ moment

-- Where no memory was found, the keys stand for what they stood for, at the same moment.
pub record StillStands (old new : Keys) : Type 0 where
  pub stands : (objects : Objects) → KeysStand old objects → KeysStand new objects
  pub moment : new.moment ≡ old.moment

-- what the call of a function comes to: it ran, or found no memory
pub record IsRun {E : Type 0} (old new : Keys) (moment : ℕ) (op : Op)
    (result : Result (Reply × Option Post) E) : Type 0 where
  pub ran : IfOk result (λ r. HasRun old new moment op r.0 r.1)
  pub err : OnErr result (StillStands old new)

-- the message of a call was sent, if it has one, and the call was answered
pub record IsSent (old new : BoardValue) (reply : Reply) (message : Option Post) (answered : Answered) : Type 0 where
  pub board : board_of new ≡ board_after_post message (board_of old)
  pub answer : answered.answer ≡ answers.Reply reply
  pub post : answered.post ≡ message
  pub reached : answered.reached ≡ reached_of message (board_of old)
  pub dropping : answered.dropped ≡ dropped_of message (board_of old)

-- The act of an entry was done in a state: the entry is told, and the keys and the board stand
-- for the state after it.
pub record IsDone (state : State) (entry : Entry) (answered : Answered)
    (keys : Keys) (board : BoardValue) : Type 0 where
  pub told : IsTold state (Some entry) answered
  pub stands : StateStands keys board (step state entry)
  pub in_time : keys.moment ≤ entry.moment
