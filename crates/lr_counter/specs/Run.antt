-- What a call on an object with one number does to the keys.
use Rattle.std.specs.Prelude.{◌≡◌, ℕ, List, [], ◌∷◌, Option}
use Rattle.lr_names.specs.declared.post.Post.{Post}
use Rattle.lr_keys.specs.KeySpace.{Keys, OthersAreLive}
use Rattle.lr_objects.specs.declared.reply.Reply.{Reply}
use Rattle.lr_model.specs.Answer.{Answered, Objects}

-- At a moment a call on the object with this key was answered so: for all objects for which the
-- keys stood, the reply and the message are the right ones, and they stand for what becomes of
-- these. All other keys hold what is live of them.
pub record IsNumberRun (Stand : Keys → Objects → Type 0) (old new : Keys) (moment : ℕ)
    (key : List ℕ) (answer : Reply × Option Post) (answered : Objects → Answered) : Type 0 where
  pub reply : (objects : Objects) → Stand old objects → answer.0 ≡ (answered objects).reply
  pub post : (objects : Objects) → Stand old objects → answer.1 ≡ (answered objects).post
  pub stands : (objects : Objects) → Stand old objects → Stand new (answered objects).objects
  pub frame : OthersAreLive (key ∷ []) old new
  pub now : new.moment ≡ moment
