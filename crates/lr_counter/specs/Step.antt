-- What a step does to the key of one number.
use Rattle.std.specs.Prelude.{◌≡◌, ℕ, List, false, Option}
use Rattle.std.specs.Str.{bytes_eq}
use Rattle.lr_names.specs.declared.post.Post.{Post}
use Rattle.lr_keys.specs.KeySpace.{Keys, entry_at, plan_at}
use Rattle.lr_objects.specs.declared.reply.Reply.{Reply}
use Rattle.lr_model.specs.Outcome.{Outcome}
use Rattle.lr_counter.specs.Numbers.{IsNumberAt}

-- what memory is prepared for at other keys stays so
abbrev pub KeepsPlans : List ℕ → Keys → Keys → Type 0
KeepsPlans key old new = (q : List ℕ) → bytes_eq key q ≡ false → plan_at new q ≡ plan_at old q

-- The step was answered as the outcome says, and the key has the number now that the outcome's
-- object is seen as.
pub record IsNumberStep {X : Type 0} (view : X → Option ℕ) (most : ℕ) (new : Keys) (key : List ℕ)
    (answer : Reply × Option Post) (outcome : Outcome X) : Type 0 where
  pub reply : answer.0 ≡ outcome.reply
  pub post : answer.1 ≡ outcome.post
  pub number : IsNumberAt most (entry_at new key) (view outcome.object)
