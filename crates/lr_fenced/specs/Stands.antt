-- For which fenced locks the keys of a key space stand.
use Rattle.std.specs.Prelude.{ℕ, List, Option}
use Rattle.lr_limits.specs.Limits.{token_limit}
use Rattle.lr_names.specs.declared.part.Part.TheVariants.{Fenced, Token}
use Rattle.lr_keys.specs.KeySpace.{Keys}
use Rattle.lr_model.specs.declared.hold.Hold.{Hold}
use Rattle.lr_model.specs.Answer.{Objects}
use Rattle.lr_counter.specs.Numbers.{NumbersStand, some_unless_zero}
use Rattle.lr_hold.specs.Holds.{HoldsStand}

-- what is held of each lock
abbrev pub holds_of : Objects → List ℕ → Option Hold
holds_of objects = λ name. (objects.fenced_locks name).held

-- the last token of each lock that has given one
abbrev pub tokens_of : Objects → List ℕ → Option ℕ
tokens_of objects = λ name. some_unless_zero (objects.fenced_locks name).token

-- the hash of each lock holds what is live of its hold, and the counter its last token
pub record FencedLocksStand (keys : Keys) (objects : Objects) : Type 0 where
  pub held : HoldsStand Fenced keys (holds_of objects)
  pub tokens : NumbersStand Token token_limit keys (tokens_of objects)
