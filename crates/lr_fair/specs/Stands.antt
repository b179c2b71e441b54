-- For which fair locks the keys of a key space stand.
use Rattle.std.specs.Prelude.{ℕ, List, Option}
use Rattle.lr_names.specs.Key.{key_text}
use Rattle.lr_names.specs.Name.{IsName}
use Rattle.lr_names.specs.declared.part.Part.TheVariants.{Fair, FairQueue, FairStale}
use Rattle.lr_keys.specs.KeySpace.{Keys, entry_at}
use Rattle.lr_model.specs.declared.hold.Hold.{Hold}
use Rattle.lr_model.specs.Answer.{Objects}
use Rattle.lr_hold.specs.Holds.{HoldsStand}
use Rattle.lr_fair.specs.Queue.{IsQueueAt}

-- what is held of each lock
abbrev pub holds_of : Objects → List ℕ → Option Hold
holds_of objects = λ name. (objects.fair_locks name).held

-- the hash of each lock holds what is live of its hold, and the list and the sorted set its queue,
-- with the places that are stale and that no function has removed yet
pub record FairLocksStand (keys : Keys) (objects : Objects) : Type 0 where
  pub held : HoldsStand Fair keys (holds_of objects)
  pub queues : (name : List ℕ) → IsName name
      → IsQueueAt (entry_at keys (key_text FairQueue name)) (entry_at keys (key_text FairStale name))
      (objects.fair_locks name).queue
