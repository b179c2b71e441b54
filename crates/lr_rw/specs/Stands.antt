-- For which read-write locks the keys of a key space stand.
use Rattle.std.specs.Prelude.{ℕ, List}
use Rattle.lr_names.specs.Key.{key_text}
use Rattle.lr_names.specs.Name.{IsName}
use Rattle.lr_names.specs.declared.part.Part.TheVariants.{Rw, RwDeadlines}
use Rattle.lr_keys.specs.KeySpace.{Keys}
use Rattle.lr_model.specs.Answer.{Objects}
use Rattle.lr_rw.specs.Holds.{IsLockAt}

-- the two keys of each lock have its holds, also those that have expired and that no function has
-- removed yet
pub record ReadWriteLocksStand (keys : Keys) (objects : Objects) : Type 0 where
  pub locks : (name : List ℕ) → IsName name
      → IsLockAt keys (key_text Rw name) (key_text RwDeadlines name) (objects.read_write_locks name)
