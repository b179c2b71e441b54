-- The two keys that hold a read-write lock, as Redisson keeps one: a hash from each hold to its
-- count, in order of making, and a sorted set from each hold to its deadline.
use Rattle.std.specs.Prelude.{◌≡◌, ℕ, pos, List, ◌∷◌, ◌++◌, codes, map, Option, None}
use Rattle.lr_names.specs.Owner.{ThreadOfClient, owner_text}
use Rattle.lr_objects.specs.declared.access.Access.{Access}
use Rattle.lr_objects.specs.declared.access.Access.TheVariants.{Read, Write}
use Rattle.lr_sorted.specs.Members.{Members as Scores}
use Rattle.lr_sorted.specs.Sorted.{sorted}
use Rattle.lr_keys.specs.FieldMap.{Pairs}
use Rattle.lr_keys.specs.KeySpace.{Fields, Members, KeyEntry, Keys, entry_at, entry_with_value}
use Rattle.lr_model.specs.declared.read_write_hold.ReadWriteHold.{ReadWriteHold}
use Rattle.lr_model.specs.ReadWrite.{ReadWriteLock}
use Rattle.lr_model.specs.ReadWriteHolds.{IsReadWriteLock}

-- the letter of an access: what Redisson calls the mode
abbrev pub access_word : Access → List ℕ
access_word Read = codes "r"
access_word Write = codes "w"

-- the text of an owner's hold: the letter, a colon, the owner
abbrev pub member_text : Access → ThreadOfClient → List ℕ
member_text access owner = access_word access ++ 58 ∷ owner_text owner

abbrev pub member_of : ReadWriteHold → List ℕ
member_of hold = member_text hold.access hold.owner

-- the holds with a value of each, in order of making
abbrev pub with_values : {V : Type 0} → (ReadWriteHold → V) → ReadWriteLock → List (List ℕ × V)
with_values value lock = map (λ hold. (member_of hold, value hold)) lock

-- how often each hold was taken
abbrev pub counts_of : ReadWriteLock → Pairs
counts_of lock = with_values (λ hold. pos hold.count) lock

-- the holds with their deadlines, in order of these
abbrev pub deadlines_of : ReadWriteLock → Scores
deadlines_of lock = sorted (with_values (λ hold. hold.deadline) lock)

-- the entries of both keys: neither expires, and they are there as long as there is a hold
abbrev pub counts_entry : ReadWriteLock → Option KeyEntry
counts_entry lock = entry_with_value (Fields (counts_of lock)) None

abbrev pub deadlines_entry : ReadWriteLock → Option KeyEntry
deadlines_entry lock = entry_with_value (Members (deadlines_of lock)) None

-- the keys have these holds under these two
pub record HasHolds (keys : Keys) (counts deadlines : List ℕ) (lock : ReadWriteLock) : Type 0 where
  pub counts_are : entry_at keys counts ≡ counts_entry lock
  pub deadlines_are : entry_at keys deadlines ≡ deadlines_entry lock

-- and they are those of a lock
pub record IsLockAt (keys : Keys) (counts deadlines : List ℕ) (lock : ReadWriteLock) : Type 0 where
  pub has : HasHolds keys counts deadlines lock
  pub is : IsReadWriteLock lock
