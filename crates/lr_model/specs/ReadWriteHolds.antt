-- What is true of the holds of every read-write lock.
use Rattle.std.specs.Prelude.{◌≡◌, ◌≤◌, Bool, false, not, ◌&&◌, ◌||◌, [], ◌∷◌, length}
use Rattle.std.specs.List.{AllByRecursion}
use Rattle.lr_limits.specs.Limits.{hold_limit, member_limit, never}
use Rattle.lr_names.specs.Owner.{IsOwner, same_owner}
use Rattle.lr_model.specs.declared.read_write_hold.ReadWriteHold.{ReadWriteHold}
use Rattle.lr_model.specs.ReadWrite.{ReadWriteLock, is_write, is_hold_of}

-- whether two holds can't be at once: they are of two owners, and one of them is to write
abbrev pub holds_conflict : ReadWriteHold → ReadWriteHold → Bool
holds_conflict a b = not (same_owner a.owner b.owner) && (is_write a.access || is_write b.access)

-- two holds of one lock: not of one owner with one access, and they don't conflict
pub record MayStandBeside (hold other : ReadWriteHold) : Type 0 where
  pub another : is_hold_of hold.owner hold.access other ≡ false
  pub peace : holds_conflict hold other ≡ false

-- An owner has one hold with each access. Where one writes, all holds are the writer's.
abbrev pub AreApart : ReadWriteLock → Type 0
AreApart [] = Unit {0}
AreApart (hold ∷ rest) = AllByRecursion (MayStandBeside hold) rest × AreApart rest

-- a hold as keys can have it: of a thread of a client, 1 to a million times, with a deadline of at
-- most 63 bits
pub record IsReadWriteHold (hold : ReadWriteHold) : Type 0 where
  pub owner : IsOwner hold.owner
  pub some : 1 ≤ hold.count
  pub most : hold.count ≤ hold_limit
  pub deadline : hold.deadline ≤ never

-- the holds of a lock as its functions leave them
pub record IsReadWriteLock (lock : ReadWriteLock) : Type 0 where
  pub apart : AreApart lock
  pub few : length lock ≤ member_limit
  pub each : AllByRecursion IsReadWriteHold lock
