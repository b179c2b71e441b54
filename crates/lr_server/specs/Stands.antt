-- For which state of a server its keys and its board stand: a relation for each kind of object,
-- and one over them all. A further kind adds a line to each table.
use Rattle.std.specs.Prelude.{◌≡◌, ℕ, List, Option, IsSome, IsTrue}
use Rattle.std.specs.List.{list_any}
use Rattle.std.specs.Str.{bytes_eq}
use Rattle.lr_names.specs.Key.{keys_of}
use Rattle.lr_names.specs.Name.{IsName}
use Rattle.lr_names.specs.declared.kind.Kind.{Kind}
use Rattle.lr_names.specs.declared.kind.Kind.TheVariants as kinds
use Rattle.lr_keys.specs.KeySpace.{Keys, entry_at}
use Rattle.lr_model.specs.declared.hold.Hold.{Hold}
use Rattle.lr_model.specs.Answer.{Objects}
use Rattle.lr_model.specs.Fair.{FairLock}
use Rattle.lr_model.specs.Fenced.{FencedLock}
use Rattle.lr_model.specs.History.{State}
use Rattle.lr_model.specs.Permits.{Permits}
use Rattle.lr_model.specs.ReadWrite.{ReadWriteLock}
use Rattle.lr_mutex.specs.Stands.{MutexesStand}
use Rattle.lr_fair.specs.Stands.{FairLocksStand}
use Rattle.lr_rw.specs.Stands.{ReadWriteLocksStand}
use Rattle.lr_fenced.specs.Stands.{FencedLocksStand}
use Rattle.lr_semaphore.specs.Stands.{SemaphoresStand}
use Rattle.lr_expirable.specs.Stands.{PermitsStand}
use Rattle.lr_countdown.specs.Stands.{CountdownsStand}
use Rattle.lr_pubsub.specs.BoardValue.{BoardValue, board_of}

-- the keys of a kind stand for the objects of that kind
abbrev pub KindStands : Kind → Keys → Objects → Type 0
KindStands kinds.Mutex keys objects = MutexesStand keys objects
KindStands kinds.Fair keys objects = FairLocksStand keys objects
KindStands kinds.Rw keys objects = ReadWriteLocksStand keys objects
KindStands kinds.Fenced keys objects = FencedLocksStand keys objects
KindStands kinds.Semaphore keys objects = SemaphoresStand keys objects
KindStands kinds.Permits keys objects = PermitsStand keys objects
KindStands kinds.Countdown keys objects = CountdownsStand keys objects

-- the objects of a kind, by their names
abbrev pub KindObjects : Kind → Type 0
KindObjects kinds.Mutex = List ℕ → Option Hold
KindObjects kinds.Fair = List ℕ → FairLock
KindObjects kinds.Rw = List ℕ → ReadWriteLock
KindObjects kinds.Fenced = List ℕ → FencedLock
KindObjects kinds.Semaphore = List ℕ → Option ℕ
KindObjects kinds.Permits = List ℕ → Permits
KindObjects kinds.Countdown = List ℕ → ℕ

abbrev pub objects_of : (kind : Kind) → Objects → KindObjects kind
objects_of kinds.Mutex objects = objects.mutexes
objects_of kinds.Fair objects = objects.fair_locks
objects_of kinds.Rw objects = objects.read_write_locks
objects_of kinds.Fenced objects = objects.fenced_locks
objects_of kinds.Semaphore objects = objects.semaphores
objects_of kinds.Permits objects = objects.permits
objects_of kinds.Countdown objects = objects.countdowns

-- the keys stand for the objects: those of each kind do, and a key that is there is one of an
-- object
pub record KeysStand (keys : Keys) (objects : Objects) : Type 0 where
  pub kinds : (kind : Kind) → KindStands kind keys objects
  pub nothing_else : (key : List ℕ) → IsSome (entry_at keys key)
      → (kind : Kind) × (name : List ℕ) × IsName name
      × IsTrue (list_any (bytes_eq key) (keys_of kind name))

-- the keys stand for the objects of a state, and the board is the state's
pub record StateStands (keys : Keys) (board : BoardValue) (state : State) : Type 0 where
  pub keys_stand : KeysStand keys state.objects
  pub board_is : board_of board ≡ state.board
