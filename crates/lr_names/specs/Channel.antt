-- The channels on which waiting threads are woken.
use Rattle.std.specs.Prelude.{◌≡◌, ℕ, List, [], ◌∷◌, ◌++◌, Option, None, Some, is_some, Bool, true, false, codes}
use Rattle.std.specs.Option.{ForSome}
use Rattle.lr_names.specs.Name.{IsName}
use Rattle.lr_names.specs.Owner.{ThreadOfClient, IsOwner, owner_text}
use Rattle.lr_names.specs.declared.kind.Kind.{Kind}
use Rattle.lr_names.specs.declared.kind.Kind.TheVariants.{Mutex, Fair, Rw, Fenced, Semaphore, Permits, Countdown}
use Rattle.lr_names.specs.declared.kind.Wakes.{Wakes}
use Rattle.lr_names.specs.declared.kind.Wakes.TheVariants.{One, All}

-- the channel of an object, or of one owner in the queue of a fair lock
pub record ChannelOf : Type 0 where
  pub kind : Kind
  pub name : List ℕ
  pub owner : Option ThreadOfClient

-- whether a kind has a channel for each owner
abbrev pub is_fair : Kind → Bool
is_fair Fair = true
is_fair Mutex = false
is_fair Rw = false
is_fair Fenced = false
is_fair Semaphore = false
is_fair Permits = false
is_fair Countdown = false

-- the word of a kind: this project's own
abbrev pub kind_word : Kind → List ℕ
kind_word Mutex = codes "lock"
kind_word Fair = codes "fair"
kind_word Rw = codes "rw"
kind_word Fenced = codes "fenced"
kind_word Semaphore = codes "sem"
kind_word Permits = codes "permits"
kind_word Countdown = codes "latch"

-- whom a message wakes: one thread where one can have what was freed, else all
abbrev pub channel_wakes : Kind → Wakes
channel_wakes Mutex = One
channel_wakes Fair = One
channel_wakes Fenced = One
channel_wakes Rw = All
channel_wakes Semaphore = All
channel_wakes Permits = All
channel_wakes Countdown = All

-- an owner's part of a channel's text
abbrev pub owner_part : Option ThreadOfClient → List ℕ
owner_part None = []
owner_part (Some owner) = 58 ∷ owner_text owner

-- the text of a channel: ch:KIND:NAME, and behind that :OWNER for a fair lock
abbrev pub channel_text : ChannelOf → List ℕ
channel_text channel =
    codes "ch:" ++ kind_word channel.kind ++ 58 ∷ channel.name ++ owner_part channel.owner

-- a channel that the program can have
pub record IsChannel (channel : ChannelOf) : Type 0 where
  pub name : IsName channel.name
  pub fair : is_some channel.owner ≡ is_fair channel.kind
  pub owner : ForSome channel.owner IsOwner
