-- What a step does to the two keys of one fenced lock, at the moment of the keys.
use Rattle.std.specs.Prelude.{◌≡◌, ℕ, List, false, Option}
use Rattle.std.specs.Str.{bytes_eq}
use Rattle.lr_limits.specs.Limits.{token_limit}
use Rattle.lr_names.specs.Owner.{ThreadOfClient}
use Rattle.lr_keys.specs.KeySpace.{KeyEntry, Keys, entry_at}
use Rattle.lr_objects.specs.declared.reply.Reply.{Reply}
use Rattle.lr_model.specs.Fenced.{FencedLock, take_fenced}
use Rattle.lr_model.specs.Hold.{live_hold}
use Rattle.lr_model.specs.Outcome.{Outcome}
use Rattle.lr_counter.specs.Numbers.{IsNumberAt, some_unless_zero}
use Rattle.lr_hold.specs.Step.{IsHeld}

-- a key with this entry holds the last token: none where no token was given
abbrev pub IsTokenAt : Option KeyEntry → ℕ → Type 0
IsTokenAt entry token = IsNumberAt token_limit entry (some_unless_zero token)

-- the keys have this lock under these two: in a hash its hold, which is live, and in a counter its
-- last token
pub record IsLockAt (keys : Keys) (hash counter : List ℕ) (lock : FencedLock) : Type 0 where
  pub held : IsHeld keys.moment (entry_at keys hash) lock.held
  pub token : IsTokenAt (entry_at keys counter) lock.token

-- the step was answered as the outcome says, and the keys have the outcome's lock now
pub record IsLockStep (new : Keys) (hash counter : List ℕ) (reply : Reply)
    (outcome : Outcome FencedLock) : Type 0 where
  pub answer : reply ≡ outcome.reply
  pub lock : IsLockAt new hash counter outcome.object

-- what taking the lock of these two keys does, for this owner and for this lease from now on
abbrev pub IsTake : Keys → Keys → List ℕ → List ℕ → ThreadOfClient → ℕ → Reply → Type 0
IsTake old new hash counter owner lease reply = (lock : FencedLock)
    → IsLockAt old hash counter lock
    → IsLockStep new hash counter reply (take_fenced old.moment owner lease lock.token lock.held)

-- of the keys no others than these two change
abbrev pub ChangesOnlyTwo : List ℕ → List ℕ → Keys → Keys → Type 0
ChangesOnlyTwo one two old new = (q : List ℕ) → bytes_eq one q ≡ false → bytes_eq two q ≡ false
    → entry_at new q ≡ entry_at old q

-- what is live of a lock: its token never ends
abbrev pub live_lock : ℕ → FencedLock → FencedLock
live_lock moment lock = record { held = live_hold moment lock.held; token = lock.token }
