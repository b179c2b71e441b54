-- For which fair locks keys stand: laws for the crates above.
use Rattle.std.proofs.Common.{◌≡◌, ◌≤◌, ℕ, List, Option, None, ap, arith}
use Rattle.std.specs.List.{IsDistinct}
use Rattle.lr_limits.specs.Limits.{last_moment}
use Rattle.lr_names.specs.Key.{key_text}
use Rattle.lr_names.specs.Name.{IsName}
use Rattle.lr_names.specs.declared.part.Part.TheVariants.{Fair, FairQueue, FairStale}
use Rattle.lr_keys.specs.KeySpace.{KeyEntry, Keys, entry_at, live_entry}
use Rattle.lr_model.specs.Answer.{Objects, no_objects}
use Rattle.lr_hold.proofs.HoldsLaws.{no_holds_stand, holds_stand_later, holds_stand_settled}
use Rattle.lr_fair.specs.Stands.{FairLocksStand, holds_of}
use Rattle.lr_fair.proofs.ChangeLemmas.{queue-later, queue-same}

-- where there is no key there is no lock
pub no_keys_stand : (keys : Keys) → entry_at keys ≡ (λ _. None) → FairLocksStand keys no_objects
unfolding IsDistinct
no_keys_stand keys none = record {
  held = no_holds_stand Fair keys none;
  queues = λ name named. record {
    items_are = absent (key_text FairQueue name);
    stales_are = absent (key_text FairStale name);
    are = record { owners = tt; apart = tt; few = omega arith };
  };
}
  where
    absent : (key : List ℕ) → entry_at keys key ≡ None
    absent key = ap (λ (f : List ℕ → Option KeyEntry). f key) none

-- what is left of the keys later stands for the same locks
pub fair_locks_stand_later : (old new : Keys) (objects : Objects) → FairLocksStand old objects
    → old.moment ≤ new.moment → new.moment ≤ last_moment
    → ((name : List ℕ) → IsName name
    → entry_at new (key_text Fair name)
    ≡ live_entry new.moment (entry_at old (key_text Fair name)))
    → ((name : List ℕ) → IsName name
    → entry_at new (key_text FairQueue name)
    ≡ live_entry new.moment (entry_at old (key_text FairQueue name)))
    → ((name : List ℕ) → IsName name
    → entry_at new (key_text FairStale name)
    ≡ live_entry new.moment (entry_at old (key_text FairStale name)))
    → FairLocksStand new objects
fair_locks_stand_later old new objects stand later early holds queues stales = record {
  held = holds_stand_later Fair old (holds_of objects) stand.held new later early holds;
  queues = λ name named.
      queue-later new.moment (entry_at old (key_text FairQueue name))
      (entry_at old (key_text FairStale name)) (entry_at new (key_text FairQueue name))
      (entry_at new (key_text FairStale name)) (objects.fair_locks name).queue (queues name named)
      (stales name named) (stand.queues name named);
}

-- where nothing changes but the memory that is prepared
pub fair_locks_stand_settled : (old new : Keys) (objects : Objects) → FairLocksStand old objects
    → new.moment ≡ old.moment → entry_at new ≡ entry_at old → FairLocksStand new objects
fair_locks_stand_settled old new objects stand now entries = record {
  held = holds_stand_settled Fair old (holds_of objects) stand.held new now entries;
  queues = λ name named.
      queue-same (entry_at old (key_text FairQueue name)) (entry_at old (key_text FairStale name))
      (entry_at new (key_text FairQueue name)) (entry_at new (key_text FairStale name))
      (objects.fair_locks name).queue (same (key_text FairQueue name))
      (same (key_text FairStale name)) (stand.queues name named);
}
  where
    same : (key : List ℕ) → entry_at new key ≡ entry_at old key
    same key = ap (λ (f : List ℕ → Option KeyEntry). f key) entries
