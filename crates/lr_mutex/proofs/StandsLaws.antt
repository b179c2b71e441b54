-- For which locks keys stand: laws for the crates above.
use Rattle.std.proofs.Common.{◌≡◌, ◌≤◌, ℕ, List, None}
use Rattle.lr_names.specs.Key.{key_text}
use Rattle.lr_names.specs.Name.{IsName}
use Rattle.lr_names.specs.declared.part.Part.TheVariants.{Lock}
use Rattle.lr_keys.specs.KeySpace.{Keys, entry_at, live_entry}
use Rattle.lr_limits.specs.Limits.{last_moment}
use Rattle.lr_model.specs.Answer.{Objects, no_objects}
use Rattle.lr_hold.proofs.HoldsLaws.{no_holds_stand, holds_stand_later}
use Rattle.lr_mutex.specs.Stands.{MutexesStand}

-- where there is no key there is no lock
pub no_keys_stand : (keys : Keys) → entry_at keys ≡ (λ _. None) → MutexesStand keys no_objects
no_keys_stand keys none = no_holds_stand Lock keys none

-- what is left of the keys later stands for the same locks
pub mutexes_stand_later : (old new : Keys) (objects : Objects) → MutexesStand old objects
    → old.moment ≤ new.moment → new.moment ≤ last_moment
    → ((name : List ℕ) → IsName name
    → entry_at new (key_text Lock name) ≡ live_entry new.moment (entry_at old (key_text Lock name)))
    → MutexesStand new objects
mutexes_stand_later old new objects stand later early entries =
    holds_stand_later Lock old objects.mutexes stand new later early entries
