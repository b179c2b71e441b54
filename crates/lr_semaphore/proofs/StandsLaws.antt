-- For which semaphores keys stand: laws for the crates above.
use Rattle.std.proofs.Common.{◌≡◌, ◌≤◌, ℕ, List, None}
use Rattle.lr_names.specs.Key.{key_text}
use Rattle.lr_names.specs.Name.{IsName}
use Rattle.lr_names.specs.declared.part.Part.TheVariants.{Semaphore}
use Rattle.lr_keys.specs.KeySpace.{Keys, entry_at, live_entry}
use Rattle.lr_limits.specs.Limits.{amount_limit, last_moment}
use Rattle.lr_model.specs.Answer.{Objects, no_objects}
use Rattle.lr_counter.proofs.NumbersLaws.{no_numbers_stand, numbers_stand_later}
use Rattle.lr_semaphore.specs.Stands.{SemaphoresStand}

-- where there is no key there is no semaphore
pub no_keys_stand : (keys : Keys) → entry_at keys ≡ (λ _. None) → SemaphoresStand keys no_objects
no_keys_stand keys none = no_numbers_stand Semaphore amount_limit keys none

-- what is left of the keys later stands for the same semaphores
pub semaphores_stand_later : (old new : Keys) (objects : Objects) → SemaphoresStand old objects
    → old.moment ≤ new.moment → new.moment ≤ last_moment
    → ((name : List ℕ) → IsName name
    → entry_at new (key_text Semaphore name)
    ≡ live_entry new.moment (entry_at old (key_text Semaphore name)))
    → SemaphoresStand new objects
semaphores_stand_later old new objects stand later early entries =
    numbers_stand_later Semaphore amount_limit old objects.semaphores stand new entries
