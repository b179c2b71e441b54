-- For which countdown latches keys stand: laws for the crates above.
use Rattle.std.proofs.Common.{◌≡◌, ◌≤◌, ℕ, List, None}
use Rattle.lr_names.specs.Key.{key_text}
use Rattle.lr_names.specs.Name.{IsName}
use Rattle.lr_names.specs.declared.part.Part.TheVariants.{Countdown}
use Rattle.lr_keys.specs.KeySpace.{Keys, entry_at, live_entry}
use Rattle.lr_limits.specs.Limits.{amount_limit, last_moment}
use Rattle.lr_model.specs.Answer.{Objects, no_objects}
use Rattle.lr_counter.specs.Numbers.{some_unless_zero}
use Rattle.lr_counter.proofs.NumbersLaws.{no_numbers_stand, numbers_stand_later}
use Rattle.lr_countdown.specs.Stands.{CountdownsStand}

-- where there is no key, all latches are at 0
pub no_keys_stand : (keys : Keys) → entry_at keys ≡ (λ _. None) → CountdownsStand keys no_objects
no_keys_stand keys none = no_numbers_stand Countdown amount_limit keys none

-- what is left of the keys later stands for the same latches
pub countdowns_stand_later : (old new : Keys) (objects : Objects) → CountdownsStand old objects
    → old.moment ≤ new.moment → new.moment ≤ last_moment
    → ((name : List ℕ) → IsName name
    → entry_at new (key_text Countdown name)
    ≡ live_entry new.moment (entry_at old (key_text Countdown name)))
    → CountdownsStand new objects
countdowns_stand_later old new objects stand later early entries =
    numbers_stand_later Countdown amount_limit old
    (λ name. some_unless_zero (objects.countdowns name)) stand new entries
