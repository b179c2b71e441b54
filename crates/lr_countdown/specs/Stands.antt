-- For which countdown latches the keys of a key space stand.
use Rattle.lr_limits.specs.Limits.{amount_limit}
use Rattle.lr_names.specs.declared.part.Part.TheVariants.{Countdown}
use Rattle.lr_keys.specs.KeySpace.{Keys}
use Rattle.lr_model.specs.Answer.{Objects}
use Rattle.lr_counter.specs.Numbers.{NumbersStand, some_unless_zero}

-- the key of each latch that isn't at 0 holds its count
abbrev pub CountdownsStand : Keys → Objects → Type 0
CountdownsStand keys objects =
    NumbersStand Countdown amount_limit keys (λ name. some_unless_zero (objects.countdowns name))
