-- For which semaphores the keys of a key space stand.
use Rattle.lr_limits.specs.Limits.{amount_limit}
use Rattle.lr_names.specs.declared.part.Part.TheVariants.{Semaphore}
use Rattle.lr_keys.specs.KeySpace.{Keys}
use Rattle.lr_model.specs.Answer.{Objects}
use Rattle.lr_counter.specs.Numbers.{NumbersStand}

-- the key of each semaphore whose number is set holds how many permits are free
abbrev pub SemaphoresStand : Keys → Objects → Type 0
SemaphoresStand keys objects = NumbersStand Semaphore amount_limit keys objects.semaphores
