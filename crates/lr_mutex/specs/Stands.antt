-- For which locks the keys of a key space stand.
use Rattle.lr_names.specs.declared.part.Part.TheVariants.{Lock}
use Rattle.lr_keys.specs.KeySpace.{Keys}
use Rattle.lr_model.specs.Answer.{Objects}
use Rattle.lr_hold.specs.Holds.{HoldsStand}

-- the key of each lock holds what is live of it
abbrev pub MutexesStand : Keys → Objects → Type 0
MutexesStand keys objects = HoldsStand Lock keys objects.mutexes
