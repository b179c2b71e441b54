-- The semaphore, after that of the Redisson guide: unset, or the number of its permits that are
-- free.
use Rattle.std.specs.Prelude.{ℕ, ◌+◌, ◌-◌, nat_le, List, Option, Some, None, unwrap_or, if◌then◌else◌}
use Rattle.lr_limits.specs.Limits.{amount_limit}
use Rattle.lr_names.specs.Post.{post_to}
use Rattle.lr_names.specs.declared.kind.Kind.TheVariants.{Semaphore}
use Rattle.lr_names.specs.declared.post.Post.{Post}
use Rattle.lr_objects.specs.declared.semaphore.SemaphoreCall.{SemaphoreCall}
use Rattle.lr_objects.specs.declared.semaphore.SemaphoreCall.TheVariants as calls
use Rattle.lr_objects.specs.declared.reply.Reply.TheVariants.{Granted, Short, Set, AlreadySet, Count, TooMany}
use Rattle.lr_model.specs.Outcome.{Outcome, silent_outcome}

-- the message that permits have come free
abbrev pub semaphore_post : List ℕ → Post
semaphore_post name = post_to (record { kind = Semaphore; name = name; owner = None })

-- how many permits are free: none where the number isn't set
abbrev pub free_permits : Option ℕ → ℕ
free_permits semaphore = unwrap_or semaphore 0

-- the number is set once, and those who wait are told
abbrev pub sem_set : List ℕ → ℕ → Option ℕ → Outcome (Option ℕ)
sem_set name number None =
    record { reply = Set; object = Some number; post = Some (semaphore_post name) }
sem_set name number (Some free) = silent_outcome AlreadySet (Some free)

-- permits are taken all at once, where so many are free
abbrev pub sem_try : ℕ → Option ℕ → Outcome (Option ℕ)
sem_try number None = silent_outcome Short None
sem_try number (Some free) =
    if nat_le number free then silent_outcome Granted (Some (free - number))
    else silent_outcome Short (Some free)

-- Permits are given, whoever took them, and those who wait are told. There are a thousand million
-- at most.
abbrev pub sem_release : List ℕ → ℕ → Option ℕ → Outcome (Option ℕ)
sem_release name number semaphore =
    if nat_le (free_permits semaphore + number) amount_limit
    then record {
      reply = Count (free_permits semaphore + number);
      object = Some (free_permits semaphore + number);
      post = Some (semaphore_post name);
    }
    else silent_outcome TooMany semaphore

-- how many are free
abbrev pub sem_count : Option ℕ → Outcome (Option ℕ)
sem_count semaphore = silent_outcome (Count (free_permits semaphore)) semaphore

-- what a call makes of the semaphore of this name
abbrev pub semaphore_call : List ℕ → SemaphoreCall → Option ℕ → Outcome (Option ℕ)
semaphore_call name (calls.Set number) = sem_set name number
semaphore_call name (calls.Try number) = sem_try number
semaphore_call name (calls.Release number) = sem_release name number
semaphore_call name calls.Count = sem_count
