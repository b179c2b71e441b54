-- The permits of semaphores, told from the replies alone. Nothing here looks at what the server
-- keeps.
use Rattle.std.specs.Prelude.{ℕ, ◌+◌, ◌≤◌, List, if◌then◌else◌}
use Rattle.std.specs.Str.{bytes_eq}
use Rattle.lr_objects.specs.declared.kinds.Call.{Call}
use Rattle.lr_objects.specs.declared.kinds.Call.TheVariants.{Semaphore}
use Rattle.lr_objects.specs.declared.semaphore.SemaphoreCall.TheVariants.{Set as set, Try, Release}
use Rattle.lr_objects.specs.declared.op.Op.{Op}
use Rattle.lr_objects.specs.declared.reply.Reply.{Reply}
use Rattle.lr_objects.specs.declared.reply.Reply.TheVariants.{Granted, Set, Count}
use Rattle.lr_model.specs.declared.entry.Entry.{Entry}
use Rattle.lr_model.specs.History.{State}
use Rattle.lr_model.specs.Told.{told_after}

-- how many permits of a semaphore were given, by setting its number and by releases, and how many
-- were granted
pub record PermitSums : Type 0 where
  pub given : ℕ
  pub granted : ℕ

-- before the first call
abbrev pub no_permits : PermitSums
no_permits = record { given = 0; granted = 0 }

-- so many more were given, or granted
abbrev pub with_given : ℕ → PermitSums → PermitSums
with_given number sums = record sums { given = sums.given + number }

abbrev pub with_granted : ℕ → PermitSums → PermitSums
with_granted number sums = record sums { granted = sums.granted + number }

-- the sums of a semaphore after a reply to a call
abbrev pub sums_by_call : List ℕ → List ℕ → Call → Reply → PermitSums → PermitSums
sums_by_call name key (Semaphore (set number)) Set sums =
    if bytes_eq name key then with_given number sums else sums
sums_by_call name key (Semaphore (Release number)) (Count count) sums =
    if bytes_eq name key then with_given number sums else sums
sums_by_call name key (Semaphore (Try number)) Granted sums =
    if bytes_eq name key then with_granted number sums else sums
sums_by_call name key _ _ sums = sums

abbrev pub sums_by_reply : List ℕ → Op → Reply → PermitSums → PermitSums
sums_by_reply name op reply sums = sums_by_call name op.name op.call reply sums

-- the sums of a semaphore after a history
abbrev pub sums_after : State → List Entry → List ℕ → PermitSums
sums_after first entries name = told_after (sums_by_reply name) first entries no_permits

-- of no semaphore more was granted than was set and released before
abbrev pub NeverOvergranted : State → List Entry → Type 0
NeverOvergranted first entries =
    (name : List ℕ)
    → (sums_after first entries name).granted ≤ (sums_after first entries name).given
