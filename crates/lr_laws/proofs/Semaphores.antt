-- Of no semaphore more permits are granted than were set and released: what is free and what was
-- granted is together what was given.
use Rattle.std.proofs.Common.{◌≡◌, ℕ, ◌+◌, ◌-◌, nat_le, List, true, Option, Some, None, if◌then◌else◌, refl, arith}
use Rattle.std.specs.Str.{bytes_eq}
use Rattle.std.proofs.lemmas.Bool.{cond_both}
use Rattle.std.proofs.lemmas.Bool.Decides.{nat_tests}
use Rattle.lr_limits.specs.Limits.{amount_limit}
use Rattle.lr_objects.specs.Op.{call_on}
use Rattle.lr_objects.specs.declared.kinds.Call.TheVariants.{Semaphore}
use Rattle.lr_objects.specs.declared.semaphore.SemaphoreCall.{SemaphoreCall}
use Rattle.lr_objects.specs.declared.semaphore.SemaphoreCall.TheVariants.{Set, Try, Release, Count}
use Rattle.lr_model.specs.declared.entry.Entry.{Entry}
use Rattle.lr_model.specs.Answer.{Objects}
use Rattle.lr_model.specs.SemaphoreCounts.{PermitSums, no_permits, with_given, with_granted, sums_by_reply, NeverOvergranted}
use Rattle.lr_model.specs.History.{state_at_start}
use Rattle.lr_model.specs.Outcome.{Outcome}
use Rattle.lr_model.specs.Semaphore.{free_permits, sem_set, sem_try, sem_release}
use Rattle.lr_model.specs.Table.{put}
use Rattle.lr_laws.proofs.ToldLaws.{IsToldThroughout, told_by_history, agrees_here, told_more, told_nothing}

-- the permits that are free and those that were granted are what was given
abbrev AddsUp : PermitSums → Option ℕ → Type 0
AddsUp sums semaphore = free_permits semaphore + sums.granted ≡ sums.given

module _ (name : List ℕ) (objects : Objects) (sums : PermitSums)
    (agrees : AddsUp sums (objects.semaphores name)) (key : List ℕ) (number : ℕ) where
  -- after a call on the semaphore of the key, so answered, it still adds up
  abbrev StillAddsUp : SemaphoreCall → Outcome (Option ℕ) → Type 0
  StillAddsUp call outcome =
      AddsUp (sums_by_reply name (call_on key (Semaphore call)) outcome.reply sums)
      (put bytes_eq objects.semaphores key outcome.object name)

  -- what is known of it before the call, where it is this one
  abbrev IsKnown : Option ℕ → Type 0
  IsKnown semaphore = bytes_eq name key ≡ true → AddsUp sums semaphore

  -- the reply tells more of it, or nothing
  more : (told : PermitSums) (object : Option ℕ)
      → (bytes_eq name key ≡ true → AddsUp told object)
      → AddsUp (if bytes_eq name key then told else sums)
      (put bytes_eq objects.semaphores key object name)
  more = told_more AddsUp objects.semaphores name key sums agrees

  nothing : (object : Option ℕ) → IsKnown object
      → AddsUp sums (put bytes_eq objects.semaphores key object name)
  nothing = told_nothing AddsUp objects.semaphores name key sums agrees

  -- setting the number, taking, and releasing
  set : (semaphore : Option ℕ) → IsKnown semaphore
      → StillAddsUp (Set number) (sem_set key number semaphore)
  set None known =
      more (with_given number sums) (Some number) (λ here. omega (arith, known here))
  set (Some free) known = nothing (Some free) known

  taken : (semaphore : Option ℕ) → IsKnown semaphore
      → StillAddsUp (Try number) (sem_try number semaphore)
  taken None known = nothing None known
  taken (Some free) known =
      cond_both (nat_le number free) _ _ (StillAddsUp (Try number))
      (λ enough. more (with_granted number sums) (Some (free - number))
      (λ here. grind (arith, nat_tests, enough, known here)))
      (λ short. nothing (Some free) known)

  released : (semaphore : Option ℕ) → IsKnown semaphore
      → StillAddsUp (Release number) (sem_release key number semaphore)
  released semaphore known =
      cond_both (nat_le (free_permits semaphore + number) amount_limit) _ _
      (StillAddsUp (Release number))
      (λ fits. more (with_given number sums) (Some (free_permits semaphore + number))
      (λ here. omega (arith, known here)))
      (λ over. nothing semaphore known)

module _ (name : List ℕ) where
  -- the sums of a semaphore agree with the objects
  abbrev Agrees : PermitSums → Objects → Type 0
  Agrees sums objects = AddsUp sums (objects.semaphores name)

  kept : IsToldThroughout (sums_by_reply name) Agrees
  kept moment key (Semaphore (Set number)) sums objects agrees =
      set name objects sums agrees key number (objects.semaphores key)
      (agrees_here AddsUp objects.semaphores name key sums agrees)
  kept moment key (Semaphore (Try number)) sums objects agrees =
      taken name objects sums agrees key number (objects.semaphores key)
      (agrees_here AddsUp objects.semaphores name key sums agrees)
  kept moment key (Semaphore (Release number)) sums objects agrees =
      released name objects sums agrees key number (objects.semaphores key)
      (agrees_here AddsUp objects.semaphores name key sums agrees)
  kept moment key (Semaphore Count) sums objects agrees =
      nothing name objects sums agrees key 0 (objects.semaphores key)
      (agrees_here AddsUp objects.semaphores name key sums agrees)
  -- a call on an object of another kind
  kept moment key call sums objects agrees = agrees

-- so of what was given no more was granted
pub never_overgranted : (last : ℕ) (entries : List Entry)
    → NeverOvergranted (state_at_start last) entries
never_overgranted last entries name =
    let sum = told_by_history (sums_by_reply name) (Agrees name) (kept name) entries
    (state_at_start last) no_permits refl in
    omega (arith, sum)
