-- Who waits for a semaphore or for a latch: refused by a reply, and still refused until a message.
use Rattle.std.proofs.Common.{◌≡◌, ℕ, ◌+◌, ◌-◌, ◌==◌, nat_lt, nat_le, List, Bool, true, false, Option, Some, None, if◌then◌else◌, refl, sym, ap, ◌∙◌, arith}
use Rattle.std.proofs.lemmas.Bool.{false≢true, eqb-true, eqb-false}
use Rattle.std.proofs.lemmas.Bool.Decides.{nat_tests}
use Rattle.std.proofs.lemmas.Slice.Eq.{bytes_eq-Decides}
use Rattle.lr_limits.specs.Limits.{amount_limit}
use Rattle.lr_names.specs.declared.kind.Kind.TheVariants.{Semaphore, Countdown}
use Rattle.lr_objects.specs.SemaphoreCalls.{semaphore_call_of}
use Rattle.lr_objects.specs.CountdownCalls.{countdown_call_of}
use Rattle.lr_objects.specs.Reply.{blocks}
use Rattle.lr_objects.specs.declared.countdown.CountdownCall.{CountdownCall}
use Rattle.lr_objects.specs.declared.countdown.CountdownCall.TheVariants as latch_calls
use Rattle.lr_objects.specs.declared.countdown.CountdownFunction.{CountdownFunction}
use Rattle.lr_objects.specs.declared.countdown.CountdownFunction.TheVariants as latch
use Rattle.lr_objects.specs.declared.kinds.Function.TheVariants as functions
use Rattle.lr_objects.specs.declared.reply.Reply.TheVariants.{Granted, Short, Set, AlreadySet, Count, TooMany}
use Rattle.lr_objects.specs.declared.semaphore.SemaphoreCall.{SemaphoreCall}
use Rattle.lr_objects.specs.declared.semaphore.SemaphoreCall.TheVariants as calls
use Rattle.lr_objects.specs.declared.semaphore.SemaphoreFunction.{SemaphoreFunction}
use Rattle.lr_objects.specs.declared.semaphore.SemaphoreFunction.TheVariants as semaphore
use Rattle.lr_model.specs.Countdown.{latch_post, countdown_call}
use Rattle.lr_model.specs.Outcome.{Outcome, silent_outcome}
use Rattle.lr_model.specs.Semaphore.{semaphore_post, free_permits, semaphore_call}
use Rattle.lr_waiting.specs.Peak.{tells}
use Rattle.lr_waiting.specs.Stand.{due_by_reply}

-- a message of an object tells those who wait for it
told_semaphore : (name : List ℕ) → tells Semaphore name (Some (semaphore_post name)) ≡ true
told_semaphore name = (bytes_eq-Decides name name).1 refl

told_latch : (name : List ℕ) → tells Countdown name (Some (latch_post name)) ≡ true
told_latch name = (bytes_eq-Decides name name).1 refl

-- Semaphores.

-- whether a function is refused
abbrev pub refuses : SemaphoreFunction → List ℕ → ℕ → Option ℕ → Bool
refuses f name number free =
    blocks (semaphore_call name (semaphore_call_of f number) free).reply (functions.Semaphore f)

-- so many permits aren't free
abbrev Lacks : ℕ → Option ℕ → Type 0
Lacks number None = Unit {0}
Lacks number (Some free) = nat_le number free ≡ false

refused-lacks : (name : List ℕ) (number : ℕ) (free : Option ℕ)
    → refuses semaphore.Try name number free ≡ true → Lacks number free
refused-lacks name number None refused = tt
refused-lacks name number (Some free) refused = by (nat_le number free) refused
  where
    by : (enough : Bool)
        → blocks
        (if enough then silent_outcome Granted (Some (free - number))
        else silent_outcome Short (Some free)).reply
        (functions.Semaphore semaphore.Try) ≡ true
        → enough ≡ false
    by true r = absurd (false≢true r)
    by false r = refl

lacks-refused : (name : List ℕ) (number : ℕ) (free : Option ℕ) → Lacks number free
    → refuses semaphore.Try name number free ≡ true
lacks-refused name number None lacks = refl
lacks-refused name number (Some free) lacks =
    ap
    (λ enough. blocks
    (if enough then silent_outcome Granted (Some (free - number))
    else silent_outcome Short (Some free)).reply
    (functions.Semaphore semaphore.Try))
    lacks

-- what is refused is told no time
lacks-due : (name : List ℕ) (number at : ℕ) (free : Option ℕ) → Lacks number free
    → due_by_reply at (Some (semaphore_call name (calls.Try number) free).reply) ≡ None
lacks-due name number at None lacks = refl
lacks-due name number at (Some free) lacks =
    ap
    (λ enough. due_by_reply at
    (Some
    (if enough then silent_outcome Granted (Some (free - number))
    else silent_outcome Short (Some free)).reply))
    lacks

-- without a message there are no more of them
module _ (name : List ℕ) (number : ℕ) where
  abbrev Quietly : Outcome (Option ℕ) → Type 0
  Quietly outcome = tells Semaphore name outcome.post ≡ false → Lacks number outcome.object

  quiet-call : (call : SemaphoreCall) (free : Option ℕ) → Lacks number free
      → Quietly (semaphore_call name call free)
  quiet-call (calls.Set other) None lacks silent =
      absurd (false≢true (sym silent ∙ told_semaphore name))
  quiet-call (calls.Set other) (Some free) lacks silent = lacks
  quiet-call calls.Count free lacks silent = lacks
  quiet-call (calls.Try other) None lacks silent = tt
  quiet-call (calls.Try other) (Some free) lacks silent = by (nat_le other free) silent
    where
      by : (enough : Bool)
          → Quietly
          (if enough then silent_outcome Granted (Some (free - other))
          else silent_outcome Short (Some free))
      by true r = fewer number free other lacks
        where
          fewer : (n m k : ℕ) → nat_le n m ≡ false → nat_le n (m - k) ≡ false
          fewer n m k e = grind (arith, e, nat_tests)
      by false r = lacks
  quiet-call (calls.Release other) free lacks silent =
      by (nat_le (free_permits free + other) amount_limit) silent
    where
      by : (fits : Bool)
          → Quietly
          (if fits
          then record {
            reply = Count (free_permits free + other);
            object = Some (free_permits free + other);
            post = Some (semaphore_post name);
          }
          else silent_outcome TooMany free)
      by true r = absurd (false≢true (sym r ∙ told_semaphore name))
      by false r = lacks

-- functions that don't try aren't refused
never-refuses : (name : List ℕ) (number : ℕ) (free : Option ℕ) (f : SemaphoreFunction)
    → (f ≡ semaphore.Try → ⊥) → refuses f name number free ≡ true → ⊥
never-refuses name number free semaphore.Try other refused = other refl
never-refuses name number free semaphore.Count other refused = false≢true refused
never-refuses name number None semaphore.Set other refused = false≢true refused
never-refuses name number (Some free) semaphore.Set other refused = false≢true refused
never-refuses name number free semaphore.Release other refused =
    by (nat_le (free_permits free + number) amount_limit) refused
  where
    by : (fits : Bool)
        → blocks
        (if fits
        then record {
          reply = Count (free_permits free + number);
          object = Some (free_permits free + number);
          post = Some (semaphore_post name);
        }
        else silent_outcome TooMany free).reply
        (functions.Semaphore semaphore.Release) ≡ true
        → ⊥
    by true r = false≢true r
    by false r = false≢true r

set_try : semaphore.Set ≡ semaphore.Try → ⊥
set_try e = absurd (cc e)

release_try : semaphore.Release ≡ semaphore.Try → ⊥
release_try e = absurd (cc e)

count_try : semaphore.Count ≡ semaphore.Try → ⊥
count_try e = absurd (cc e)

-- a call that sends no message leaves a refused one refused
pub short-call : (f : SemaphoreFunction) (name : List ℕ) (number : ℕ) (free : Option ℕ)
    (call : SemaphoreCall) → tells Semaphore name (semaphore_call name call free).post ≡ false
    → refuses f name number free ≡ true
    → refuses f name number (semaphore_call name call free).object ≡ true
short-call semaphore.Try name number free call silent refused =
    lacks-refused name number (semaphore_call name call free).object
    (quiet-call name number call free (refused-lacks name number free refused) silent)
short-call semaphore.Set name number free call silent refused =
    absurd (never-refuses name number free semaphore.Set set_try refused)
short-call semaphore.Release name number free call silent refused =
    absurd (never-refuses name number free semaphore.Release release_try refused)
short-call semaphore.Count name number free call silent refused =
    absurd (never-refuses name number free semaphore.Count count_try refused)

pub short-due : (f : SemaphoreFunction) (name : List ℕ) (number at : ℕ) (free : Option ℕ)
    → refuses f name number free ≡ true
    → due_by_reply at (Some (semaphore_call name (semaphore_call_of f number) free).reply)
    ≡ None
short-due semaphore.Try name number at free refused =
    lacks-due name number at free (refused-lacks name number free refused)
short-due semaphore.Set name number at free refused =
    absurd (never-refuses name number free semaphore.Set set_try refused)
short-due semaphore.Release name number at free refused =
    absurd (never-refuses name number free semaphore.Release release_try refused)
short-due semaphore.Count name number at free refused =
    absurd (never-refuses name number free semaphore.Count count_try refused)

-- Latches.

-- whether a function is refused
abbrev pub latch_refuses : CountdownFunction → List ℕ → ℕ → ℕ → Bool
latch_refuses f name number count =
    blocks (countdown_call name (countdown_call_of f number) count).reply (functions.Countdown f)

-- a latch comes to 0 only by a message
quiet-latch : (name : List ℕ) (call : CountdownCall) (count : ℕ) → nat_lt 0 count ≡ true
    → tells Countdown name (countdown_call name call count).post ≡ false
    → nat_lt 0 (countdown_call name call count).object ≡ true
quiet-latch name latch_calls.Count count some silent = some
quiet-latch name (latch_calls.Set number) count some silent = by (count == 0) refl
  where
    not_none : (c : ℕ) → c ≡ 0 → nat_lt 0 c ≡ true → ⊥
    not_none c e more = false≢true (ap (nat_lt 0) (sym e) ∙ more)

    by : (unset : Bool) → (count == 0) ≡ unset
        → nat_lt 0
        (if unset then silent_outcome Set number else silent_outcome AlreadySet count).object
        ≡ true
    by true e = absurd (not_none count (eqb-true count 0 e) some)
    by false e = some
quiet-latch name latch_calls.Down count some silent = by (count == 1) refl silent
  where
    more_left : (c : ℕ) → nat_lt 0 c ≡ true → (c ≡ 1 → ⊥) → nat_lt 0 (c - 1) ≡ true
    more_left c more other = grind (arith, more, other, nat_tests)

    by : (last : Bool) → (count == 1) ≡ last
        → tells Countdown name (if last then Some (latch_post name) else None) ≡ false
        → nat_lt 0 (count - 1) ≡ true
    by true e r = absurd (false≢true (sym r ∙ told_latch name))
    by false e r = more_left count some (eqb-false count 1 e)

-- a call that sends no message leaves a refused one refused
pub counting-call : (f : CountdownFunction) (name : List ℕ) (number count : ℕ)
    (call : CountdownCall) → tells Countdown name (countdown_call name call count).post ≡ false
    → latch_refuses f name number count ≡ true
    → latch_refuses f name number (countdown_call name call count).object ≡ true
counting-call latch.Count name number count call silent refused =
    quiet-latch name call count refused silent
counting-call latch.Down name number count call silent refused = absurd (false≢true refused)
counting-call latch.Set name number count call silent refused = absurd (never_set (count == 0) refused)
  where
    never_set : (unset : Bool)
        → blocks
        (if unset then silent_outcome Set number else silent_outcome AlreadySet count).reply
        (functions.Countdown latch.Set) ≡ true
        → ⊥
    never_set true r = false≢true r
    never_set false r = false≢true r

pub counting-due : (f : CountdownFunction) (name : List ℕ) (number at count : ℕ)
    → latch_refuses f name number count ≡ true
    → due_by_reply at (Some (countdown_call name (countdown_call_of f number) count).reply)
    ≡ None
counting-due latch.Count name number at count refused = refl
counting-due latch.Down name number at count refused = refl
counting-due latch.Set name number at count refused = by (count == 0)
  where
    by : (unset : Bool)
        → due_by_reply at
        (Some
        (if unset then silent_outcome Set number else silent_outcome AlreadySet count).reply)
        ≡ None
    by true = refl
    by false = refl
