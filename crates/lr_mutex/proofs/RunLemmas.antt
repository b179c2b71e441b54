-- From a step on the key of a lock to all objects.
use Rattle.std.proofs.Common.{◌≡◌, ◌≤◌, ℕ, Bool, cond, List, [], ◌∷◌, Option, Some, None, true, false, if◌then◌else◌, refl, ap, sym, subst, ◌∙◌, arith}
use Rattle.lr_names.specs.Key.{key_text}
use Rattle.lr_names.specs.Name.{IsName}
use Rattle.lr_names.specs.declared.part.Part.TheVariants.{Lock}
use Rattle.lr_keys.specs.KeySpace.{ChangesOnly, KeyEntry, Keys, entry_at, live_entries}
use Rattle.lr_keys.proofs.FrameLaws.{OthersAreLive-live, others_are_live}
use Rattle.lr_limits.specs.Limits.{last_moment}
use Rattle.lr_objects.specs.declared.lock.LockCall.{LockCall}
use Rattle.lr_objects.specs.declared.lock.LockCall.TheVariants.{Try, Unlock, Renew, Force}
use Rattle.lr_objects.specs.declared.reply.Reply.{Reply}
use Rattle.lr_objects.specs.declared.reply.Reply.TheVariants.{BadLease}
use Rattle.lr_model.specs.declared.hold.Hold.{Hold}
use Rattle.lr_model.specs.Answer.{Answered, Objects, reply_of, post_of}
use Rattle.lr_model.specs.Hold.{live_hold, take_hold, give_back_hold, renew_hold}
use Rattle.lr_model.specs.Moment.{is_lease}
use Rattle.lr_model.specs.Mutex.{lock_post}
use Rattle.lr_model.specs.Outcome.{Outcome, silent_outcome}
use Rattle.lr_hold.specs.Step.{IsHeld, IsHoldStep, is_freed}
use Rattle.lr_hold.proofs.HoldsLaws.{held_at, holds_stand_after, holds_stand_still}
use Rattle.lr_hold.proofs.PostLaws.{sends-take_hold, sends-give_back_hold, sends-renew_hold, sends-end_hold, sends-with_lease}
use Rattle.lr_mutex.specs.Run.{IsRun, on_mutex, lock_op}
use Rattle.lr_mutex.specs.Stands.{MutexesStand}

-- what a step makes of the hold that is live at its moment
abbrev pub StepOf : Type 0
StepOf = ℕ → Option Hold → Outcome (Option Hold)

-- what a call on the lock of a name answers that takes this step
abbrev pub answered_by : StepOf → ℕ → List ℕ → Objects → Answered
answered_by step moment name objects =
    on_mutex objects name (λ lock. step moment (live_hold moment lock))

-- and one whose lease may be out of range
abbrev pub answered_if : Bool → StepOf → ℕ → List ℕ → Objects → Answered
answered_if in_range step moment name objects =
    on_mutex objects name (λ lock.
    cond in_range (step moment (live_hold moment lock)) (silent_outcome BadLease lock))

module _ (old : Keys) (moment : ℕ) (later : old.moment ≤ moment) (early : moment ≤ last_moment)
    (name : List ℕ) (named : IsName name) where
  -- A step on the key of the lock, once the moment has come.
  module _ (middle new : Keys) (passed : middle.moment ≡ moment)
      (left : entry_at middle ≡ live_entries moment (entry_at old)) (now : new.moment ≡ middle.moment)
      (reply : Reply) (step : StepOf) where
    abbrev pub Steps : List ℕ → Type 0
    Steps key = (held : Option Hold) → IsHeld middle.moment (entry_at middle key) held
        → IsHoldStep new key reply (step middle.moment held)

    run_at_key : ChangesOnly (key_text Lock name) middle new → Steps (key_text Lock name)
        → IsRun old new moment name reply (answered_by step moment name)
    run_at_key others steps = record {
      answer = λ objects stand. (step_of objects stand).answer;
      stands = λ objects stand.
          holds_stand_after old middle new moment passed left now Lock name reply
          (step moment (held_of objects)) others (step_of objects stand) objects.mutexes stand later early;
      frame = others_are_live old middle new moment passed left now (key_text Lock name) others;
      now = now ∙ passed;
    }
      where
        held_of : Objects → Option Hold
        held_of objects = live_hold moment (objects.mutexes name)

        entry : live_entries moment (entry_at old) (key_text Lock name)
            ≡ entry_at middle (key_text Lock name)
        entry = sym (ap (λ (f : List ℕ → Option KeyEntry). f (key_text Lock name)) left)

        is_held : (objects : Objects) → MutexesStand old objects
            → IsHeld middle.moment (entry_at middle (key_text Lock name)) (held_of objects)
        is_held objects stand =
            subst (λ m. IsHeld m (entry_at middle (key_text Lock name)) (held_of objects)) (sym passed)
            (subst (λ e. IsHeld moment e (held_of objects)) entry
            (held_at Lock old objects.mutexes stand moment later early name named))

        step_of : (objects : Objects) → MutexesStand old objects
            → IsHoldStep new (key_text Lock name) reply (step moment (held_of objects))
        step_of objects stand =
            subst (λ m. IsHoldStep new (key_text Lock name) reply (step m (held_of objects))) passed
            (steps (held_of objects) (is_held objects stand))

    pub step_run : (key : List ℕ) → key ≡ key_text Lock name → ChangesOnly key middle new → Steps key
        → IsRun old new moment name reply (answered_by step moment name)
    step_run key is others steps =
        run_at_key (subst (λ k. ChangesOnly k middle new) is others) (subst Steps is steps)

    -- a step with a lease in range
    pub lease_run : (lease : ℕ) → is_lease lease ≡ true → (key : List ℕ) → key ≡ key_text Lock name
        → ChangesOnly key middle new → Steps key
        → IsRun old new moment name reply (answered_if (is_lease lease) step moment name)
    lease_run lease test key is others steps =
        subst (λ b. IsRun old new moment name reply (answered_if b step moment name)) (sym test)
        (step_run key is others steps)

  -- A lease out of range changes nothing but the moment.
  pub bad_lease_run : (new : Keys) → new.moment ≡ moment
      → entry_at new ≡ live_entries moment (entry_at old) → (step : StepOf) (lease : ℕ)
      → is_lease lease ≡ false
      → IsRun old new moment name BadLease (answered_if (is_lease lease) step moment name)
  bad_lease_run new now entries step lease test =
      subst (λ b. IsRun old new moment name BadLease (answered_if b step moment name)) (sym test)
      (record {
        answer = λ objects stand. refl;
        stands = λ objects stand.
            holds_stand_still Lock old objects.mutexes stand new (omega (arith, now)) (omega (arith, now))
            name left;
        frame = OthersAreLive-live old new (key_text Lock name ∷ []) left;
        now = now;
      })
    where
      left : entry_at new ≡ live_entries new.moment (entry_at old)
      left = entries ∙ ap (λ m. live_entries m (entry_at old)) (sym now)

-- a call on a lock sends its message exactly where the lock has come free
post-freed : (objects : Objects) (moment : ℕ) (name : List ℕ) (call : LockCall)
    → post_of objects moment (lock_op name call)
    ≡ (if is_freed (reply_of objects moment (lock_op name call)) then Some (lock_post name) else None)
post-freed objects moment name (Try owner lease) =
    let lock = objects.mutexes name in
    let post = Some (lock_post name) in
    let live = live_hold moment lock in
    sends-with_lease post lease lock (take_hold moment owner lease live)
    (sends-take_hold post moment owner lease live)
post-freed objects moment name (Unlock owner rest) =
    let lock = objects.mutexes name in
    let post = Some (lock_post name) in
    let live = live_hold moment lock in
    sends-with_lease post rest lock (give_back_hold post moment owner rest live)
    (sends-give_back_hold post moment owner rest live)
post-freed objects moment name (Renew owner lease) =
    let lock = objects.mutexes name in
    let post = Some (lock_post name) in
    let live = live_hold moment lock in
    sends-with_lease post lease lock (renew_hold moment owner lease live)
    (sends-renew_hold post moment owner lease live)
post-freed objects moment name Force =
    sends-end_hold (Some (lock_post name)) (live_hold moment (objects.mutexes name))

-- the message by the reply
pub post_of-reply : (objects : Objects) (moment : ℕ) (name : List ℕ) (call : LockCall) (reply : Reply)
    → reply ≡ reply_of objects moment (lock_op name call)
    → (if is_freed reply then Some (lock_post name) else None) ≡ post_of objects moment (lock_op name call)
post_of-reply objects moment name call reply answer =
    ap (λ r. if is_freed r then Some (lock_post name) else None) answer
    ∙ sym (post-freed objects moment name call)
