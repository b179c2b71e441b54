-- From a step on the keys of a fenced lock to all objects.
use Rattle.std.proofs.Common.{◌≡◌, ◌≤◌, ℕ, Bool, cond, List, [], ◌∷◌, Option, option_map, true, false, refl, ap, sym, subst, ◌∙◌, arith}
use Rattle.std.specs.Str.{bytes_eq}
use Rattle.lr_limits.specs.Limits.{last_moment, token_limit}
use Rattle.lr_names.specs.Key.{key_text, keys_of}
use Rattle.lr_names.specs.Name.{IsName}
use Rattle.lr_names.specs.declared.kind.Kind.TheVariants.{Fenced as FencedKind}
use Rattle.lr_names.specs.declared.part.Part.TheVariants.{Fenced, Token}
use Rattle.lr_names.proofs.KeyLaws.{keys_differ}
use Rattle.lr_keys.specs.KeySpace.{ChangesOnly, KeyEntry, Keys, OthersAreLive, entry_at, live_entry, live_entries}
use Rattle.lr_keys.proofs.FrameLaws.{OthersAreLive-live, list_any-head, list_any-tail, live_stays}
use Rattle.lr_keys.proofs.TableLaws.{bytes_eq-other}
use Rattle.lr_objects.specs.declared.reply.Reply.{Reply}
use Rattle.lr_objects.specs.declared.reply.Reply.TheVariants.{BadLease}
use Rattle.lr_model.specs.Answer.{Answered, Objects}
use Rattle.lr_model.specs.declared.hold.Hold.{Hold}
use Rattle.lr_model.specs.Fenced.{FencedLock, with_token}
use Rattle.lr_model.specs.Moment.{is_lease}
use Rattle.lr_model.specs.Outcome.{Outcome, silent_outcome}
use Rattle.lr_counter.specs.Numbers.{some_unless_zero}
use Rattle.lr_counter.proofs.NumbersLaws.{numbers_stand_with}
use Rattle.lr_hold.specs.Holds.{HoldsStand, hold_entry}
use Rattle.lr_hold.specs.Step.{IsHeld, IsHoldStep}
use Rattle.lr_hold.proofs.HoldsLaws.{holds_stand_with, live_hold-live}
use Rattle.lr_fenced.specs.Run.{IsRun, on_fenced_lock}
use Rattle.lr_fenced.specs.Stands.{FencedLocksStand, holds_of}
use Rattle.lr_fenced.specs.Step.{ChangesOnlyTwo, IsLockAt, IsLockStep, IsTokenAt, live_lock}
use Rattle.lr_fenced.proofs.LockLaws.{counter_stays, lock_at, put-own, side_of_put}
use Rattle.lr_fenced.proofs.StandsLaws.{fenced_locks_stand_later}
use Rattle.lr_fenced.proofs.TokenLemmas.{TellsNoToken, with_token_step}

-- what a step makes of the lock of which this is live at its moment
abbrev pub StepOf : Type 0
StepOf = ℕ → FencedLock → Outcome FencedLock

-- what a call on the lock of a name answers that takes this step
abbrev pub answered_by : StepOf → ℕ → List ℕ → Objects → Answered
answered_by step moment name objects =
    on_fenced_lock objects name (λ lock. step moment (live_lock moment lock))

-- and one whose lease may be out of range
abbrev pub answered_if : Bool → StepOf → ℕ → List ℕ → Objects → Answered
answered_if in_range step moment name objects =
    on_fenced_lock objects name (λ lock.
    cond in_range (step moment (live_lock moment lock)) (silent_outcome BadLease lock))

-- what a call answers that leaves the lock as it is
abbrev pub answered_still : (ℕ → Reply) → List ℕ → Objects → Answered
answered_still told name objects =
    on_fenced_lock objects name (λ lock. silent_outcome (told lock.token) lock)

module _ (old : Keys) (moment : ℕ) (later : old.moment ≤ moment) (early : moment ≤ last_moment)
    (name : List ℕ) (named : IsName name) where
  -- A step on the keys of the lock, once the moment has come.
  module _ (middle new : Keys) (passed : middle.moment ≡ moment)
      (left : entry_at middle ≡ live_entries moment (entry_at old))
      (now : new.moment ≡ middle.moment) (reply : Reply) (step : StepOf) where
    -- The counter is as it was before: it never goes.
    abbrev pub Steps : List ℕ → List ℕ → Type 0
    Steps hash counter = entry_at middle counter ≡ entry_at old counter
        → (lock : FencedLock) → IsLockAt middle hash counter lock
        → IsLockStep new hash counter reply (step middle.moment lock)

    -- all other keys hold what is live of them
    others_are_live : ChangesOnlyTwo (key_text Fenced name) (key_text Token name) middle new
        → OthersAreLive (keys_of FencedKind name) old new
    others_are_live others = λ q apart.
        let hash = key_text Fenced name in
        let counter = key_text Token name in
        live_stays old middle new moment passed left now q (others q (bytes_eq-other hash q (list_any-head q hash (counter ∷ []) apart))
        (bytes_eq-other counter q
        (list_any-head q counter [] (list_any-tail q hash (counter ∷ []) apart))))

    -- the keys stand for the locks with that of the outcome
    stands_after : ChangesOnlyTwo (key_text Fenced name) (key_text Token name) middle new
        → (objects : Objects) → FencedLocksStand old objects → (outcome : Outcome FencedLock)
        → IsLockStep new (key_text Fenced name) (key_text Token name) reply outcome
        → FencedLocksStand new (on_fenced_lock objects name (λ _. outcome)).objects
    stands_after others objects stand outcome done = record {
      held =
          subst (HoldsStand Fenced new)
          (side_of_put (λ (l : FencedLock). l.held) objects.fenced_locks name outcome.object)
          (holds_stand_with Fenced old (holds_of objects) stand.held new
          (omega (arith, now, passed)) (omega (arith, now, passed)) name outcome.object.held done.lock.held.hold.within
          (done.lock.held.stands ∙ ap (option_map hold_entry)
          (sym (live_hold-live new.moment outcome.object.held done.lock.held.hold)))
          (λ q in_names other. live_stays old middle new moment passed left now (key_text Fenced q)
          (others (key_text Fenced q) (keys_differ Fenced Fenced name q (λ _. other))
          (keys_differ Token Fenced name q (λ same. absurd (cc same))))));
      tokens =
          numbers_stand_with Token token_limit (λ (l : FencedLock). some_unless_zero l.token) old
          new objects.fenced_locks stand.tokens name outcome.object done.lock.token
          (λ q in_names other. live_stays old middle new moment passed left now (key_text Token q)
          (others (key_text Token q)
          (keys_differ Fenced Token name q (λ same. absurd (cc same)))
          (keys_differ Token Token name q (λ _. other))));
    }

    run_at_keys : ChangesOnlyTwo (key_text Fenced name) (key_text Token name) middle new
        → Steps (key_text Fenced name) (key_text Token name)
        → IsRun old new moment name reply (answered_by step moment name)
    run_at_keys others steps = record {
      answer = λ objects stand. (step_of objects stand).answer;
      stands = λ objects stand.
          stands_after others objects stand (step moment (live_of objects)) (step_of objects stand);
      frame = others_are_live others;
      now = now ∙ passed;
    }
      where
        live_of : Objects → FencedLock
        live_of objects = live_lock moment (objects.fenced_locks name)

        step_of : (objects : Objects) → FencedLocksStand old objects
            → IsLockStep new (key_text Fenced name) (key_text Token name) reply
            (step moment (live_of objects))
        step_of objects stand =
            subst (λ m. IsLockStep new (key_text Fenced name) (key_text Token name) reply
            (step m (live_of objects))) passed
            (steps (counter_stays old objects stand middle moment left name named) (live_of objects)
            (lock_at old objects stand middle moment passed left later early name named))

    -- a step with a lease in range
    pub lease_run : (lease : ℕ) → is_lease lease ≡ true
        → (hash counter : List ℕ) → hash ≡ key_text Fenced name → counter ≡ key_text Token name
        → ChangesOnlyTwo hash counter middle new → Steps hash counter
        → IsRun old new moment name reply (answered_if (is_lease lease) step moment name)
    lease_run lease test hash counter is_hash is_counter others steps =
        subst (λ b. IsRun old new moment name reply (answered_if b step moment name)) (sym test)
        (run_at_keys
        (subst (λ h. ChangesOnlyTwo h (key_text Token name) middle new) is_hash
        (subst (λ t. ChangesOnlyTwo hash t middle new) is_counter others))
        (subst (λ h. Steps h (key_text Token name)) is_hash (subst (Steps hash) is_counter steps)))

  -- A step on the hold alone, once the moment has come, with a lease in range.
  pub hold_run : (middle new : Keys) → middle.moment ≡ moment
      → entry_at middle ≡ live_entries moment (entry_at old) → new.moment ≡ middle.moment
      → (reply : Reply) (step : ℕ → Option Hold → Outcome (Option Hold))
      → ((m : ℕ) (held : Option Hold) → TellsNoToken (step m held))
      → (lease : ℕ) → is_lease lease ≡ true → (hash : List ℕ) → hash ≡ key_text Fenced name
      → ChangesOnly hash middle new
      → ((held : Option Hold) → IsHeld middle.moment (entry_at middle hash) held
      → IsHoldStep new hash reply (step middle.moment held))
      → IsRun old new moment name reply
      (answered_if (is_lease lease) (λ m lock. with_token lock.token (step m lock.held)) moment
      name)
  hold_run middle new passed left now reply step untold lease test hash is_hash others steps =
      lease_run middle new passed left now reply
      (λ m lock. with_token lock.token (step m lock.held)) lease test hash counter is_hash refl
      (λ q not_hash not_counter. others q not_hash)
      (λ stays lock at. with_token_step middle new hash counter reply (step middle.moment lock.held)
      (untold middle.moment lock.held) lock.token at.token (others counter apart)
      (steps lock.held at.held))
    where
      counter : List ℕ
      counter = key_text Token name

      apart : bytes_eq hash counter ≡ false
      apart =
          ap (λ h. bytes_eq h counter) is_hash
          ∙ keys_differ Fenced Token name name (λ same. absurd (cc same))

  -- Where the moment goes on and nothing else changes, the lock stays as it is.
  pub still_run : (new : Keys) → new.moment ≡ moment
      → entry_at new ≡ live_entries moment (entry_at old) → (reply : Reply) (told : ℕ → Reply)
      → ((token : ℕ) → IsTokenAt (entry_at new (key_text Token name)) token → reply ≡ told token)
      → IsRun old new moment name reply (answered_still told name)
  still_run new now entries reply told tells = record {
    answer = λ objects stand.
        tells (objects.fenced_locks name).token
        (lock_at old objects stand new moment now entries later early name named).token;
    stands = λ objects stand.
        subst (λ (locks : List ℕ → FencedLock).
        FencedLocksStand new (record objects { fenced_locks = locks }))
        (sym (put-own objects.fenced_locks name))
        (fenced_locks_stand_later old new objects stand (omega (arith, now)) (omega (arith, now))
        (λ q in_names. at_key (key_text Fenced q)) (λ q in_names. at_key (key_text Token q)));
    frame = OthersAreLive-live old new (keys_of FencedKind name) left;
    now = now;
  }
    where
      left : entry_at new ≡ live_entries new.moment (entry_at old)
      left = entries ∙ ap (λ m. live_entries m (entry_at old)) (sym now)

      at_key : (key : List ℕ) → entry_at new key ≡ live_entry new.moment (entry_at old key)
      at_key key = ap (λ (f : List ℕ → Option KeyEntry). f key) left

  -- A lease out of range changes nothing but the moment.
  pub bad_lease_run : (new : Keys) → new.moment ≡ moment
      → entry_at new ≡ live_entries moment (entry_at old) → (step : StepOf) (lease : ℕ)
      → is_lease lease ≡ false
      → IsRun old new moment name BadLease (answered_if (is_lease lease) step moment name)
  bad_lease_run new now entries step lease test =
      subst (λ b. IsRun old new moment name BadLease (answered_if b step moment name)) (sym test)
      (still_run new now entries BadLease (λ _. BadLease) (λ token at. refl))
