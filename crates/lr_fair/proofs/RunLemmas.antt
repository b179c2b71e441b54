-- From a step on the keys of a fair lock to all objects.
use Rattle.std.proofs.Common.{◌≡◌, ◌≢◌, ◌≤◌, ℕ, Bool, true, false, List, [], ◌∷◌, Option, Some, None, option_map, Result, Ok, Err, IfOk, OnOk, if◌then◌else◌, refl, sym, ap, ◌∙◌, subst, arith}
use Rattle.std.specs.Str.{bytes_eq}
use Rattle.std.proofs.lemmas.Bool.{false≢true}
use Rattle.lr_limits.specs.Limits.{last_moment}
use Rattle.lr_names.specs.Key.{key_text, keys_of}
use Rattle.lr_names.specs.Name.{IsName}
use Rattle.lr_names.specs.Owner.{ThreadOfClient, IsOwner, owner_text}
use Rattle.lr_names.specs.declared.kind.Kind.TheVariants as kinds
use Rattle.lr_names.specs.declared.part.Part.TheVariants.{Fair, FairQueue, FairStale}
use Rattle.lr_names.specs.declared.post.Post.{Post}
use Rattle.lr_names.specs.declared.part.Part.{Part}
use Rattle.lr_names.proofs.KeyLaws.{key_text-injective, keys_differ}
use Rattle.lr_keys.specs.KeySpace.{ChangesOnly, KeyEntry, Keys, OthersAreLive, entry_at, live_entry, live_entries, plan_at, Plan, score_at}
use Rattle.lr_keys.proofs.FrameLaws.{OthersAreLive-live, list_any-head, list_any-tail, live_stays}
use Rattle.lr_keys.proofs.TableLaws.{bytes_eq-other, same_bytes}
use Rattle.lr_objects.specs.declared.reply.Reply.{Reply}
use Rattle.lr_objects.specs.declared.reply.Reply.TheVariants.{BadLease}
use Rattle.lr_objects.specs.declared.fair.FairCall.{FairCall}
use Rattle.lr_model.specs.Answer.{Objects, objects_after}
use Rattle.lr_model.specs.declared.hold.Hold.{Hold}
use Rattle.lr_model.specs.Fair.{FairLock, FairPlace, fair_call, is_place_of, live_places, place_of, with_queue}
use Rattle.lr_model.specs.Hold.{renew_hold}
use Rattle.lr_model.specs.Moment.{is_lease, is_live}
use Rattle.lr_model.specs.Outcome.{Outcome, silent_outcome}
use Rattle.lr_model.specs.Table.{put}
use Rattle.lr_model.proofs.ReadWriteFacts.{find-filter, none_some}
use Rattle.lr_model.proofs.Tables.{one_table}
use Rattle.lr_hold.specs.Holds.{HoldsStand, hold_entry}
use Rattle.lr_hold.specs.Step.{IsHeld, IsHoldStep}
use Rattle.lr_hold.proofs.HoldsLaws.{held_at, holds_stand_with, live_hold-live}
use Rattle.lr_fair.specs.Queue.{IsQueueAt}
use Rattle.lr_fair.specs.Run.{IsRun, fair_op, is_placed, on_fair_lock}
use Rattle.lr_fair.specs.Stands.{FairLocksStand, holds_of}
use Rattle.lr_fair.specs.Step.{AreApart, AreLive, ChangesOnlyThree, ChangesOnlyTwo, IsFairStep, IsLockAt, IsReady, with_live_hold}
use Rattle.lr_fair.proofs.ChangeLemmas.{queue-later, stale-seen}
use Rattle.lr_fair.proofs.QueueLaws.{stale_in}
use Rattle.lr_fair.proofs.StaleLaws.{are-live}
use Rattle.lr_fair.proofs.StandsLaws.{fair_locks_stand_later, fair_locks_stand_settled}
use Rattle.lr_fair.proofs.StepLemmas.{hold-step, renew-silent, swept}

-- what a step makes of the lock of which this is the hold that is live at its moment, beside all
-- places
abbrev pub StepOf : Type 0
StepOf = ℕ → FairLock → Outcome FairLock

abbrev pub made_by : StepOf → ℕ → FairLock → Outcome FairLock
made_by step moment lock = step moment (with_live_hold moment lock)

-- and where a lease may be out of range
abbrev pub made_if : Bool → StepOf → ℕ → FairLock → Outcome FairLock
made_if in_range step moment lock =
    if in_range then made_by step moment lock else silent_outcome BadLease lock

-- ---- tables

-- one side of what is put into a table
side_of_put : {X Y : Type 0} (side : X → Y) (table : List ℕ → X) (name : List ℕ) (x : X)
    → put bytes_eq (λ q. side (table q)) name (side x) ≡ (λ q. side (put bytes_eq table name x q))
side_of_put {X} {Y} side table name x =
    one_table (put bytes_eq (λ q. side (table q)) name (side x))
    (λ q. side (put bytes_eq table name x q)) (λ q. by q (bytes_eq name q))
  where
    by : (q : List ℕ) (b : Bool)
        → (if b then side x else side (table q)) ≡ side (if b then x else table q)
    by q true = refl
    by q false = refl

-- what stands in the table already
put-own : {X : Type 0} (table : List ℕ → X) (name : List ℕ)
    → put bytes_eq table name (table name) ≡ table
put-own {X} table name =
    one_table (put bytes_eq table name (table name)) table (λ q. by q (bytes_eq name q) refl)
  where
    by : (q : List ℕ) (b : Bool) → bytes_eq name q ≡ b
        → (if b then table name else table q) ≡ table q
    by q true same = ap table (same_bytes name q same)
    by q false other = refl

-- ---- the memory that is taken first

-- none for an owner whose place lasts beyond the moment
pub not_lacking : (items stales : Option KeyEntry) (queue : List FairPlace)
    → IsQueueAt items stales queue → (owner : ThreadOfClient) → IsOwner owner → (moment : ℕ)
    → is_placed moment (score_at (owner_text owner) stales) ≡ true
    → place_of owner (live_places moment queue) ≡ None → ⊥
not_lacking items stales queue at owner in_owner moment placed none =
    by (place_of owner queue) refl
    (sym (ap (is_placed moment)
    (stale-seen items stales queue at owner in_owner (owner_text owner) refl))
    ∙ placed)
  where
    by : (own : Option FairPlace) → place_of owner queue ≡ own
        → is_placed moment (Ok (option_map stale_in own)) ≡ true → ⊥
    by None found placed = false≢true placed
    by (Some own) found placed =
        none_some own (sym (find-filter (is_place_of owner)
        (λ (p : FairPlace). is_live p.stale moment) queue own found placed) ∙ none)

-- it stays
pub ready-still : (old new : Keys) (queue stales text : List ℕ) → plan_at new ≡ plan_at old
    → IsReady old queue stales text → IsReady new queue stales text
ready-still old new queue stales text same ready = record {
  queue_ready = ap (λ (f : List ℕ → Option Plan). f queue) same ∙ ready.queue_ready;
  stales_ready = ap (λ (f : List ℕ → Option Plan). f stales) same ∙ ready.stales_ready;
}

-- ---- without the places that are stale

abbrev pub live_lock : ℕ → FairLock → FairLock
live_lock moment lock = record { held = lock.held; queue = live_places moment lock.queue }

-- a step behind that
pub swept_step : (hold queue stales : List ℕ) → AreApart hold queue stales
    → (middle left new : Keys)
    → ((places : List FairPlace)
    → IsQueueAt (entry_at middle queue) (entry_at middle stales) places
    → IsQueueAt (entry_at left queue) (entry_at left stales) (live_places middle.moment places))
    → ChangesOnlyTwo queue stales middle left → left.moment ≡ middle.moment
    → (answer : Reply × Option Post) (step : ℕ → FairLock → Outcome FairLock) (lock : FairLock)
    → IsLockAt middle hold queue stales lock
    → (IsLockAt left hold queue stales (live_lock middle.moment lock)
    → AreLive left.moment (live_places middle.moment lock.queue)
    → IsFairStep new hold queue stales answer (step left.moment (live_lock middle.moment lock)))
    → IsFairStep new hold queue stales answer (step middle.moment (live_lock middle.moment lock))
swept_step hold queue stales apart middle left new removes others now answer step lock at stepped =
    subst (λ m. IsFairStep new hold queue stales answer (step m (live_lock middle.moment lock))) now
    (stepped (swept hold queue stales apart middle left lock at removes others now)
    (subst (λ m. AreLive m (live_places middle.moment lock.queue)) (sym now)
    (are-live middle.moment lock.queue)))

-- ---- the run

module _ (old : Keys) (moment : ℕ) (later : old.moment ≤ moment) (early : moment ≤ last_moment)
    (name : List ℕ) (named : IsName name) where
  abbrev hold : List ℕ
  hold = key_text Fair name

  abbrev queue : List ℕ
  queue = key_text FairQueue name

  abbrev stales : List ℕ
  stales = key_text FairStale name

  -- A step on the keys of the lock, once the moment has come.
  module _ (middle new : Keys) (passed : middle.moment ≡ moment)
      (left : entry_at middle ≡ live_entries moment (entry_at old))
      (now : new.moment ≡ middle.moment) (answer : Reply × Option Post) where
    -- all other keys hold what is live of them
    others_are_live : ChangesOnlyThree hold queue stales middle new
        → OthersAreLive (keys_of kinds.Fair name) old new
    others_are_live others = λ q apart.
        let tail = list_any-tail q hold (queue ∷ stales ∷ []) apart in
        live_stays old middle new moment passed left now q
        (others q
        (bytes_eq-other hold q (list_any-head q hold (queue ∷ stales ∷ []) apart))
        (bytes_eq-other queue q (list_any-head q queue (stales ∷ []) tail))
        (bytes_eq-other stales q
        (list_any-head q stales [] (list_any-tail q queue (stales ∷ []) tail))))

    -- what the keys have of the lock at the moment
    lock_at : (objects : Objects) → FairLocksStand old objects
        → IsLockAt middle hold queue stales (with_live_hold moment (objects.fair_locks name))
    lock_at objects stand = record {
      held =
          subst (λ m. IsHeld m (entry_at middle hold) lock.held) (sym passed)
          (subst (λ e. IsHeld moment e lock.held) (sym (entry hold))
          (held_at Fair old (holds_of objects) stand.held moment later early name named));
      places =
          queue-later moment (entry_at old queue) (entry_at old stales) (entry_at middle queue)
          (entry_at middle stales) lock.queue (entry queue) (entry stales)
          (stand.queues name named);
    }
      where
        lock : FairLock
        lock = with_live_hold moment (objects.fair_locks name)

        entry : (key : List ℕ) → entry_at middle key ≡ live_entry moment (entry_at old key)
        entry key = ap (λ (f : List ℕ → Option KeyEntry). f key) left

    -- the keys stand for the locks with that of the outcome
    stands_after : ChangesOnlyThree hold queue stales middle new
        → (objects : Objects) → FairLocksStand old objects → (outcome : Outcome FairLock)
        → IsFairStep new hold queue stales answer outcome
        → FairLocksStand new (on_fair_lock objects name (λ _. outcome)).objects
    stands_after others objects stand outcome done = record {
      held =
          subst (HoldsStand Fair new)
          (side_of_put (λ (l : FairLock). l.held) objects.fair_locks name outcome.object)
          (holds_stand_with Fair old (holds_of objects) stand.held new
          (omega (arith, now, passed, later)) (omega (arith, now, passed, early)) name
          outcome.object.held done.lock.held.hold.within
          (done.lock.held.stands ∙ ap (option_map hold_entry)
          (sym (live_hold-live new.moment outcome.object.held done.lock.held.hold)))
          (λ q in_names other. live_stays old middle new moment passed left now (key_text Fair q)
          (others (key_text Fair q) (keys_differ Fair Fair name q (λ _. other))
          (keys_differ FairQueue Fair name q (λ same. absurd (cc same)))
          (keys_differ FairStale Fair name q (λ same. absurd (cc same))))));
      queues = λ q in_names. by q in_names (bytes_eq name q) refl;
    }
      where
        by : (q : List ℕ) → IsName q → (here : Bool) → bytes_eq name q ≡ here
            → IsQueueAt (entry_at new (key_text FairQueue q)) (entry_at new (key_text FairStale q))
            (if here then outcome.object else objects.fair_locks q).queue
        by q in_names true same =
            subst (λ n. IsQueueAt (entry_at new (key_text FairQueue n))
            (entry_at new (key_text FairStale n)) outcome.object.queue) (same_bytes name q same)
            done.lock.places
        by q in_names false other =
            queue-later new.moment (entry_at old (key_text FairQueue q))
            (entry_at old (key_text FairStale q)) (entry_at new (key_text FairQueue q))
            (entry_at new (key_text FairStale q)) (objects.fair_locks q).queue
            (live_stays old middle new moment passed left now (key_text FairQueue q)
            (others (key_text FairQueue q)
            (keys_differ Fair FairQueue name q (λ same. absurd (cc same)))
            (keys_differ FairQueue FairQueue name q (λ _. other))
            (keys_differ FairStale FairQueue name q (λ same. absurd (cc same)))))
            (live_stays old middle new moment passed left now (key_text FairStale q)
            (others (key_text FairStale q)
            (keys_differ Fair FairStale name q (λ same. absurd (cc same)))
            (keys_differ FairQueue FairStale name q (λ same. absurd (cc same)))
            (keys_differ FairStale FairStale name q (λ _. other))))
            (stand.queues q in_names)

    abbrev pub Steps : StepOf → List ℕ → List ℕ → List ℕ → Type 0
    Steps step h q s = (lock : FairLock)
        → IsQueueAt (entry_at old q) (entry_at old s) lock.queue → IsLockAt middle h q s lock
        → IsFairStep new h q s answer (step middle.moment lock)

    run_at_keys : (step : StepOf) → ChangesOnlyThree hold queue stales middle new
        → Steps step hold queue stales → IsRun old new moment name answer (made_by step moment)
    run_at_keys step others steps = record {
      reply = λ objects stand. (step_of objects stand).reply;
      post = λ objects stand. (step_of objects stand).post;
      stands = λ objects stand.
          stands_after others objects stand (made_by step moment (objects.fair_locks name))
          (step_of objects stand);
      frame = others_are_live others;
      now = now ∙ passed;
    }
      where
        step_of : (objects : Objects) → FairLocksStand old objects
            → IsFairStep new hold queue stales answer
            (made_by step moment (objects.fair_locks name))
        step_of objects stand =
            subst (λ m. IsFairStep new hold queue stales answer
            (step m (with_live_hold moment (objects.fair_locks name)))) passed
            (steps (with_live_hold moment (objects.fair_locks name)) (stand.queues name named)
            (lock_at objects stand))

    -- a step on three keys, which are those of the lock
    pub step_run : (step : StepOf) (h q s : List ℕ) → h ≡ hold → q ≡ queue → s ≡ stales
        → ChangesOnlyThree h q s middle new → Steps step h q s
        → IsRun old new moment name answer (made_by step moment)
    step_run step h q s is_hold is_queue is_stales others steps =
        run_at_keys step
        (subst (λ a. ChangesOnlyThree a queue stales middle new) is_hold
        (subst (λ b. ChangesOnlyThree h b stales middle new) is_queue
        (subst (λ c. ChangesOnlyThree h q c middle new) is_stales others)))
        (subst (λ a. Steps step a queue stales) is_hold
        (subst (λ b. Steps step h b stales) is_queue
        (subst (λ c. Steps step h q c) is_stales steps)))

    -- and one with a lease in range
    pub lease_run : (step : StepOf) (lease : ℕ) → is_lease lease ≡ true → (h q s : List ℕ)
        → h ≡ hold → q ≡ queue → s ≡ stales → ChangesOnlyThree h q s middle new
        → Steps step h q s → IsRun old new moment name answer (made_if (is_lease lease) step moment)
    lease_run step lease test h q s is_hold is_queue is_stales others steps =
        subst (λ b. IsRun old new moment name answer (made_if b step moment)) (sym test)
        (step_run step h q s is_hold is_queue is_stales others steps)

  -- A renewal is a step on the hash alone.
  pub renew_run : (middle new : Keys) → middle.moment ≡ moment
      → entry_at middle ≡ live_entries moment (entry_at old) → new.moment ≡ middle.moment
      → (reply : Reply) (owner : ThreadOfClient) (lease : ℕ) → is_lease lease ≡ true
      → (h : List ℕ) → h ≡ hold → ChangesOnly h middle new
      → ((held : Option Hold) → IsHeld middle.moment (entry_at middle h) held
      → IsHoldStep new h reply (renew_hold middle.moment owner lease held))
      → IsRun old new moment name (reply, None)
      (made_if (is_lease lease)
      (λ m lock. with_queue lock.queue (renew_hold m owner lease lock.held)) moment)
  renew_run middle new passed left now reply owner lease test h is_hold others step =
      lease_run middle new passed left now (reply, None)
      (λ m lock. with_queue lock.queue (renew_hold m owner lease lock.held)) lease test h queue
      stales is_hold refl refl (λ q one two three. others q one)
      (λ lock was at.
      hold-step h queue stales apart middle new others lock.queue at.places reply None
      (renew_hold middle.moment owner lease lock.held) (step lock.held at.held)
      (renew-silent middle.moment owner lease lock.held))
    where
      differ : (part other : Part) → (part ≡ other → ⊥) → key_text part name ≢ key_text other name
      differ part other apart same = apart (key_text-injective part other name name same).0

      apart : AreApart h queue stales
      apart =
          subst (λ a. AreApart a queue stales) (sym is_hold)
          (record {
            hold_queue = differ Fair FairQueue (λ same. cc same);
            hold_stales = differ Fair FairStale (λ same. cc same);
            queue_stales = differ FairQueue FairStale (λ same. cc same);
          })

  -- A lease out of range changes nothing but the moment.
  pub bad_lease_run : (new : Keys) → new.moment ≡ moment
      → entry_at new ≡ live_entries moment (entry_at old) → (step : StepOf) (lease : ℕ)
      → is_lease lease ≡ false
      → IsRun old new moment name (BadLease, None) (made_if (is_lease lease) step moment)
  bad_lease_run new now entries step lease test =
      subst (λ b. IsRun old new moment name (BadLease, None) (made_if b step moment)) (sym test)
      (record {
        reply = λ objects stand. refl;
        post = λ objects stand. refl;
        stands = λ objects stand.
            subst (λ (locks : List ℕ → FairLock).
            FairLocksStand new (record objects { fair_locks = locks }))
            (sym (put-own objects.fair_locks name))
            (fair_locks_stand_later old new objects stand (omega (arith, now, later))
            (omega (arith, now, early)) (λ q in_names. at_key (key_text Fair q))
            (λ q in_names. at_key (key_text FairQueue q))
            (λ q in_names. at_key (key_text FairStale q)));
        frame = OthersAreLive-live old new (keys_of kinds.Fair name) left;
        now = now;
      })
    where
      left : entry_at new ≡ live_entries new.moment (entry_at old)
      left = entries ∙ ap (λ m. live_entries m (entry_at old)) (sym now)

      at_key : (key : List ℕ) → entry_at new key ≡ live_entry new.moment (entry_at old key)
      at_key key = ap (λ (f : List ℕ → Option KeyEntry). f key) left

-- memory that is given up changes nothing
pub settled_stands : {E : Type 0} (old answered new : Keys) (moment : ℕ) (name : List ℕ) (call : FairCall)
    (result : Result (Reply × Option Post) E)
    → IfOk result (λ r. IsRun old answered moment name r (fair_call name moment call))
    → new.moment ≡ answered.moment → entry_at new ≡ entry_at answered
    → OnOk result ((objects : Objects) → FairLocksStand old objects
    → FairLocksStand new (objects_after objects moment (fair_op name call)))
settled_stands old answered new moment name call (Ok r) run now entries = λ objects stand.
    fair_locks_stand_settled answered new (objects_after objects moment (fair_op name call))
    (run.stands objects stand) now entries
settled_stands old answered new moment name call (Err e) run now entries = tt
