-- Who waits where a message wakes all: by a reply that refuses its call, after another call, and as
-- time passes.
use Rattle.std.proofs.Common.{◌≡◌, ℕ, ◌+◌, ◌≤◌, List, Bool, true, false, Option, Some, None, if◌then◌else◌, refl, sym, ap, ◌∙◌, subst, arith}
use Rattle.std.specs.Str.{bytes_eq}
use Rattle.std.proofs.lemmas.Slice.Eq.{bytes_eq-Decides}
use Rattle.lr_limits.specs.Limits.{watchdog_lease}
use Rattle.lr_names.specs.Channel.{ChannelOf, channel_wakes}
use Rattle.lr_names.specs.Owner.{ThreadOfClient}
use Rattle.lr_names.specs.declared.kind.Kind.TheVariants as kinds
use Rattle.lr_names.specs.declared.kind.Wakes.TheVariants.{All}
use Rattle.lr_objects.specs.Kinds.{call_of, call_kind}
use Rattle.lr_objects.specs.Op.{call_on}
use Rattle.lr_objects.specs.ReadWriteCalls.{read_write_call_of}
use Rattle.lr_objects.specs.Reply.{blocks}
use Rattle.lr_objects.specs.Want.{op_of}
use Rattle.lr_objects.specs.declared.countdown.CountdownFunction.{CountdownFunction}
use Rattle.lr_objects.specs.declared.kinds.Call.{Call}
use Rattle.lr_objects.specs.declared.kinds.Call.TheVariants as calls
use Rattle.lr_objects.specs.declared.kinds.Function.{Function}
use Rattle.lr_objects.specs.declared.kinds.Function.TheVariants as functions
use Rattle.lr_objects.specs.declared.op.Op.{Op}
use Rattle.lr_objects.specs.declared.permits.PermitFunction.{PermitFunction}
use Rattle.lr_objects.specs.declared.read_write.ReadWriteFunction.{ReadWriteFunction}
use Rattle.lr_objects.specs.declared.reply.Reply.{Reply}
use Rattle.lr_objects.specs.declared.semaphore.SemaphoreFunction.{SemaphoreFunction}
use Rattle.lr_objects.specs.declared.want.Want.{Want}
use Rattle.lr_model.specs.Answer.{Objects, reply_of, objects_after, post_of}
use Rattle.lr_model.specs.Countdown.{countdown_call}
use Rattle.lr_model.specs.Permits.{live_leases, permit_call}
use Rattle.lr_model.specs.ReadWrite.{live_holds, last_deadline}
use Rattle.lr_model.specs.Semaphore.{semaphore_call}
use Rattle.lr_model.specs.Table.{put}
use Rattle.lr_waiting.specs.Peak.{tells}
use Rattle.lr_waiting.specs.Session.{channel_for}
use Rattle.lr_waiting.specs.Stand.{due_by_reply}
use Rattle.lr_wakeups.specs.Reached.{Present, IsDueBy, EndNoEarlier, leases_of, IsRefusedUntil, WaitsFor, GoesOn, IsLeftWaiting}
use Rattle.lr_machine_wakeups.specs.WorldFacts.{is_shared}
use Rattle.lr_machine_wakeups.proofs.Shared.{shared-all}
use Rattle.lr_machine_wakeups.proofs.CountWaits.{refuses, short-call, short-due, latch_refuses, counting-call, counting-due}
use Rattle.lr_machine_wakeups.proofs.PermitWaits.{IsHeldUntil, held-answered, held-call}
use Rattle.lr_machine_wakeups.proofs.ReadWriteWaits.{tells-read_write}

-- The same of an object and of all objects.

module _ (objects : Objects) (now : ℕ) (owner : ThreadOfClient) (want : Want) where
  -- whether the call of another function would be refused
  abbrev refused_by : Function → ℕ → Bool
  refused_by function moment =
      blocks
      (reply_of objects moment
      (record {
        name = want.name;
        call = call_of function want owner watchdog_lease false;
      }))
      function

  module _ (f : PermitFunction) (is : want.function ≡ functions.Permits f) where
    pub held-until : (due : Option ℕ)
        → IsHeldUntil f want.name now want.number want.id due (objects.permits want.name)
        → IsRefusedUntil objects now owner want due
    held-until due held = record {
      refused = λ moment le before.
          ap (λ g. refused_by g moment) is ∙ held.refused moment le before;
      in_time = λ moment le before.
          subst
          (λ g. EndNoEarlier due (live_leases moment (leases_of objects want.name g)))
          (sym is) (held.in_time moment le before);
    }

    pub until-held : (due : Option ℕ) → IsRefusedUntil objects now owner want due
        → IsHeldUntil f want.name now want.number want.id due (objects.permits want.name)
    until-held due waits = record {
      refused = λ moment le before.
          sym (ap (λ g. refused_by g moment) is) ∙ waits.refused moment le before;
      in_time = λ moment le before.
          subst
          (λ g. EndNoEarlier due (live_leases moment (leases_of objects want.name g)))
          is (waits.in_time moment le before);
    }

  pub short-until : (f : SemaphoreFunction) → want.function ≡ functions.Semaphore f
      → refuses f want.name want.number (objects.semaphores want.name) ≡ true
      → IsRefusedUntil objects now owner want None
  short-until f is refused = record {
    refused = λ moment le before. ap (λ g. refused_by g moment) is ∙ refused;
    in_time = λ moment le before. tt;
  }

  pub until-short : (f : SemaphoreFunction) → want.function ≡ functions.Semaphore f
      → IsRefusedUntil objects now owner want None
      → refuses f want.name want.number (objects.semaphores want.name) ≡ true
  until-short f is waits =
      sym (ap (λ g. refused_by g now) is) ∙ waits.refused now (omega arith) tt

  pub counting-until : (f : CountdownFunction) → want.function ≡ functions.Countdown f
      → latch_refuses f want.name want.number (objects.countdowns want.name) ≡ true
      → IsRefusedUntil objects now owner want None
  counting-until f is refused = record {
    refused = λ moment le before. ap (λ g. refused_by g moment) is ∙ refused;
    in_time = λ moment le before. tt;
  }

  pub until-counting : (f : CountdownFunction) → want.function ≡ functions.Countdown f
      → IsRefusedUntil objects now owner want None
      → latch_refuses f want.name want.number (objects.countdowns want.name) ≡ true
  until-counting f is waits =
      sym (ap (λ g. refused_by g now) is) ∙ waits.refused now (omega arith) tt

-- A reply that refuses a call leaves it waiting.

module _ (present : Present) (owner other : ThreadOfClient) (want : Want) (at lease : ℕ)
    (queue : Bool) (past : at ≤ present.now)
    (ends : (f : ReadWriteFunction) → want.function ≡ functions.ReadWrite f
    → last_deadline (live_holds present.now (present.objects.read_write_locks want.name))
    ≤ present.peak (channel_for owner want)) where
  -- the reply to the call of a function
  abbrev reply : Function → Reply
  reply function =
      reply_of present.objects present.now
      (record { name = want.name; call = call_of function want other lease queue })

  left-waiting : (function : Function) → want.function ≡ function
      → channel_wakes (call_kind (call_of function want owner 0 false)) ≡ All
      → blocks (reply function) function ≡ true
      → WaitsFor function present owner want (due_by_reply at (Some (reply function)))
  left-waiting (functions.Lock f) is all refused = absurd (cc all)
  left-waiting (functions.Fenced f) is all refused = absurd (cc all)
  left-waiting (functions.Fair f) is all refused = absurd (cc all)
  left-waiting (functions.ReadWrite f) is all refused =
      let told =
      tells-read_write f present.now want.name (read_write_call_of f other lease)
      (present.objects.read_write_locks want.name) refused in
      let due : at + told.0 ≤ present.peak (channel_for owner want) =
      omega (arith, told.2, ends f is, past) in
      subst (λ r. IsDueBy (present.peak (channel_for owner want)) (due_by_reply at (Some r)))
      (sym told.1) due
  left-waiting (functions.Permits f) is all refused =
      held-until present.objects present.now owner want f is
      (due_by_reply at (Some (reply (functions.Permits f))))
      (held-answered want.name present.now at want.number want.id
      (present.objects.permits want.name) past f lease refused)
  left-waiting (functions.Semaphore f) is all refused = (
    short-due f want.name want.number at (present.objects.semaphores want.name) refused,
    short-until present.objects present.now owner want f is refused,
  )
  left-waiting (functions.Countdown f) is all refused = (
    counting-due f want.name want.number at (present.objects.countdowns want.name) refused,
    counting-until present.objects present.now owner want f is refused,
  )

  pub reply-left_waiting : IsLeftWaiting present owner want at
      (reply_of present.objects present.now (op_of want other lease queue))
  reply-left_waiting = record {
    waits = λ all refused. left-waiting want.function refl all refused;
  }

-- Another call.

-- an object after a call on one of its kind that tells nobody who waits for it
module _ {X : Type 0} (P : X → Type 0) (table : List ℕ → X) (key name : List ℕ) (now : X)
    (same : bytes_eq key name ≡ true → P (table key) → P now) where
  put-keeps : P (table name) → P (put bytes_eq table key now name)
  put-keeps was = by (bytes_eq key name) refl
    where
      by : (here : Bool) → bytes_eq key name ≡ here
          → P (if here then now else table name)
      by true e =
          same e (subst (λ n. P (table n)) (sym ((bytes_eq-Decides key name).0 e)) was)
      by false e = was

module _ (objects : Objects) (now : ℕ) (name : List ℕ) where
  permits-call : (f : PermitFunction) (number : ℕ) (id : List ℕ) (due : Option ℕ)
      (key : List ℕ) (call : Call)
      → tells kinds.Permits name (post_of objects now (call_on key call)) ≡ false
      → IsHeldUntil f name now number id due (objects.permits name)
      → IsHeldUntil f name now number id due
      ((objects_after objects now (call_on key call)).permits name)
  permits-call f number id due key (calls.Permits call) quiet held =
      put-keeps (IsHeldUntil f name now number id due) objects.permits key name
      (permit_call key now call (objects.permits key)).object
      (λ here was.
      subst
      (λ n. tells kinds.Permits name (permit_call n now call (objects.permits key)).post ≡ false
      → IsHeldUntil f name now number id due
      (permit_call n now call (objects.permits key)).object)
      (sym ((bytes_eq-Decides key name).0 here))
      (λ silent. held-call f name now number id due (objects.permits key) call silent was)
      quiet)
      held
  permits-call f number id due key call quiet held = held

  semaphores-call : (f : SemaphoreFunction) (number : ℕ) (key : List ℕ) (call : Call)
      → tells kinds.Semaphore name (post_of objects now (call_on key call)) ≡ false
      → refuses f name number (objects.semaphores name) ≡ true
      → refuses f name number ((objects_after objects now (call_on key call)).semaphores name)
      ≡ true
  semaphores-call f number key (calls.Semaphore call) quiet refused =
      put-keeps (λ free. refuses f name number free ≡ true) objects.semaphores key name
      (semaphore_call key call (objects.semaphores key)).object
      (λ here was.
      subst
      (λ n. tells kinds.Semaphore name (semaphore_call n call (objects.semaphores key)).post
      ≡ false
      → refuses f name number (semaphore_call n call (objects.semaphores key)).object ≡ true)
      (sym ((bytes_eq-Decides key name).0 here))
      (λ silent. short-call f name number (objects.semaphores key) call silent was)
      quiet)
      refused
  semaphores-call f number key call quiet refused = refused

  countdowns-call : (f : CountdownFunction) (number : ℕ) (key : List ℕ) (call : Call)
      → tells kinds.Countdown name (post_of objects now (call_on key call)) ≡ false
      → latch_refuses f name number (objects.countdowns name) ≡ true
      → latch_refuses f name number
      ((objects_after objects now (call_on key call)).countdowns name)
      ≡ true
  countdowns-call f number key (calls.Countdown call) quiet refused =
      put-keeps (λ count. latch_refuses f name number count ≡ true) objects.countdowns key name
      (countdown_call key call (objects.countdowns key)).object
      (λ here was.
      subst
      (λ n. tells kinds.Countdown name (countdown_call n call (objects.countdowns key)).post
      ≡ false
      → latch_refuses f name number (countdown_call n call (objects.countdowns key)).object
      ≡ true)
      (sym ((bytes_eq-Decides key name).0 here))
      (λ silent. counting-call f name number (objects.countdowns key) call silent was)
      quiet)
      refused
  countdowns-call f number key call quiet refused = refused

-- a due moment that isn't later than a peak isn't later than a higher one
due-higher : (peak higher : ℕ) (due : Option ℕ) → peak ≤ higher → IsDueBy peak due
    → IsDueBy higher due
due-higher peak higher None le by_peak = by_peak
due-higher peak higher (Some due) le by_peak = omega (arith, le, by_peak)

module _ (objects : Objects) (now : ℕ) (op : Op) (peak then_ : ChannelOf → ℕ)
    (told : ChannelOf → Bool)
    (peaks : (channel : ChannelOf) → told channel ≡ false → peak channel ≤ then_ channel)
    (quiet : (channel : ChannelOf) → is_shared channel ≡ true → told channel ≡ false
    → tells channel.kind channel.name (post_of objects now op) ≡ false)
    (left left_then : ChannelOf → Option ℕ) (were are : ChannelOf → Bool) where
  abbrev before : Present
  before = record { objects = objects; now = now; peak = peak; left = left; told = were }

  abbrev after : Present
  after = record {
    objects = objects_after objects now op;
    now = now;
    peak = then_;
    left = left_then;
    told = are;
  }

  waits-call : (owner : ThreadOfClient) (want : Want) (due : Option ℕ) (function : Function)
      → want.function ≡ function
      → channel_wakes (call_kind (call_of function want owner 0 false)) ≡ All
      → told (channel_for owner want) ≡ false
      → tells (call_kind (call_of function want owner 0 false)) want.name
      (post_of objects now op)
      ≡ false
      → WaitsFor function before owner want due → WaitsFor function after owner want due
  waits-call owner want due (functions.Lock f) is all untold silent waits = absurd (cc all)
  waits-call owner want due (functions.Fenced f) is all untold silent waits = absurd (cc all)
  waits-call owner want due (functions.Fair f) is all untold silent waits = absurd (cc all)
  waits-call owner want due (functions.ReadWrite f) is all untold silent waits =
      due-higher (peak (channel_for owner want)) (then_ (channel_for owner want)) due
      (peaks (channel_for owner want) untold) waits
  waits-call owner want due (functions.Permits f) is all untold silent waits =
      held-until (objects_after objects now op) now owner want f is due
      (permits-call objects now want.name f want.number want.id due op.name op.call silent
      (until-held objects now owner want f is due waits))
  waits-call owner want due (functions.Semaphore f) is all untold silent waits = (
    waits.0,
    short-until (objects_after objects now op) now owner want f is
        (semaphores-call objects now want.name f want.number op.name op.call silent
        (until-short objects now owner want f is waits.1)),
  )
  waits-call owner want due (functions.Countdown f) is all untold silent waits = (
    waits.0,
    counting-until (objects_after objects now op) now owner want f is
        (countdowns-call objects now want.name f want.number op.name op.call silent
        (until-counting objects now owner want f is waits.1)),
  )

  pub call-goes_on : GoesOn told
      (record { objects = objects; now = now; peak = peak; left = left; told = were })
      (record {
        objects = objects_after objects now op;
        now = now;
        peak = then_;
        left = left_then;
        told = are;
      })
  call-goes_on = record {
    peaks = peaks;
    waits = λ owner want due all untold waits.
        waits-call owner want due want.function refl all untold
        (quiet (channel_for owner want) (shared-all owner want all) untold) waits;
  }

-- Time.

until-later : (objects : Objects) (now later : ℕ) (owner : ThreadOfClient) (want : Want)
    (due : Option ℕ) → now ≤ later → IsRefusedUntil objects now owner want due
    → IsRefusedUntil objects later owner want due
until-later objects now later owner want due le waits = record {
  refused = λ moment from before. waits.refused moment (omega (arith, le, from)) before;
  in_time = λ moment from before. waits.in_time moment (omega (arith, le, from)) before;
}

module _ (objects : Objects) (now later : ℕ) (peak : ChannelOf → ℕ) (le : now ≤ later)
    (left left_then : ChannelOf → Option ℕ) (were are : ChannelOf → Bool) where
  abbrev sooner : Present
  sooner = record { objects = objects; now = now; peak = peak; left = left; told = were }

  abbrev later_on : Present
  later_on = record { objects = objects; now = later; peak = peak; left = left_then; told = are }

  waits-later : (owner : ThreadOfClient) (want : Want) (due : Option ℕ) (function : Function)
      → WaitsFor function sooner owner want due → WaitsFor function later_on owner want due
  waits-later owner want due (functions.ReadWrite f) waits = waits
  waits-later owner want due (functions.Permits f) waits =
      until-later objects now later owner want due le waits
  waits-later owner want due (functions.Lock f) waits =
      (waits.0, until-later objects now later owner want None le waits.1)
  waits-later owner want due (functions.Fair f) waits =
      (waits.0, until-later objects now later owner want None le waits.1)
  waits-later owner want due (functions.Fenced f) waits =
      (waits.0, until-later objects now later owner want None le waits.1)
  waits-later owner want due (functions.Semaphore f) waits =
      (waits.0, until-later objects now later owner want None le waits.1)
  waits-later owner want due (functions.Countdown f) waits =
      (waits.0, until-later objects now later owner want None le waits.1)

  pub time-goes_on : GoesOn (λ channel. false)
      (record { objects = objects; now = now; peak = peak; left = left; told = were })
      (record { objects = objects; now = later; peak = peak; left = left_then; told = are })
  time-goes_on = record {
    peaks = λ channel untold. omega arith;
    waits = λ owner want due all untold waits.
        waits-later owner want due want.function waits;
  }
