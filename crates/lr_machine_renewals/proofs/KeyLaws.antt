-- Which holds the calls of clients are about: that of a renewal, and that of a request.
use Rattle.std.proofs.Common.{◌≡◌, ℕ, ◌≤◌, ◌==◌, List, Bool, true, false, ◌&&◌, Option, Some, None, if◌then◌else◌, refl, sym, ap, ◌∙◌}
use Rattle.std.specs.Option.{option_map}
use Rattle.std.specs.Str.{bytes_eq}
use Rattle.std.proofs.lemmas.Bool.{false≢true, and_parts, and_from}
use Rattle.std.proofs.lemmas.Bool.{eqb-true, eq-eqb}
use Rattle.std.proofs.lemmas.Option.{none-some}
use Rattle.std.proofs.lemmas.Slice.Eq.{bytes_eq-Decides}
use Rattle.lr_names.specs.Owner.{ThreadOfClient, same_owner}
use Rattle.lr_objects.specs.Kinds.{call_of}
use Rattle.lr_objects.specs.Want.{op_of}
use Rattle.lr_objects.specs.declared.access.Access.TheVariants as accesses
use Rattle.lr_objects.specs.declared.fair.FairFunction.TheVariants as fair
use Rattle.lr_objects.specs.declared.fenced.FencedFunction.TheVariants as fenced
use Rattle.lr_objects.specs.declared.kinds.Function.{Function}
use Rattle.lr_objects.specs.declared.kinds.Function.TheVariants as functions
use Rattle.lr_objects.specs.declared.lock.LockFunction.TheVariants as lock
use Rattle.lr_objects.specs.declared.read_write.ReadWriteFunction.TheVariants as read_write
use Rattle.lr_objects.specs.declared.want.Want.{Want}
use Rattle.lr_model.specs.Answer.{Objects, answer_call, reply_of, concern_of}
use Rattle.lr_model.specs.Fair.{FairPlace, leave_with, live_places, place_of}
use Rattle.lr_model.specs.Hold.{live_hold, end_hold}
use Rattle.lr_model.specs.Mutex.{lock_post}
use Rattle.lr_model.specs.Tenure.{lease_in, lease_given}
use Rattle.lr_model.specs.declared.hold.Hold.{Hold}
use Rattle.lr_model.proofs.ReadWriteFacts.{same_owner-Decides}
use Rattle.lr_waiting.specs.declared.watch.WatchKey.{WatchKey}
use Rattle.lr_waiting.specs.declared.watch.WatchKind.{WatchKind}
use Rattle.lr_waiting.specs.declared.watch.WatchKind.TheVariants as watched
use Rattle.lr_waiting.specs.Peak.{gives_deadline}
use Rattle.lr_waiting.specs.Session.{watch_kind, watch_key, leaving_function, leaving_want}
use Rattle.lr_waiting.specs.Watchdog.{watch_number, same_watch, renewal_op, renewal_call}
use Rattle.lr_machine.specs.Renewals.{held_until, kind_until}
use Rattle.lr_machine_renewals.specs.Kept.{HoldsAreApart, call_key, op_key}
use Rattle.lr_machine_renewals.proofs.AccessUntil.{later-access}
use Rattle.lr_machine_renewals.proofs.OwnUntil.{later-own}

-- ---- keys that are alike are one

abbrev kind-of_number : ℕ → WatchKind
kind-of_number n =
    if n == 0 then watched.Lock
    else if n == 1 then watched.Fair
    else if n == 2 then watched.Fenced
    else if n == 3 then watched.Read
    else watched.Write

number-kind : (kind : WatchKind) → kind-of_number (watch_number kind) ≡ kind
number-kind watched.Lock = refl
number-kind watched.Fair = refl
number-kind watched.Fenced = refl
number-kind watched.Read = refl
number-kind watched.Write = refl

kinds-one : (a b : WatchKind) → watch_number a ≡ watch_number b → a ≡ b
kinds-one a b e = sym (number-kind a) ∙ ap kind-of_number e ∙ number-kind b

pub watch-one : (a b : WatchKey) → same_watch a b ≡ true → a ≡ b
unfolding same_watch
watch-one a b same =
    let own : Bool = same_owner a.owner b.owner in
    let alike : Bool = watch_number a.kind == watch_number b.kind in
    let outer = and_parts (own && alike) (bytes_eq a.name b.name) same in
    let inner = and_parts own alike outer.0 in
    let owner : a.owner ≡ b.owner = (same_owner-Decides a.owner b.owner).0 inner.0 in
    let number = eqb-true (watch_number a.kind) (watch_number b.kind) inner.1 in
    let kind : a.kind ≡ b.kind = kinds-one a.kind b.kind number in
    let name : a.name ≡ b.name = (bytes_eq-Decides a.name b.name).0 outer.1 in
    λ i. record { owner = owner i; kind = kind i; name = name i }

pub watch-same : (a : WatchKey) → same_watch a a ≡ true
unfolding same_watch
watch-same a =
    let own : Bool = same_owner a.owner a.owner in
    let alike : Bool = watch_number a.kind == watch_number a.kind in
    let owner : own ≡ true = (same_owner-Decides a.owner a.owner).1 refl in
    let kind : alike ≡ true = eq-eqb (watch_number a.kind) (watch_number a.kind) refl in
    and_from (own && alike) (bytes_eq a.name a.name) (and_from own alike owner kind)
    ((bytes_eq-Decides a.name a.name).1 refl)

-- ---- a hold at two moments

-- what is live later is live now, until the same deadline
pub later-until : (objects : Objects) (key : WatchKey) (moment later deadline : ℕ)
    → HoldsAreApart objects → moment ≤ later → held_until objects key later ≡ Some deadline
    → held_until objects key moment ≡ Some deadline
later-until objects key moment later deadline apart le = by key.kind
  where
    by : (kind : WatchKind)
        → kind_until objects kind key.owner key.name later ≡ Some deadline
        → kind_until objects kind key.owner key.name moment ≡ Some deadline
    by watched.Lock =
        later-own key.owner moment later deadline (objects.mutexes key.name) le
    by watched.Fair =
        later-own key.owner moment later deadline (objects.fair_locks key.name).held le
    by watched.Fenced =
        later-own key.owner moment later deadline (objects.fenced_locks key.name).held le
    by watched.Read =
        later-access key.owner accesses.Read (objects.read_write_locks key.name) moment later
        deadline (apart key.name) le
    by watched.Write =
        later-access key.owner accesses.Write (objects.read_write_locks key.name) moment later
        deadline (apart key.name) le

-- ---- a renewal

pub renewal-key : (key : WatchKey) (lease : ℕ) → op_key (renewal_op key lease) ≡ Some key
renewal-key key lease = by key.kind
  where
    by : (kind : WatchKind)
        → call_key key.name (renewal_call kind key.owner lease)
        ≡ Some (watch_key key.owner key.name kind)
    by watched.Lock = refl
    by watched.Fair = refl
    by watched.Fenced = refl
    by watched.Read = refl
    by watched.Write = refl

pub renewal-lease : (key : WatchKey) (lease : ℕ) → lease_given (renewal_op key lease) ≡ lease
renewal-lease key lease = by key.kind
  where
    by : (kind : WatchKind) → lease_in (concern_of (renewal_call kind key.owner lease)) ≡ lease
    by watched.Lock = refl
    by watched.Fair = refl
    by watched.Fenced = refl
    by watched.Read = refl
    by watched.Write = refl

-- ---- a request

-- the hold that a request of an owner is about
abbrev pub key_wanted : ThreadOfClient → Want → Option WatchKey
key_wanted owner want = option_map (watch_key owner want.name) (watch_kind want.function)

module _ (want : Want) (owner : ThreadOfClient) (lease : ℕ) (queue : Bool) (key : WatchKey) where
  -- what a call is about its request is about
  pub want-key : op_key (op_of want owner lease queue) ≡ Some key
      → key_wanted owner want ≡ Some key
  want-key = by want.function
    where
      by : (function : Function)
          → call_key want.name (call_of function want owner lease queue) ≡ Some key
          → option_map (watch_key owner want.name) (watch_kind function) ≡ Some key
      by (functions.Lock lock.Try) is = is
      by (functions.Lock lock.Unlock) is = is
      by (functions.Lock lock.Renew) is = is
      by (functions.Fair fair.Try) is = is
      by (functions.Fair fair.Unlock) is = is
      by (functions.Fair fair.Renew) is = is
      by (functions.Fenced fenced.Try) is = is
      by (functions.Fenced fenced.Unlock) is = is
      by (functions.Fenced fenced.Renew) is = is
      by (functions.ReadWrite read_write.Read) is = is
      by (functions.ReadWrite read_write.Write) is = is
      by (functions.ReadWrite read_write.UnlockRead) is = is
      by (functions.ReadWrite read_write.UnlockWrite) is = is
      by (functions.ReadWrite read_write.Renew) is = is
      by _ is = absurd (none-some key is)

  -- and it gives the lease of the request
  pub want-lease : op_key (op_of want owner lease queue) ≡ Some key
      → lease_given (op_of want owner lease queue) ≡ lease
  want-lease = by want.function
    where
      by : (function : Function)
          → call_key want.name (call_of function want owner lease queue) ≡ Some key
          → lease_in (concern_of (call_of function want owner lease queue)) ≡ lease
      by (functions.Lock lock.Try) is = refl
      by (functions.Lock lock.Unlock) is = refl
      by (functions.Lock lock.Renew) is = refl
      by (functions.Fair fair.Try) is = refl
      by (functions.Fair fair.Unlock) is = refl
      by (functions.Fair fair.Renew) is = refl
      by (functions.Fenced fenced.Try) is = refl
      by (functions.Fenced fenced.Unlock) is = refl
      by (functions.Fenced fenced.Renew) is = refl
      by (functions.ReadWrite read_write.Read) is = refl
      by (functions.ReadWrite read_write.Write) is = refl
      by (functions.ReadWrite read_write.UnlockRead) is = refl
      by (functions.ReadWrite read_write.UnlockWrite) is = refl
      by (functions.ReadWrite read_write.Renew) is = refl
      by _ is = absurd (none-some key is)

-- ---- replies that give no deadline

-- who takes a lock away gets no hold
end_hold-gives : (name : List ℕ) (held : Option Hold)
    → gives_deadline (end_hold (Some (lock_post name)) held).reply ≡ false
end_hold-gives name None = refl
end_hold-gives name (Some hold) = refl

-- nor who leaves a queue
leave_with-gives : (name : List ℕ) (owner : ThreadOfClient) (held : Option Hold)
    (queue : List FairPlace) (own : Option FairPlace)
    → gives_deadline (leave_with name owner held queue own).reply ≡ false
leave_with-gives name owner held queue None = refl
leave_with-gives name owner held queue (Some own) = refl

module _ (objects : Objects) (moment : ℕ) (want : Want) (owner : ThreadOfClient) (lease : ℕ)
    (queue : Bool) (key : WatchKey) where
  -- what gives a deadline is about the hold that its request is about
  pub grant-key : gives_deadline (reply_of objects moment (op_of want owner lease queue)) ≡ true
      → key_wanted owner want ≡ Some key → op_key (op_of want owner lease queue) ≡ Some key
  grant-key = by want.function
    where
      by : (function : Function)
          → gives_deadline
          (answer_call objects moment want.name (call_of function want owner lease queue)).reply
          ≡ true
          → option_map (watch_key owner want.name) (watch_kind function) ≡ Some key
          → call_key want.name (call_of function want owner lease queue) ≡ Some key
      by (functions.Lock lock.Try) gives is = is
      by (functions.Lock lock.Unlock) gives is = is
      by (functions.Lock lock.Renew) gives is = is
      by (functions.Lock lock.Force) gives is =
          absurd (false≢true (sym
          (end_hold-gives want.name (live_hold moment (objects.mutexes want.name))) ∙ gives))
      by (functions.Fair fair.Try) gives is = is
      by (functions.Fair fair.Unlock) gives is = is
      by (functions.Fair fair.Renew) gives is = is
      by (functions.Fair fair.Leave) gives is =
          absurd (false≢true (sym (left want.name) ∙ gives))
        where
          left : (name : List ℕ)
              → gives_deadline
              (leave_with name owner
              (live_hold moment (objects.fair_locks name).held)
              (live_places moment (objects.fair_locks name).queue)
              (place_of owner (live_places moment (objects.fair_locks name).queue))).reply ≡ false
          left name =
              leave_with-gives name owner (live_hold moment (objects.fair_locks name).held)
              (live_places moment (objects.fair_locks name).queue)
              (place_of owner (live_places moment (objects.fair_locks name).queue))
      by (functions.Fenced fenced.Try) gives is = is
      by (functions.Fenced fenced.Unlock) gives is = is
      by (functions.Fenced fenced.Renew) gives is = is
      by (functions.Fenced fenced.Token) gives is = absurd (false≢true gives)
      by (functions.ReadWrite read_write.Read) gives is = is
      by (functions.ReadWrite read_write.Write) gives is = is
      by (functions.ReadWrite read_write.UnlockRead) gives is = is
      by (functions.ReadWrite read_write.UnlockWrite) gives is = is
      by (functions.ReadWrite read_write.Renew) gives is = is
      by _ gives is = absurd (none-some key is)

-- ---- a request that gives its place up

-- what a request calls once it gives its place up
abbrev pub leaving : Want → Want
leaving want = leaving_want want (leaving_function want.function)

module _ (want : Want) (owner : ThreadOfClient) (lease : ℕ) (queue : Bool) (key : WatchKey) where
  pub leaving-key : op_key (op_of (leaving want) owner lease queue) ≡ Some key
      → key_wanted owner want ≡ Some key
  leaving-key = by want.function
    where
      by : (function : Function)
          → op_key (op_of (leaving_want want (leaving_function function)) owner lease queue)
          ≡ Some key
          → key_wanted owner want ≡ Some key
      by (functions.Fair f) is = absurd (none-some key is)
      by _ is = want-key want owner lease queue key is

  pub leaving-lease : op_key (op_of (leaving want) owner lease queue) ≡ Some key
      → lease_given (op_of (leaving want) owner lease queue) ≡ lease
  leaving-lease = want-lease (leaving want) owner lease queue key

  pub leaving-grant : (objects : Objects) (moment : ℕ)
      → gives_deadline (reply_of objects moment (op_of (leaving want) owner lease queue)) ≡ true
      → key_wanted owner want ≡ Some key
      → op_key (op_of (leaving want) owner lease queue) ≡ Some key
  leaving-grant objects moment gives is =
      grant-key objects moment (leaving want) owner lease queue key gives
      (same want.function refl ∙ is)
    where
      same : (function : Function) → want.function ≡ function
          → key_wanted owner (leaving_want want (leaving_function function))
          ≡ key_wanted owner want
      same (functions.Fair f) e =
          ap (λ g. option_map (watch_key owner want.name) (watch_kind g)) (sym e)
      same _ e = refl
