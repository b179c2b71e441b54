-- What a call of any kind leaves of a hold that a watchdog renews, and that holds stay apart.
use Rattle.std.proofs.Common.{◌≡◌, inl, inr, ℕ, ◌≤◌, List, [], ◌∷◌, Bool, true, false, Option, Some, None, refl, sym, ap, ◌∙◌, subst}
use Rattle.std.specs.Option.{option_map}
use Rattle.std.specs.Str.{bytes_eq}
use Rattle.std.proofs.lemmas.Bool.{cond_both, false≢true}
use Rattle.std.proofs.lemmas.Option.{none-some, same_Some}
use Rattle.std.proofs.lemmas.Slice.Eq.{bytes_eq-Decides}
use Rattle.lr_names.specs.Owner.{ThreadOfClient}
use Rattle.lr_objects.specs.declared.access.Access.{Access}
use Rattle.lr_objects.specs.declared.access.Access.TheVariants as accesses
use Rattle.lr_objects.specs.declared.fair.FairCall.{FairCall}
use Rattle.lr_objects.specs.declared.fair.FairCall.TheVariants as fair
use Rattle.lr_objects.specs.declared.fenced.FencedCall.{FencedCall}
use Rattle.lr_objects.specs.declared.fenced.FencedCall.TheVariants as fenced
use Rattle.lr_objects.specs.declared.kinds.Call.{Call}
use Rattle.lr_objects.specs.declared.kinds.Call.TheVariants as calls
use Rattle.lr_objects.specs.declared.lock.LockCall.{LockCall}
use Rattle.lr_objects.specs.declared.lock.LockCall.TheVariants as lock
use Rattle.lr_objects.specs.declared.read_write.ReadWriteCall.{ReadWriteCall}
use Rattle.lr_objects.specs.declared.read_write.ReadWriteCall.TheVariants as read_write
use Rattle.lr_model.specs.declared.entry.Act.{Act}
use Rattle.lr_model.specs.declared.entry.Act.TheVariants as acts
use Rattle.lr_model.specs.declared.entry.Entry.{Entry}
use Rattle.lr_model.specs.Answer.{Objects, answer_call, concern_of}
use Rattle.lr_model.specs.Fair.{fair_call}
use Rattle.lr_model.specs.Fenced.{fenced_call}
use Rattle.lr_model.specs.History.{State, objects_by, step, after}
use Rattle.lr_model.specs.Hold.{live_hold}
use Rattle.lr_model.specs.Mutex.{lock_call}
use Rattle.lr_model.specs.Outcome.{Outcome}
use Rattle.lr_model.specs.ReadWrite.{live_holds, read_write_call}
use Rattle.lr_model.specs.ReadWriteHolds.{AreApart}
use Rattle.lr_model.specs.Table.{put}
use Rattle.lr_model.specs.Tenure.{lease_in}
use Rattle.lr_waiting.specs.declared.watch.WatchKey.{WatchKey}
use Rattle.lr_waiting.specs.declared.watch.WatchKind.{WatchKind}
use Rattle.lr_waiting.specs.declared.watch.WatchKind.TheVariants as watched
use Rattle.lr_waiting.specs.Session.{watch_key}
use Rattle.lr_machine.specs.Renewals.{own_until, access_until, kind_until}
use Rattle.lr_machine.specs.World.{World, first_state, state_of}
use Rattle.lr_machine_renewals.specs.Kept.{HoldsAreApart, HoldsStayApart, KeepsHolds, GivesDeadlines, lock_key, fair_key, fenced_key, read_write_key, watch_access, call_key}
use Rattle.lr_machine_renewals.proofs.AccessUntil.{IsOwnHold, read_write_caller, read_write_access, access-keeps, call-apart}
use Rattle.lr_machine_renewals.proofs.KeyLaws.{later-until}
use Rattle.lr_machine_renewals.proofs.LockUntil.{lock_caller, fair_caller, fair_held, fenced_caller, fenced_held, lock-keeps, fair-keeps, fenced-keeps}
use Rattle.lr_machine_renewals.proofs.OwnUntil.{KeepsUntil, Lasts, keeps-like, other-keeps}

-- ---- an object of a table

-- A call on the object of a name is about a hold of this one, which may be of another name: its
-- whole key says so, and says whose the hold is.
record IsKey (mine full : Type 0) (name other : List ℕ) : Type 0 where
  to : name ≡ other → mine → full
  own : full → mine
  same : full → name ≡ other

table-keeps : {X : Type 0} (until : X → ℕ → Option ℕ) (moment lease : ℕ) (mine full : Type 0)
    (name other : List ℕ) → IsKey mine full name other → (table : List ℕ → X)
    → (outcome : Outcome X)
    → KeepsUntil moment lease mine outcome.reply (until (table name) moment)
    (until outcome.object)
    → Lasts moment lease outcome.reply (until (table other) moment) (until (table other))
    → KeepsUntil moment lease full outcome.reply (until (table other) moment)
    (until (put bytes_eq table name outcome.object other))
table-keeps until moment lease mine full name other key table outcome keeps lasts =
    cond_both (bytes_eq name other) outcome.object (table other)
    (λ object. KeepsUntil moment lease full outcome.reply (until (table other) moment)
    (until object))
    (λ here.
    let same : name ≡ other = (bytes_eq-Decides name other).0 here in
    keeps-like moment lease outcome.reply (until (table other) moment) (until outcome.object) mine
    full (key.to same) key.own
    (subst
    (λ n. KeepsUntil moment lease mine outcome.reply (until (table n) moment)
    (until outcome.object)) same keeps))
    (λ there. other-keeps moment lease outcome.reply (until (table other) moment)
    (until (table other)) full
    (λ is. false≢true (sym there ∙ (bytes_eq-Decides name other).1 (key.same is))) lasts)

-- ---- the keys of calls

-- of a lock of one owner, by who calls
abbrev own_key : List ℕ → WatchKind → Option ThreadOfClient → Option WatchKey
own_key name kind caller = option_map (λ owner. watch_key owner name kind) caller

lock-key : (name : List ℕ) (call : LockCall)
    → lock_key name call ≡ own_key name watched.Lock (lock_caller call)
lock-key name (lock.Try owner lease) = refl
lock-key name (lock.Unlock owner rest) = refl
lock-key name (lock.Renew owner lease) = refl
lock-key name lock.Force = refl

fair-key : (name : List ℕ) (call : FairCall)
    → fair_key name call ≡ own_key name watched.Fair (fair_caller call)
fair-key name (fair.Try owner lease queue) = refl
fair-key name (fair.Unlock owner rest) = refl
fair-key name (fair.Renew owner lease) = refl
fair-key name (fair.Leave owner) = refl

fenced-key : (name : List ℕ) (call : FencedCall)
    → fenced_key name call ≡ own_key name watched.Fenced (fenced_caller call)
fenced-key name (fenced.Try owner lease) = refl
fenced-key name (fenced.Unlock owner rest) = refl
fenced-key name (fenced.Renew owner lease) = refl
fenced-key name fenced.Token = refl

own-is_key : (name other : List ℕ) (owner : ThreadOfClient) (kind : WatchKind)
    (caller : Option ThreadOfClient) (key : Option WatchKey) → key ≡ own_key name kind caller
    → IsKey (caller ≡ Some owner) (key ≡ Some (watch_key owner other kind)) name other
own-is_key name other owner kind caller key of_caller = record {
  to = λ same mine. of_caller ∙ (λ i. own_key (same i) kind (mine i));
  own = λ is. own caller (sym of_caller ∙ is);
  same = λ is. same caller (sym of_caller ∙ is);
}
  where
    own : (who : Option ThreadOfClient)
        → own_key name kind who ≡ Some (watch_key owner other kind) → who ≡ Some owner
    own None is = absurd (none-some (watch_key owner other kind) is)
    own (Some who) is =
        ap (λ (key : WatchKey). Some key.owner)
        (same_Some (watch_key who name kind) (watch_key owner other kind) is)

    same : (who : Option ThreadOfClient)
        → own_key name kind who ≡ Some (watch_key owner other kind) → name ≡ other
    same None is = absurd (none-some (watch_key owner other kind) is)
    same (Some who) is =
        ap (λ (key : WatchKey). key.name)
        (same_Some (watch_key who name kind) (watch_key owner other kind) is)

-- of a read-write lock, by who calls and for which access
abbrev access_key : List ℕ → ReadWriteCall → WatchKey
access_key name call =
    watch_key (read_write_caller call) name (watch_access (read_write_access call))

read_write-key : (name : List ℕ) (call : ReadWriteCall)
    → read_write_key name call ≡ Some (access_key name call)
read_write-key name (read_write.Take access owner lease) = refl
read_write-key name (read_write.Unlock access owner rest) = refl
read_write-key name (read_write.Renew access owner lease) = refl

watched_access : WatchKind → Access
watched_access watched.Read = accesses.Read
watched_access _ = accesses.Write

access-watched : (access : Access) → watched_access (watch_access access) ≡ access
unfolding watched_access
access-watched accesses.Read = refl
access-watched accesses.Write = refl

access-is_key : (moment lease : ℕ) (name other : List ℕ) (owner : ThreadOfClient)
    (access : Access) (call : ReadWriteCall)
    → IsKey
    (IsOwnHold moment lease (read_write_caller call) (read_write_access call) owner access)
    (read_write_key name call ≡ Some (watch_key owner other (watch_access access))) name other
access-is_key moment lease name other owner access call = record {
  to = λ same mine.
      read_write-key name call
      ∙ (λ i. Some (watch_key (mine.0 i) (same i) (watch_access (mine.1 i))));
  own = λ is. (
    ap (λ (key : WatchKey). key.owner) (one is),
    sym (access-watched (read_write_access call))
        ∙ ap (λ (key : WatchKey). watched_access key.kind) (one is)
        ∙ access-watched access,
  );
  same = λ is. ap (λ (key : WatchKey). key.name) (one is);
}
  where
    one : read_write_key name call ≡ Some (watch_key owner other (watch_access access))
        → access_key name call ≡ watch_key owner other (watch_access access)
    one is =
        same_Some (access_key name call) (watch_key owner other (watch_access access))
        (sym (read_write-key name call) ∙ is)

-- whether a call can be about a hold of this kind
abbrev may_be : Call → WatchKind → Bool
may_be (calls.Lock call) watched.Lock = true
may_be (calls.Fair call) watched.Fair = true
may_be (calls.Fenced call) watched.Fenced = true
may_be (calls.ReadWrite call) watched.Read = true
may_be (calls.ReadWrite call) watched.Write = true
may_be _ _ = false

may_be-watched : (access : Access) (call : ReadWriteCall)
    → may_be (calls.ReadWrite call) (watch_access access) ≡ true
may_be-watched accesses.Read call = refl
may_be-watched accesses.Write call = refl

key-may_be : (name : List ℕ) (call : Call) (key : WatchKey) → call_key name call ≡ Some key
    → may_be call key.kind ≡ true
key-may_be name call key is = by call is
  where
    owned : (kind : WatchKind) (who : Option ThreadOfClient) (call : Call)
        → may_be call kind ≡ true → own_key name kind who ≡ Some key → may_be call key.kind ≡ true
    owned kind None call may is = absurd (none-some key is)
    owned kind (Some who) call may is =
        ap (λ (k : WatchKey). may_be call k.kind)
        (sym (same_Some (watch_key who name kind) key is))
        ∙ may

    by : (call : Call) → call_key name call ≡ Some key → may_be call key.kind ≡ true
    by (calls.Lock call) is =
        owned watched.Lock (lock_caller call) (calls.Lock call) refl
        (sym (lock-key name call) ∙ is)
    by (calls.Fair call) is =
        owned watched.Fair (fair_caller call) (calls.Fair call) refl
        (sym (fair-key name call) ∙ is)
    by (calls.Fenced call) is =
        owned watched.Fenced (fenced_caller call) (calls.Fenced call) refl
        (sym (fenced-key name call) ∙ is)
    by (calls.ReadWrite call) is =
        owned (watch_access (read_write_access call)) (Some (read_write_caller call))
        (calls.ReadWrite call) (may_be-watched (read_write_access call) call)
        (sym (read_write-key name call) ∙ is)
    by _ is = absurd (none-some key is)

-- ---- a call of any kind

module _ (objects : Objects) (apart : HoldsAreApart objects) (moment : ℕ) (name : List ℕ)
    (owner : ThreadOfClient) (other : List ℕ) where
  abbrev KeepsKind : Call → WatchKind → Type 0
  KeepsKind call kind =
      let answered = answer_call objects moment name call in
      KeepsUntil moment (lease_in (concern_of call))
      (call_key name call ≡ Some (watch_key owner other kind)) answered.reply
      (kind_until objects kind owner other moment)
      (kind_until answered.objects kind owner other)

  -- what was there lasts as long as it does
  still : (kind : WatchKind) (later deadline : ℕ) → moment ≤ later
      → kind_until objects kind owner other later ≡ Some deadline
      → kind_until objects kind owner other moment ≡ Some deadline
  still kind later deadline =
      later-until objects (watch_key owner other kind) moment later deadline apart

  lock-kind : (call : LockCall) → KeepsKind (calls.Lock call) watched.Lock
  lock-kind call =
      let held = objects.mutexes name in
      table-keeps (λ h later. own_until owner (live_hold later h)) moment
      (lease_in (concern_of (calls.Lock call))) (lock_caller call ≡ Some owner)
      (lock_key name call ≡ Some (watch_key owner other watched.Lock)) name other
      (own-is_key name other owner watched.Lock (lock_caller call) (lock_key name call)
      (lock-key name call)) objects.mutexes (lock_call name moment call held)
      (lock-keeps moment owner name call held) (still watched.Lock)

  fair-kind : (call : FairCall) → KeepsKind (calls.Fair call) watched.Fair
  fair-kind call =
      let held = objects.fair_locks name in
      table-keeps (λ l later. own_until owner (live_hold later (fair_held l))) moment
      (lease_in (concern_of (calls.Fair call))) (fair_caller call ≡ Some owner)
      (fair_key name call ≡ Some (watch_key owner other watched.Fair)) name other
      (own-is_key name other owner watched.Fair (fair_caller call) (fair_key name call)
      (fair-key name call)) objects.fair_locks (fair_call name moment call held)
      (fair-keeps moment owner name call held) (still watched.Fair)

  fenced-kind : (call : FencedCall) → KeepsKind (calls.Fenced call) watched.Fenced
  fenced-kind call =
      let held = objects.fenced_locks name in
      table-keeps (λ l later. own_until owner (live_hold later (fenced_held l))) moment
      (lease_in (concern_of (calls.Fenced call))) (fenced_caller call ≡ Some owner)
      (fenced_key name call ≡ Some (watch_key owner other watched.Fenced)) name other
      (own-is_key name other owner watched.Fenced (fenced_caller call) (fenced_key name call)
      (fenced-key name call)) objects.fenced_locks (fenced_call name moment call held)
      (fenced-keeps moment owner name call held) (still watched.Fenced)

  read_write-kind : (call : ReadWriteCall) (access : Access)
      → Lasts moment (lease_in (concern_of (calls.ReadWrite call)))
      (read_write_call name moment call (objects.read_write_locks name)).reply
      (access_until owner access (live_holds moment (objects.read_write_locks other)))
      (λ later. access_until owner access (live_holds later (objects.read_write_locks other)))
      → KeepsUntil moment (lease_in (concern_of (calls.ReadWrite call)))
      (read_write_key name call ≡ Some (watch_key owner other (watch_access access)))
      (read_write_call name moment call (objects.read_write_locks name)).reply
      (access_until owner access (live_holds moment (objects.read_write_locks other)))
      (λ later. access_until owner access
      (live_holds later
      (put bytes_eq objects.read_write_locks name
      (read_write_call name moment call (objects.read_write_locks name)).object other)))
  read_write-kind call access =
      let lease = lease_in (concern_of (calls.ReadWrite call)) in
      let held = objects.read_write_locks name in
      table-keeps (λ l later. access_until owner access (live_holds later l)) moment lease
      (IsOwnHold moment lease (read_write_caller call) (read_write_access call) owner access)
      (read_write_key name call ≡ Some (watch_key owner other (watch_access access))) name other
      (access-is_key moment lease name other owner access call) objects.read_write_locks
      (read_write_call name moment call held)
      (access-keeps moment owner access name call held (apart name))

  call-keeps : (call : Call) (kind : WatchKind) → KeepsKind call kind
  call-keeps (calls.Lock call) watched.Lock = lock-kind call
  call-keeps (calls.Fair call) watched.Fair = fair-kind call
  call-keeps (calls.Fenced call) watched.Fenced = fenced-kind call
  call-keeps (calls.ReadWrite call) watched.Read =
      read_write-kind call accesses.Read (still watched.Read)
  call-keeps (calls.ReadWrite call) watched.Write =
      read_write-kind call accesses.Write (still watched.Write)
  -- a call on an object of another kind leaves the hold alone
  call-keeps call kind =
      other-keeps moment (lease_in (concern_of call)) (answer_call objects moment name call).reply
      (kind_until objects kind owner other moment) (kind_until objects kind owner other)
      (call_key name call ≡ Some (watch_key owner other kind))
      (λ is. false≢true (key-may_be name call (watch_key owner other kind) is)) (still kind)

-- ---- the laws

pub keeps-holds : KeepsHolds
keeps-holds objects moment later op key deadline apart le is =
    let keeps = call-keeps objects apart moment op.name key.owner key.name op.call key.kind in
    elim (keeps.keeps later deadline le is) [
      | inl was ↦ inl was
      | inr new ↦ inr (record { about = new.own; lasts = new.lasts; gives = new.gives })
    ]

pub gives-deadlines : GivesDeadlines
gives-deadlines objects moment later op key deadline apart about gives is =
    (call-keeps objects apart moment op.name key.owner key.name op.call key.kind).gives about gives
    later deadline is

pub stay-apart : HoldsStayApart
stay-apart objects moment op apart name = by op.call
  where
    by : (call : Call)
        → AreApart ((answer_call objects moment op.name call).objects.read_write_locks name)
    by (calls.ReadWrite call) =
        let lock = objects.read_write_locks op.name in
        cond_both (bytes_eq op.name name) (read_write_call op.name moment call lock).object
        (objects.read_write_locks name) AreApart
        (λ here. call-apart moment op.name call lock (apart op.name)) (λ there. apart name)
    by _ = apart name

-- ---- the holds of a world

by-apart : (state : State) (moment : ℕ) (act : Act) → HoldsAreApart state.objects
    → HoldsAreApart (objects_by state moment act)
by-apart state moment (acts.Call op) apart = stay-apart state.objects moment op apart
by-apart state moment _ apart = apart

pub apart-after : (entries : List Entry) (state : State) → HoldsAreApart state.objects
    → HoldsAreApart (after state entries).objects
apart-after [] state apart = apart
apart-after (entry ∷ entries) state apart =
    apart-after entries (step state entry) (by-apart state entry.moment entry.act apart)

-- in every world the holds are apart
pub apart-world : (world : World) → HoldsAreApart (state_of world).objects
apart-world world = apart-after world.entries first_state (λ name. tt)
