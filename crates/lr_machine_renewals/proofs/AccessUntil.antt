-- What the calls on a read-write lock leave of a hold: it lasts as long as before, or the call
-- gave it its deadline. An owner has one hold with each access, so what is found at one moment is
-- what is found at another.
use Rattle.std.proofs.Common.{◌≡◌, ◌⊎◌, inl, inr, ℕ, ◌+◌, ◌≤◌, ◌<◌, List, [], ◌∷◌, true, false, Option, Some, None, refl, sym, ap, ◌∙◌, subst, arith}
use Rattle.std.specs.List.{AllByRecursion}
use Rattle.std.specs.Option.{option_map}
use Rattle.std.proofs.lemmas.Bool.{cond_both, cond-true, false≢true, ltb-true, lt-ltb}
use Rattle.std.proofs.lemmas.Option.{none-some, same_Some}
use Rattle.lr_names.specs.Owner.{ThreadOfClient}
use Rattle.lr_objects.specs.declared.access.Access.{Access}
use Rattle.lr_objects.specs.declared.access.Access.TheVariants.{Read, Write}
use Rattle.lr_objects.specs.declared.read_write.ReadWriteCall.{ReadWriteCall}
use Rattle.lr_objects.specs.declared.read_write.ReadWriteCall.TheVariants as calls
use Rattle.lr_objects.specs.declared.reply.Reply.{Reply}
use Rattle.lr_objects.specs.declared.reply.Reply.TheVariants.{Granted, Busy, Kept, Freed, NotHeld, Renewed, Lost, TooDeep, TooMany, BadLease}
use Rattle.lr_model.specs.declared.read_write_hold.ReadWriteHold.{ReadWriteHold}
use Rattle.lr_model.specs.Moment.{is_lease, is_live}
use Rattle.lr_model.specs.Outcome.{silent_outcome, with_lease}
use Rattle.lr_model.specs.ReadWrite.{ReadWriteLock, LockOutcome, is_hold_of, hold_of, live_holds, with_hold, without_hold, first_hold, read, write, give_back, renew, read_write_call, read_write_concern}
use Rattle.lr_model.specs.ReadWriteHolds.{MayStandBeside, AreApart}
use Rattle.lr_model.specs.Tenure.{lease_in}
use Rattle.lr_model.proofs.ReadWriteFacts.{HasKey, has_key, is_hold_of-own, find-passes}
use Rattle.lr_model.proofs.ReadWriteLaws.{Becomes, Refused, Joined, Changed, Ended, IsBecoming, is_refusal, is_holding, apart-live, apart-becomes, read-becomes, write-becomes, give_back-becomes, renew-becomes}
use Rattle.lr_waiting.specs.Peak.{gives_deadline}
use Rattle.lr_machine.specs.Renewals.{access_until}
use Rattle.lr_machine_renewals.proofs.OwnUntil.{KeepsUntil, refused-keeps}

-- ---- the holds that a lock has

abbrev Has : ReadWriteLock → ReadWriteHold → Type 0
Has [] hold = ⊥
Has (first ∷ rest) hold = (first ≡ hold) ⊎ Has rest hold

-- what is true of each is true of one that it has
has-each : (P : ReadWriteHold → Type 0) (lock : ReadWriteLock) (hold : ReadWriteHold)
    → AllByRecursion P lock → Has lock hold → P hold
has-each P [] hold all has = absurd has
has-each P (first ∷ rest) hold all (inl same) = subst P same all.0
has-each P (first ∷ rest) hold all (inr later) = has-each P rest hold all.1 later

-- which are live
has-live : (moment : ℕ) (lock : ReadWriteLock) (hold : ReadWriteHold) → Has lock hold
    → is_live hold.deadline moment ≡ true → Has (live_holds moment lock) hold
has-live moment [] hold has live = has
has-live moment (first ∷ rest) hold (inl same) live =
    let now : is_live first.deadline moment ≡ true =
    ap (λ (h : ReadWriteHold). is_live h.deadline moment) same ∙ live in
    subst (λ l. Has l hold)
    (sym (cond-true (is_live first.deadline moment) (first ∷ live_holds moment rest)
    (live_holds moment rest) now)) (inl same)
has-live moment (first ∷ rest) hold (inr later) live =
    cond_both (is_live first.deadline moment) (first ∷ live_holds moment rest)
    (live_holds moment rest) (λ l. Has l hold)
    (λ stays. inr (has-live moment rest hold later live))
    (λ goes. has-live moment rest hold later live)

-- a live hold of a lock
record IsLiveIn (moment : ℕ) (lock : ReadWriteLock) (hold : ReadWriteHold) : Type 0 where
  has : Has lock hold
  live : is_live hold.deadline moment ≡ true

live-has : (moment : ℕ) (lock : ReadWriteLock) (hold : ReadWriteHold)
    → Has (live_holds moment lock) hold → IsLiveIn moment lock hold
live-has moment [] hold = λ has. absurd has
live-has moment (first ∷ rest) hold =
    cond_both (is_live first.deadline moment) (first ∷ live_holds moment rest)
    (live_holds moment rest) (λ l. Has l hold → IsLiveIn moment (first ∷ rest) hold)
    (λ stays has. elim has [
      | inl same ↦ record {
        has = inl same;
        live = ap (λ (h : ReadWriteHold). is_live h.deadline moment) (sym same) ∙ stays;
      }
      | inr later ↦ in_rest (live-has moment rest hold later)
    ])
    (λ goes has. in_rest (live-has moment rest hold has))
  where
    in_rest : IsLiveIn moment rest hold → IsLiveIn moment (first ∷ rest) hold
    in_rest now = record { has = inr now.has; live = now.live }

-- which are left when one comes or goes
with-has : (new hold : ReadWriteHold) (lock : ReadWriteLock) → Has (with_hold new lock) hold
    → (new ≡ hold) ⊎ Has lock hold
with-has new hold [] = λ has. has
with-has new hold (first ∷ rest) =
    cond_both (is_hold_of new.owner new.access first) (new ∷ rest) (first ∷ with_hold new rest)
    (λ l. Has l hold → (new ≡ hold) ⊎ Has (first ∷ rest) hold)
    (λ here has. elim has [
      | inl same ↦ inl same
      | inr later ↦ inr (inr later)
    ])
    (λ there has. elim has [
      | inl same ↦ inr (inl same)
      | inr later ↦ elim (with-has new hold rest later) [
        | inl same ↦ inl same
        | inr old ↦ inr (inr old)
      ]
    ])

has-with : (new : ReadWriteHold) (lock : ReadWriteLock) → Has (with_hold new lock) new
has-with new [] = inl refl
has-with new (first ∷ rest) =
    cond_both (is_hold_of new.owner new.access first) (new ∷ rest) (first ∷ with_hold new rest)
    (λ l. Has l new) (λ here. inl refl) (λ there. inr (has-with new rest))

without-has : (owner : ThreadOfClient) (access : Access) (hold : ReadWriteHold)
    (lock : ReadWriteLock) → Has (without_hold owner access lock) hold → Has lock hold
without-has owner access hold [] = λ has. has
without-has owner access hold (first ∷ rest) =
    cond_both (is_hold_of owner access first) rest (first ∷ without_hold owner access rest)
    (λ l. Has l hold → Has (first ∷ rest) hold)
    (λ here has. inr has)
    (λ there has. elim has [
      | inl same ↦ inl same
      | inr later ↦ inr (without-has owner access hold rest later)
    ])

-- ---- the hold of an owner with an access

-- a lock has such a hold, which lasts until this deadline
record HasUntil (owner : ThreadOfClient) (access : Access) (lock : ReadWriteLock) (deadline : ℕ)
    : Type 0 where
  hold : ReadWriteHold
  has : Has lock hold
  own : is_hold_of owner access hold ≡ true
  lasts : hold.deadline ≡ deadline

module _ (owner : ThreadOfClient) (access : Access) where
  found-has : (lock : ReadWriteLock) (hold : ReadWriteHold) → hold_of owner access lock ≡ Some hold
      → Has lock hold
  found-has [] hold = λ found. absurd (none-some hold found)
  found-has (first ∷ rest) hold =
      cond_both (is_hold_of owner access first) (Some first) (hold_of owner access rest)
      (λ o. o ≡ Some hold → Has (first ∷ rest) hold)
      (λ here found. inl (same_Some first hold found))
      (λ there found. inr (found-has rest hold found))

  -- what it has is what is found: there is no other
  has-found : (lock : ReadWriteLock) (hold : ReadWriteHold) → AreApart lock → Has lock hold
      → is_hold_of owner access hold ≡ true → hold_of owner access lock ≡ Some hold
  has-found [] hold apart has own = absurd has
  has-found (first ∷ rest) hold apart (inl same) own =
      cond-true (is_hold_of owner access first) (Some first) (hold_of owner access rest)
      (ap (is_hold_of owner access) same ∙ own)
      ∙ ap (λ h. Some h) same
  has-found (first ∷ rest) hold apart (inr later) own =
      let more = has-found rest hold apart.1 later own in
      let beside = has-each (MayStandBeside first) rest hold apart.0 later in
      cond_both (is_hold_of owner access first) (Some first) (hold_of owner access rest)
      (λ o. o ≡ Some hold)
      (λ here.
      let key = has_key owner access first here in
      absurd (false≢true (sym beside.another
      ∙ (λ i. is_hold_of (key.owner_is i) (key.access_is i) hold) ∙ own)))
      (λ there. more)

  until-has : (lock : ReadWriteLock) (deadline : ℕ) → access_until owner access lock ≡ Some deadline
      → HasUntil owner access lock deadline
  until-has lock deadline = by (hold_of owner access lock) refl
    where
      by : (found : Option ReadWriteHold) → hold_of owner access lock ≡ found
          → option_map (λ (hold : ReadWriteHold). hold.deadline) found ≡ Some deadline
          → HasUntil owner access lock deadline
      by None e is = absurd (none-some deadline is)
      by (Some hold) e is = record {
        hold = hold;
        has = found-has lock hold e;
        own = find-passes (is_hold_of owner access) lock hold e;
        lasts = same_Some hold.deadline deadline is;
      }

  has-until : (lock : ReadWriteLock) (deadline : ℕ) → AreApart lock
      → HasUntil owner access lock deadline → access_until owner access lock ≡ Some deadline
  has-until lock deadline apart it =
      ap (option_map (λ (hold : ReadWriteHold). hold.deadline))
      (has-found lock it.hold apart it.has it.own)
      ∙ ap (λ d. Some d) it.lasts

  -- what is live later was there
  later-has : (lock : ReadWriteLock) (later deadline : ℕ)
      → access_until owner access (live_holds later lock) ≡ Some deadline
      → HasUntil owner access lock deadline
  later-has lock later deadline is =
      let it = until-has (live_holds later lock) deadline is in
      record {
        hold = it.hold;
        has = (live-has later lock it.hold it.has).has;
        own = it.own;
        lasts = it.lasts;
      }

  -- and is live now
  pub later-access : (lock : ReadWriteLock) (moment later deadline : ℕ) → AreApart lock
      → moment ≤ later → access_until owner access (live_holds later lock) ≡ Some deadline
      → access_until owner access (live_holds moment lock) ≡ Some deadline
  later-access lock moment later deadline apart le is =
      let it = until-has (live_holds later lock) deadline is in
      let now = live-has later lock it.hold it.has in
      let ahead : later < it.hold.deadline = ltb-true later it.hold.deadline now.live in
      let live : is_live it.hold.deadline moment ≡ true =
      lt-ltb moment it.hold.deadline (omega (arith, ahead, le)) in
      has-until (live_holds moment lock) deadline (apart-live moment lock apart) (record {
        hold = it.hold;
        has = has-live moment lock it.hold now.has live;
        own = it.own;
        lasts = it.lasts;
      })

-- ---- what becomes of a lock by a call

-- a refusal gives no deadline
refusal-gives : (reply : Reply) → is_refusal reply ≡ true → gives_deadline reply ≡ false
refusal-gives (Busy remaining) refused = refl
refusal-gives NotHeld refused = refl
refusal-gives Lost refused = refl
refusal-gives TooDeep refused = refl
refusal-gives TooMany refused = refl
refusal-gives _ refused = absurd (false≢true refused)

-- and who goes on to hold is given one
holding-gives : (reply : Reply) → is_holding reply ≡ true → gives_deadline reply ≡ true
holding-gives Granted holds = refl
holding-gives Kept holds = refl
holding-gives Renewed holds = refl
holding-gives _ holds = absurd (false≢true holds)

module _ (moment lease : ℕ) (caller : ThreadOfClient) (access : Access) (owner : ThreadOfClient)
    (other : Access) where
  -- the hold is the one that the call is about
  abbrev pub IsOwnHold : Type 0
  IsOwnHold = (caller ≡ owner) × (access ≡ other)

  abbrev pub KeepsAccess : ReadWriteLock → Reply → ReadWriteLock → Type 0
  KeepsAccess live reply new =
      KeepsUntil moment lease IsOwnHold reply (access_until owner other live)
      (λ later. access_until owner other (live_holds later new))

  -- nothing comes, by a reply that gives no deadline
  less-keeps : (live : ReadWriteLock) (reply : Reply) (new : ReadWriteLock) → AreApart live
      → gives_deadline reply ≡ false → ((hold : ReadWriteHold) → Has new hold → Has live hold)
      → KeepsAccess live reply new
  less-keeps live reply new apart none fewer =
      refused-keeps moment lease reply (access_until owner other live)
      (λ later. access_until owner other (live_holds later new)) IsOwnHold none
      (λ later deadline le is.
      let it = later-has owner other new later deadline is in
      has-until owner other live deadline apart (record {
        hold = it.hold;
        has = fewer it.hold it.has;
        own = it.own;
        lasts = it.lasts;
      }))

  -- the caller's hold comes, or is put in the place of what it had
  module _ (live : ReadWriteLock) (apart : AreApart live) (hold : ReadWriteHold)
      (key : HasKey hold caller access) (until : hold.deadline ≡ moment + lease) where
    abbrev joined : ReadWriteLock
    joined = with_hold hold live

    -- a hold of an owner that is the new one is the caller's
    is-callers : (it : ReadWriteHold) → hold ≡ it → is_hold_of owner other it ≡ true → IsOwnHold
    is-callers it same own =
        let found = has_key owner other it own in (
          sym key.owner_is ∙ ap (λ (h : ReadWriteHold). h.owner) same ∙ found.owner_is,
          sym key.access_is ∙ ap (λ (h : ReadWriteHold). h.access) same ∙ found.access_is,
        )

    -- and what the caller has then is the new one
    is-new : AreApart joined → IsOwnHold → (it : ReadWriteHold) → Has joined it
        → is_hold_of owner other it ≡ true → hold ≡ it
    is-new still mine it has own =
        let of_caller : is_hold_of owner other hold ≡ true =
        (λ i. is_hold_of (sym (key.owner_is ∙ mine.0) i) (sym (key.access_is ∙ mine.1) i) hold)
        ∙ is_hold_of-own hold in
        same_Some hold it
        (sym (has-found owner other joined hold still (has-with hold live) of_caller)
        ∙ has-found owner other joined it still has own)

    put-keeps : (reply : Reply) → gives_deadline reply ≡ true → AreApart joined
        → KeepsAccess live reply joined
    put-keeps reply gives still = record {
      keeps = λ later deadline le is.
          let it = later-has owner other joined later deadline is in
          elim (with-has hold it.hold live it.has) [
            | inl same ↦ inr (record {
              own = is-callers it.hold same it.own;
              lasts =
                  sym it.lasts ∙ sym (ap (λ (h : ReadWriteHold). h.deadline) same) ∙ until;
              gives = gives;
            })
            | inr was ↦ inl (has-until owner other live deadline apart (record {
              hold = it.hold;
              has = was;
              own = it.own;
              lasts = it.lasts;
            }))
          ];
      gives = λ mine has later deadline is.
          let it = later-has owner other joined later deadline is in
          let same = is-new still mine it.hold it.has it.own in
          sym it.lasts ∙ sym (ap (λ (h : ReadWriteHold). h.deadline) same) ∙ until;
    }

  becomes-keeps : (live : ReadWriteLock) (reply : Reply) (new : ReadWriteLock) → AreApart live
      → Becomes caller access (moment + lease) live reply new → KeepsAccess live reply new
  becomes-keeps live reply new apart (Refused _ refused) =
      less-keeps live reply live apart (refusal-gives reply refused) (λ hold has. has)
  becomes-keeps live reply new apart (Joined beside room) =
      put-keeps live apart (first_hold caller access (moment + lease))
      (record { owner_is = refl; access_is = refl }) refl Granted refl
      (apart-becomes caller access (moment + lease) live Granted new apart (Joined beside room))
  becomes-keeps live reply new apart (Changed _ holds own found count counted) =
      let key : HasKey own caller access =
      has_key caller access own (find-passes (is_hold_of caller access) live own found) in
      put-keeps live apart (record own { count = count; deadline = moment + lease })
      (record { owner_is = key.owner_is; access_is = key.access_is }) refl reply
      (holding-gives reply holds)
      (apart-becomes caller access (moment + lease) live reply new apart
      (Changed reply holds own found count counted))
  becomes-keeps live reply new apart (Ended own found) =
      less-keeps live Freed new apart refl
      (λ hold. without-has own.owner own.access hold live)

  -- a function sees the live holds, with a lease that may be refused: what is refused changes
  -- nothing
  leased-keeps : (lock : ReadWriteLock) (outcome : LockOutcome) → AreApart lock
      → IsBecoming caller access (moment + lease) (live_holds moment lock) outcome
      → KeepsAccess (live_holds moment lock) (with_lease lease lock outcome).reply
      (with_lease lease lock outcome).object
  leased-keeps lock outcome apart becomes =
      cond_both (is_lease lease) outcome (silent_outcome BadLease lock)
      (λ (o : LockOutcome). KeepsAccess (live_holds moment lock) o.reply o.object)
      (λ good. becomes-keeps (live_holds moment lock) outcome.reply outcome.object
      (apart-live moment lock apart) becomes)
      (λ bad. refused-keeps moment lease BadLease
      (access_until owner other (live_holds moment lock))
      (λ later. access_until owner other (live_holds later lock)) IsOwnHold refl
      (λ later deadline. later-access owner other lock moment later deadline apart))

-- ---- the calls on a read-write lock

-- whose hold a call is about, and with which access
abbrev pub read_write_caller : ReadWriteCall → ThreadOfClient
read_write_caller (calls.Take access owner lease) = owner
read_write_caller (calls.Unlock access owner rest) = owner
read_write_caller (calls.Renew access owner lease) = owner

abbrev pub read_write_access : ReadWriteCall → Access
read_write_access (calls.Take access owner lease) = access
read_write_access (calls.Unlock access owner rest) = access
read_write_access (calls.Renew access owner lease) = access

module _ (moment : ℕ) (owner : ThreadOfClient) (other : Access) (name : List ℕ) where
  pub access-keeps : (call : ReadWriteCall) (lock : ReadWriteLock) → AreApart lock
      → KeepsAccess moment (lease_in (read_write_concern call)) (read_write_caller call)
      (read_write_access call) owner other (live_holds moment lock)
      (read_write_call name moment call lock).reply (read_write_call name moment call lock).object
  access-keeps (calls.Take Read who lease) lock apart =
      let live = live_holds moment lock in
      leased-keeps moment lease who Read owner other lock (read moment who lease live) apart
      (read-becomes moment who lease live)
  access-keeps (calls.Take Write who lease) lock apart =
      let live = live_holds moment lock in
      leased-keeps moment lease who Write owner other lock (write moment who lease live) apart
      (write-becomes moment who lease live)
  access-keeps (calls.Unlock access who rest) lock apart =
      let live = live_holds moment lock in
      leased-keeps moment rest who access owner other lock
      (give_back name moment who access rest live) apart
      (give_back-becomes moment who rest name access live)
  access-keeps (calls.Renew access who lease) lock apart =
      let live = live_holds moment lock in
      leased-keeps moment lease who access owner other lock
      (renew moment who access lease live) apart (renew-becomes moment who lease access live)

-- a call leaves the holds apart
pub call-apart : (moment : ℕ) (name : List ℕ) (call : ReadWriteCall) (lock : ReadWriteLock)
    → AreApart lock → AreApart (read_write_call name moment call lock).object
call-apart moment name = by
  where
    leased : (lease : ℕ) (lock : ReadWriteLock) (outcome : LockOutcome) (who : ThreadOfClient)
        (access : Access) → AreApart lock
        → IsBecoming who access (moment + lease) (live_holds moment lock) outcome
        → AreApart (with_lease lease lock outcome).object
    leased lease lock outcome who access apart becomes =
        cond_both (is_lease lease) outcome (silent_outcome BadLease lock)
        (λ (o : LockOutcome). AreApart o.object)
        (λ good. apart-becomes who access (moment + lease) (live_holds moment lock) outcome.reply
        outcome.object (apart-live moment lock apart) becomes)
        (λ bad. apart)

    by : (call : ReadWriteCall) (lock : ReadWriteLock) → AreApart lock
        → AreApart (read_write_call name moment call lock).object
    by (calls.Take Read who lease) lock apart =
        let live = live_holds moment lock in
        leased lease lock (read moment who lease live) who Read apart
        (read-becomes moment who lease live)
    by (calls.Take Write who lease) lock apart =
        let live = live_holds moment lock in
        leased lease lock (write moment who lease live) who Write apart
        (write-becomes moment who lease live)
    by (calls.Unlock access who rest) lock apart =
        let live = live_holds moment lock in
        leased rest lock (give_back name moment who access rest live) who access apart
        (give_back-becomes moment who rest name access live)
    by (calls.Renew access who lease) lock apart =
        let live = live_holds moment lock in
        leased lease lock (renew moment who access lease live) who access apart
        (renew-becomes moment who lease access live)
