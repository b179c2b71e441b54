-- What the calls on a lock or a fenced lock leave of its hold: it lasts no longer than the peak.
use Rattle.std.proofs.Common.{◌≡◌, ℕ, ◌+◌, ◌-◌, ◌≤◌, ◌<◌, ◌==◌, max, List, Bool, true, false, Option, Some, None, if◌then◌else◌, refl, sym, ◌∙◌, subst, arith}
use Rattle.std.proofs.lemmas.Bool.{false≢true, ltb-true, lt-ltb}
use Rattle.lr_limits.specs.Limits.{hold_limit, token_limit}
use Rattle.lr_names.specs.Owner.{ThreadOfClient, same_owner}
use Rattle.lr_names.specs.declared.post.Post.{Post}
use Rattle.lr_objects.specs.declared.lock.LockCall.{LockCall}
use Rattle.lr_objects.specs.declared.lock.LockCall.TheVariants as lock
use Rattle.lr_objects.specs.declared.fenced.FencedCall.{FencedCall}
use Rattle.lr_objects.specs.declared.fenced.FencedCall.TheVariants as fenced
use Rattle.lr_objects.specs.declared.reply.Reply.{Reply}
use Rattle.lr_objects.specs.declared.reply.Reply.TheVariants.{Granted, Busy, Kept, Freed, NotHeld, Renewed, Lost, TooDeep, BadLease, TokensSpent}
use Rattle.lr_model.specs.declared.hold.Hold.{Hold}
use Rattle.lr_model.specs.Fenced.{FencedLock, fenced_post, reply_with_token, with_token, take_fenced, fenced_call, fenced_concern}
use Rattle.lr_model.specs.Hold.{live_hold, take_hold, give_back_hold, renew_hold, end_hold}
use Rattle.lr_model.specs.Moment.{is_lease, is_live}
use Rattle.lr_model.specs.Mutex.{lock_post, lock_call, lock_concern}
use Rattle.lr_model.specs.Outcome.{Outcome, silent_outcome, with_lease}
use Rattle.lr_model.specs.Tenure.{lease_in}
use Rattle.lr_waiting.specs.Peak.{deadline_of, gives_deadline}

-- One hold.

-- from a moment on a hold that is live lasts no longer than this
abbrev pub EndsBy : ℕ → ℕ → Option Hold → Type 0
EndsBy peak moment held =
    (later : ℕ) → moment ≤ later → deadline_of (live_hold later held) ≤ peak

-- what is live lasts no longer than the hold says
live-ends : (later : ℕ) (held : Option Hold) → deadline_of (live_hold later held) ≤ deadline_of held
live-ends later None = omega arith
live-ends later (Some hold) = by (is_live hold.deadline later)
  where
    by : (live : Bool) → deadline_of (if live then Some hold else None) ≤ hold.deadline
    by true = omega arith
    by false = omega arith

-- what is live later was live before
pub live-later : (moment later : ℕ) (held : Option Hold) → moment ≤ later
    → deadline_of (live_hold later held) ≤ deadline_of (live_hold moment held)
live-later moment later None le = omega arith
live-later moment later (Some hold) le =
    by (is_live hold.deadline moment) (is_live hold.deadline later) refl refl
  where
    by : (now then_ : Bool) → is_live hold.deadline moment ≡ now
        → is_live hold.deadline later ≡ then_
        → deadline_of (if then_ then Some hold else None)
        ≤ deadline_of (if now then Some hold else None)
    by true true e f = omega arith
    by true false e f = omega arith
    by false false e f = omega arith
    by false true e f =
        let before : later < hold.deadline = ltb-true later hold.deadline f in
        absurd (false≢true (sym e ∙ lt-ltb moment hold.deadline (omega (arith, before, le))))

ends-sooner : (peak more moment : ℕ) (held : Option Hold) → peak ≤ more
    → EndsBy peak moment held → EndsBy more moment held
ends-sooner peak more moment held le ends later from = omega (arith, ends later from, le)

ends-given : (peak moment deadline : ℕ) (hold : Hold) → hold.deadline ≡ deadline
    → EndsBy (max peak deadline) moment (Some hold)
ends-given peak moment deadline hold is later from =
    omega (arith, live-ends later (Some hold), is)

ends-none : (peak moment : ℕ) → EndsBy peak moment None
ends-none peak moment later from = omega arith

-- a deadline that a reply gives may raise the peak
abbrev pub peak_given : ℕ → ℕ → ℕ → Reply → ℕ
peak_given peak moment lease reply =
    max peak (if gives_deadline reply then moment + lease else 0)

-- an outcome after which the hold lasts no longer than the peak that its reply gives
abbrev pub GivesPeak : ℕ → ℕ → ℕ → Outcome (Option Hold) → Type 0
GivesPeak peak moment lease outcome =
    EndsBy (peak_given peak moment lease outcome.reply) moment outcome.object

module _ (peak moment lease : ℕ) (owner : ThreadOfClient) where
  kept : (reply : Reply) (held : Option Hold) → EndsBy peak moment held
      → EndsBy (peak_given peak moment lease reply) moment held
  kept reply held ends =
      ends-sooner peak (peak_given peak moment lease reply) moment held (omega arith) ends

  take_hold-peak : (held : Option Hold) → EndsBy peak moment held
      → GivesPeak peak moment lease (take_hold moment owner lease held)
  take_hold-peak None ends =
      ends-given peak moment (moment + lease)
      (record { owner = owner; count = 1; deadline = moment + lease }) refl
  take_hold-peak (Some hold) ends =
      by (same_owner hold.owner owner) (hold.count == hold_limit)
    where
      by : (own full : Bool)
          → GivesPeak peak moment lease
          (if own
          then (if full then silent_outcome TooDeep (Some hold)
          else silent_outcome Granted
          (Some (record { owner = owner; count = hold.count + 1; deadline = moment + lease })))
          else silent_outcome (Busy (hold.deadline - moment)) (Some hold))
      by true true = kept TooDeep (Some hold) ends
      by true false =
          ends-given peak moment (moment + lease)
          (record { owner = owner; count = hold.count + 1; deadline = moment + lease }) refl
      by false full = kept (Busy (hold.deadline - moment)) (Some hold) ends

  give_back_hold-peak : (post : Option Post) (held : Option Hold) → EndsBy peak moment held
      → GivesPeak peak moment lease (give_back_hold post moment owner lease held)
  give_back_hold-peak post None ends = kept NotHeld None ends
  give_back_hold-peak post (Some hold) ends = by (same_owner hold.owner owner) (hold.count == 1)
    where
      by : (own last : Bool)
          → GivesPeak peak moment lease
          (if own
          then (if last then record { reply = Freed; object = None; post = post }
          else silent_outcome Kept
          (Some (record { owner = owner; count = hold.count - 1; deadline = moment + lease })))
          else silent_outcome NotHeld (Some hold))
      by true true = ends-none (peak_given peak moment lease Freed) moment
      by true false =
          ends-given peak moment (moment + lease)
          (record { owner = owner; count = hold.count - 1; deadline = moment + lease }) refl
      by false last = kept NotHeld (Some hold) ends

  renew_hold-peak : (held : Option Hold) → EndsBy peak moment held
      → GivesPeak peak moment lease (renew_hold moment owner lease held)
  renew_hold-peak None ends = kept Lost None ends
  renew_hold-peak (Some hold) ends = by (same_owner hold.owner owner)
    where
      by : (own : Bool)
          → GivesPeak peak moment lease
          (if own
          then silent_outcome Renewed
          (Some (record { owner = owner; count = hold.count; deadline = moment + lease }))
          else silent_outcome Lost (Some hold))
      by true =
          ends-given peak moment (moment + lease)
          (record { owner = owner; count = hold.count; deadline = moment + lease }) refl
      by false = kept Lost (Some hold) ends

end_hold-peak : (peak moment : ℕ) (post : Option Post) (held : Option Hold)
    → EndsBy peak moment held → GivesPeak peak moment 0 (end_hold post held)
end_hold-peak peak moment post None ends = ends-sooner peak (max peak 0) moment None (omega arith) ends
end_hold-peak peak moment post (Some hold) ends = ends-none (peak_given peak moment 0 Freed) moment

-- a hold that is live from the moment on
ends-live : (peak moment : ℕ) (held : Option Hold) → EndsBy peak moment held
    → EndsBy peak moment (live_hold moment held)
ends-live peak moment None ends = ends
ends-live peak moment (Some hold) ends = by (is_live hold.deadline moment)
  where
    by : (live : Bool) → EndsBy peak moment (if live then Some hold else None)
    by true = ends
    by false = ends-none peak moment

-- a lease out of range changes nothing
leased-peak : (peak moment lease rest : ℕ) (held : Option Hold) (outcome : Outcome (Option Hold))
    → EndsBy peak moment held → GivesPeak peak moment lease outcome
    → GivesPeak peak moment lease (with_lease rest held outcome)
leased-peak peak moment lease rest held outcome ends gives = by (is_lease rest)
  where
    by : (is : Bool)
        → GivesPeak peak moment lease (if is then outcome else silent_outcome BadLease held)
    by true = gives
    by false = ends-sooner peak (max peak 0) moment held (omega arith) ends

-- The lease that a call on a lock gives.

abbrev pub lock_lease : LockCall → ℕ
lock_lease call = lease_in (lock_concern call)

pub lock_call-peak : (peak moment : ℕ) (name : List ℕ) (call : LockCall) (held : Option Hold)
    → EndsBy peak moment held
    → GivesPeak peak moment (lock_lease call) (lock_call name moment call held)
lock_call-peak peak moment name (lock.Try owner lease) held ends =
    leased-peak peak moment lease lease held _ ends
    (take_hold-peak peak moment lease owner (live_hold moment held)
    (ends-live peak moment held ends))
lock_call-peak peak moment name (lock.Unlock owner rest) held ends =
    leased-peak peak moment rest rest held _ ends
    (give_back_hold-peak peak moment rest owner (Some (lock_post name)) (live_hold moment held)
    (ends-live peak moment held ends))
lock_call-peak peak moment name (lock.Renew owner lease) held ends =
    leased-peak peak moment lease lease held _ ends
    (renew_hold-peak peak moment lease owner (live_hold moment held)
    (ends-live peak moment held ends))
lock_call-peak peak moment name lock.Force held ends =
    end_hold-peak peak moment (Some (lock_post name)) (live_hold moment held)
    (ends-live peak moment held ends)

-- A fenced lock.

abbrev pub fenced_lease : FencedCall → ℕ
fenced_lease call = lease_in (fenced_concern call)

abbrev pub FencedGivesPeak : ℕ → ℕ → ℕ → Outcome FencedLock → Type 0
FencedGivesPeak peak moment lease outcome =
    EndsBy (peak_given peak moment lease outcome.reply) moment outcome.object.held

-- a token in the reply gives the same deadline
token-gives : (token : ℕ) (reply : Reply)
    → gives_deadline (reply_with_token token reply) ≡ gives_deadline reply
token-gives token Granted = refl
token-gives token _ = refl

with_token-peak : (peak moment lease token : ℕ) (outcome : Outcome (Option Hold))
    → GivesPeak peak moment lease outcome
    → FencedGivesPeak peak moment lease (with_token token outcome)
with_token-peak peak moment lease token outcome gives =
    subst
    (λ b. EndsBy (max peak (if b then moment + lease else 0)) moment outcome.object)
    (sym (token-gives token outcome.reply)) gives

take_fenced-peak : (peak moment lease : ℕ) (owner : ThreadOfClient) (token : ℕ)
    (held : Option Hold) → EndsBy peak moment held
    → FencedGivesPeak peak moment lease (take_fenced moment owner lease token held)
take_fenced-peak peak moment lease owner token None ends = by (token == token_limit)
  where
    by : (spent : Bool)
        → FencedGivesPeak peak moment lease
        (if spent then silent_outcome TokensSpent (record { held = None; token = token })
        else with_token (token + 1) (take_hold moment owner lease None))
    by true = ends-none (peak_given peak moment lease TokensSpent) moment
    by false =
        with_token-peak peak moment lease (token + 1) (take_hold moment owner lease None)
        (take_hold-peak peak moment lease owner None ends)
take_fenced-peak peak moment lease owner token (Some hold) ends =
    with_token-peak peak moment lease token (take_hold moment owner lease (Some hold))
    (take_hold-peak peak moment lease owner (Some hold) ends)

fenced_leased-peak : (peak moment lease rest : ℕ) (held : FencedLock)
    (outcome : Outcome FencedLock)
    → EndsBy peak moment held.held → FencedGivesPeak peak moment lease outcome
    → FencedGivesPeak peak moment lease (with_lease rest held outcome)
fenced_leased-peak peak moment lease rest held outcome ends gives = by (is_lease rest)
  where
    by : (is : Bool)
        → FencedGivesPeak peak moment lease (if is then outcome else silent_outcome BadLease held)
    by true = gives
    by false = ends-sooner peak (max peak 0) moment held.held (omega arith) ends

pub fenced_call-peak : (peak moment : ℕ) (name : List ℕ) (call : FencedCall) (held : FencedLock)
    → EndsBy peak moment held.held
    → FencedGivesPeak peak moment (fenced_lease call) (fenced_call name moment call held)
fenced_call-peak peak moment name (fenced.Try owner lease) held ends =
    fenced_leased-peak peak moment lease lease held _ ends
    (take_fenced-peak peak moment lease owner held.token (live_hold moment held.held)
    (ends-live peak moment held.held ends))
fenced_call-peak peak moment name (fenced.Unlock owner rest) held ends =
    fenced_leased-peak peak moment rest rest held _ ends
    (with_token-peak peak moment rest held.token
    (give_back_hold (Some (fenced_post name)) moment owner rest (live_hold moment held.held))
    (give_back_hold-peak peak moment rest owner (Some (fenced_post name))
    (live_hold moment held.held)
    (ends-live peak moment held.held ends)))
fenced_call-peak peak moment name (fenced.Renew owner lease) held ends =
    fenced_leased-peak peak moment lease lease held _ ends
    (with_token-peak peak moment lease held.token
    (renew_hold moment owner lease (live_hold moment held.held))
    (renew_hold-peak peak moment lease owner (live_hold moment held.held)
    (ends-live peak moment held.held ends)))
fenced_call-peak peak moment name fenced.Token held ends =
    ends-sooner peak (max peak 0) moment held.held (omega arith) ends
