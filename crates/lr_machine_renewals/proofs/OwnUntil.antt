-- What the functions of a hold leave of it: it lasts as long as before, or a call gave it its
-- deadline.
use Rattle.std.proofs.Common.{◌≡◌, ◌⊎◌, inl, inr, ℕ, ◌+◌, ◌-◌, ◌≤◌, ◌<◌, ◌==◌, Bool, true, false, Option, Some, None, if◌then◌else◌, refl, sym, ap, ◌∙◌, arith}
use Rattle.std.proofs.lemmas.Bool.{cond_both, false≢true, ltb-true, lt-ltb}
use Rattle.std.proofs.lemmas.Option.{none-some, cond_some}
use Rattle.lr_limits.specs.Limits.{hold_limit}
use Rattle.lr_names.specs.Owner.{ThreadOfClient, same_owner}
use Rattle.lr_names.specs.declared.post.Post.{Post}
use Rattle.lr_objects.specs.declared.reply.Reply.{Reply}
use Rattle.lr_objects.specs.declared.reply.Reply.TheVariants.{Granted, Busy, Kept, Freed, NotHeld, Renewed, Lost, TooDeep, BadLease}
use Rattle.lr_model.specs.declared.hold.Hold.{Hold}
use Rattle.lr_model.specs.Hold.{live_hold, take_hold, give_back_hold, renew_hold, end_hold}
use Rattle.lr_model.specs.Moment.{is_lease, is_live}
use Rattle.lr_model.specs.Outcome.{Outcome, silent_outcome, with_lease}
use Rattle.lr_model.proofs.ReadWriteFacts.{same_owner-Decides}
use Rattle.lr_waiting.specs.Peak.{gives_deadline}
use Rattle.lr_machine.specs.Renewals.{own_until}

-- ---- what a call leaves of a hold that may be its own

-- it is, and the call gave it this deadline
pub record IsNew (moment lease : ℕ) (mine : Type 0) (reply : Reply) (deadline : ℕ) : Type 0 where
  pub own : mine
  pub lasts : deadline ≡ moment + lease
  pub gives : gives_deadline reply ≡ true

-- Until when a hold lasted before a call, and until when it does at each moment after. Where it is
-- live then, it lasts as long as before, or the call gave it its deadline. And where it is the
-- call's own and the reply gives one, it has none but that.
pub record KeepsUntil (moment lease : ℕ) (mine : Type 0) (reply : Reply) (before : Option ℕ)
    (now : ℕ → Option ℕ) : Type 0 where
  pub keeps : (later deadline : ℕ) → moment ≤ later → now later ≡ Some deadline
      → (before ≡ Some deadline) ⊎ IsNew moment lease mine reply deadline
  pub gives : mine → gives_deadline reply ≡ true → (later deadline : ℕ)
      → now later ≡ Some deadline → deadline ≡ moment + lease

module _ (moment lease : ℕ) (reply : Reply) (before : Option ℕ) (now : ℕ → Option ℕ) where
  -- the hold lasts as long as it did
  abbrev pub Lasts : Type 0
  Lasts = (later deadline : ℕ) → moment ≤ later → now later ≡ Some deadline → before ≡ Some deadline

  -- a reply that gives no deadline
  pub refused-keeps : (mine : Type 0) → gives_deadline reply ≡ false → Lasts
      → KeepsUntil moment lease mine reply before now
  refused-keeps mine none lasts = record {
    keeps = λ later deadline le is. inl (lasts later deadline le is);
    gives = λ own gives. absurd (false≢true (sym none ∙ gives));
  }

  -- the hold of another
  pub other-keeps : (mine : Type 0) → (mine → ⊥) → Lasts
      → KeepsUntil moment lease mine reply before now
  other-keeps mine other lasts = record {
    keeps = λ later deadline le is. inl (lasts later deadline le is);
    gives = λ own. absurd (other own);
  }

  -- whose it is may be said otherwise
  pub keeps-like : (mine yours : Type 0) → (mine → yours) → (yours → mine)
      → KeepsUntil moment lease mine reply before now
      → KeepsUntil moment lease yours reply before now
  keeps-like mine yours to from keeps = record {
    keeps = λ later deadline le is. elim (keeps.keeps later deadline le is) [
      | inl was ↦ inl was
      | inr new ↦ inr (record { own = to new.own; lasts = new.lasts; gives = new.gives })
    ];
    gives = λ own. keeps.gives (from own);
  }

-- ---- a hold at two moments

-- what is live was there
live-own : (owner : ThreadOfClient) (moment deadline : ℕ) (held : Option Hold)
    → own_until owner (live_hold moment held) ≡ Some deadline
    → own_until owner held ≡ Some deadline
live-own owner moment deadline None is = is
live-own owner moment deadline (Some hold) is = by (is_live hold.deadline moment) is
  where
    by : (live : Bool) → own_until owner (if live then Some hold else None) ≡ Some deadline
        → own_until owner (Some hold) ≡ Some deadline
    by true e = e
    by false e = absurd (none-some deadline e)

-- what is live later is live now
pub later-own : (owner : ThreadOfClient) (moment later deadline : ℕ) (held : Option Hold)
    → moment ≤ later → own_until owner (live_hold later held) ≡ Some deadline
    → own_until owner (live_hold moment held) ≡ Some deadline
later-own owner moment later deadline None le is = is
later-own owner moment later deadline (Some hold) le is =
    by (is_live hold.deadline moment) (is_live hold.deadline later) refl refl is
  where
    by : (now live : Bool) → is_live hold.deadline moment ≡ now
        → is_live hold.deadline later ≡ live
        → own_until owner (if live then Some hold else None) ≡ Some deadline
        → own_until owner (if now then Some hold else None) ≡ Some deadline
    by true true e f is = is
    by now false e f is = absurd (none-some deadline is)
    by false true e f is =
        let before : later < hold.deadline = ltb-true later hold.deadline f in
        absurd (false≢true (sym e ∙ lt-ltb moment hold.deadline (omega (arith, before, le))))

-- ---- what becomes of a hold that is live

-- it stays, or nothing is held any longer, or the caller holds until the lease has passed
pub data Leaves (moment lease : ℕ) (caller : Option ThreadOfClient) (held : Option Hold)
    : Reply → Option Hold → Type 0 where
  Stays : (reply : Reply) → gives_deadline reply ≡ false
      → Leaves moment lease caller held reply held
  Ends : (reply : Reply) → gives_deadline reply ≡ false
      → Leaves moment lease caller held reply None
  Given : (reply : Reply) → gives_deadline reply ≡ true → (owner : ThreadOfClient)
      → caller ≡ Some owner → (count : ℕ)
      → Leaves moment lease caller held reply
      (Some (record { owner = owner; count = count; deadline = moment + lease }))

module _ (moment lease : ℕ) (caller : Option ThreadOfClient) (owner : ThreadOfClient) where
  -- whose the hold is that the caller has then, and until when it lasts
  given-is : (who : ThreadOfClient) (count later deadline : ℕ)
      → own_until owner
      (live_hold later
      (Some (record { owner = who; count = count; deadline = moment + lease })))
      ≡ Some deadline
      → (who ≡ owner) × (moment + lease ≡ deadline)
  given-is who count later deadline is =
      let hold : Hold = record { owner = who; count = count; deadline = moment + lease } in
      let both = cond_some (same_owner who owner) (moment + lease) deadline
      (live-own owner later deadline (Some hold) is) in
      ((same_owner-Decides who owner).0 both.0, both.1)

  leaves-keeps : (held : Option Hold) (reply : Reply) (new : Option Hold)
      → Leaves moment lease caller held reply new
      → KeepsUntil moment lease (caller ≡ Some owner) reply (own_until owner held)
      (λ later. own_until owner (live_hold later new))
  leaves-keeps held reply new (Stays _ none) =
      refused-keeps moment lease reply (own_until owner held)
      (λ later. own_until owner (live_hold later held)) (caller ≡ Some owner) none
      (λ later deadline le. live-own owner later deadline held)
  leaves-keeps held reply new (Ends _ none) =
      refused-keeps moment lease reply (own_until owner held) (λ later. None)
      (caller ≡ Some owner) none (λ later deadline le is. absurd (none-some deadline is))
  leaves-keeps held reply new (Given _ gives who of_who count) = record {
    keeps = λ later deadline le is.
        let mine = given-is who count later deadline is in
        inr (record {
          own = of_who ∙ ap (λ o. Some o) mine.0;
          lasts = sym mine.1;
          gives = gives;
        });
    gives = λ own has later deadline is. sym (given-is who count later deadline is).1;
  }

  -- A function sees the live hold, with a lease that may be refused: what is refused changes
  -- nothing.
  module _ {X : Type 0} (held_in : X → Option Hold) (object : X) where
    abbrev pub Keeps : Outcome X → Type 0
    Keeps outcome =
        KeepsUntil moment lease (caller ≡ Some owner) outcome.reply
        (own_until owner (live_hold moment (held_in object)))
        (λ later. own_until owner (live_hold later (held_in outcome.object)))

    abbrev pub LeavesLive : Outcome X → Type 0
    LeavesLive outcome =
        Leaves moment lease caller (live_hold moment (held_in object)) outcome.reply
        (held_in outcome.object)

    pub same-keeps : (reply : Reply) → gives_deadline reply ≡ false
        → Keeps (silent_outcome reply object)
    same-keeps reply none =
        refused-keeps moment lease reply (own_until owner (live_hold moment (held_in object)))
        (λ later. own_until owner (live_hold later (held_in object))) (caller ≡ Some owner) none
        (λ later deadline. later-own owner moment later deadline (held_in object))

    pub live-keeps : (outcome : Outcome X) → LeavesLive outcome → Keeps outcome
    live-keeps outcome leaves =
        leaves-keeps (live_hold moment (held_in object)) outcome.reply (held_in outcome.object)
        leaves

    pub leased-keeps : (rest : ℕ) (outcome : Outcome X) → LeavesLive outcome
        → Keeps (with_lease rest object outcome)
    leased-keeps rest outcome leaves =
        cond_both (is_lease rest) outcome (silent_outcome BadLease object) Keeps
        (λ good. live-keeps outcome leaves) (λ bad. same-keeps BadLease refl)

-- ---- the functions of a hold

-- what an outcome is of a hold
abbrev pub LeavesHold : ℕ → ℕ → Option ThreadOfClient → Option Hold → Outcome (Option Hold) → Type 0
LeavesHold moment lease caller held outcome =
    Leaves moment lease caller held outcome.reply outcome.object

module _ (moment lease : ℕ) (owner : ThreadOfClient) where
  pub take_hold-leaves : (held : Option Hold)
      → LeavesHold moment lease (Some owner) held (take_hold moment owner lease held)
  take_hold-leaves None = Given Granted refl owner refl 1
  take_hold-leaves (Some hold) = by (same_owner hold.owner owner) (hold.count == hold_limit)
    where
      by : (own full : Bool)
          → LeavesHold moment lease (Some owner) (Some hold)
          (if own
          then (if full then silent_outcome TooDeep (Some hold)
          else silent_outcome Granted
          (Some (record { owner = owner; count = hold.count + 1; deadline = moment + lease })))
          else silent_outcome (Busy (hold.deadline - moment)) (Some hold))
      by true true = Stays TooDeep refl
      by true false = Given Granted refl owner refl (hold.count + 1)
      by false full = Stays (Busy (hold.deadline - moment)) refl

  pub give_back_hold-leaves : (post : Option Post) (held : Option Hold)
      → LeavesHold moment lease (Some owner) held (give_back_hold post moment owner lease held)
  give_back_hold-leaves post None = Stays NotHeld refl
  give_back_hold-leaves post (Some hold) = by (same_owner hold.owner owner) (hold.count == 1)
    where
      by : (own last : Bool)
          → LeavesHold moment lease (Some owner) (Some hold)
          (if own
          then (if last then record { reply = Freed; object = None; post = post }
          else silent_outcome Kept
          (Some (record { owner = owner; count = hold.count - 1; deadline = moment + lease })))
          else silent_outcome NotHeld (Some hold))
      by true true = Ends Freed refl
      by true false = Given Kept refl owner refl (hold.count - 1)
      by false last = Stays NotHeld refl

  pub renew_hold-leaves : (held : Option Hold)
      → LeavesHold moment lease (Some owner) held (renew_hold moment owner lease held)
  renew_hold-leaves None = Stays Lost refl
  renew_hold-leaves (Some hold) = by (same_owner hold.owner owner)
    where
      by : (own : Bool)
          → LeavesHold moment lease (Some owner) (Some hold)
          (if own
          then silent_outcome Renewed
          (Some (record { owner = owner; count = hold.count; deadline = moment + lease }))
          else silent_outcome Lost (Some hold))
      by true = Given Renewed refl owner refl hold.count
      by false = Stays Lost refl

pub end_hold-leaves : (moment : ℕ) (post : Option Post) (held : Option Hold)
    → LeavesHold moment 0 None held (end_hold post held)
end_hold-leaves moment post None = Stays NotHeld refl
end_hold-leaves moment post (Some hold) = Ends Freed refl
