-- A message is sent exactly where what was held has come free: laws for the crates above.
use Rattle.std.proofs.Common.{◌≡◌, ◌==◌, ◌+◌, ◌-◌, ℕ, Bool, true, false, Option, Some, None, if◌then◌else◌, refl}
use Rattle.lr_names.specs.Owner.{ThreadOfClient, same_owner}
use Rattle.lr_names.specs.declared.post.Post.{Post}
use Rattle.lr_objects.specs.declared.reply.Reply.TheVariants.{BadLease, Busy, Kept, Granted, NotHeld, Lost, Renewed, TooDeep}
use Rattle.lr_limits.specs.Limits.{hold_limit}
use Rattle.lr_model.specs.declared.hold.Hold.{Hold}
use Rattle.lr_model.specs.Hold.{take_hold, give_back_hold, renew_hold, end_hold, holding, freeing}
use Rattle.lr_model.specs.Moment.{is_lease}
use Rattle.lr_model.specs.Outcome.{Outcome, silent_outcome, with_lease}
use Rattle.lr_hold.specs.Step.{is_freed}

-- the outcome sends this message where its reply says that what was held has come free, else none
abbrev pub SendsWhereFreed : {X : Type 0} → Option Post → Outcome X → Type 0
SendsWhereFreed post outcome = outcome.post ≡ (if is_freed outcome.reply then post else None)

-- a choice of outcomes
either : {X : Type 0} (post : Option Post) (b : Bool) (x y : Outcome X) → SendsWhereFreed post x
    → SendsWhereFreed post y → SendsWhereFreed post (if b then x else y)
either post true x y left right = left
either post false x y left right = right

module _ (post : Option Post) (moment : ℕ) (owner : ThreadOfClient) (lease : ℕ) where
  pub sends-take_hold : (held : Option Hold)
      → SendsWhereFreed post (take_hold moment owner lease held)
  sends-take_hold None = refl
  sends-take_hold (Some hold) =
      let more = holding Granted owner (hold.count + 1) (moment + lease) in
      let full = silent_outcome TooDeep (Some hold) in
      either post (same_owner hold.owner owner) (if hold.count == hold_limit then full else more)
      (silent_outcome (Busy (hold.deadline - moment)) (Some hold))
      (either post (hold.count == hold_limit) full more refl refl) refl

  pub sends-give_back_hold : (held : Option Hold)
      → SendsWhereFreed post (give_back_hold post moment owner lease held)
  sends-give_back_hold None = refl
  sends-give_back_hold (Some hold) =
      let fewer = holding Kept owner (hold.count - 1) (moment + lease) in
      either post (same_owner hold.owner owner) (if hold.count == 1 then freeing post else fewer)
      (silent_outcome NotHeld (Some hold))
      (either post (hold.count == 1) (freeing post) fewer refl refl) refl

  pub sends-renew_hold : (held : Option Hold)
      → SendsWhereFreed post (renew_hold moment owner lease held)
  sends-renew_hold None = refl
  sends-renew_hold (Some hold) =
      either post (same_owner hold.owner owner) (holding Renewed owner hold.count (moment + lease))
      (silent_outcome Lost (Some hold)) refl refl

pub sends-end_hold : (post : Option Post) (held : Option Hold)
    → SendsWhereFreed post (end_hold post held)
sends-end_hold post None = refl
sends-end_hold post (Some hold) = refl

-- a lease out of range sends nothing
pub sends-with_lease : {X : Type 0} (post : Option Post) (lease : ℕ) (object : X) (outcome : Outcome X)
    → SendsWhereFreed post outcome → SendsWhereFreed post (with_lease lease object outcome)
sends-with_lease post lease object outcome sends =
    either post (is_lease lease) outcome (silent_outcome BadLease object) sends refl
