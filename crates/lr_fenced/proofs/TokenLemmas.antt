-- Steps on the hold alone, whose replies tell no token.
use Rattle.std.proofs.Common.{◌≡◌, ◌==◌, ◌-◌, ◌+◌, ℕ, Bool, true, false, List, Option, Some, None, if◌then◌else◌, refl, sym, subst, ◌∙◌}
use Rattle.lr_names.specs.Owner.{ThreadOfClient, same_owner}
use Rattle.lr_names.specs.declared.post.Post.{Post}
use Rattle.lr_keys.specs.KeySpace.{Keys, entry_at}
use Rattle.lr_objects.specs.declared.reply.Reply.{Reply}
use Rattle.lr_objects.specs.declared.reply.Reply.TheVariants.{Kept, NotHeld, Lost, Renewed}
use Rattle.lr_model.specs.declared.hold.Hold.{Hold}
use Rattle.lr_model.specs.Fenced.{reply_with_token, with_token}
use Rattle.lr_model.specs.Hold.{give_back_hold, renew_hold, holding, freeing}
use Rattle.lr_model.specs.Outcome.{Outcome, silent_outcome}
use Rattle.lr_hold.specs.Step.{IsHoldStep}
use Rattle.lr_fenced.specs.Step.{IsLockStep, IsTokenAt}

-- the outcome's reply is no grant, and so the same with any token
abbrev pub TellsNoToken : Outcome (Option Hold) → Type 0
TellsNoToken outcome = (token : ℕ) → reply_with_token token outcome.reply ≡ outcome.reply

either : (b : Bool) (x y : Outcome (Option Hold)) → TellsNoToken x → TellsNoToken y
    → TellsNoToken (if b then x else y)
either true x y left right = left
either false x y left right = right

pub no_token-give_back_hold : (post : Option Post) (moment : ℕ) (owner : ThreadOfClient) (rest : ℕ)
    (held : Option Hold) → TellsNoToken (give_back_hold post moment owner rest held)
no_token-give_back_hold post moment owner rest None = λ token. refl
no_token-give_back_hold post moment owner rest (Some hold) =
    let fewer = holding Kept owner (hold.count - 1) (moment + rest) in
    either (same_owner hold.owner owner) (if hold.count == 1 then freeing post else fewer)
    (silent_outcome NotHeld (Some hold))
    (either (hold.count == 1) (freeing post) fewer (λ token. refl) (λ token. refl)) (λ token. refl)

pub no_token-renew_hold : (moment : ℕ) (owner : ThreadOfClient) (lease : ℕ) (held : Option Hold)
    → TellsNoToken (renew_hold moment owner lease held)
no_token-renew_hold moment owner lease None = λ token. refl
no_token-renew_hold moment owner lease (Some hold) =
    either (same_owner hold.owner owner) (holding Renewed owner hold.count (moment + lease))
    (silent_outcome Lost (Some hold)) (λ token. refl) (λ token. refl)

-- such a step on the hold, where the counter stays
pub with_token_step : (middle new : Keys) (hash counter : List ℕ) (reply : Reply)
    (outcome : Outcome (Option Hold)) → TellsNoToken outcome
    → (token : ℕ) → IsTokenAt (entry_at middle counter) token
    → entry_at new counter ≡ entry_at middle counter → IsHoldStep new hash reply outcome
    → IsLockStep new hash counter reply (with_token token outcome)
with_token_step middle new hash counter reply outcome untold token at stays done = record {
  answer = done.answer ∙ sym (untold token);
  lock = record {
    held = done.held;
    token = subst (λ e. IsTokenAt e token) (sym stays) at;
  };
}
