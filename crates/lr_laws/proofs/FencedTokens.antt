-- The token of a fenced lock is the last that was told of it.
use Rattle.std.proofs.Common.{◌≡◌, ℕ, ◌+◌, ◌==◌, List, true, Option, Some, None, if◌then◌else◌, refl, ◌∙◌}
use Rattle.std.specs.Str.{bytes_eq}
use Rattle.std.proofs.lemmas.Bool.{cond_both}
use Rattle.lr_limits.specs.Limits.{hold_limit, token_limit}
use Rattle.lr_names.specs.Owner.{ThreadOfClient, same_owner}
use Rattle.lr_objects.specs.Op.{call_on}
use Rattle.lr_objects.specs.declared.kinds.Call.TheVariants.{Fenced}
use Rattle.lr_objects.specs.declared.fenced.FencedCall.TheVariants.{Try, Unlock, Renew, Token}
use Rattle.lr_model.specs.declared.entry.Entry.{Entry}
use Rattle.lr_model.specs.declared.hold.Hold.{Hold}
use Rattle.lr_model.specs.Answer.{Objects}
use Rattle.lr_model.specs.Fenced.{FencedLock, with_token, take_fenced, fenced_try, fenced_unlock, fenced_renew}
use Rattle.lr_model.specs.History.{state_at_start, after}
use Rattle.lr_model.specs.Hold.{live_hold}
use Rattle.lr_model.specs.Moment.{is_lease}
use Rattle.lr_model.specs.Outcome.{Outcome, with_lease}
use Rattle.lr_model.specs.Table.{put}
use Rattle.lr_model.specs.Tokens.{token_by_reply, last_token}
use Rattle.lr_laws.proofs.HoldSteps.{new_hold}
use Rattle.lr_laws.proofs.ToldLaws.{IsToldThroughout, told_by_history, agrees_here, told_more, told_nothing}

-- the token of the lock is the last
abbrev HasLast : ℕ → FencedLock → Type 0
HasLast last lock = lock.token ≡ last

-- giving back and renewing leave the token as it is
same_token : (lease : ℕ) (lock : FencedLock) (outcome : Outcome (Option Hold))
    → (with_lease lease lock (with_token lock.token outcome)).object.token ≡ lock.token
same_token lease lock outcome =
    cond_both (is_lease lease) _ _ (λ (o : Outcome FencedLock). o.object.token ≡ lock.token)
    (λ good. refl) (λ bad. refl)

module _ (name : List ℕ) where
  -- the objects have the last token that was told
  abbrev Agrees : ℕ → Objects → Type 0
  Agrees last objects = HasLast last (objects.fenced_locks name)

  module _ (objects : Objects) (last : ℕ) (agrees : Agrees last objects) (key : List ℕ)
      (moment : ℕ) (owner : ThreadOfClient) (lease : ℕ) where
    -- after a try on the lock of the key, so answered, it still agrees
    abbrev StillAgrees : Outcome FencedLock → Type 0
    StillAgrees outcome =
        HasLast (token_by_reply name (call_on key (Fenced (Try owner lease))) outcome.reply last)
        (put bytes_eq objects.fenced_locks key outcome.object name)

    -- a grant tells the token that the lock then has
    granted : (lock : FencedLock)
        → HasLast (if bytes_eq name key then lock.token else last)
        (put bytes_eq objects.fenced_locks key lock name)
    granted lock =
        told_more HasLast objects.fenced_locks name key last agrees lock.token lock (λ here. refl)

    -- any other reply leaves the token as it is
    refused : (lock : FencedLock) → (bytes_eq name key ≡ true → HasLast last lock)
        → HasLast last (put bytes_eq objects.fenced_locks key lock name)
    refused lock known = told_nothing HasLast objects.fenced_locks name key last agrees lock known

    -- what the lock makes of a try, by its live hold, and by the lease
    taken : (token : ℕ) (live : Option Hold) → (bytes_eq name key ≡ true → token ≡ last)
        → StillAgrees (take_fenced moment owner lease token live)
    taken token None known =
        cond_both (token == token_limit) _ _ StillAgrees
        (λ spent. refused (record { held = None; token = token }) known)
        (λ more. granted (record {
          held = Some (new_hold moment lease owner 1);
          token = token + 1;
        }))
    taken token (Some hold) known =
        cond_both (same_owner hold.owner owner) _ _ (λ o. StillAgrees (with_token token o))
        (λ same. cond_both (hold.count == hold_limit) _ _ (λ o. StillAgrees (with_token token o))
        (λ full. refused (record { held = Some hold; token = token }) known)
        (λ room. granted (record {
          held = Some (new_hold moment lease owner (hold.count + 1));
          token = token;
        })))
        (λ other. refused (record { held = Some hold; token = token }) known)

    tried : (lock : FencedLock) → (bytes_eq name key ≡ true → HasLast last lock)
        → StillAgrees (fenced_try moment owner lease lock)
    tried lock known =
        cond_both (is_lease lease) _ _ StillAgrees
        (λ good. taken lock.token (live_hold moment lock.held) known)
        (λ bad. refused lock known)

  -- calls keep it
  kept : IsToldThroughout (token_by_reply name) Agrees
  kept moment key (Fenced (Try owner lease)) last objects agrees =
      tried objects last agrees key moment owner lease (objects.fenced_locks key)
      (agrees_here HasLast objects.fenced_locks name key last agrees)
  kept moment key (Fenced (Unlock owner rest)) last objects agrees =
      told_nothing HasLast objects.fenced_locks name key last agrees
      (fenced_unlock key moment owner rest (objects.fenced_locks key)).object
      (λ here. same_token rest (objects.fenced_locks key) _
      ∙ agrees_here HasLast objects.fenced_locks name key last agrees here)
  kept moment key (Fenced (Renew owner lease)) last objects agrees =
      told_nothing HasLast objects.fenced_locks name key last agrees
      (fenced_renew moment owner lease (objects.fenced_locks key)).object
      (λ here. same_token lease (objects.fenced_locks key) _
      ∙ agrees_here HasLast objects.fenced_locks name key last agrees here)
  kept moment key (Fenced Token) last objects agrees =
      told_nothing HasLast objects.fenced_locks name key last agrees (objects.fenced_locks key)
      (agrees_here HasLast objects.fenced_locks name key last agrees)
  -- a call on an object of another kind
  kept moment key call last objects agrees = agrees

  -- so after a history the token is the last that was told
  pub is_last : (connections : ℕ) (entries : List Entry)
      → ((after (state_at_start connections) entries).objects.fenced_locks name).token
      ≡ last_token (state_at_start connections) entries name
  is_last connections entries =
      told_by_history (token_by_reply name) Agrees kept entries (state_at_start connections) 0 refl
