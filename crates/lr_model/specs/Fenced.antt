-- The fenced lock, after that of the Redisson guide: the hold of one owner, and the last token.
-- Whoever takes the lock gets a token that is greater than all before, so that what the lock guards
-- can refuse an owner whose lease has ended.
use Rattle.std.specs.Prelude.{ℕ, ◌+◌, ◌==◌, List, Option, Some, None, if◌then◌else◌}
use Rattle.lr_limits.specs.Limits.{token_limit}
use Rattle.lr_names.specs.Owner.{ThreadOfClient}
use Rattle.lr_names.specs.Post.{post_to}
use Rattle.lr_names.specs.declared.kind.Kind.TheVariants.{Fenced}
use Rattle.lr_names.specs.declared.post.Post.{Post}
use Rattle.lr_objects.specs.declared.fenced.FencedCall.{FencedCall}
use Rattle.lr_objects.specs.declared.fenced.FencedCall.TheVariants.{Try, Unlock, Renew, Token}
use Rattle.lr_objects.specs.declared.reply.Reply.{Reply}
use Rattle.lr_objects.specs.declared.reply.Reply.TheVariants.{Granted, GrantedToken, Count, TokensSpent}
use Rattle.lr_model.specs.declared.hold.Hold.{Hold}
use Rattle.lr_model.specs.Claim.{Concern, NoHold, OwnHold, Exclusive}
use Rattle.lr_model.specs.Hold.{live_hold, take_hold, give_back_hold, renew_hold}
use Rattle.lr_model.specs.Outcome.{Outcome, silent_outcome, with_lease}

-- what is held, and the last token that was given: 0 before the first
pub record FencedLock : Type 0 where
  pub held : Option Hold
  pub token : ℕ

-- a lock that was never taken
abbrev pub new_fenced_lock : FencedLock
new_fenced_lock = record { held = None; token = 0 }

-- the message that a fenced lock has come free
abbrev pub fenced_post : List ℕ → Post
fenced_post name = post_to (record { kind = Fenced; name = name; owner = None })

-- a grant tells the token
abbrev pub reply_with_token : ℕ → Reply → Reply
reply_with_token token Granted = GrantedToken token
reply_with_token token reply = reply

-- what a step on the hold makes of a lock with this token
abbrev pub with_token : ℕ → Outcome (Option Hold) → Outcome FencedLock
with_token token outcome = record {
  reply = reply_with_token token outcome.reply;
  object = record { held = outcome.object; token = token };
  post = outcome.post;
}

-- Taking: what nobody holds is granted with the next token, as long as there is one. Whoever holds
-- it and takes it once more gets the same token again.
abbrev pub take_fenced : ℕ → ThreadOfClient → ℕ → ℕ → Option Hold → Outcome FencedLock
take_fenced moment owner lease token None =
    if token == token_limit then silent_outcome TokensSpent (record { held = None; token = token })
    else with_token (token + 1) (take_hold moment owner lease None)
take_fenced moment owner lease token (Some hold) =
    with_token token (take_hold moment owner lease (Some hold))

abbrev pub fenced_try : ℕ → ThreadOfClient → ℕ → FencedLock → Outcome FencedLock
fenced_try moment owner lease lock =
    with_lease lease lock (take_fenced moment owner lease lock.token (live_hold moment lock.held))

abbrev pub fenced_unlock : List ℕ → ℕ → ThreadOfClient → ℕ → FencedLock → Outcome FencedLock
fenced_unlock name moment owner rest lock =
    with_lease rest lock
    (with_token lock.token
    (give_back_hold (Some (fenced_post name)) moment owner rest (live_hold moment lock.held)))

abbrev pub fenced_renew : ℕ → ThreadOfClient → ℕ → FencedLock → Outcome FencedLock
fenced_renew moment owner lease lock =
    with_lease lease lock
    (with_token lock.token (renew_hold moment owner lease (live_hold moment lock.held)))

-- the last token
abbrev pub fenced_token : FencedLock → Outcome FencedLock
fenced_token lock = silent_outcome (Count lock.token) lock

-- what a call makes of the lock of this name
abbrev pub fenced_call : List ℕ → ℕ → FencedCall → FencedLock → Outcome FencedLock
fenced_call name moment (Try owner lease) = fenced_try moment owner lease
fenced_call name moment (Unlock owner rest) = fenced_unlock name moment owner rest
fenced_call name moment (Renew owner lease) = fenced_renew moment owner lease
fenced_call name moment Token = fenced_token

-- owners hold it alone
abbrev pub fenced_concern : FencedCall → Concern
fenced_concern (Try owner lease) = OwnHold Exclusive owner lease
fenced_concern (Unlock owner rest) = OwnHold Exclusive owner rest
fenced_concern (Renew owner lease) = OwnHold Exclusive owner lease
fenced_concern Token = NoHold
