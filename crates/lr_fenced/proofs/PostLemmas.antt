-- A message is sent exactly where a fenced lock has come free.
use Rattle.std.proofs.Common.{◌≡◌, ◌==◌, ◌+◌, ℕ, Bool, true, false, List, Option, Some, None, if◌then◌else◌, refl, ap, sym, ◌∙◌}
use Rattle.lr_names.specs.Owner.{ThreadOfClient}
use Rattle.lr_names.specs.declared.post.Post.{Post}
use Rattle.lr_limits.specs.Limits.{token_limit}
use Rattle.lr_objects.specs.declared.fenced.FencedCall.{FencedCall}
use Rattle.lr_objects.specs.declared.fenced.FencedCall.TheVariants.{Try, Unlock, Renew, Token}
use Rattle.lr_objects.specs.declared.reply.Reply.{Reply}
use Rattle.lr_objects.specs.declared.reply.Reply.TheVariants.{Granted, TokensSpent}
use Rattle.lr_model.specs.declared.hold.Hold.{Hold}
use Rattle.lr_model.specs.Answer.{Objects, reply_of, post_of}
use Rattle.lr_model.specs.Fenced.{fenced_post, reply_with_token, take_fenced, with_token}
use Rattle.lr_model.specs.Hold.{live_hold, take_hold, give_back_hold, renew_hold}
use Rattle.lr_model.specs.Outcome.{Outcome, silent_outcome}
use Rattle.lr_hold.specs.Step.{is_freed}
use Rattle.lr_fenced.specs.Run.{fenced_op}
use Rattle.lr_hold.proofs.PostLaws.{SendsWhereFreed, sends-take_hold, sends-give_back_hold, sends-renew_hold, sends-with_lease}

-- a token says nothing of what has come free
is_freed-with_token : (token : ℕ) (reply : Reply)
    → is_freed reply ≡ is_freed (reply_with_token token reply)
is_freed-with_token token Granted = refl
is_freed-with_token token _ = refl

sends-with_token : (post : Option Post) (token : ℕ) (outcome : Outcome (Option Hold))
    → SendsWhereFreed post outcome → SendsWhereFreed post (with_token token outcome)
sends-with_token post token outcome sends =
    sends ∙ ap (λ (b : Bool). if b then post else None) (is_freed-with_token token outcome.reply)

sends-take_fenced : (post : Option Post) (moment : ℕ) (owner : ThreadOfClient) (lease token : ℕ)
    (held : Option Hold) → SendsWhereFreed post (take_fenced moment owner lease token held)
sends-take_fenced post moment owner lease token None = by (token == token_limit)
  where
    by : (b : Bool) → SendsWhereFreed post (if b
        then silent_outcome TokensSpent (record { held = None; token = token })
        else with_token (token + 1) (take_hold moment owner lease None))
    by true = refl
    by false = refl
sends-take_fenced post moment owner lease token (Some hold) =
    sends-with_token post token (take_hold moment owner lease (Some hold))
    (sends-take_hold post moment owner lease (Some hold))

-- a call on a fenced lock sends its message exactly where the lock has come free
post-freed : (objects : Objects) (moment : ℕ) (name : List ℕ) (call : FencedCall)
    → post_of objects moment (fenced_op name call)
    ≡ (if is_freed (reply_of objects moment (fenced_op name call)) then Some (fenced_post name) else None)
post-freed objects moment name (Try owner lease) =
    let lock = objects.fenced_locks name in
    let post = Some (fenced_post name) in
    let live = live_hold moment lock.held in
    sends-with_lease post lease lock (take_fenced moment owner lease lock.token live)
    (sends-take_fenced post moment owner lease lock.token live)
post-freed objects moment name (Unlock owner rest) =
    let lock = objects.fenced_locks name in
    let post = Some (fenced_post name) in
    let given = give_back_hold post moment owner rest (live_hold moment lock.held) in
    sends-with_lease post rest lock (with_token lock.token given)
    (sends-with_token post lock.token given
    (sends-give_back_hold post moment owner rest (live_hold moment lock.held)))
post-freed objects moment name (Renew owner lease) =
    let lock = objects.fenced_locks name in
    let post = Some (fenced_post name) in
    let renewed = renew_hold moment owner lease (live_hold moment lock.held) in
    sends-with_lease post lease lock (with_token lock.token renewed)
    (sends-with_token post lock.token renewed
    (sends-renew_hold post moment owner lease (live_hold moment lock.held)))
post-freed objects moment name Token = refl

-- the message by the reply
pub post_of-reply : (objects : Objects) (moment : ℕ) (name : List ℕ) (call : FencedCall) (reply : Reply)
    → reply ≡ reply_of objects moment (fenced_op name call)
    → (if is_freed reply then Some (fenced_post name) else None) ≡ post_of objects moment (fenced_op name call)
post_of-reply objects moment name call reply answer =
    ap (λ r. if is_freed r then Some (fenced_post name) else None) answer
    ∙ sym (post-freed objects moment name call)
