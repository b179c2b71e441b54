-- The hold of one owner, after the reentrant lock of the Redisson guide: nothing, or an owner with
-- a hold count and a deadline. It is what the plain, the fair and the fenced lock have in common.
use Rattle.std.specs.Prelude.{ℕ, ◌+◌, ◌-◌, ◌==◌, Option, Some, None, if◌then◌else◌}
use Rattle.lr_limits.specs.Limits.{hold_limit}
use Rattle.lr_names.specs.Owner.{ThreadOfClient, same_owner}
use Rattle.lr_names.specs.declared.post.Post.{Post}
use Rattle.lr_objects.specs.declared.reply.Reply.{Reply}
use Rattle.lr_objects.specs.declared.reply.Reply.TheVariants.{Granted, Busy, Kept, Freed, NotHeld, Renewed, Lost, TooDeep}
use Rattle.lr_model.specs.declared.hold.Hold.{Hold}
use Rattle.lr_model.specs.Moment.{is_live}
use Rattle.lr_model.specs.Outcome.{Outcome, silent_outcome}

-- the hold, unless its deadline has come
abbrev pub live_hold : ℕ → Option Hold → Option Hold
live_hold moment None = None
live_hold moment (Some hold) = if is_live hold.deadline moment then Some hold else None

-- a reply after which the owner holds so
abbrev pub holding : Reply → ThreadOfClient → ℕ → ℕ → Outcome (Option Hold)
holding reply owner count deadline =
    silent_outcome reply (Some (record { owner = owner; count = count; deadline = deadline }))

-- nobody holds any longer, and this message is sent
abbrev pub freeing : Option Post → Outcome (Option Hold)
freeing post = record { reply = Freed; object = None; post = post }

-- Taking: what nobody holds is granted. The owner takes it once more, at most a million times.
-- Another is told how long the hold lasts.
abbrev pub take_hold : ℕ → ThreadOfClient → ℕ → Option Hold → Outcome (Option Hold)
take_hold moment owner lease None = holding Granted owner 1 (moment + lease)
take_hold moment owner lease (Some hold) =
    if same_owner hold.owner owner
    then (if hold.count == hold_limit then silent_outcome TooDeep (Some hold)
    else holding Granted owner (hold.count + 1) (moment + lease))
    else silent_outcome (Busy (hold.deadline - moment)) (Some hold)

-- Giving one hold back: the last one frees, with the message. What stays lasts for the rest lease.
abbrev pub give_back_hold : Option Post → ℕ → ThreadOfClient → ℕ → Option Hold
    → Outcome (Option Hold)
give_back_hold post moment owner rest None = silent_outcome NotHeld None
give_back_hold post moment owner rest (Some hold) =
    if same_owner hold.owner owner
    then (if hold.count == 1 then freeing post
    else holding Kept owner (hold.count - 1) (moment + rest))
    else silent_outcome NotHeld (Some hold)

-- renewing the lease of one's own hold
abbrev pub renew_hold : ℕ → ThreadOfClient → ℕ → Option Hold → Outcome (Option Hold)
renew_hold moment owner lease None = silent_outcome Lost None
renew_hold moment owner lease (Some hold) =
    if same_owner hold.owner owner then holding Renewed owner hold.count (moment + lease)
    else silent_outcome Lost (Some hold)

-- taking the hold away from whoever has it
abbrev pub end_hold : Option Post → Option Hold → Outcome (Option Hold)
end_hold post None = silent_outcome NotHeld None
end_hold post (Some hold) = freeing post
