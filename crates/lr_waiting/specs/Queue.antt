-- What a history tells of an owner's place in the queue of a fair lock, by the channel on which that
-- owner waits. This project's own.
use Rattle.std.specs.Prelude.{ℕ, List, [], ◌∷◌, Bool, true, false, not, ◌&&◌, ◌||◌, Option, Some, None, if◌then◌else◌}
use Rattle.std.specs.Option.{option_map}
use Rattle.lr_names.specs.Channel.{ChannelOf, is_fair}
use Rattle.lr_names.specs.Owner.{ThreadOfClient}
use Rattle.lr_names.specs.declared.post.Post.{Post}
use Rattle.lr_objects.specs.Op.{channel_of}
use Rattle.lr_objects.specs.declared.fair.FairCall.{FairCall}
use Rattle.lr_objects.specs.declared.fair.FairCall.TheVariants.{Try, Renew}
use Rattle.lr_objects.specs.declared.kinds.Call.{Call}
use Rattle.lr_objects.specs.declared.kinds.Call.TheVariants.{Fair}
use Rattle.lr_objects.specs.declared.op.Op.{Op}
use Rattle.lr_model.specs.declared.entry.Act.{Act}
use Rattle.lr_model.specs.declared.entry.Act.TheVariants as acts
use Rattle.lr_model.specs.declared.entry.Entry.{Entry}
use Rattle.lr_model.specs.Answer.{Objects, objects_after, post_of}
use Rattle.lr_model.specs.Board.{same_channel}
use Rattle.lr_model.specs.Fair.{place_of}
use Rattle.lr_model.specs.History.{State, step}

-- whether a call is made by the owner of this channel on its lock: only that of a fair lock has one
abbrev pub is_own_call : ChannelOf → Op → Bool
is_own_call channel op = is_fair channel.kind && same_channel channel (channel_of op)

-- Whether a call is the owner's own, and about its place: a renewal is about its hold alone, and no
-- place comes or goes by it.
abbrev pub is_fair_renewal : FairCall → Bool
is_fair_renewal (Renew owner lease) = true
is_fair_renewal _ = false

abbrev pub renews_fair : Call → Bool
renews_fair (Fair call) = is_fair_renewal call
renews_fair _ = false

abbrev pub leaves_place : ChannelOf → Op → Bool
leaves_place channel op = is_own_call channel op && not (renews_fair op.call)

-- whether a call tries to take a fair lock
abbrev pub is_fair_try : FairCall → Bool
is_fair_try (Try owner lease queue) = true
is_fair_try _ = false

abbrev pub is_queue_try : Call → Bool
is_queue_try (Fair call) = is_fair_try call
is_queue_try _ = false

-- whether a call is the owner's own try
abbrev pub is_own_try : ChannelOf → Op → Bool
is_own_try channel op = is_own_call channel op && is_queue_try op.call

-- the moment at which the place of a channel's owner goes stale, if it has one
abbrev pub stale_of : Option ThreadOfClient → List ℕ → Objects → Option ℕ
stale_of None name objects = None
stale_of (Some owner) name objects =
    option_map (λ place. place.stale) (place_of owner (objects.fair_locks name).queue)

abbrev pub stale_on : ChannelOf → Objects → Option ℕ
stale_on channel objects = stale_of channel.owner channel.name objects

-- The place that the owner's last try, unlock or leave left: when it goes stale, if there was one. No
-- call of another changes that.
abbrev pub place_by_call : ChannelOf → State → ℕ → Op → Option ℕ → Option ℕ
place_by_call channel state moment op left =
    if leaves_place channel op then stale_on channel (objects_after state.objects moment op) else left

abbrev pub place_by_act : ChannelOf → State → ℕ → Act → Option ℕ → Option ℕ
place_by_act channel state moment (acts.Call op) left = place_by_call channel state moment op left
place_by_act channel state moment _ left = left

-- after these entries, from a state on
abbrev pub place_after : ChannelOf → State → List Entry → Option ℕ → Option ℕ
place_after channel state [] left = left
place_after channel state (entry ∷ entries) left =
    place_after channel (step state entry) entries
    (place_by_act channel state entry.moment entry.act left)

-- whether a message goes to a channel
abbrev pub is_told : ChannelOf → Option Post → Bool
is_told channel None = false
is_told channel (Some post) = same_channel channel post.channel

-- whether the owner was told by a message since its last try
abbrev pub told_by_call : ChannelOf → State → ℕ → Op → Bool → Bool
told_by_call channel state moment op told =
    if is_own_try channel op then false
    else told || is_told channel (post_of state.objects moment op)

abbrev pub told_by_act : ChannelOf → State → ℕ → Act → Bool → Bool
told_by_act channel state moment (acts.Call op) told = told_by_call channel state moment op told
told_by_act channel state moment _ told = told

abbrev pub told_after : ChannelOf → State → List Entry → Bool → Bool
told_after channel state [] told = told
told_after channel state (entry ∷ entries) told =
    told_after channel (step state entry) entries
    (told_by_act channel state entry.moment entry.act told)
