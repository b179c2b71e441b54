-- The peak of a lock: a moment by which its holders' leases have run out, told from the history
-- alone. A timer of a waiting thread that isn't later than the peak isn't too late. This project's
-- own.
use Rattle.std.specs.Prelude.{ℕ, ◌+◌, max, List, [], ◌∷◌, Bool, true, false, ◌&&◌, Option, Some, None, if◌then◌else◌}
use Rattle.std.specs.Str.{bytes_eq}
use Rattle.lr_names.specs.declared.kind.Kind.{Kind}
use Rattle.lr_names.specs.declared.kind.Kind.TheVariants.{Mutex, Rw, Fenced}
use Rattle.lr_names.specs.declared.post.Post.{Post}
use Rattle.lr_objects.specs.Op.{kind_of, name_of}
use Rattle.lr_objects.specs.declared.op.Op.{Op}
use Rattle.lr_objects.specs.declared.reply.Reply.{Reply}
use Rattle.lr_objects.specs.declared.reply.Reply.TheVariants.{Granted, GrantedToken, Kept, Renewed}
use Rattle.lr_model.specs.declared.entry.Act.{Act}
use Rattle.lr_model.specs.declared.entry.Act.TheVariants.{Call}
use Rattle.lr_model.specs.declared.entry.Entry.{Entry}
use Rattle.lr_model.specs.declared.hold.Hold.{Hold}
use Rattle.lr_model.specs.Answer.{Objects, reply_of, objects_after, post_of}
use Rattle.lr_model.specs.Board.{same_kind}
use Rattle.lr_model.specs.History.{State, step}
use Rattle.lr_model.specs.Hold.{live_hold}
use Rattle.lr_model.specs.ReadWrite.{live_holds, last_deadline}
use Rattle.lr_model.specs.Tenure.{lease_given}

-- until when a hold lasts: 0 where there is none
abbrev pub deadline_of : Option Hold → ℕ
deadline_of None = 0
deadline_of (Some hold) = hold.deadline

-- the greatest deadline of the holds of a lock that are live
abbrev pub live_until : Objects → Kind → List ℕ → ℕ → ℕ
live_until objects Mutex name moment = deadline_of (live_hold moment (objects.mutexes name))
live_until objects Fenced name moment =
    deadline_of (live_hold moment (objects.fenced_locks name).held)
live_until objects Rw name moment =
    last_deadline (live_holds moment (objects.read_write_locks name))
live_until objects _ name moment = 0

-- whether a call is about an object
abbrev pub is_about : Kind → List ℕ → Op → Bool
is_about kind name op = same_kind kind (kind_of op) && bytes_eq name (name_of op)

-- whether a message tells those who wait for an object
abbrev pub tells : Kind → List ℕ → Option Post → Bool
tells kind name None = false
tells kind name (Some post) = same_kind kind post.channel.kind && bytes_eq name post.channel.name

-- whether a reply gives a hold a new deadline
abbrev pub gives_deadline : Reply → Bool
gives_deadline Granted = true
gives_deadline (GrantedToken token) = true
gives_deadline Kept = true
gives_deadline Renewed = true
gives_deadline _ = false

-- the deadline that the reply to a call gives
abbrev pub deadline_given : ℕ → Op → Reply → ℕ
deadline_given moment op reply = if gives_deadline reply then moment + lease_given op else 0

-- The peak after a call: where those who wait were told, it is the greatest deadline that is left.
-- Else a deadline that is given may raise it.
abbrev pub peak_by_call : Kind → List ℕ → State → ℕ → Op → ℕ → ℕ
peak_by_call kind name state moment op peak =
    if tells kind name (post_of state.objects moment op)
    then live_until (objects_after state.objects moment op) kind name moment
    else if is_about kind name op
    then max peak (deadline_given moment op (reply_of state.objects moment op))
    else peak

abbrev pub peak_by_act : Kind → List ℕ → State → ℕ → Act → ℕ → ℕ
peak_by_act kind name state moment (Call op) peak = peak_by_call kind name state moment op peak
peak_by_act kind name state moment _ peak = peak

-- the peak of an object after these entries, from a state on
abbrev pub peak_after : Kind → List ℕ → State → List Entry → ℕ → ℕ
peak_after kind name state [] peak = peak
peak_after kind name state (entry ∷ entries) peak =
    peak_after kind name (step state entry) entries
    (peak_by_act kind name state entry.moment entry.act peak)
