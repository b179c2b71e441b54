-- The countdown latch, after that of the Redisson guide: a count, 0 where none is set.
use Rattle.std.specs.Prelude.{ℕ, ◌-◌, ◌==◌, List, Some, None, if◌then◌else◌}
use Rattle.lr_names.specs.Post.{post_to}
use Rattle.lr_names.specs.declared.kind.Kind.TheVariants.{Countdown}
use Rattle.lr_names.specs.declared.post.Post.{Post}
use Rattle.lr_objects.specs.declared.countdown.CountdownCall.{CountdownCall}
use Rattle.lr_objects.specs.declared.countdown.CountdownCall.TheVariants as calls
use Rattle.lr_objects.specs.declared.reply.Reply.TheVariants.{Set, AlreadySet, Count}
use Rattle.lr_model.specs.Outcome.{Outcome, silent_outcome}

-- the message that a latch has come to 0
abbrev pub latch_post : List ℕ → Post
latch_post name = post_to (record { kind = Countdown; name = name; owner = None })

-- a latch that is at 0 is set
abbrev pub latch_set : ℕ → ℕ → Outcome ℕ
latch_set number count =
    if count == 0 then silent_outcome Set number else silent_outcome AlreadySet count

-- One count less, and none below 0. Those who wait are told when the last one is counted.
abbrev pub latch_down : List ℕ → ℕ → Outcome ℕ
latch_down name count = record {
  reply = Count (count - 1);
  object = count - 1;
  post = if count == 1 then Some (latch_post name) else None;
}

-- the count
abbrev pub latch_count : ℕ → Outcome ℕ
latch_count count = silent_outcome (Count count) count

-- what a call makes of the latch of this name
abbrev pub countdown_call : List ℕ → CountdownCall → ℕ → Outcome ℕ
countdown_call name (calls.Set number) = latch_set number
countdown_call name calls.Down = latch_down name
countdown_call name calls.Count = latch_count
