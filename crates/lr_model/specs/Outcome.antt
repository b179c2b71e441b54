-- What a function does to one object.
use Rattle.std.specs.Prelude.{ℕ, Option, None, if◌then◌else◌}
use Rattle.lr_names.specs.declared.post.Post.{Post}
use Rattle.lr_objects.specs.declared.reply.Reply.{Reply}
use Rattle.lr_objects.specs.declared.reply.Reply.TheVariants.{BadLease}
use Rattle.lr_model.specs.Moment.{is_lease}

-- the reply, the object afterwards, and the message to those who wait, if one is sent
pub record Outcome (X : Type 0) : Type 0 where
  pub reply : Reply
  pub object : X
  pub post : Option Post

-- a reply that tells nobody else
abbrev pub silent_outcome : {X : Type 0} → Reply → X → Outcome X
silent_outcome reply object = record { reply = reply; object = object; post = None }

-- a lease out of range is refused first, and changes nothing at all
abbrev pub with_lease : {X : Type 0} → ℕ → X → Outcome X → Outcome X
with_lease lease object outcome = if is_lease lease then outcome else silent_outcome BadLease object
