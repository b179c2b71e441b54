-- What a step does to the two keys of expirable permits, at the moment of the keys.
use Rattle.std.specs.Prelude.{◌≡◌, ◌≤◌, ◌<◌, ℕ, List, ◌∷◌, filter, true, false, Option}
use Rattle.std.specs.List.{AllByRecursion}
use Rattle.std.specs.Str.{bytes_eq}
use Rattle.lr_names.specs.declared.post.Post.{Post}
use Rattle.lr_sorted.specs.Members.{Members as Scores, is_in_order}
use Rattle.lr_keys.specs.KeySpace.{KeyEntry, Keys, entry_at}
use Rattle.lr_objects.specs.declared.reply.Reply.{Reply}
use Rattle.lr_model.specs.Moment.{is_live}
use Rattle.lr_model.specs.Outcome.{Outcome}
use Rattle.lr_model.specs.Permits.{PermitLease, Permits}
use Rattle.lr_expirable.specs.Leases.{members_entry}
use Rattle.lr_expirable.specs.Stands.{ArePermitsAt}

-- the step was answered as the outcome says, and the keys have the outcome's permits now
pub record IsPermitStep (new : Keys) (number leases : List ℕ) (answer : Reply × Option Post)
    (outcome : Outcome Permits) : Type 0 where
  pub reply : answer.0 ≡ outcome.reply
  pub post : answer.1 ≡ outcome.post
  pub permits : ArePermitsAt new number leases outcome.object

-- of the keys no others than these two change
abbrev pub ChangesOnlyTwo : List ℕ → List ℕ → Keys → Keys → Type 0
ChangesOnlyTwo one two old new = (q : List ℕ) → bytes_eq one q ≡ false → bytes_eq two q ≡ false
    → entry_at new q ≡ entry_at old q

-- every lease is live at the moment
abbrev pub AreLive : ℕ → List PermitLease → Type 0
AreLive moment leases = AllByRecursion (λ lease. moment < lease.deadline) leases

-- the members whose scores are deadlines that haven't come
abbrev pub live_members : ℕ → Scores → Scores
live_members moment members = filter (λ member. is_live member.1 moment) members

-- the first of some members is this one, and its deadline has come
pub record IsFirstGone (moment : ℕ) (members : Scores) (member : List ℕ) : Type 0 where
  pub deadline : ℕ
  pub rest : Scores
  pub first : members ≡ (member, deadline) ∷ rest
  pub gone : deadline ≤ moment

-- the entry is that of members in order, and as many of them are live at a moment as of these
pub record HasLive (entry : Option KeyEntry) (moment : ℕ) (members : Scores) : Type 0 where
  pub left : Scores
  pub stands : entry ≡ members_entry left
  pub order : is_in_order left ≡ true
  pub live : live_members moment left ≡ live_members moment members
