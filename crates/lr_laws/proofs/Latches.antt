-- A latch counts down: its count is the number to which it was set last, less the downs since.
use Rattle.std.proofs.Common.{◌≡◌, ℕ, ◌+◌, ◌-◌, ◌==◌, List, true, refl, sym, ap, ◌∙◌, arith}
use Rattle.std.specs.Str.{bytes_eq}
use Rattle.std.proofs.lemmas.Bool.{cond_both}
use Rattle.lr_objects.specs.Op.{call_on}
use Rattle.lr_objects.specs.declared.countdown.CountdownCall.{CountdownCall}
use Rattle.lr_objects.specs.declared.countdown.CountdownCall.TheVariants as calls
use Rattle.lr_objects.specs.declared.kinds.Call.TheVariants.{Countdown}
use Rattle.lr_objects.specs.declared.reply.Reply.TheVariants.{Count}
use Rattle.lr_model.specs.declared.entry.Entry.{Entry}
use Rattle.lr_model.specs.Answer.{Objects}
use Rattle.lr_model.specs.Countdown.{latch_set}
use Rattle.lr_model.specs.CountdownCounts.{LatchSums, not_set, latch_by_reply, left_after, CountsDown}
use Rattle.lr_model.specs.History.{state_at_start, after}
use Rattle.lr_model.specs.Outcome.{Outcome}
use Rattle.lr_model.specs.Table.{put}
use Rattle.lr_laws.proofs.ToldLaws.{IsToldThroughout, told_by_history, agrees_here, told_more, told_nothing}

-- the count is what is left of the number
abbrev IsLeft : LatchSums → ℕ → Type 0
IsLeft sums count = count ≡ sums.number - sums.downs

module _ (name : List ℕ) where
  -- the sums of a latch agree with the objects
  abbrev Agrees : LatchSums → Objects → Type 0
  Agrees sums objects = IsLeft sums (objects.countdowns name)

  module _ (objects : Objects) (sums : LatchSums) (agrees : Agrees sums objects) (key : List ℕ)
    where
      -- after a call on the latch of the key, so answered, it still agrees
      abbrev StillAgrees : CountdownCall → Outcome ℕ → Type 0
      StillAgrees call outcome =
          IsLeft (latch_by_reply name (call_on key (Countdown call)) outcome.reply sums)
          (put bytes_eq objects.countdowns key outcome.object name)

      -- setting a latch: one that isn't at 0 stays as it is
      set : (number count : ℕ) → (bytes_eq name key ≡ true → IsLeft sums count)
          → StillAgrees (calls.Set number) (latch_set number count)
      set number count known =
          cond_both (count == 0) _ _ (StillAgrees (calls.Set number))
          (λ free. told_more IsLeft objects.countdowns name key sums agrees
          (record { number = number; downs = 0 }) number (λ here. omega arith))
          (λ counting. told_nothing IsLeft objects.countdowns name key sums agrees count known)

  kept : IsToldThroughout (latch_by_reply name) Agrees
  kept moment key (Countdown (calls.Set number)) sums objects agrees =
      set objects sums agrees key number (objects.countdowns key)
      (agrees_here IsLeft objects.countdowns name key sums agrees)
  kept moment key (Countdown calls.Down) sums objects agrees =
      told_more IsLeft objects.countdowns name key sums agrees
      (record { number = sums.number; downs = sums.downs + 1 }) (objects.countdowns key - 1)
      (λ here. omega (arith, agrees_here IsLeft objects.countdowns name key sums agrees here))
  kept moment key (Countdown calls.Count) sums objects agrees =
      told_nothing IsLeft objects.countdowns name key sums agrees (objects.countdowns key)
      (agrees_here IsLeft objects.countdowns name key sums agrees)
  -- a call on an object of another kind
  kept moment key call sums objects agrees = agrees

  -- after a history the count is what is left
  is_left : (last : ℕ) (entries : List Entry)
      → (after (state_at_start last) entries).objects.countdowns name
      ≡ left_after (state_at_start last) entries name
  is_left last entries =
      told_by_history (latch_by_reply name) Agrees kept entries (state_at_start last) not_set refl

one_count : (a b : ℕ) → Count a ≡ Count b → a ≡ b
one_count a b e = cc

-- so what is answered is what is left, and a countdown takes one away
pub counts_down : (last : ℕ) (entries : List Entry)
    → CountsDown (state_at_start last) entries
counts_down last entries = record {
  counts = λ earlier later entry name count split answered.
      sym (one_count _ count answered.answer) ∙ is_left name last earlier;
  downs = λ earlier later entry name count split answered.
      sym (one_count _ count answered.answer) ∙ ap (λ n. n - 1) (is_left name last earlier);
}
