-- A reply stands only for a thread whose call was sent, at each change.
use Rattle.std.proofs.Common.{◌≡◌, ℕ, false, Option, Some, None, ap, sym, ◌∙◌, subst, ◌⊎◌, inl, inr}
use Rattle.std.proofs.lemmas.Bool.{cases_eq}
use Rattle.lr_objects.specs.declared.reply.Reply.{Reply}
use Rattle.lr_waiting.specs.declared.waiter.Waiter.{Waiter}
use Rattle.lr_waiting.specs.Client.{Client, waiter_in}
use Rattle.lr_wakeups.specs.Answered.{asked_with, HasReplyIfAsked}
use Rattle.lr_wakeups.proofs.Threads.{ChangesThread}

-- one thread changes
pub answered_changes : (thread : ℕ) (found : Option Waiter) (reply : Option Reply)
    (before after : Client) → ChangesThread thread found reply before after
    → (asked_with found ≡ false → reply ≡ None)
    → ((t : ℕ) → HasReplyIfAsked before t) → (t : ℕ) → HasReplyIfAsked after t
answered_changes thread found reply before after changes own answered t = by (cases_eq t thread)
  where
    by : (t ≡ thread) ⊎ (t ≡ thread → ⊥) → HasReplyIfAsked after t
    by (inl same) =
        subst (HasReplyIfAsked after) (sym same)
        (record {
          without = λ not_asked.
              changes.answer ∙ own (ap asked_with (sym changes.waiter) ∙ not_asked);
        })
    by (inr apart) = record {
      without = λ not_asked.
          changes.answers t apart
          ∙ (answered t).without (ap asked_with (sym (changes.waiters t apart)) ∙ not_asked);
    }

-- where the thread wasn't asking, no reply waits for it
pub no_reply : (client : Client) (thread : ℕ) (waiter : Waiter)
    → waiter_in client thread ≡ Some waiter → asked_with (Some waiter) ≡ false
    → ((t : ℕ) → HasReplyIfAsked client t) → client.replies thread ≡ None
no_reply client thread waiter was not_asked answered =
    (answered thread).without (ap asked_with was ∙ not_asked)

-- all threads have asked as before
pub answered_same : (before after : Client)
    → ((t : ℕ) → asked_with (waiter_in after t) ≡ asked_with (waiter_in before t))
    → ((t : ℕ) → after.replies t ≡ before.replies t)
    → ((t : ℕ) → HasReplyIfAsked before t) → (t : ℕ) → HasReplyIfAsked after t
answered_same before after same replies answered t = record {
  without = λ not_asked. replies t ∙ (answered t).without (sym (same t) ∙ not_asked);
}
