-- Taking what nobody holds, with the next token.
use Rattle.std.proofs.Common.{◌≡◌, ◌≤◌, ◌<◌, ◌==◌, ◌+◌, ◌^◌, ℕ, Bool, false, List, Option, Some, None, if◌then◌else◌, ap, sym, subst, ◌∙◌, arith}
use Rattle.std.specs.Option.{unwrap_or}
use Rattle.std.proofs.lemmas.Bool.Decides.{nat_tests}
use Rattle.lr_limits.specs.Limits.{token_limit}
use Rattle.lr_names.specs.Owner.{ThreadOfClient}
use Rattle.lr_keys.specs.KeySpace.{KeyEntry, Keys, entry_at}
use Rattle.lr_objects.specs.declared.reply.Reply.{Reply}
use Rattle.lr_objects.specs.declared.reply.Reply.TheVariants.{TokensSpent}
use Rattle.lr_model.specs.declared.hold.Hold.{Hold}
use Rattle.lr_model.specs.Fenced.{FencedLock, reply_with_token, take_fenced, with_token}
use Rattle.lr_model.specs.Hold.{take_hold}
use Rattle.lr_model.specs.Outcome.{silent_outcome}
use Rattle.lr_counter.specs.Numbers.{IsNumberAt, number_entry, number_entry_of, some_unless_zero}
use Rattle.lr_hold.specs.Step.{IsHeld, IsHoldStep}
use Rattle.lr_fenced.specs.Step.{IsLockAt, IsLockStep, IsTokenAt}
use Rattle.lr_fenced.proofs.LockLaws.{unwrap_or-some_unless_zero}

-- under a counter with this entry the next token is the last
next_token_at : (entry : Option KeyEntry) (token : ℕ) → token + 1 ≤ token_limit
    → entry ≡ Some (number_entry (token + 1)) → IsTokenAt entry (token + 1)
next_token_at entry token few at =
    subst (λ (n : Option ℕ). IsNumberAt token_limit entry n) (sym some)
    (record { stands = at; within = λ n is. subst (λ k. k ≤ token_limit) (cc is) few })
  where
    some : some_unless_zero (token + 1) ≡ Some (token + 1)
    some =
        let test : (token + 1 == 0) ≡ false = grind (arith, nat_tests) in
        ap (λ (b : Bool). if b then None else Some (token + 1)) test

-- what a step that adds 1 to any number makes of a token
pub one_more : {Room : Type 0} (entry added : Option KeyEntry) (token : ℕ) → token < token_limit
    → IsTokenAt entry token → (entry ≡ None → Room)
    → ((number : Option ℕ) → entry ≡ number_entry_of number → (number ≡ None → Room)
    → unwrap_or number 0 + 1 < 2 ^ 63 → added ≡ Some (number_entry (unwrap_or number 0 + 1)))
    → added ≡ Some (number_entry (token + 1))
one_more entry added token more at room adds =
    let number = some_unless_zero token in
    let is = unwrap_or-some_unless_zero token in
    adds number at.stands (λ none. room (at.stands ∙ ap number_entry_of none))
    (omega (arith, is, more))
    ∙ ap (λ n. Some (number_entry (n + 1))) is

-- Where nobody holds the lock, the counter grows by 1, and then the hash is taken.
module _ (before added new : Keys) (hash counter : List ℕ) (owner : ThreadOfClient) (lease : ℕ)
    (now : added.moment ≡ before.moment) (hash_stays : entry_at added hash ≡ entry_at before hash)
    (counter_stays : entry_at new counter ≡ entry_at added counter) (reply : Reply)
    (step : (held : Option Hold) → IsHeld added.moment (entry_at added hash) held
    → IsHoldStep new hash reply (take_hold added.moment owner lease held)) where
  granted : (token : ℕ) → token + 1 ≤ token_limit
      → entry_at added counter ≡ Some (number_entry (token + 1))
      → IsHeld before.moment (entry_at before hash) None
      → IsLockStep new hash counter (reply_with_token (token + 1) reply)
      (with_token (token + 1) (take_hold before.moment owner lease None))
  granted token few at held =
      let done : IsHoldStep new hash reply (take_hold before.moment owner lease None) =
      subst (λ m. IsHoldStep new hash reply (take_hold m owner lease None)) now
      (step None (subst (λ m. IsHeld m (entry_at added hash) None) (sym now)
      (subst (λ e. IsHeld before.moment e None) (sym hash_stays) held))) in
      record {
        answer = ap (reply_with_token (token + 1)) done.answer;
        lock = record {
          held = done.held;
          token = next_token_at (entry_at new counter) token few (counter_stays ∙ at);
        };
      }

  pub take_next : (last : ℕ) (lock : FencedLock) → IsLockAt before hash counter lock
      → entry_at before hash ≡ None → last ≡ lock.token → lock.token < token_limit
      → entry_at added counter ≡ Some (number_entry (lock.token + 1))
      → IsLockStep new hash counter (reply_with_token (last + 1) reply)
      (take_fenced before.moment owner lease lock.token lock.held)
  take_next last lock at free is more counts = by lock.held at.held
    where
      test : (lock.token == token_limit) ≡ false
      test = grind (arith, nat_tests)

      few : lock.token + 1 ≤ token_limit
      few = omega (arith, more)

      by : (held : Option Hold) → IsHeld before.moment (entry_at before hash) held
          → IsLockStep new hash counter (reply_with_token (last + 1) reply)
          (take_fenced before.moment owner lease lock.token held)
      by (Some hold) here = absurd (cc (sym free ∙ here.stands))
      by None here =
          subst (λ (b : Bool). IsLockStep new hash counter (reply_with_token (last + 1) reply)
          (if b then silent_outcome TokensSpent (record { held = None; token = lock.token })
          else with_token (lock.token + 1) (take_hold before.moment owner lease None))) (sym test)
          (subst (λ n. IsLockStep new hash counter (reply_with_token (n + 1) reply)
          (with_token (lock.token + 1) (take_hold before.moment owner lease None))) (sym is)
          (granted lock.token few counts here))
