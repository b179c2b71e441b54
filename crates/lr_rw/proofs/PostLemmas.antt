-- Which message a call sends, by its reply and by whether a hold is left.
use Rattle.std.proofs.Common.{◌≡◌, ℕ, ◌+◌, ◌==◌, nat_lt, List, [], ◌∷◌, length, Option, Some, None, is_some, refl, subst}
use Rattle.std.proofs.lemmas.Bool.{cond_both}
use Rattle.lr_limits.specs.Limits.{hold_limit, member_limit}
use Rattle.lr_names.specs.Owner.{ThreadOfClient}
use Rattle.lr_objects.specs.declared.access.Access.{Access}
use Rattle.lr_objects.specs.declared.access.Access.TheVariants.{Read, Write}
use Rattle.lr_objects.specs.declared.read_write.ReadWriteCall.{ReadWriteCall}
use Rattle.lr_objects.specs.declared.read_write.ReadWriteCall.TheVariants.{Take, Unlock, Renew}
use Rattle.lr_objects.specs.declared.reply.Reply.TheVariants.{BadLease}
use Rattle.lr_model.specs.declared.read_write_hold.ReadWriteHold.{ReadWriteHold}
use Rattle.lr_model.specs.Moment.{is_lease}
use Rattle.lr_model.specs.Outcome.{silent_outcome, with_lease}
use Rattle.lr_model.specs.ReadWrite.{ReadWriteLock, LockOutcome, is_hold_of, hold_of, writer_beside, live_holds, without_hold, ended, take_again, read_unhindered, read_beside, write_first, write_with, give_back_with, renew_with, read, write, give_back, renew, read_write_call}
use Rattle.lr_model.proofs.ReadWriteFacts.{has_key, find-passes}
use Rattle.lr_rw.specs.Holds.{counts_entry}
use Rattle.lr_rw.specs.Run.{post_told}

-- a call that takes or renews sends nothing
abbrev IsSilent : LockOutcome → Type 0
IsSilent outcome = outcome.post ≡ None

silent_again : (deadline : ℕ) (lock : ReadWriteLock) (own : ReadWriteHold)
    → IsSilent (take_again deadline lock own)
silent_again deadline lock own =
    cond_both (own.count == hold_limit) _ _ IsSilent (λ full. refl) (λ room. refl)

module _ (moment : ℕ) (owner : ThreadOfClient) (lease : ℕ) (lock : ReadWriteLock) where
  silent_unhindered : (own : Option ReadWriteHold)
      → IsSilent (read_unhindered owner (moment + lease) lock own)
  silent_unhindered (Some own) = silent_again (moment + lease) lock own
  silent_unhindered None =
      cond_both (nat_lt (length lock) member_limit) _ _ IsSilent (λ room. refl) (λ full. refl)

  silent_beside : (writer : Option ReadWriteHold)
      → IsSilent (read_beside moment owner lease lock writer)
  silent_beside (Some writer) = refl
  silent_beside None = silent_unhindered (hold_of owner Read lock)

  silent_first : (xs : ReadWriteLock) → IsSilent (write_first moment owner lease xs)
  silent_first [] = refl
  silent_first (x ∷ xs) = refl

  silent_with : (own : Option ReadWriteHold) → IsSilent (write_with moment owner lease lock own)
  silent_with (Some own) = silent_again (moment + lease) lock own
  silent_with None = silent_first lock

  silent_renewal : (own : Option ReadWriteHold) → IsSilent (renew_with (moment + lease) lock own)
  silent_renewal None = refl
  silent_renewal (Some own) = refl

-- the message of an outcome is told by its reply and by what is left
abbrev IsTold : List ℕ → ReadWriteCall → LockOutcome → Type 0
IsTold name call outcome =
    outcome.post ≡ post_told name call outcome.reply (is_some (counts_entry outcome.object))

-- the last hold has ended, and these are left
told_end : (name : List ℕ) (access : Access) (owner : ThreadOfClient) (rest : ℕ)
    (left : ReadWriteLock) → IsTold name (Unlock access owner rest) (ended name access left)
told_end name Write owner rest left = refl
told_end name Read owner rest [] = refl
told_end name Read owner rest (x ∷ xs) = refl

told_back : (name : List ℕ) (deadline : ℕ) (access : Access) (owner : ThreadOfClient) (rest : ℕ)
    (lock : ReadWriteLock) (own : Option ReadWriteHold) → hold_of owner access lock ≡ own
    → IsTold name (Unlock access owner rest) (give_back_with name deadline lock own)
told_back name deadline access owner rest lock None none = refl
told_back name deadline access owner rest lock (Some own) found =
    let key = has_key owner access own (find-passes (is_hold_of owner access) lock own found) in
    let left : ReadWriteLock = without_hold own.owner own.access lock in
    cond_both (own.count == 1) (ended name own.access left) _
    (IsTold name (Unlock access owner rest))
    (λ last. subst (λ a. IsTold name (Unlock a owner rest) (ended name own.access left))
    key.access_is (told_end name own.access owner rest left))
    (λ more. refl)

-- a lease out of range sends nothing either
leased : (name : List ℕ) (call : ReadWriteCall) (lease : ℕ) (lock : ReadWriteLock)
    (outcome : LockOutcome) → IsTold name call outcome
    → IsTold name call (silent_outcome BadLease lock)
    → IsTold name call (with_lease lease lock outcome)
leased name call lease lock outcome told bad =
    cond_both (is_lease lease) outcome (silent_outcome BadLease lock) (IsTold name call)
    (λ good. told) (λ out. bad)

pub post-told : (name : List ℕ) (moment : ℕ) (call : ReadWriteCall) (lock : ReadWriteLock)
    → IsTold name call (read_write_call name moment call lock)
post-told name moment (Take Read owner lease) lock =
    let live : ReadWriteLock = live_holds moment lock in
    leased name (Take Read owner lease) lease lock (read moment owner lease live)
    (silent_beside moment owner lease live (writer_beside owner live)) refl
post-told name moment (Take Write owner lease) lock =
    let live : ReadWriteLock = live_holds moment lock in
    leased name (Take Write owner lease) lease lock (write moment owner lease live)
    (silent_with moment owner lease live (hold_of owner Write live)) refl
post-told name moment (Unlock access owner rest) lock =
    let live : ReadWriteLock = live_holds moment lock in
    leased name (Unlock access owner rest) rest lock (give_back name moment owner access rest live)
    (told_back name (moment + rest) access owner rest live (hold_of owner access live) refl) refl
post-told name moment (Renew access owner lease) lock =
    let live : ReadWriteLock = live_holds moment lock in
    leased name (Renew access owner lease) lease lock (renew moment owner access lease live)
    (silent_renewal moment owner lease live (hold_of owner access live)) refl
