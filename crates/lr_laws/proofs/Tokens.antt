-- Each token of a fenced lock that was answered was due: one more than the last, or the last to
-- whoever held the lock.
use Rattle.std.proofs.Common.{◌≡◌, ℕ, ◌+◌, ◌==◌, List, true, Option, Some, None, if◌then◌else◌, subst}
use Rattle.std.proofs.lemmas.Bool.{cond_both}
use Rattle.lr_limits.specs.Limits.{hold_limit, token_limit}
use Rattle.lr_names.specs.Owner.{ThreadOfClient, same_owner}
use Rattle.lr_objects.specs.declared.reply.Reply.TheVariants.{GrantedToken}
use Rattle.lr_model.specs.declared.entry.Entry.{Entry}
use Rattle.lr_model.specs.declared.hold.Hold.{Hold}
use Rattle.lr_model.specs.Fenced.{FencedLock, with_token, take_fenced, fenced_try}
use Rattle.lr_model.specs.History.{State, state_at_start, after, IsLegal}
use Rattle.lr_model.specs.Hold.{live_hold}
use Rattle.lr_model.specs.Moment.{is_lease}
use Rattle.lr_model.specs.Outcome.{Outcome}
use Rattle.lr_model.specs.Claim.{Exclusive}
use Rattle.lr_model.specs.Tenure.{Tenure, is_current, no_tenure, tenure_after}
use Rattle.lr_model.specs.Tokens.{fenced_claim, TokensGrow}
use Rattle.lr_laws.proofs.ClaimLaws.{backed_after}
use Rattle.lr_laws.proofs.FencedLocks.{Backs, fenced_kept}
use Rattle.lr_laws.proofs.FencedTokens.{is_last}
use Rattle.lr_laws.proofs.Fronts.{MayFollowAll-from_legal}
use Rattle.lr_laws.proofs.Holds.{HoldsAsTold, live_hold-live, held_live, told_current, not_current}
use Rattle.lr_laws.proofs.Owners.{same_owner-Decides}

one_token : (a b : ℕ) → GrantedToken a ≡ GrantedToken b → b ≡ a
one_token a b e = cc

-- A try, by what is told of its owner's tenure.
module _ (moment : ℕ) (owner : ThreadOfClient) (lease : ℕ) (tenure : Tenure) (token : ℕ) where
  -- the token that is due where the lock has this one
  abbrev due : ℕ → ℕ
  due last = if is_current tenure moment then last else last + 1

  -- where the try is answered by the token, that one was due
  abbrev AnswersDue : ℕ → Outcome FencedLock → Type 0
  AnswersDue last outcome = outcome.reply ≡ GrantedToken token → token ≡ due last

  -- it is so by the live hold: its owner's tenure is current, and nobody's is where nobody holds
  taken : (last : ℕ) (live : Option Hold) → live_hold moment live ≡ live
      → HoldsAsTold owner moment tenure live
      → AnswersDue last (take_fenced moment owner lease last live)
  taken last None still h =
      cond_both (last == token_limit) _ _ (AnswersDue last)
      (λ spent reply. cc)
      (λ more reply. rw (not_current owner moment tenure h) (one_token (last + 1) token reply))
  taken last (Some hold) still h =
      cond_both (same_owner hold.owner owner) _ _ (λ o. AnswersDue last (with_token last o))
      (λ same. cond_both (hold.count == hold_limit) _ _ (λ o. AnswersDue last (with_token last o))
      (λ full reply. cc)
      (λ room reply. rw (current same) (one_token last token reply)))
      (λ other reply. cc)
    where
      current : same_owner hold.owner owner ≡ true → is_current tenure moment ≡ true
      current same =
          told_current moment hold tenure still
          (h.told_while hold still ((same_owner-Decides hold.owner owner).0 same))

  -- and by the lease: one that is refused grants nothing
  tried : (lock : FencedLock) → HoldsAsTold owner moment tenure lock.held
      → AnswersDue lock.token (fenced_try moment owner lease lock)
  tried lock h =
      cond_both (is_lease lease) _ _ (AnswersDue lock.token)
      (λ good. taken lock.token (live_hold moment lock.held) (live_hold-live moment lock.held)
      (held_live owner moment tenure lock.held h))
      (λ bad reply. cc)

-- In a legal history the tenure that is told is of the hold that the lock has, and the token that
-- the lock has is the last that was told.
pub tokens_grow : (last : ℕ) (entries : List Entry)
    → IsLegal (state_at_start last) entries → TokensGrow (state_at_start last) entries
tokens_grow last entries legal earlier later entry name owner lease token split answered =
    subst (λ n. token ≡ due entry.moment owner lease tenure token n) (is_last name last earlier)
    (tried entry.moment owner lease tenure token lock backed answered.answer)
  where
    first : State
    first = state_at_start last

    tenure : Tenure
    tenure = tenure_after (fenced_claim name owner) first earlier no_tenure

    lock : FencedLock
    lock = (after first earlier).objects.fenced_locks name

    backed : HoldsAsTold owner entry.moment tenure lock.held
    backed =
        let front = MayFollowAll-from_legal earlier later entry first
        (subst (IsLegal first) split legal) in
        backed_after (fenced_claim name owner) (Backs name Exclusive owner)
        (fenced_kept name Exclusive owner) last earlier front.legal entry.moment
        front.may.in_time
