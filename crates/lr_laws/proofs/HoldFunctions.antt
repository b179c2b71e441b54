-- What the functions of a hold leave of the tenures of owners: taking, giving back, renewing, and
-- taking away. They see a hold that is live.
use Rattle.std.proofs.Common.{◌≡◌, ℕ, ◌+◌, ◌-◌, ◌==◌, true, false, Option, Some, None, refl, ap, arith}
use Rattle.std.proofs.lemmas.Bool.{cond_both}
use Rattle.std.proofs.lemmas.Bool.Decides.{nat_tests}
use Rattle.lr_limits.specs.Limits.{hold_limit}
use Rattle.lr_names.specs.Owner.{ThreadOfClient, same_owner}
use Rattle.lr_names.specs.declared.post.Post.{Post}
use Rattle.lr_objects.specs.declared.reply.Reply.{Reply}
use Rattle.lr_objects.specs.declared.reply.Reply.TheVariants.{Granted, Busy, Kept, NotHeld, Renewed, Lost, TooDeep}
use Rattle.lr_model.specs.declared.hold.Hold.{Hold}
use Rattle.lr_model.specs.Hold.{live_hold, holding, freeing, take_hold, give_back_hold, renew_hold, end_hold}
use Rattle.lr_model.specs.Outcome.{silent_outcome}
use Rattle.lr_model.specs.Tenure.{Tenure, no_tenure, tenure_by_reply}
use Rattle.lr_laws.proofs.Owners.{same_owner-Decides}
use Rattle.lr_laws.proofs.Holds.{IsTenureOf, HoldsAsTold, without_tenure, held_live, told_current, not_current}
use Rattle.lr_laws.proofs.HoldSteps.{EndsHolds, IsKeeping, new_hold, silent_keeps, nobody, own_hold, holding_keeps, freeing_keeps}

module _ (moment lease : ℕ) (caller : ThreadOfClient) where
  -- what is held is live, or nothing is
  abbrev IsLive : Option Hold → Type 0
  IsLive before = live_hold moment before ≡ before

  -- what the caller holds so often, from now on
  abbrev held_so : ℕ → Hold
  held_so count = new_hold moment lease caller count

  -- the tenure of the caller after a reply is of the hold that it then has
  abbrev IsThenOf : Hold → Reply → Tenure → Type 0
  IsThenOf hold reply tenure = IsTenureOf hold (tenure_by_reply moment lease reply tenure)

  -- it takes what nobody holds
  begun : (tenure : Tenure) → HoldsAsTold caller moment tenure None
      → IsThenOf (held_so 1) Granted tenure
  begun tenure h = rw (not_current caller moment tenure h) (record {
    count = refl;
    deadline = refl;
    some = omega arith;
  })

  module _ (hold : Hold) (live : IsLive (Some hold)) (same : same_owner hold.owner caller ≡ true)
    where
      -- the caller has the live hold
      mine : hold.owner ≡ caller
      mine = (same_owner-Decides hold.owner caller).0 same

      module _ (tenure : Tenure) (h : HoldsAsTold caller moment tenure (Some hold)) where
        -- so its tenure is of this hold
        now : IsTenureOf hold tenure
        now = h.told_while hold live mine

        -- it takes its own hold once more
        taken_again : IsThenOf (held_so (hold.count + 1)) Granted tenure
        taken_again = rw (told_current moment hold tenure live now) (record {
          count = ap (λ n. n + 1) now.count;
          deadline = refl;
          some = omega arith;
        })

        -- it gives one back and keeps the rest
        kept : (hold.count == 1) ≡ false → IsThenOf (held_so (hold.count - 1)) Kept tenure
        kept more = record {
          count = ap (λ n. n - 1) now.count;
          deadline = refl;
          some = grind (arith, nat_tests, more, now.some);
        }

        -- it renews its lease
        renewed : IsThenOf (held_so hold.count) Renewed tenure
        renewed = record { count = now.count; deadline = refl; some = now.some }

      -- a reply after which the caller holds so, by what is told
      holds : (reply : Reply) (count : ℕ)
          → ((tenure : Tenure) → HoldsAsTold caller moment tenure (Some hold)
          → IsThenOf (held_so count) reply tenure)
          → IsKeeping moment lease caller (Some hold)
          (holding reply caller count (moment + lease))
      holds reply count told =
          holding_keeps moment lease caller reply count (Some hold)
          (own_hold moment lease caller hold mine) told

      -- the last hold is given back
      frees : (post : Option Post) → IsKeeping moment lease caller (Some hold) (freeing post)
      frees post =
          freeing_keeps moment lease caller post (Some hold)
          (own_hold moment lease caller hold mine)

  -- a reply that leaves the hold and the tenure alone
  stays : (reply : Reply) (before : Option Hold)
      → ((tenure : Tenure) → tenure_by_reply moment lease reply tenure ≡ tenure)
      → IsKeeping moment lease caller before (silent_outcome reply before)
  stays reply before same = silent_keeps moment lease caller reply before same

  pub take_hold-keeps : (before : Option Hold) → IsLive before
      → IsKeeping moment lease caller before (take_hold moment caller lease before)
  take_hold-keeps None live =
      holding_keeps moment lease caller Granted 1 None (nobody moment lease caller) begun
  take_hold-keeps (Some hold) live =
      cond_both (same_owner hold.owner caller) _ _ (IsKeeping moment lease caller (Some hold))
      (λ same. cond_both (hold.count == hold_limit) _ _ (IsKeeping moment lease caller (Some hold))
      (λ full. stays TooDeep (Some hold) (λ tenure. refl))
      (λ room. holds hold live same Granted (hold.count + 1) (taken_again hold live same)))
      (λ other. stays (Busy (hold.deadline - moment)) (Some hold) (λ tenure. refl))

  pub give_back_hold-keeps : (post : Option Post) (before : Option Hold) → IsLive before
      → IsKeeping moment lease caller before (give_back_hold post moment caller lease before)
  give_back_hold-keeps post None live = stays NotHeld None (λ tenure. refl)
  give_back_hold-keeps post (Some hold) live =
      cond_both (same_owner hold.owner caller) _ _ (IsKeeping moment lease caller (Some hold))
      (λ same. cond_both (hold.count == 1) _ _ (IsKeeping moment lease caller (Some hold))
      (λ last. frees hold live same post)
      (λ more. holds hold live same Kept (hold.count - 1)
      (λ tenure h. kept hold live same tenure h more)))
      (λ other. stays NotHeld (Some hold) (λ tenure. refl))

  pub renew_hold-keeps : (before : Option Hold) → IsLive before
      → IsKeeping moment lease caller before (renew_hold moment caller lease before)
  renew_hold-keeps None live = stays Lost None (λ tenure. refl)
  renew_hold-keeps (Some hold) live =
      cond_both (same_owner hold.owner caller) _ _ (IsKeeping moment lease caller (Some hold))
      (λ same. holds hold live same Renewed hold.count (renewed hold live same))
      (λ other. stays Lost (Some hold) (λ tenure. refl))

-- a hold that is taken away from whoever has it
pub end_hold-ends : (moment : ℕ) (post : Option Post) (before : Option Hold)
    → EndsHolds moment before (end_hold post (live_hold moment before)).reply
    (end_hold post (live_hold moment before)).object
end_hold-ends moment post before = record {
  none = begins_none (live_hold moment before);
  all = λ owner tenure h.
      ended owner tenure (live_hold moment before) (held_live owner moment tenure before h);
}
  where
    begins_none : (live : Option Hold)
        → tenure_by_reply moment 0 (end_hold post live).reply no_tenure ≡ no_tenure
    begins_none None = refl
    begins_none (Some hold) = refl

    ended : (owner : ThreadOfClient) (tenure : Tenure) (live : Option Hold)
        → HoldsAsTold owner moment tenure live
        → HoldsAsTold owner moment
        (tenure_by_reply moment 0 (end_hold post live).reply tenure) (end_hold post live).object
    ended owner tenure None h = h
    ended owner tenure (Some hold) h = without_tenure owner moment
