-- What each step of a function comes to for the permits that the keys have.
use Rattle.std.proofs.Common.{◌≡◌, ◌≤◌, ◌<◌, ◌-◌, ◌+◌, ℕ, nat_le, nat_lt, true, false, not, List, [], ◌∷◌, length, Option, Some, None, is_some, option_map, unwrap_or, IsTrue, refl, sym, ap, ◌∙◌, subst, arith}
use Rattle.std.specs.List.{AllByRecursion}
use Rattle.std.proofs.lemmas.Bool.{and_parts, cond-true, cond-false, false≢true, true≢false}
use Rattle.std.proofs.lemmas.Bool.Decides.{nat_tests}
use Rattle.lr_limits.specs.Limits.{last_moment, longest_lease, member_limit, never}
use Rattle.lr_names.specs.declared.post.Post.{Post}
use Rattle.lr_keys.specs.KeySpace.{Keys, entry_at}
use Rattle.lr_objects.specs.Amount.{IsAmount}
use Rattle.lr_objects.specs.declared.reply.Reply.{Reply}
use Rattle.lr_objects.specs.declared.reply.Reply.TheVariants.{Granted, Busy, Short, Freed, Set, AlreadySet, Count, Unknown, TooMany}
use Rattle.lr_model.specs.Moment.{is_lease}
use Rattle.lr_model.specs.Outcome.{Outcome, silent_outcome}
use Rattle.lr_model.specs.Permits.{PermitLease, Permits, available_of, permits_post, is_under, least_deadline, lease_under, without_lease, set_number, take_permit, take_beside, take_of, give_back_lease, set_step, try_step, release_step, count_step}
use Rattle.lr_model.proofs.ReadWriteFacts.{length-filter-le, some_one}
use Rattle.lr_counter.specs.Numbers.{number_entry}
use Rattle.lr_expirable.specs.Leases.{AreLeasesAt}
use Rattle.lr_expirable.specs.Stands.{ArePermitsAt}
use Rattle.lr_expirable.specs.Step.{AreLive, IsPermitStep}
use Rattle.lr_expirable.proofs.LeaseLaws.{deadline_in}

-- a lease ends long before the last moment that is counted
pub deadline_early : (moment lease : ℕ) → moment ≤ last_moment → IsTrue (is_lease lease)
    → moment + lease ≤ never
deadline_early moment lease early good =
    let parts = and_parts (nat_le 1 lease) (nat_le lease longest_lease) good in
    let short : lease ≤ longest_lease = grind (arith, parts.1, nat_tests) in
    omega (arith, early, short)

module _ (keys : Keys) (number_key leases_key : List ℕ) where
  -- the keys have these permits, and the step was answered so
  pub answered : (reply : Reply) (post : Option Post) (permits : Permits)
      → ArePermitsAt keys number_key leases_key permits
      → IsPermitStep keys number_key leases_key (reply, post)
      (record { reply = reply; object = permits; post = post })
  answered reply post permits at = record { reply = refl; post = refl; permits = at }

-- ---- what changes nothing

module _ (keys : Keys) (number_key leases_key : List ℕ) (permits : Permits)
    (at : ArePermitsAt keys number_key leases_key permits) where
  silent : (reply : Reply)
      → IsPermitStep keys number_key leases_key (reply, None) (silent_outcome reply permits)
  silent reply = answered keys number_key leases_key reply None permits at

  -- the number is set already
  pub already_step : (name : List ℕ) (number : ℕ) → is_some permits.number ≡ true
      → IsPermitStep keys number_key leases_key (AlreadySet, None) (set_step name number permits)
  already_step name number set = by permits.number set
    where
      by : (now : Option ℕ) → is_some now ≡ true
          → IsPermitStep keys number_key leases_key (AlreadySet, None)
          (set_number name number permits now)
      by None set = absurd (false≢true set)
      by (Some n) set = silent AlreadySet

  pub unknown_step : (name id : List ℕ) → is_some (lease_under id permits.leases) ≡ false
      → IsPermitStep keys number_key leases_key (Unknown, None) (release_step name id permits)
  unknown_step name id none = by (lease_under id permits.leases) none
    where
      by : (own : Option PermitLease) → is_some own ≡ false
          → IsPermitStep keys number_key leases_key (Unknown, None)
          (give_back_lease name id permits own)
      by None none = silent Unknown
      by (Some own) none = absurd (true≢false none)

  pub counted_step : (number taken free : ℕ) → number ≡ unwrap_or permits.number 0
      → taken ≡ length permits.leases → free ≡ number - taken
      → IsPermitStep keys number_key leases_key (Count free, None) (count_step permits)
  counted_step number taken free all some is = record {
    reply = ap (λ n. Count n) (is ∙ by permits.number all);
    post = refl;
    permits = at;
  }
    where
      by : (now : Option ℕ) → number ≡ unwrap_or now 0
          → number - taken ≡ available_of now permits.leases
      by None all = omega (arith, all)
      by (Some n) all = omega (arith, all, some)

  module _ (moment : ℕ) (id : List ℕ) (lease : ℕ) where
    abbrev IsTry : Keys → Reply → Outcome Permits → Type 0
    IsTry new reply outcome = IsPermitStep new number_key leases_key (reply, None) outcome

    pub short_step : permits.number ≡ None → IsTry keys Short (try_step moment id lease permits)
    short_step none =
        subst (λ now. IsTry keys Short (take_of moment id lease permits now)) (sym none)
        (silent Short)

    -- where the number is set
    set_so : (number : ℕ) → permits.number ≡ Some number → (new : Keys) (reply : Reply)
        → IsTry new reply
        (take_beside moment id lease permits number (lease_under id permits.leases))
        → IsTry new reply (try_step moment id lease permits)
    set_so number is new reply step =
        subst (λ now. IsTry new reply (take_of moment id lease permits now)) (sym is) step

    -- and the id has no lease
    free_so : (number : ℕ) → permits.number ≡ Some number → lease_under id permits.leases ≡ None
        → (new : Keys) (reply : Reply) → IsTry new reply (take_permit moment id lease permits number)
        → IsTry new reply (try_step moment id lease permits)
    free_so number is none new reply step =
        set_so number is new reply
        (subst (λ own. IsTry new reply (take_beside moment id lease permits number own)) (sym none)
        step)

    pub in_use_step : (number : ℕ) → permits.number ≡ Some number
        → is_some (option_map deadline_in (lease_under id permits.leases)) ≡ true
        → IsTry keys AlreadySet (try_step moment id lease permits)
    in_use_step number is there =
        set_so number is keys AlreadySet (by (lease_under id permits.leases) there)
      where
        by : (own : Option PermitLease) → is_some (option_map deadline_in own) ≡ true
            → IsTry keys AlreadySet (take_beside moment id lease permits number own)
        by None there = absurd (false≢true there)
        by (Some own) there = silent AlreadySet

    -- the id that isn't there
    pub not_there : is_some (option_map deadline_in (lease_under id permits.leases)) ≡ false
        → lease_under id permits.leases ≡ None
    not_there none = by (lease_under id permits.leases) none
      where
        by : (own : Option PermitLease) → is_some (option_map deadline_in own) ≡ false → own ≡ None
        by None none = refl
        by (Some own) none = absurd (true≢false none)

    pub busy_step : (number : ℕ) → permits.number ≡ Some number
        → lease_under id permits.leases ≡ None → number ≤ length permits.leases
        → AreLive moment permits.leases → (left : ℕ)
        → (moment < least_deadline permits.leases → least_deadline permits.leases ≤ never
        → left ≡ least_deadline permits.leases - moment)
        → IsTry keys (Busy left) (try_step moment id lease permits)
    busy_step number is none full live left wait =
        free_so number is none keys (Busy left)
        (subst (λ outcome. IsTry keys (Busy left) outcome)
        (sym (cond-false (nat_lt (length permits.leases) number) _ _ no_room))
        (record {
          reply = ap (λ n. Busy n) (wait (ahead permits.leases live some_leases) (early permits.leases
              at.leases_at.are.early));
          post = refl;
          permits = at;
        }))
      where
        no_room : nat_lt (length permits.leases) number ≡ false
        no_room = grind (arith, full, nat_tests)

        some_leases : 1 ≤ length permits.leases
        some_leases = let least = at.some number is in omega (arith, least, full)

        ahead : (xs : List PermitLease) → AreLive moment xs → 1 ≤ length xs
            → moment < least_deadline xs
        ahead [] live some = absurd (omega (arith, some))
        ahead (x ∷ []) live some = live.0
        ahead (x ∷ y ∷ rest) live some =
            let later = ahead (y ∷ rest) live.1 (omega arith) in
            omega (arith, live.0, later)

        early : (xs : List PermitLease) → AllByRecursion (λ x. x.deadline ≤ never) xs
            → least_deadline xs ≤ never
        early [] all = omega arith
        early (x ∷ []) all = all.0
        early (x ∷ y ∷ rest) all = omega (arith, all.0)

    pub many_step : (number : ℕ) → permits.number ≡ Some number
        → lease_under id permits.leases ≡ None → length permits.leases < number
        → member_limit ≤ length permits.leases → IsTry keys TooMany (try_step moment id lease permits)
    many_step number is none free full =
        free_so number is none keys TooMany
        (subst (λ outcome. IsTry keys TooMany outcome)
        (sym (cond-true (nat_lt (length permits.leases) number) _ _ room
        ∙ cond-false (nat_lt (length permits.leases) member_limit) _ _ no_place))
        (silent TooMany))
      where
        room : nat_lt (length permits.leases) number ≡ true
        room = grind (arith, free, nat_tests)

        no_place : nat_lt (length permits.leases) member_limit ≡ false
        no_place = grind (arith, full, nat_tests)

    pub granted_step : (number : ℕ) → permits.number ≡ Some number
        → lease_under id permits.leases ≡ None → length permits.leases < number
        → length permits.leases < member_limit → (new : Keys)
        → entry_at new number_key ≡ entry_at keys number_key
        → AreLeasesAt (entry_at new leases_key)
        (record { id = id; deadline = moment + lease } ∷ permits.leases)
        → IsTry new Granted (try_step moment id lease permits)
    granted_step number is none free place new same there =
        free_so number is none new Granted
        (subst (λ outcome. IsTry new Granted outcome)
        (sym (cond-true (nat_lt (length permits.leases) number) _ _ room
        ∙ cond-true (nat_lt (length permits.leases) member_limit) _ _ some_place))
        (record {
          reply = refl;
          post = refl;
          permits = record {
            number_at = record {
              stands = same ∙ at.number_at.stands;
              within = at.number_at.within;
            };
            some = at.some;
            leases_at = there;
            enough =
                let all = ap (λ now. unwrap_or now 0) is in
                omega (arith, free, all);
          };
        }))
      where
        room : nat_lt (length permits.leases) number ≡ true
        room = grind (arith, free, nat_tests)

        some_place : nat_lt (length permits.leases) member_limit ≡ true
        some_place = grind (arith, place, nat_tests)

  -- ---- what changes something else

  pub set_done_step : (name : List ℕ) (number : ℕ) → IsAmount number → permits.number ≡ None
      → (new : Keys) → entry_at new number_key ≡ Some (number_entry number)
      → entry_at new leases_key ≡ entry_at keys leases_key → (post : Option Post)
      → post ≡ Some (permits_post name)
      → IsPermitStep new number_key leases_key (Set, post) (set_step name number permits)
  set_done_step name number amount none new there same post told =
      subst (λ now. IsPermitStep new number_key leases_key (Set, post)
      (set_number name number permits now)) (sym none)
      (record {
        reply = refl;
        post = told;
        permits = record {
          number_at = record {
            stands = there;
            within = λ n is. omega (arith, some_one number n is, amount.1);
          };
          some = λ n is. omega (arith, some_one number n is, amount.0);
          leases_at = subst (λ e. AreLeasesAt e permits.leases) (sym same) at.leases_at;
          enough =
              let all = ap (λ now. unwrap_or now 0) none in
              omega (arith, at.enough, all);
        };
      })

  pub freed_step : (name id : List ℕ) → is_some (lease_under id permits.leases) ≡ true
      → (new : Keys) → entry_at new number_key ≡ entry_at keys number_key
      → AreLeasesAt (entry_at new leases_key) (without_lease id permits.leases)
      → (post : Option Post) → post ≡ Some (permits_post name)
      → IsPermitStep new number_key leases_key (Freed, post) (release_step name id permits)
  freed_step name id there new same left post told = by (lease_under id permits.leases) there
    where
      by : (own : Option PermitLease) → is_some own ≡ true
          → IsPermitStep new number_key leases_key (Freed, post)
          (give_back_lease name id permits own)
      by None there = absurd (false≢true there)
      by (Some own) there = record {
        reply = refl;
        post = told;
        permits = record {
          number_at = record {
            stands = same ∙ at.number_at.stands;
            within = at.number_at.within;
          };
          some = at.some;
          leases_at = left;
          enough =
              omega (
                arith,
                at.enough,
                length-filter-le (λ (l : PermitLease). not (is_under id l)) permits.leases,
              );
        };
      }
