-- What a look at the keys of permits tells of a try.
use Rattle.std.proofs.Common.{◌≡◌, ◌≤◌, ◌<◌, ℕ, suc, ◌+◌, ◌-◌, nat_le, nat_lt, Bool, true, false, not, ◌&&◌, List, [], ◌∷◌, length, Option, Some, None, if◌then◌else◌, Ok, option_map, refl, sym, ap, subst, ◌∙◌, arith}
use Rattle.std.specs.Map.{keys_of}
use Rattle.std.specs.Str.{bytes_eq}
use Rattle.std.proofs.lemmas.Bool.{cond_both, cond-true, cond-false}
use Rattle.std.proofs.lemmas.Bool.Decides.{nat_tests}
use Rattle.std.proofs.lemmas.Map.Keys.{IsDistinct-head}
use Rattle.lr_limits.specs.Limits.{member_limit}
use Rattle.lr_names.specs.Owner.{IsId, id_text}
use Rattle.lr_objects.specs.Reply.{blocks}
use Rattle.lr_objects.specs.declared.kinds.Function.{Function}
use Rattle.lr_objects.specs.declared.kinds.Function.TheVariants as kinds
use Rattle.lr_objects.specs.declared.reply.Reply.TheVariants.{Granted, Busy, TooMany}
use Rattle.lr_objects.specs.declared.permits.PermitFunction.TheVariants as functions
use Rattle.lr_sorted.specs.Sorted.{AreDistinct}
use Rattle.lr_sorted.proofs.MemberLaws.{eq-is}
use Rattle.lr_sorted.proofs.SortedLaws.{tail-distinct}
use Rattle.lr_model.specs.Moment.{is_live}
use Rattle.lr_model.specs.Outcome.{silent_outcome}
use Rattle.lr_model.specs.Permits.{PermitLease, Permits, is_under, least_deadline, lease_under, live_leases, live_permits, with_new_lease, take_beside, take_of, try_step}
use Rattle.lr_model.proofs.ReadWriteFacts.{length-filter-le}
use Rattle.lr_expirable.specs.Leases.{member_of, members_of}
use Rattle.lr_expirable.specs.Run.{is_taken}
use Rattle.lr_expirable.proofs.LeaseLaws.{HaveIds, IsAbsent, deadline_in, text-eq}

-- ---- the lease of an id

module _ (id : List ℕ) (in_id : IsId id) (moment : ℕ) where
  -- an id that isn't there has no live lease
  none_live : (leases : List PermitLease) → HaveIds leases → IsAbsent (id_text id) leases
      → lease_under id (live_leases moment leases) ≡ None
  none_live [] ids absent = refl
  none_live (x ∷ xs) ids absent =
      let rest = none_live xs ids.1 absent.1 in
      cond_both (is_live x.deadline moment) (x ∷ live_leases moment xs) (live_leases moment xs)
      (λ l. lease_under id l ≡ None)
      (λ stays. cond-false (is_under id x) (Some x) (lease_under id (live_leases moment xs))
      (sym (text-eq id x.id in_id ids.0) ∙ absent.0) ∙ rest)
      (λ goes. rest)

  -- nor has one whose lease doesn't last
  pub not_taken : (leases : List PermitLease) → HaveIds leases → AreDistinct (members_of leases)
      → is_taken moment (Ok (option_map deadline_in (lease_under id leases))) ≡ false
      → lease_under id (live_leases moment leases) ≡ None
  not_taken [] ids distinct free = refl
  not_taken (x ∷ xs) ids distinct free =
      by (is_under id x) refl
      (not_taken xs ids.1 (tail-distinct (member_of x) (members_of xs) distinct)) free
    where
      by : (b : Bool) → is_under id x ≡ b
          → (is_taken moment (Ok (option_map deadline_in (lease_under id xs))) ≡ false
          → lease_under id (live_leases moment xs) ≡ None)
          → is_taken moment (Ok (option_map deadline_in (if b then Some x else lease_under id xs)))
          ≡ false
          → lease_under id (live_leases moment (x ∷ xs)) ≡ None
      by true same later free =
          let text : id_text id ≡ id_text x.id =
          eq-is (id_text id) (id_text x.id) (text-eq id x.id in_id ids.0 ∙ same) in
          let absent = IsDistinct-head bytes_eq (id_text x.id) (keys_of (members_of xs)) distinct in
          ap (lease_under id) (cond-false (is_live x.deadline moment) (x ∷ live_leases moment xs)
          (live_leases moment xs) free)
          ∙ none_live xs ids.1 (subst (λ t. IsAbsent t xs) (sym text) absent)
      by false other later free =
          let rest = later free in
          cond_both (is_live x.deadline moment) (x ∷ live_leases moment xs) (live_leases moment xs)
          (λ l. lease_under id l ≡ None)
          (λ stays. cond-false (is_under id x) (Some x) (lease_under id (live_leases moment xs)) other
          ∙ rest)
          (λ goes. rest)

-- ---- how many are live

module _ (moment : ℕ) where
  -- all are, where the first deadline hasn't come
  all_live : (leases : List PermitLease) → moment < least_deadline leases
      → length (live_leases moment leases) ≡ length leases
  all_live [] ahead = refl
  all_live (x ∷ []) ahead =
      let live : is_live x.deadline moment ≡ true = grind (arith, ahead, nat_tests) in
      ap length (cond-true (is_live x.deadline moment) (x ∷ []) [] live)
  all_live (x ∷ y ∷ rest) ahead =
      let live : is_live x.deadline moment ≡ true = grind (arith, ahead, nat_tests) in
      ap length (cond-true (is_live x.deadline moment) (x ∷ live_leases moment (y ∷ rest))
      (live_leases moment (y ∷ rest)) live)
      ∙ ap (λ n. suc n) (all_live (y ∷ rest) (omega (arith, ahead)))

  -- and fewer, where it has
  some_gone : (leases : List PermitLease) → 1 ≤ length leases → least_deadline leases ≤ moment
      → length (live_leases moment leases) < length leases
  some_gone [] some gone = absurd (omega (arith, some))
  some_gone (x ∷ []) some gone =
      let dead : is_live x.deadline moment ≡ false = grind (arith, gone, nat_tests) in
      let none = ap length (cond-false (is_live x.deadline moment) (x ∷ []) [] dead) in
      omega (arith, none)
  some_gone (x ∷ y ∷ rest) some gone =
      cond_both (is_live x.deadline moment) (x ∷ live_leases moment (y ∷ rest))
      (live_leases moment (y ∷ rest)) (λ l. length l < length (x ∷ y ∷ rest))
      (λ live.
      let ahead : moment < x.deadline = grind (arith, live, nat_tests) in
      let fewer = some_gone (y ∷ rest) (omega arith) (omega (arith, gone, ahead)) in
      omega (arith, fewer))
      (λ dead.
      let no_more = length-filter-le (λ (l : PermitLease). is_live l.deadline moment) (y ∷ rest) in
      omega (arith, no_more))

  -- so many are live, where there are no more, as one look tells
  pub full : (leases : List PermitLease) (number : ℕ) → 1 ≤ number → length leases ≤ number
      → (nat_le number (length leases) && nat_lt moment (least_deadline leases))
      ≡ nat_le number (length (live_leases moment leases))
  full leases number some enough =
      by (nat_le number (length leases)) (nat_lt moment (least_deadline leases)) refl refl
    where
      fewer : length (live_leases moment leases) ≤ length leases
      fewer = length-filter-le (λ (l : PermitLease). is_live l.deadline moment) leases

      by : (all ahead : Bool) → nat_le number (length leases) ≡ all
          → nat_lt moment (least_deadline leases) ≡ ahead
          → (all && ahead) ≡ nat_le number (length (live_leases moment leases))
      by true true e f =
          let late : moment < least_deadline leases = grind (arith, f, nat_tests) in
          sym (ap (nat_le number) (all_live leases late) ∙ e)
      by true false e f =
          let there : number ≤ length leases = grind (arith, e, nat_tests) in
          let gone : least_deadline leases ≤ moment = grind (arith, f, nat_tests) in
          let less = some_gone leases (omega (arith, some, there)) gone in
          let not_all : length (live_leases moment leases) < number = omega (arith, less, enough) in
          grind (arith, not_all, nat_tests)
      by false ahead e f =
          let few : length leases < number = grind (arith, e, nat_tests) in
          let not_all : length (live_leases moment leases) < number = omega (arith, few, fewer) in
          grind (arith, not_all, nat_tests)

-- ---- the try

module _ (moment : ℕ) (id : List ℕ) (lease : ℕ) (permits : Permits) where
  abbrev function : Function
  function = kinds.Permits functions.Try

  abbrev live : Permits
  live = live_permits moment permits

  -- whether a try is refused
  abbrev IsKeptWaiting : Bool → Type 0
  IsKeptWaiting waits = waits ≡ blocks (try_step moment id lease live).reply function

  -- before the number is set
  pub short_waits : permits.number ≡ None → IsKeptWaiting true
  short_waits none =
      sym (ap (λ now. blocks (take_of moment id lease live now).reply function) none)

  module _ (number : ℕ) (is : permits.number ≡ Some number) where
    set_so : blocks (try_step moment id lease live).reply function
        ≡ blocks (take_beside moment id lease live number (lease_under id live.leases)).reply function
    set_so = ap (λ now. blocks (take_of moment id lease live now).reply function) is

    -- an id that has a permit isn't given another
    pub own_goes_on : (lease_under id live.leases ≡ None → ⊥) → IsKeptWaiting false
    own_goes_on there = sym (set_so ∙ by (lease_under id live.leases) there)
      where
        by : (own : Option PermitLease) → (own ≡ None → ⊥)
            → blocks (take_beside moment id lease live number own).reply function ≡ false
        by None there = absurd (there refl)
        by (Some own) there = refl

    -- and another waits where all are taken
    pub full_waits : lease_under id live.leases ≡ None
        → IsKeptWaiting (nat_le number (length live.leases))
    full_waits none =
        sym (set_so
        ∙ ap (λ own. blocks (take_beside moment id lease live number own).reply function) none
        ∙ by room (nat_lt (length live.leases) member_limit) ∙ none_left)
      where
        room : Bool
        room = nat_lt (length live.leases) number

        by : (room place : Bool)
            → blocks (if room then (if place
            then silent_outcome Granted (with_new_lease id (moment + lease) live)
            else silent_outcome TooMany live)
            else silent_outcome (Busy (least_deadline live.leases - moment)) live).reply function
            ≡ not room
        by true true = refl
        by true false = refl
        by false place = refl

        none_left : not room ≡ nat_le number (length live.leases)
        none_left = grind (arith, nat_tests)
