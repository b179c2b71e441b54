-- What looks at the key of leases see of them, and what the calls of a key space make of them.
use Rattle.std.proofs.Common.{◌≡◌, ◌≢◌, ◌≤◌, ◌<◌, ℕ, pos, Bool, true, false, not, List, [], ◌∷◌, length, nat_lt, Option, Some, None, is_some, option_map, Result, Ok, Err, OnOk, if◌then◌else◌, refl, sym, ap, ◌∙◌, arith}
use Rattle.std.specs.Prelude.{slice_get}
use Rattle.std.specs.Map.{remove_entry}
use Rattle.std.specs.Result.{result_unwrap_or}
use Rattle.std.specs.Str.{bytes_eq}
use Rattle.std.proofs.lemmas.Bool.{false≢true}
use Rattle.std.proofs.lemmas.Bool.Decides.{nat_tests}
use Rattle.lr_limits.specs.Limits.{member_limit, never}
use Rattle.lr_names.specs.Owner.{IsId, id_text}
use Rattle.lr_lists.specs.Places.{item_at}
use Rattle.lr_sorted.specs.Members.{Scored, Members as Scores, is_in_order, score_of}
use Rattle.lr_sorted.proofs.MemberLaws.{eq-same, in_order_from, in_order_to}
use Rattle.lr_sorted.proofs.SortedLaws.{sorted-in_order}
use Rattle.lr_keys.specs.declared.fault.KeyFault.{KeyFault}
use Rattle.lr_keys.specs.declared.fault.KeyFault.TheVariants.{NoMemory}
use Rattle.lr_keys.specs.KeySpace.{Answers, ChangesEntry, KeyEntry, Keys, WritesMember, entry_at, entry_with_member, entry_without_member, found_in, is_new_member, is_new_score, score_at, seen, zset_at}
use Rattle.lr_model.specs.Moment.{is_live}
use Rattle.lr_model.specs.Permits.{PermitLease, is_under, lease_under, live_leases, without_lease}
use Rattle.lr_model.proofs.ReadWriteFacts.{none_some, some_one}
use Rattle.lr_expirable.specs.Leases.{AreLeasesAt, in_order_of, members_entry, members_of}
use Rattle.lr_expirable.specs.Step.{HasLive, IsFirstGone, live_members}
use Rattle.lr_keys.proofs.SortedKeyLaws.{changed-here, if_ok, member-removed, member-written, succeeds}
use Rattle.lr_expirable.proofs.EntryLaws.{members_in}
use Rattle.lr_expirable.proofs.LeaseLaws.{deadline_in, in_order-with, in_order-without, leases-filter, leases-with, length-in_order, live-all, live-in_order, score_of-in_order}

module _ (entry : Option KeyEntry) (leases : List PermitLease) (at : AreLeasesAt entry leases) where
  -- what a look sees
  looks : {X : Type 0} (look : Scores → X) → seen look (zset_at entry) ≡ Ok (look (in_order_of leases))
  looks look = ap (seen look) (ap zset_at at.stands ∙ members_in (in_order_of leases))

  pub length-seen : result_unwrap_or (seen length (zset_at entry)) 0 ≡ length leases
  length-seen = ap (λ r. result_unwrap_or r 0) (looks length) ∙ length-in_order leases

  module _ (id : List ℕ) (in_id : IsId id) (member : List ℕ) (text : member ≡ id_text id) where
    -- the deadline of the lease under an id
    pub score_at-lease : score_at member entry ≡ Ok (option_map deadline_in (lease_under id leases))
    score_at-lease =
        looks (score_of member)
        ∙ ap (λ o. Ok o) (ap (λ t. score_of t (in_order_of leases)) text
        ∙ score_of-in_order id in_id leases at.are)

    pub found-lease : (result : Bool)
        → result ≡ result_unwrap_or (found_in (score_at member entry)) false
        → result ≡ is_some (lease_under id leases)
    found-lease result is =
        is ∙ ap (λ r. result_unwrap_or (found_in r) false) score_at-lease ∙ by (lease_under id leases)
      where
        by : (own : Option PermitLease)
            → result_unwrap_or (found_in (Ok (option_map deadline_in own))) false ≡ is_some own
        by None = refl
        by (Some own) = refl

-- a lease is added
pub added : (keys new : Keys) (key : List ℕ) (leases : List PermitLease)
    → AreLeasesAt (entry_at keys key) leases → (id : List ℕ) → IsId id → (member : List ℕ)
    → member ≡ id_text id → lease_under id leases ≡ None → length leases < member_limit
    → (deadline : ℕ) → deadline ≤ never → (result : Result Bool KeyFault)
    → Answers (λ (b : Bool). b) result (is_new_member member (zset_at (entry_at keys key)))
    → result ≢ Err NoMemory → OnOk result (WritesMember keys new key member deadline)
    → AreLeasesAt (entry_at new key) (record { id = id; deadline = deadline } ∷ leases)
added keys new key leases at id in_id member text none room deadline early result answers memory
    written =
    let members : Scores = in_order_of leases in
    let few : nat_lt (length members) member_limit ≡ true =
    ap (λ n. nat_lt n member_limit) (length-in_order leases) ∙ grind (arith, room, nat_tests) in
    let score : score_of member members ≡ None =
    ap (λ t. score_of t members) text ∙ score_of-in_order id in_id leases at.are
    ∙ ap (option_map deadline_in) none in
    let answer : is_new_member member (zset_at (entry_at keys key)) ≡ Ok true =
    ap (is_new_member member) (ap zset_at at.stands ∙ members_in members)
    ∙ (λ i. is_new_score (few i) (score i)) in
    let ok = succeeds (λ (b : Bool). b) result
    (is_new_member member (zset_at (entry_at keys key))) true answers answer memory in
    let writes : WritesMember keys new key member deadline =
    if_ok (λ b. WritesMember keys new key member deadline) result ok.0 ok.1 written in
    let change : Option KeyEntry → Option KeyEntry =
    λ e. Some (entry_with_member member deadline e) in
    record {
      stands =
          changed-here keys new key change writes ∙ ap change at.stands
          ∙ ap (λ t. Some (entry_with_member t deadline (members_entry members))) text
          ∙ member-written (id_text id) deadline members
          ∙ ap members_entry (sym (in_order-with id in_id leases at.are none deadline));
      are = leases-with id in_id leases at.are none deadline room early;
    }

-- a call that tells so has removed something
pub removed_so : (zrem : Result Bool KeyFault) → result_unwrap_or zrem false ≡ true → zrem ≡ Ok true
removed_so (Ok true) is = refl
removed_so (Ok false) is = absurd (false≢true is)
removed_so (Err fault) is = absurd (false≢true is)

-- and else nothing
pub kept_so : (zrem : Result Bool KeyFault) → result_unwrap_or zrem false ≡ false → zrem ≢ Ok true
kept_so zrem is e = false≢true (sym is ∙ ap (λ r. result_unwrap_or r false) e)

-- a lease is removed
pub removed : (keys new : Keys) (key : List ℕ) (leases : List PermitLease)
    → AreLeasesAt (entry_at keys key) leases → (id : List ℕ) → IsId id → (member : List ℕ)
    → member ≡ id_text id → ChangesEntry keys new key (entry_without_member member)
    → AreLeasesAt (entry_at new key) (without_lease id leases)
removed keys new key leases at id in_id member text changes = record {
  stands =
      changed-here keys new key (entry_without_member member) changes
      ∙ ap (entry_without_member member) at.stands
      ∙ ap (λ t. entry_without_member t (members_entry (in_order_of leases))) text
      ∙ member-removed (id_text id) (in_order_of leases)
      ∙ ap members_entry (sym (in_order-without id in_id leases at.are));
  are = leases-filter (λ lease. not (is_under id lease)) leases at.are;
}

-- ---- the first one

-- it is removed
pub first-dropped : (keys new : Keys) (key member : List ℕ) (deadline : ℕ) (rest : Scores)
    → entry_at keys key ≡ members_entry ((member, deadline) ∷ rest)
    → (zrem : Result Bool KeyFault) → zrem ≡ found_in (score_at member (entry_at keys key))
    → (zrem ≡ Ok true → ChangesEntry keys new key (entry_without_member member))
    → entry_at new key ≡ members_entry rest
first-dropped keys new key member deadline rest stands zrem answer changes =
    let same = eq-same member in
    let there : zrem ≡ Ok true =
    answer ∙ ap (λ e. found_in (score_at member e)) stands
    ∙ ap (λ b. found_in (Ok (if b then Some deadline else score_of member rest))) same in
    changed-here keys new key (entry_without_member member) (changes there)
    ∙ ap (entry_without_member member) stands
    ∙ ap (λ b. members_entry (if b then rest else (member, deadline) ∷ remove_entry (bytes_eq member) rest))
    same

-- what a look at the first place sees
pub first-seen : (entry : Option KeyEntry) (members : Scores) → entry ≡ members_entry members
    → result_unwrap_or (seen (item_at (pos 0)) (zset_at entry)) None ≡ slice_get members 0
first-seen entry members stands =
    ap (λ r. result_unwrap_or (seen (item_at (pos 0)) r) None)
    (ap zset_at stands ∙ members_in members)

-- it is gone
pub first-gone : (members : Scores) (moment : ℕ) (e : Scored) → slice_get members 0 ≡ Some e
    → e.1 ≤ moment → IsFirstGone moment members e.0
first-gone [] moment e at gone = absurd (none_some e (sym at))
first-gone (m ∷ ms) moment e at gone = record {
  deadline = e.1;
  rest = ms;
  first = ap (λ x. x ∷ ms) (some_one m e at);
  gone = gone;
}

-- it isn't, or there is none
pub none-gone : (members : Scores) (moment : ℕ) (e : Scored) → is_in_order members ≡ true
    → slice_get members 0 ≡ Some e → moment < e.1 → live_members moment members ≡ members
none-gone members moment e order at ahead = live-all moment e members (in_order_from members order) at ahead

pub none-there : (members : Scores) (moment : ℕ) → slice_get members 0 ≡ None
    → live_members moment members ≡ members
none-there [] moment e = refl
none-there (m ∷ ms) moment e = absurd (none_some m e)

-- ---- all that are gone

-- when the first has been removed
pub has-live-still : (old new : Option KeyEntry) (moment : ℕ) (members : Scores) (member : List ℕ)
    → (has : HasLive old moment members) (now : ℕ) → now ≡ moment
    → (gone : IsFirstGone now has.left member)
    → new ≡ members_entry gone.rest → HasLive new moment members
has-live-still old new moment members member has now same gone stands = record {
  left = gone.rest;
  stands = stands;
  order =
      in_order_to gone.rest (in_order_from ((member, gone.deadline) ∷ gone.rest)
      (ap is_in_order (sym gone.first) ∙ has.order)).1;
  live =
      sym (ap (λ b. if b then (member, gone.deadline) ∷ live_members moment gone.rest
      else live_members moment gone.rest) dead)
      ∙ ap (live_members moment) (sym gone.first) ∙ has.live;
}
  where
    dead : is_live gone.deadline moment ≡ false
    dead = grind (arith, same, gone.gone, nat_tests)

-- when none is left to remove
pub live-left : (old new : Option KeyEntry) (moment : ℕ) (leases : List PermitLease)
    → AreLeasesAt old leases
    → ((members : Scores) → is_in_order members ≡ true → old ≡ members_entry members
    → HasLive new moment members)
    → ((members : Scores) → new ≡ members_entry members → is_in_order members ≡ true
    → live_members moment members ≡ members)
    → AreLeasesAt new (live_leases moment leases)
live-left old new moment leases at has none =
    let members : Scores = in_order_of leases in
    let left = has members (in_order_to members (sorted-in_order (members_of leases) at.are.distinct))
    at.stands in
    record {
      stands =
          left.stands
          ∙ ap members_entry (sym (none left.left left.stands left.order) ∙ left.live
          ∙ live-in_order moment leases at.are.distinct);
      are = leases-filter (λ lease. is_live lease.deadline moment) leases at.are;
    }
