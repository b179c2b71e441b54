-- What looks at the two keys of a queue see of it, and what the calls of a key space make of them.
use Rattle.std.proofs.Common.{◌≡◌, ◌≢◌, ◌<◌, ◌+◌, ℕ, zero, suc, pos, max, Bool, true, false, List, [], ◌∷◌, ◌++◌, length, nat_lt, Option, Some, None, option_map, IsTrue, Result, Ok, Err, IfOk, OnOk, OnErr, if◌then◌else◌, refl, sym, ap, ◌∙◌, subst, arith}
use Rattle.std.specs.Result.{result_unwrap_or}
use Rattle.std.proofs.lemmas.Bool.Decides.{nat_tests}
use Rattle.lr_limits.specs.Limits.{member_limit}
use Rattle.lr_names.specs.Owner.{ThreadOfClient, IsOwner, owner_text}
use Rattle.lr_names.proofs.OwnerLaws.{owner_text-injective}
use Rattle.lr_lists.specs.Items.{times, without_item}
use Rattle.lr_lists.specs.Places.{item_at}
use Rattle.lr_lists.proofs.ItemLaws.{without_item-absent}
use Rattle.lr_sorted.specs.Members.{Members as Scores, score_of, without_member}
use Rattle.lr_sorted.specs.Sorted.{sorted}
use Rattle.lr_sorted.proofs.MemberLaws.{without_member-absent}
use Rattle.lr_sorted.proofs.SortedLaws.{length-sorted}
use Rattle.lr_keys.specs.declared.fault.KeyFault.{KeyFault}
use Rattle.lr_keys.specs.declared.fault.KeyFault.TheVariants.{TooMany, NoMemory}
use Rattle.lr_keys.specs.declared.value_kind.ValueKind.{ValueKind}
use Rattle.lr_keys.specs.declared.value_kind.ValueKind.TheVariants.{List as ListKind, Zset}
use Rattle.lr_keys.specs.KeySpace.{Answers, ChangesEntry, IsPrepared, KeyEntry, Keys, Plan, UsesPlan, WritesItem, WritesMember, entry_at, entry_with_item, entry_with_member, entry_without_item, entry_without_member, found_in, has_member, is_new_member, is_new_score, is_plan_for, is_there, length_after_push, list_at, live_entry, plan_at, score_at, seen, times_at, zset_at}
use Rattle.lr_keys.specs.Table.{without_key_if}
use Rattle.lr_keys.proofs.SortedKeyLaws.{changed-here, changed-other, if_ok, member-removed, member-written, succeeds}
use Rattle.lr_keys.proofs.TableLaws.{with_key-other}
use Rattle.lr_model.specs.Fair.{FairPlace, place_of, with_last_place, with_later_place, without_place, is_place_of}
use Rattle.lr_model.proofs.ReadWriteFacts.{find-none, none_some, some_one}
use Rattle.lr_fair.specs.Queue.{IsQueueAt, first_owner, items_entry, members_entry, stales_of, text_of, texts_of}
use Rattle.lr_fair.specs.Step.{IsReady}
use Rattle.lr_fair.proofs.QueueLaws.{HaveOwners, in_order-last, in_order-later, in_order-without, items-without, places-filter, places-last, places-later, score_of-in_order, stale_in, texts-last, texts-later, texts-length}

-- ---- entries

-- what is absent has nothing in it
pub items_in : (items : List (List ℕ)) → list_at (items_entry items) ≡ Ok items
items_in [] = refl
items_in (i ∷ is) = refl

pub members_in : (members : Scores) → zset_at (members_entry members) ≡ Ok members
members_in [] = refl
members_in (m ∷ ms) = refl

-- without an expiry they are live for ever
live-items : (moment : ℕ) (items : List (List ℕ))
    → live_entry moment (items_entry items) ≡ items_entry items
live-items moment [] = refl
live-items moment (i ∷ is) = refl

live-members : (moment : ℕ) (members : Scores)
    → live_entry moment (members_entry members) ≡ members_entry members
live-members moment [] = refl
live-members moment (m ∷ ms) = refl

-- an item is put last, or is the first
item-written : (item : List ℕ) (items : List (List ℕ))
    → Some (entry_with_item item (items_entry items)) ≡ items_entry (items ++ item ∷ [])
item-written item [] = refl
item-written item (i ∷ is) = refl

-- an item goes, and with the last one the key
item-removed : (item : List ℕ) (items : List (List ℕ))
    → entry_without_item item (items_entry items) ≡ items_entry (without_item item items)
item-removed item [] = refl
item-removed item (i ∷ is) = refl

-- what was prepared for another key stays
pub plan-other : (old new : Keys) (was_there : Bool) (key q : List ℕ) (kind : ValueKind)
    (member : List ℕ) → UsesPlan old new was_there key kind member → key ≢ q
    → plan_at new q ≡ plan_at old q
plan-other old new was_there key q kind member uses apart =
    ap (λ (f : List ℕ → Option Plan). f q) uses
    ∙ by was_there (is_plan_for kind member (plan_at old key))
  where
    by : (was gone : Bool)
        → (if was then plan_at old else without_key_if gone key (plan_at old)) q ≡ plan_at old q
    by true gone = refl
    by false true = with_key-other key None (plan_at old) q apart
    by false false = refl

-- a removal of an item leaves another key
pub items-other : (old new : Keys) (key q : List ℕ) → key ≢ q → (item : List ℕ)
    (lrem : Result ℕ KeyFault)
    → IfOk lrem (λ n. 0 < n → ChangesEntry old new key (entry_without_item item))
    → IfOk lrem (λ n. n ≡ 0 → new ≡ old) → OnErr lrem (new ≡ old)
    → entry_at new q ≡ entry_at old q
items-other old new key q apart item (Ok zero) goes stays refused =
    ap (λ (k : Keys). entry_at k q) (stays refl)
items-other old new key q apart item (Ok (suc n)) goes stays refused =
    changed-other old new key q (entry_without_item item) (goes (omega arith)) apart
items-other old new key q apart item (Err fault) goes stays refused =
    ap (λ (k : Keys). entry_at k q) refused

-- a queue is there later as it was
pub queue-later : (moment : ℕ) (items stales new_items new_stales : Option KeyEntry)
    (queue : List FairPlace) → new_items ≡ live_entry moment items
    → new_stales ≡ live_entry moment stales → IsQueueAt items stales queue
    → IsQueueAt new_items new_stales queue
queue-later moment items stales new_items new_stales queue first second at = record {
  items_are = first ∙ ap (live_entry moment) at.items_are ∙ live-items moment (texts_of queue);
  stales_are =
      second ∙ ap (live_entry moment) at.stales_are
      ∙ live-members moment (sorted (stales_of queue));
  are = at.are;
}

pub queue-same : (items stales new_items new_stales : Option KeyEntry) (queue : List FairPlace)
    → new_items ≡ items → new_stales ≡ stales → IsQueueAt items stales queue
    → IsQueueAt new_items new_stales queue
queue-same items stales new_items new_stales queue first second at = record {
  items_are = first ∙ at.items_are;
  stales_are = second ∙ at.stales_are;
  are = at.are;
}

-- ---- looks

-- the text of the first place
abbrev pub first_text : List FairPlace → Option (List ℕ)
first_text [] = None
first_text (place ∷ rest) = Some (text_of place)

pub first-none : (queue : List FairPlace) → first_text queue ≡ None → None ≡ first_owner queue
first-none [] none = refl
first-none (x ∷ xs) none = absurd (none_some (text_of x) none)

pub first-parsed : (queue : List FairPlace) → HaveOwners queue → (text : List ℕ)
    → first_text queue ≡ Some text → (owner : ThreadOfClient) → IsOwner owner
    → text ≡ owner_text owner → Some owner ≡ first_owner queue
first-parsed [] owners text first owner in_owner is = absurd (none_some text (sym first))
first-parsed (x ∷ xs) owners text first owner in_owner is =
    ap (λ o. Some o) (owner_text-injective owner x.owner in_owner owners.0
    (sym is ∙ sym (some_one (text_of x) text first)))

pub first-unparsed : (queue : List FairPlace) → HaveOwners queue → (text : List ℕ)
    → first_text queue ≡ Some text
    → ((owner : ThreadOfClient) → IsOwner owner → text ≢ owner_text owner) → ⊥
first-unparsed [] owners text first none = none_some text (sym first)
first-unparsed (x ∷ xs) owners text first none =
    none x.owner owners.0 (sym (some_one (text_of x) text first))

module _ (items stales : Option KeyEntry) (queue : List FairPlace)
    (at : IsQueueAt items stales queue) where
  -- what a look at either key sees
  pub members-seen : {X : Type 0} (look : Scores → X)
      → seen look (zset_at stales) ≡ Ok (look (sorted (stales_of queue)))
  members-seen look =
      ap (seen look) (ap zset_at at.stales_are ∙ members_in (sorted (stales_of queue)))

  pub items-seen : {X : Type 0} (look : List (List ℕ) → X)
      → seen look (list_at items) ≡ Ok (look (texts_of queue))
  items-seen look = ap (seen look) (ap list_at at.items_are ∙ items_in (texts_of queue))

  pub length-seen : result_unwrap_or (seen length (list_at items)) 0 ≡ length queue
  length-seen = ap (λ r. result_unwrap_or r 0) (items-seen length) ∙ texts-length queue

  pub first-seen : result_unwrap_or (seen (item_at (pos 0)) (list_at items)) None
      ≡ first_text queue
  first-seen = ap (λ r. result_unwrap_or r None) (items-seen (item_at (pos 0))) ∙ by queue
    where
      by : (xs : List FairPlace) → item_at (pos 0) (texts_of xs) ≡ first_text xs
      by [] = refl
      by (x ∷ xs) = refl

  pub first-member : result_unwrap_or (seen (item_at (pos 0)) (zset_at stales)) None
      ≡ item_at (pos 0) (sorted (stales_of queue))
  first-member = ap (λ r. result_unwrap_or r None) (members-seen (item_at (pos 0)))

  module _ (owner : ThreadOfClient) (in_owner : IsOwner owner) (text : List ℕ)
      (is : text ≡ owner_text owner) where
    pub score_is : score_of text (sorted (stales_of queue))
        ≡ option_map stale_in (place_of owner queue)
    score_is =
        ap (λ t. score_of t (sorted (stales_of queue))) is
        ∙ score_of-in_order owner in_owner queue at.are

    pub stale-seen : score_at text stales ≡ Ok (option_map stale_in (place_of owner queue))
    stale-seen = members-seen (score_of text) ∙ ap (λ o. Ok o) score_is

-- ---- changes

module _ (keys : Keys) (items stales : List ℕ) (apart : items ≢ stales) (queue : List FairPlace)
    (at : IsQueueAt (entry_at keys items) (entry_at keys stales) queue) (owner : ThreadOfClient)
    (in_owner : IsOwner owner) (text : List ℕ) (is : text ≡ owner_text owner) where
  abbrev members : Scores
  members = sorted (stales_of queue)

  -- a place is added
  pub added : (none : place_of owner queue ≡ None) → length queue < member_limit
      → IsReady keys items stales (owner_text owner) → (stale : ℕ) (middle new : Keys)
      → (pushed : Result ℕ KeyFault)
      → Answers (λ (n : ℕ). n) pushed (length_after_push (list_at (entry_at keys items)))
      → (IsPrepared keys items ListKind text → pushed ≢ Err NoMemory)
      → OnOk pushed (WritesItem keys middle items text)
      → OnOk pushed (UsesPlan keys middle false items ListKind text)
      → (scored : Result Bool KeyFault)
      → Answers (λ (b : Bool). b) scored (is_new_member text (zset_at (entry_at middle stales)))
      → (IsPrepared middle stales Zset text → scored ≢ Err NoMemory)
      → OnOk scored (WritesMember middle new stales text stale)
      → IsQueueAt (entry_at new items) (entry_at new stales) (with_last_place owner stale queue)
  added none room ready stale middle new pushed push_answers push_memory push_writes push_uses
      scored score_answers score_memory score_writes =
      let few : nat_lt (length (texts_of queue)) member_limit ≡ true =
      ap (λ n. nat_lt n member_limit) (texts-length queue) ∙ grind (arith, room, nat_tests) in
      let few_members : nat_lt (length members) member_limit ≡ true =
      ap (λ n. nat_lt n member_limit) (members-length queue) ∙ grind (arith, room, nat_tests) in
      let push_answer : length_after_push (list_at (entry_at keys items))
      ≡ Ok (length (texts_of queue) + 1) =
      ap length_after_push (ap list_at at.items_are ∙ items_in (texts_of queue))
      ∙ ap (λ b. if b then Ok (length (texts_of queue) + 1) else Err TooMany) few in
      let one = succeeds (λ (n : ℕ). n) pushed
      (length_after_push (list_at (entry_at keys items))) (length (texts_of queue) + 1) push_answers
      push_answer (push_memory (subst (IsPrepared keys items ListKind) (sym is) ready.queue_ready)) in
      let writes : WritesItem keys middle items text =
      if_ok (λ n. WritesItem keys middle items text) pushed one.0 one.1 push_writes in
      let uses : UsesPlan keys middle false items ListKind text =
      if_ok (λ n. UsesPlan keys middle false items ListKind text) pushed one.0 one.1 push_uses in
      let push : Option KeyEntry → Option KeyEntry = λ e. Some (entry_with_item text e) in
      let stays : entry_at middle stales ≡ entry_at keys stales =
      changed-other keys middle items stales push writes apart in
      let score : score_of text members ≡ None =
      score_is (entry_at keys items) (entry_at keys stales) queue at owner in_owner text is
      ∙ ap (option_map stale_in) none in
      let score_answer : is_new_member text (zset_at (entry_at middle stales)) ≡ Ok true =
      ap (is_new_member text) (ap zset_at stays ∙ ap zset_at at.stales_are ∙ members_in members)
      ∙ (λ i. is_new_score (few_members i) (score i)) in
      let planned : IsPrepared middle stales Zset text =
      plan-other keys middle false items stales ListKind text uses apart
      ∙ subst (IsPrepared keys stales Zset) (sym is) ready.stales_ready in
      let two = succeeds (λ (b : Bool). b) scored
      (is_new_member text (zset_at (entry_at middle stales))) true score_answers score_answer
      (score_memory planned) in
      let writes_score : WritesMember middle new stales text stale =
      if_ok (λ b. WritesMember middle new stales text stale) scored two.0 two.1 score_writes in
      let put : Option KeyEntry → Option KeyEntry = λ e. Some (entry_with_member text stale e) in
      record {
        items_are =
            changed-other middle new stales items put writes_score (λ e. apart (sym e))
            ∙ changed-here keys middle items push writes ∙ ap push at.items_are
            ∙ ap (λ t. Some (entry_with_item t (items_entry (texts_of queue)))) is
            ∙ item-written (owner_text owner) (texts_of queue)
            ∙ ap items_entry (sym (texts-last owner stale queue));
        stales_are =
            changed-here middle new stales put writes_score ∙ ap put (stays ∙ at.stales_are)
            ∙ ap (λ t. Some (entry_with_member t stale (members_entry members))) is
            ∙ member-written (owner_text owner) stale members
            ∙ ap members_entry (sym (in_order-last owner in_owner queue at.are stale none room));
        are =
            places-last owner in_owner stale queue at.are
            (find-none (is_place_of owner) queue none) room;
      }
    where
      members-length : (xs : List FairPlace) → length (sorted (stales_of xs)) ≡ length xs
      members-length xs = length-sorted (stales_of xs) ∙ by xs
        where
          by : (ys : List FairPlace) → length (stales_of ys) ≡ length ys
          by [] = refl
          by (y ∷ ys) = ap (λ n. suc n) (by ys)

  -- a place is kept
  pub kept : (place : FairPlace) → place_of owner queue ≡ Some place → (stale score : ℕ)
      → score ≡ max place.stale stale → (new : Keys) (scored : Result Bool KeyFault)
      → Answers (λ (b : Bool). b) scored (is_new_member text (zset_at (entry_at keys stales)))
      → (IsTrue (has_member keys stales text) → scored ≢ Err NoMemory)
      → OnOk scored (WritesMember keys new stales text score)
      → IsQueueAt (entry_at new items) (entry_at new stales) (with_later_place owner stale queue)
  kept place found stale score late new scored answers memory written =
      let there : score_of text members ≡ Some place.stale =
      score_is (entry_at keys items) (entry_at keys stales) queue at owner in_owner text is
      ∙ ap (option_map stale_in) found in
      let answer : is_new_member text (zset_at (entry_at keys stales)) ≡ Ok false =
      ap (is_new_member text) (ap zset_at at.stales_are ∙ members_in members)
      ∙ ap (is_new_score (nat_lt (length members) member_limit)) there in
      let has : IsTrue (has_member keys stales text) =
      subst IsTrue (sym (ap is_there
      (stale-seen (entry_at keys items) (entry_at keys stales) queue at owner in_owner text is
      ∙ ap (λ o. Ok (option_map stale_in o)) found))) refl in
      let ok = succeeds (λ (b : Bool). b) scored
      (is_new_member text (zset_at (entry_at keys stales))) false answers answer (memory has) in
      let writes : WritesMember keys new stales text score =
      if_ok (λ b. WritesMember keys new stales text score) scored ok.0 ok.1 written in
      let put : Option KeyEntry → Option KeyEntry = λ e. Some (entry_with_member text score e) in
      record {
        items_are =
            changed-other keys new stales items put writes (λ e. apart (sym e)) ∙ at.items_are
            ∙ ap items_entry (sym (texts-later owner stale queue));
        stales_are =
            changed-here keys new stales put writes ∙ ap put at.stales_are
            ∙ (λ i. Some (entry_with_member (is i) (late i) (members_entry members)))
            ∙ member-written (owner_text owner) (max place.stale stale) members
            ∙ ap members_entry (sym (in_order-later owner in_owner queue at.are stale place found));
        are = places-later owner stale queue at.are;
      }

  -- a place goes
  pub removed : (middle new : Keys) (zrem : Result Bool KeyFault) (lrem : Result ℕ KeyFault)
      → zrem ≡ found_in (score_at text (entry_at keys stales))
      → (zrem ≡ Ok true → ChangesEntry keys middle stales (entry_without_member text))
      → (zrem ≢ Ok true → middle ≡ keys)
      → lrem ≡ times_at text (entry_at middle items)
      → IfOk lrem (λ n. 0 < n → ChangesEntry middle new items (entry_without_item text))
      → IfOk lrem (λ n. n ≡ 0 → new ≡ middle)
      → IsQueueAt (entry_at new items) (entry_at new stales) (without_place owner queue)
  removed middle new zrem lrem score_answer score_goes score_stays item_answer item_goes item_stays =
      let score = by_place (place_of owner queue)
      (score_is (entry_at keys items) (entry_at keys stales) queue at owner in_owner text is)
      (score_answer ∙ ap found_in
      (stale-seen (entry_at keys items) (entry_at keys stales) queue at owner in_owner text is)) in
      let there : lrem ≡ Ok (times text (texts_of queue)) =
      item_answer ∙ ap (seen (times text)) (ap list_at (score.1 ∙ at.items_are)
      ∙ items_in (texts_of queue)) in
      let item = by_times (times text (texts_of queue)) refl
      (if_ok (λ n. 0 < n → ChangesEntry middle new items (entry_without_item text)) lrem
      (times text (texts_of queue)) there item_goes)
      (if_ok (λ n. n ≡ 0 → new ≡ middle) lrem (times text (texts_of queue)) there item_stays)
      (score.1 ∙ at.items_are) in
      record {
        items_are =
            item.0 ∙ ap (λ t. items_entry (without_item t (texts_of queue))) is
            ∙ ap items_entry (items-without owner in_owner queue at.are.owners);
        stales_are =
            item.1 ∙ score.0 ∙ ap (λ t. members_entry (without_member t members)) is
            ∙ ap members_entry (sym (in_order-without owner in_owner queue at.are));
        are = places-filter _ queue at.are;
      }
    where
      by_place : (own : Option FairPlace) → score_of text members ≡ option_map stale_in own
          → zrem ≡ found_in (Ok (option_map stale_in own))
          → (entry_at middle stales ≡ members_entry (without_member text members))
          × (entry_at middle items ≡ entry_at keys items)
      by_place (Some place) score found = (
        changed-here keys middle stales (entry_without_member text) (score_goes found)
            ∙ ap (entry_without_member text) at.stales_are
            ∙ member-removed text members,
        changed-other keys middle stales items (entry_without_member text) (score_goes found)
            (λ e. apart (sym e)),
      )
      by_place None score found =
          let same = score_stays (λ e. ok_apart (sym found ∙ e)) in (
            ap (λ (k : Keys). entry_at k stales) same ∙ at.stales_are
                ∙ ap members_entry (sym (without_member-absent text members score)),
            ap (λ (k : Keys). entry_at k items) same,
          )
        where
          ok_apart : ◌≡◌ {A = Result Bool KeyFault} (Ok false) (Ok true) → ⊥
          ok_apart e = cc

      by_times : (n : ℕ) → times text (texts_of queue) ≡ n
          → (0 < n → ChangesEntry middle new items (entry_without_item text))
          → (n ≡ 0 → new ≡ middle) → entry_at middle items ≡ items_entry (texts_of queue)
          → (entry_at new items ≡ items_entry (without_item text (texts_of queue)))
          × (entry_at new stales ≡ entry_at middle stales)
      by_times zero none goes stays stands =
          let same = stays refl in (
            ap (λ (k : Keys). entry_at k items) same ∙ stands
                ∙ ap items_entry (sym (without_item-absent text (texts_of queue) none)),
            ap (λ (k : Keys). entry_at k stales) same,
          )
      by_times (suc n) some goes stays stands =
          let changes = goes (omega arith) in (
            changed-here middle new items (entry_without_item text) changes
                ∙ ap (entry_without_item text) stands ∙ item-removed text (texts_of queue),
            changed-other middle new items stales (entry_without_item text) changes apart,
          )
