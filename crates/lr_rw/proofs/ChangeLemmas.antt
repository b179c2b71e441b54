-- What the calls of a key space make of the two keys of a lock.
use Rattle.std.proofs.Common.{◌≡◌, ◌≢◌, ◌≤◌, ◌<◌, ℕ, suc, ℤ, pos, negsuc, ◌+ℤ◌, Bool, true, false, List, [], ◌∷◌, length, nat_lt, Option, Some, None, option_map, IsTrue, Result, Ok, Err, IfOk, OnOk, if◌then◌else◌, refl, sym, ap, ◌∙◌, subst, arith}
use Rattle.std.specs.Option.{ok_or}
use Rattle.std.specs.Result.{result_unwrap_or}
use Rattle.std.specs.Str.{bytes_eq}
use Rattle.std.proofs.lemmas.Bool.{cond_both}
use Rattle.std.proofs.lemmas.Bool.Decides.{nat_tests}
use Rattle.std.proofs.lemmas.Int.{ints}
use Rattle.lr_limits.specs.Limits.{hold_limit, member_limit}
use Rattle.lr_names.specs.Owner.{ThreadOfClient, IsOwner}
use Rattle.lr_objects.specs.declared.access.Access.{Access}
use Rattle.lr_lists.specs.Places.{item_at}
use Rattle.lr_sorted.specs.Members.{Scored, Members as Scores, score_of}
use Rattle.lr_sorted.proofs.SortedLaws.{length-sorted}
use Rattle.lr_keys.specs.declared.fault.KeyFault.{KeyFault}
use Rattle.lr_keys.specs.declared.fault.KeyFault.TheVariants.{Overflow, TooMany, NoMemory}
use Rattle.lr_keys.specs.declared.value_kind.ValueKind.{ValueKind}
use Rattle.lr_keys.specs.declared.value_kind.ValueKind.TheVariants.{Hash, Zset}
use Rattle.lr_keys.specs.FieldMap.{Pairs, field_value, with_field, without_field, sum_of, is_i64}
use Rattle.lr_keys.specs.KeySpace.{Answers, ChangesEntry, is_plan_for, number_after_increment, Fields, Members, KeyEntry, Keys, Plan, IsPrepared, UsesPlan, WritesField, WritesMember, entry_at, plan_at, entry_with_value, entry_with_field, entry_with_member, entry_without_field, entry_without_member, field_at, field_after_increment, found_in, has_field, has_member, hash_at, is_new_member, is_new_score, is_there, score_at, seen, zset_at}
use Rattle.lr_keys.specs.Table.{without_key_if}
use Rattle.lr_keys.proofs.SortedKeyLaws.{changed-here, changed-other, if_ok, member-removed, member-written, succeeds}
use Rattle.lr_keys.proofs.TableLaws.{with_key-other}
use Rattle.lr_model.specs.declared.read_write_hold.ReadWriteHold.{ReadWriteHold}
use Rattle.lr_model.specs.ReadWrite.{ReadWriteLock, hold_of, with_hold, without_hold, last_deadline}
use Rattle.lr_model.specs.ReadWriteHolds.{IsReadWriteLock}
use Rattle.lr_model.proofs.ReadWriteFacts.{none_some}
use Rattle.lr_model.proofs.ReadWriteLaws.{lock-without}
use Rattle.lr_rw.specs.Holds.{HasHolds, IsLockAt, member_text, member_of, with_values, counts_of, counts_entry, deadlines_of, deadlines_entry}
use Rattle.lr_rw.specs.Step.{IsPut, count_if, last_deadline_if}
use Rattle.lr_rw.proofs.DeadlineLaws.{deadline_in, score_of-hold, deadlines-with, deadlines-without}
use Rattle.lr_rw.proofs.EndLaws.{last-hold, no-last}
use Rattle.lr_rw.proofs.LookLemmas.{field_at-hold, members_in, score_at-hold}
use Rattle.lr_rw.proofs.ValueLaws.{lookup-hold, insert-hold, remove-hold}

-- ---- looks

module _ (keys : Keys) (counts deadlines : List ℕ) (lock : ReadWriteLock)
    (at : IsLockAt keys counts deadlines lock) where
  -- what a look at the sorted set sees
  pub looks : {X : Type 0} (look : Scores → X)
      → seen look (zset_at (entry_at keys deadlines)) ≡ Ok (look (deadlines_of lock))
  looks look = ap (seen look) (ap zset_at at.has.deadlines_are ∙ members_in (deadlines_of lock))

  pub last-some : (e : Scored)
      → result_unwrap_or (seen (item_at (negsuc 0)) (zset_at (entry_at keys deadlines))) None ≡ Some e
      → Some e.1 ≡ last_deadline_if lock
  last-some e found =
      by lock (last-hold lock at.is e place) place
    where
      place : item_at (negsuc 0) (deadlines_of lock) ≡ Some e
      place = sym (ap (λ r. result_unwrap_or r None) (looks (item_at (negsuc 0)))) ∙ found

      by : (xs : ReadWriteLock) → e.1 ≡ last_deadline xs
          → item_at (negsuc 0) (deadlines_of xs) ≡ Some e → Some e.1 ≡ last_deadline_if xs
      by [] same place = absurd (none_some e (sym place))
      by (x ∷ xs) same place = ap (λ d. Some d) same

  pub last-none : result_unwrap_or (seen (item_at (negsuc 0)) (zset_at (entry_at keys deadlines)))
      None ≡ None → None ≡ last_deadline_if lock
  last-none none =
      ap last_deadline_if (sym (no-last lock at.is
      (sym (ap (λ r. result_unwrap_or r None) (looks (item_at (negsuc 0)))) ∙ none)))

  -- how many there are
  length-values : {V : Type 0} (value : ReadWriteHold → V) (xs : ReadWriteLock)
      → length (with_values value xs) ≡ length xs
  length-values value [] = refl
  length-values value (x ∷ xs) = ap (λ n. suc n) (length-values value xs)

  pub length-seen : result_unwrap_or (seen length (zset_at (entry_at keys deadlines))) 0 ≡ length lock
  length-seen =
      ap (λ r. result_unwrap_or r 0) (looks length)
      ∙ length-sorted (with_values deadline_in lock) ∙ length-values deadline_in lock

-- ---- entries

-- the fields of a hash, none where it is absent
fields_in : (pairs : Pairs) → hash_at (entry_with_value (Fields pairs) None) ≡ Ok pairs
fields_in [] = refl
fields_in (p ∷ ps) = refl

-- a field is written, or is the first
field-written : (field : List ℕ) (number : ℤ) (pairs : Pairs)
    → Some (entry_with_field field number (entry_with_value (Fields pairs) None))
    ≡ entry_with_value (Fields (with_field field number pairs)) None
field-written field number [] = refl
field-written field number (p ∷ ps) =
    cond_both (bytes_eq field p.0) ((p.0, number) ∷ ps) (p ∷ with_field field number ps)
    (λ l. Some (record { value = Fields l; expiry = None }) ≡ entry_with_value (Fields l) None)
    (λ here. refl) (λ there. refl)

-- a field goes, and with the last one the key
field-removed : (field : List ℕ) (pairs : Pairs)
    → entry_without_field field (entry_with_value (Fields pairs) None)
    ≡ entry_with_value (Fields (without_field field pairs)) None
field-removed field [] = refl
field-removed field (p ∷ ps) = refl

-- ---- one key changes, and not another

plan-other : (old new : Keys) (was_there : Bool) (key q : List ℕ) (kind : ValueKind)
    (member : List ℕ) → UsesPlan old new was_there key kind member → key ≢ q
    → plan_at new q ≡ plan_at old q
plan-other old new was_there key q kind member uses apart =
    ap (λ (f : List ℕ → Option Plan). f q) uses
    ∙ by was_there (is_plan_for kind member (plan_at old key))
  where
    by : (was gone : Bool)
        → (if was then plan_at old else without_key_if gone key (plan_at old)) q ≡ plan_at old q
    by true gone = refl
    by false true = with_key-other key None (plan_at old) q apart
    by false false = refl

-- ---- a hold is put

module _ (keys : Keys) (counts deadlines : List ℕ) (apart : counts ≢ deadlines)
    (lock : ReadWriteLock) (at : IsLockAt keys counts deadlines lock) (hold : ReadWriteHold)
    (more : IsReadWriteLock (with_hold hold lock)) (member : List ℕ) (by : ℤ) (deadline : ℕ)
    (put : IsPut keys counts deadlines lock hold member by deadline) where
  abbrev own : Option ReadWriteHold
  own = hold_of hold.owner hold.access lock

  -- the count that the call gives
  sum-there : (number : ℤ) → number +ℤ by ≡ pos hold.count
      → ok_or (sum_of number by) Overflow ≡ Ok (pos hold.count)
  sum-there number is =
      ap (λ z. ok_or (if is_i64 z then Some z else None) Overflow) is
      ∙ ap (λ b. ok_or (if b then Some (pos hold.count) else None) Overflow)
      (fits hold.count put.fits)
    where
      fits : (count : ℕ) → count ≤ hold_limit → is_i64 (pos count) ≡ true
      fits count few = grind (arith, ints)

  sum-new : length lock < member_limit → pos 0 +ℤ by ≡ pos hold.count
      → (if nat_lt (length (counts_of lock)) member_limit then Ok by else Err TooMany)
      ≡ Ok (pos hold.count)
  sum-new room is =
      let few : nat_lt (length (counts_of lock)) member_limit ≡ true =
      ap (λ n. nat_lt n member_limit)
      (length-values keys counts deadlines lock at (λ h. pos h.count) lock)
      ∙ grind (arith, room, nat_tests) in
      let one : by ≡ pos hold.count = omega (arith, ints, is) in
      ap (λ b. if b then Ok by else Err TooMany) few ∙ ap (λ z. Ok z) one

  count-answer : field_after_increment member by (hash_at (entry_at keys counts))
      ≡ Ok (pos hold.count)
  count-answer =
      ap (λ e. field_after_increment member by (hash_at e)) at.has.counts_are
      ∙ ap (field_after_increment member by) (fields_in (counts_of lock))
      ∙ ap (number_after_increment by (nat_lt (length (counts_of lock)) member_limit))
      (ap (λ t. field_value t (counts_of lock)) put.text
      ∙ lookup-hold (λ h. pos h.count) hold.owner hold.access put.owner lock at.is.each)
      ∙ by_own own refl put.count
    where
      by_own : (o : Option ReadWriteHold) → own ≡ o → pos (count_if o) +ℤ by ≡ pos hold.count
          → number_after_increment by (nat_lt (length (counts_of lock)) member_limit)
          (option_map (λ (h : ReadWriteHold). pos h.count) o) ≡ Ok (pos hold.count)
      by_own (Some o) found count = sum-there (pos o.count) count
      by_own None none count = sum-new (put.room none) count

  -- there is memory for it, or none is needed
  count-memory : (result : Result ℤ KeyFault)
      → (IsTrue (has_field keys counts member) → result ≢ Err NoMemory)
      → (IsPrepared keys counts Hash member → result ≢ Err NoMemory) → result ≢ Err NoMemory
  count-memory result there prepared = by_own own refl
    where
      seen_field : field_at member (entry_at keys counts)
          ≡ Ok (option_map (λ (h : ReadWriteHold). pos h.count) own)
      seen_field =
          ap (λ t. field_at t (entry_at keys counts)) put.text
          ∙ field_at-hold keys counts deadlines lock at hold.owner hold.access put.owner

      by_own : (o : Option ReadWriteHold) → own ≡ o → result ≢ Err NoMemory
      by_own (Some o) found =
          there (subst IsTrue (sym (ap is_there (seen_field
          ∙ ap (λ x. Ok (option_map (λ (h : ReadWriteHold). pos h.count) x)) found))) refl)
      by_own None none = prepared (put.ready none).counts_ready

  -- so the hash has it, and nothing else of the keys changes
  pub counted : (middle : Keys) (result : Result ℤ KeyFault)
      → Answers (λ (n : ℤ). n) result (field_after_increment member by (hash_at (entry_at keys counts)))
      → (IsTrue (has_field keys counts member) → result ≢ Err NoMemory)
      → (IsPrepared keys counts Hash member → result ≢ Err NoMemory)
      → IfOk result (λ n. WritesField keys middle counts member n)
      → OnOk result (UsesPlan keys middle (has_field keys counts member) counts Hash member)
      → (entry_at middle counts ≡ counts_entry (with_hold hold lock))
      × (entry_at middle deadlines ≡ entry_at keys deadlines)
      × (plan_at middle deadlines ≡ plan_at keys deadlines)
  counted middle result answers there prepared written plans =
      let ok = succeeds (λ (n : ℤ). n) result
      (field_after_increment member by (hash_at (entry_at keys counts))) (pos hold.count) answers
      count-answer (count-memory result there prepared) in
      let writes : WritesField keys middle counts member ok.0 =
      if_ok (λ n. WritesField keys middle counts member n) result ok.0 ok.1 written in
      let uses : UsesPlan keys middle (has_field keys counts member) counts Hash member =
      if_ok (λ n. UsesPlan keys middle (has_field keys counts member) counts Hash member) result ok.0
      ok.1 plans in
      let change : Option KeyEntry → Option KeyEntry =
      λ e. Some (entry_with_field member ok.0 e) in (
        changed-here keys middle counts change writes
            ∙ ap change at.has.counts_are
            ∙ (λ i. Some (entry_with_field (put.text i) (ok.2 i) (counts_entry lock)))
            ∙ field-written (member_of hold) (pos hold.count) (counts_of lock)
            ∙ ap (λ ps. entry_with_value (Fields ps) None)
            (insert-hold (λ h. pos h.count) hold put.owner lock at.is.each),
        changed-other keys middle counts deadlines change writes apart,
        plan-other keys middle (has_field keys counts member) counts deadlines Hash member uses apart,
      )

  module _ (middle : Keys) (same : entry_at middle deadlines ≡ entry_at keys deadlines)
      (plan : plan_at middle deadlines ≡ plan_at keys deadlines) where
    seen_score : score_at member (entry_at middle deadlines) ≡ Ok (option_map deadline_in own)
    seen_score =
        ap (score_at member) same ∙ ap (λ t. score_at t (entry_at keys deadlines)) put.text
        ∙ score_at-hold keys counts deadlines lock at hold.owner hold.access put.owner

    members_seen : zset_at (entry_at middle deadlines) ≡ Ok (deadlines_of lock)
    members_seen =
        ap zset_at same ∙ ap zset_at at.has.deadlines_are ∙ members_in (deadlines_of lock)

    score_is : score_of member (deadlines_of lock) ≡ option_map deadline_in own
    score_is =
        ap (λ t. score_of t (deadlines_of lock)) put.text
        ∙ score_of-hold lock at.is hold.owner hold.access put.owner

    -- the call tells whether the hold is new
    score-answer : (new : Bool)
        × (is_new_member member (zset_at (entry_at middle deadlines)) ≡ Ok new)
    score-answer = by_own own refl
      where
        few : length lock < member_limit → nat_lt (length (deadlines_of lock)) member_limit ≡ true
        few room =
            ap (λ n. nat_lt n member_limit) (length-sorted (with_values deadline_in lock)
            ∙ length-values keys counts deadlines lock at deadline_in lock)
            ∙ grind (arith, room, nat_tests)

        asked : (o : Option ReadWriteHold) → own ≡ o
            → is_new_member member (zset_at (entry_at middle deadlines))
            ≡ is_new_score (nat_lt (length (deadlines_of lock)) member_limit) (option_map deadline_in o)
        asked o found =
            ap (is_new_member member) members_seen
            ∙ ap (is_new_score (nat_lt (length (deadlines_of lock)) member_limit))
            (score_is ∙ ap (option_map deadline_in) found)

        by_own : (o : Option ReadWriteHold) → own ≡ o → (new : Bool)
            × (is_new_member member (zset_at (entry_at middle deadlines)) ≡ Ok new)
        by_own (Some o) found = (false, asked (Some o) found)
        by_own None none =
            (true, asked None none ∙ ap (λ b. if b then Ok true else Err TooMany) (few (put.room none)))

    score-memory : (result : Result Bool KeyFault)
        → (IsTrue (has_member middle deadlines member) → result ≢ Err NoMemory)
        → (IsPrepared middle deadlines Zset member → result ≢ Err NoMemory) → result ≢ Err NoMemory
    score-memory result there prepared = by_own own refl
      where
        by_own : (o : Option ReadWriteHold) → own ≡ o → result ≢ Err NoMemory
        by_own (Some o) found =
            there (subst IsTrue (sym (ap is_there (seen_score
            ∙ ap (λ x. Ok (option_map deadline_in x)) found))) refl)
        by_own None none = prepared (plan ∙ (put.ready none).deadlines_ready)

    -- so the sorted set has it, and nothing else of the keys changes
    scored : (new : Keys) (result : Result Bool KeyFault)
        → Answers (λ (b : Bool). b) result (is_new_member member (zset_at (entry_at middle deadlines)))
        → (IsTrue (has_member middle deadlines member) → result ≢ Err NoMemory)
        → (IsPrepared middle deadlines Zset member → result ≢ Err NoMemory)
        → OnOk result (WritesMember middle new deadlines member deadline)
        → (entry_at new deadlines ≡ deadlines_entry (with_hold hold lock))
        × (entry_at new counts ≡ entry_at middle counts)
    scored new result answers there prepared written =
        let ok = succeeds (λ (b : Bool). b) result
        (is_new_member member (zset_at (entry_at middle deadlines))) score-answer.0 answers
        score-answer.1 (score-memory result there prepared) in
        let writes : WritesMember middle new deadlines member deadline =
        if_ok (λ b. WritesMember middle new deadlines member deadline) result ok.0 ok.1 written in
        let change : Option KeyEntry → Option KeyEntry =
        λ e. Some (entry_with_member member deadline e) in (
          changed-here middle new deadlines change writes
              ∙ ap change (same ∙ at.has.deadlines_are)
              ∙ (λ i. Some (entry_with_member (put.text i) (sym put.deadline_is i) (deadlines_entry lock)))
              ∙ member-written (member_of hold) hold.deadline (deadlines_of lock)
              ∙ ap (λ ms. entry_with_value (Members ms) None)
              (deadlines-with lock at.is hold put.owner more),
          changed-other middle new deadlines counts change writes (λ e. apart (sym e)),
        )

  -- so both keys have it
  pub has_put : (middle new : Keys)
      → (entry_at middle counts ≡ counts_entry (with_hold hold lock))
      × (entry_at middle deadlines ≡ entry_at keys deadlines)
      × (plan_at middle deadlines ≡ plan_at keys deadlines)
      → (result : Result Bool KeyFault)
      → Answers (λ (b : Bool). b) result (is_new_member member (zset_at (entry_at middle deadlines)))
      → (IsTrue (has_member middle deadlines member) → result ≢ Err NoMemory)
      → (IsPrepared middle deadlines Zset member → result ≢ Err NoMemory)
      → OnOk result (WritesMember middle new deadlines member deadline)
      → HasHolds new counts deadlines (with_hold hold lock)
  has_put middle new first result answers there prepared written =
      let second = scored middle first.1 first.2 new result answers there prepared written in
      record { counts_are = second.1 ∙ first.0; deadlines_are = second.0 }

-- ---- a hold is removed

-- the calls that remove leave all other keys
pub removed-other : (old new : Keys) (key q : List ℕ) (change : Option KeyEntry → Option KeyEntry)
    (result : Result Bool KeyFault) → (result ≡ Ok true → ChangesEntry old new key change)
    → (result ≢ Ok true → new ≡ old) → key ≢ q → entry_at new q ≡ entry_at old q
removed-other old new key q change (Ok true) removed absent apart =
    changed-other old new key q change (removed refl) apart
removed-other old new key q change (Ok false) removed absent apart =
    ap (λ (k : Keys). entry_at k q) (absent (λ e. cc))
removed-other old new key q change (Err fault) removed absent apart =
    ap (λ (k : Keys). entry_at k q) (absent (λ e. cc))

module _ (keys middle new : Keys) (counts deadlines : List ℕ) (apart : counts ≢ deadlines)
    (lock : ReadWriteLock) (at : IsLockAt keys counts deadlines lock) (owner : ThreadOfClient)
    (access : Access) (hold : ReadWriteHold) (in_owner : IsOwner owner) (member : List ℕ)
    (text : member ≡ member_text access owner) (found : hold_of owner access lock ≡ Some hold)
  where
    pub removed : (zrem hdel : Result Bool KeyFault)
        → zrem ≡ found_in (score_at member (entry_at keys deadlines))
        → (zrem ≡ Ok true → ChangesEntry keys middle deadlines (entry_without_member member))
        → (zrem ≢ Ok true → middle ≡ keys)
        → hdel ≡ found_in (field_at member (entry_at middle counts))
        → (hdel ≡ Ok true → ChangesEntry middle new counts (entry_without_field member))
        → (hdel ≢ Ok true → new ≡ middle)
        → IsLockAt new counts deadlines (without_hold owner access lock)
    removed zrem hdel answer changed same answer2 changed2 same2 =
        let left = lock-without owner access lock at.is in
        let there : zrem ≡ Ok true =
        answer ∙ ap (λ t. found_in (score_at t (entry_at keys deadlines))) text
        ∙ ap found_in (score_at-hold keys counts deadlines lock at owner access in_owner)
        ∙ ap (λ o. found_in (Ok (option_map deadline_in o))) found in
        let counts_stay : entry_at middle counts ≡ entry_at keys counts =
        changed-other keys middle deadlines counts (entry_without_member member) (changed there)
        (λ e. apart (sym e)) in
        let there2 : hdel ≡ Ok true =
        answer2 ∙ ap (λ e. found_in (field_at member e)) counts_stay
        ∙ ap (λ t. found_in (field_at t (entry_at keys counts))) text
        ∙ ap found_in (field_at-hold keys counts deadlines lock at owner access in_owner)
        ∙ ap (λ o. found_in (Ok (option_map (λ (h : ReadWriteHold). pos h.count) o))) found in
        record {
          has = record {
            counts_are =
                changed-here middle new counts (entry_without_field member) (changed2 there2)
                ∙ ap (entry_without_field member) (counts_stay ∙ at.has.counts_are)
                ∙ ap (λ t. entry_without_field t (counts_entry lock)) text
                ∙ field-removed (member_text access owner) (counts_of lock)
                ∙ ap (λ ps. entry_with_value (Fields ps) None)
                (remove-hold (λ h. pos h.count) owner access in_owner lock at.is.each);
            deadlines_are =
                changed-other middle new counts deadlines (entry_without_field member)
                (changed2 there2) apart
                ∙ changed-here keys middle deadlines (entry_without_member member) (changed there)
                ∙ ap (entry_without_member member) at.has.deadlines_are
                ∙ ap (λ t. entry_without_member t (deadlines_entry lock)) text
                ∙ member-removed (member_text access owner) (deadlines_of lock)
                ∙ ap (λ ms. entry_with_value (Members ms) None)
                (deadlines-without lock at.is owner access in_owner left);
          };
          is = left;
        }
