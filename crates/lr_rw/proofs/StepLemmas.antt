-- The steps of the functions, by how often an owner holds the lock and by what the keys made of it.
use Rattle.std.proofs.Common.{◌≡◌, ◌≢◌, ◌≤◌, ◌<◌, ℕ, ℤ, pos, negsuc, ◌+ℤ◌, ◌+◌, ◌-◌, ◌==◌, nat_lt, nat_le, Bool, true, false, ◌&&◌, if◌then◌else◌, List, [], ◌∷◌, length, Option, Some, None, option_map, IsTrue, refl, sym, ap, ◌∙◌, subst, arith}
use Rattle.std.specs.Prelude.{slice_get}
use Rattle.std.specs.List.{AllByRecursion}
use Rattle.std.specs.Str.{bytes_eq}
use Rattle.std.proofs.lemmas.Bool.{and_parts, cond-true, cond-false, leb-true}
use Rattle.std.proofs.lemmas.Bool.Decides.{nat_tests}
use Rattle.std.proofs.lemmas.Int.{ints}
use Rattle.lr_limits.specs.Limits.{hold_limit, last_moment, longest_lease, member_limit, never}
use Rattle.lr_names.specs.Owner.{ThreadOfClient, IsOwner, same_owner}
use Rattle.lr_objects.specs.declared.access.Access.{Access}
use Rattle.lr_objects.specs.declared.access.Access.TheVariants.{Read, Write}
use Rattle.lr_objects.specs.declared.reply.Reply.{Reply}
use Rattle.lr_objects.specs.declared.reply.Reply.TheVariants.{Granted, Busy, Kept, Freed, NotHeld, Renewed, Lost, TooDeep, TooMany}
use Rattle.lr_sorted.specs.Members.{Scored}
use Rattle.lr_keys.specs.KeySpace.{Keys}
use Rattle.lr_model.specs.declared.read_write_hold.ReadWriteHold.{ReadWriteHold}
use Rattle.lr_model.specs.Moment.{is_lease}
use Rattle.lr_model.specs.Outcome.{silent_outcome}
use Rattle.lr_model.specs.ReadWrite.{ReadWriteLock, LockOutcome, holding_so, ended, is_hold_of, is_writer_beside, hold_of, writer_beside, with_hold, without_hold, last_deadline, first_hold, read_unhindered, read_beside, write_first, write_with, give_back_with, renew_with, read, write}
use Rattle.lr_model.specs.ReadWriteHolds.{IsReadWriteHold, IsReadWriteLock}
use Rattle.lr_model.proofs.ReadWriteFacts.{has_key, find-some, find-passes, some_one, none_some}
use Rattle.lr_model.proofs.ReadWriteLaws.{Joined, Changed, is_holding, IsCounted, found_own, joins_readers, lock-becomes}
use Rattle.lr_rw.specs.Holds.{HasHolds, IsLockAt, member_text, deadlines_of}
use Rattle.lr_rw.specs.Step.{AreLive, IsLockStep, IsPut, IsReady, MayJoin, count_if, hold_count, last_deadline_if, take_with, take_unhindered}
use Rattle.lr_rw.proofs.DeadlineLaws.{IsHoldIn}
use Rattle.lr_rw.proofs.EndLaws.{first-hold, no-first, writer-own, writer-other}
use Rattle.lr_rw.proofs.MemberLaws.{bytes_eq-member}

-- a choice of outcomes
module _ (new : Keys) (counts deadlines : List ℕ) (reply : Reply) (test : Bool)
    (first other : LockOutcome) where
  otherwise : test ≡ false → IsLockStep new counts deadlines reply other
      → IsLockStep new counts deadlines reply (if test then first else other)
  otherwise apart step =
      subst (IsLockStep new counts deadlines reply) (sym (cond-false test first other apart)) step

  chosen : test ≡ true → IsLockStep new counts deadlines reply first
      → IsLockStep new counts deadlines reply (if test then first else other)
  chosen so step =
      subst (IsLockStep new counts deadlines reply) (sym (cond-true test first other so)) step

-- ---- what is put

module _ (old new : Keys) (counts deadlines : List ℕ) (lock : ReadWriteLock)
    (at : IsLockAt old counts deadlines lock) (owner : ThreadOfClient) (access : Access)
    (in_owner : IsOwner owner) (member : List ℕ) (text : member ≡ member_text access owner)
    (by : ℤ) (deadline : ℕ) (early : deadline ≤ never)
    (puts : (hold : ReadWriteHold) → IsReadWriteLock (with_hold hold lock)
    → IsPut old counts deadlines lock hold member by deadline
    → HasHolds new counts deadlines (with_hold hold lock)) where
  -- the owner's hold is counted otherwise and lasts until another deadline
  changed : (reply : Reply) → is_holding reply ≡ true → (own : ReadWriteHold)
      → hold_of owner access lock ≡ Some own → (count : ℕ) → IsCounted own count
      → pos own.count +ℤ by ≡ pos count
      → IsLockAt new counts deadlines
      (with_hold (record own { count = count; deadline = deadline }) lock)
  changed reply holds own found count counted sum =
      let hold : ReadWriteHold = record own { count = count; deadline = deadline } in
      let was = find-some (is_hold_of owner access) IsReadWriteHold lock own found at.is.each in
      let key = has_key owner access own was.0 in
      let found_too = found_own owner access deadline lock own found in
      let now = counted was.1.some was.1.most in
      let more : IsReadWriteLock (with_hold hold lock) =
      lock-becomes owner access deadline lock reply (with_hold hold lock) in_owner early at.is
      (Changed reply holds own found count counted) in
      record {
        has = puts hold more (record {
          owner = was.1.owner;
          text = text ∙ (λ i. member_text (sym key.access_is i) (sym key.owner_is i));
          count = ap (λ o. pos (count_if o) +ℤ by) found_too ∙ sum;
          fits = now.1;
          deadline_is = refl;
          room = λ none. absurd (none_some own (sym found_too ∙ none));
          ready = λ none. absurd (none_some own (sym found_too ∙ none));
        });
        is = more;
      }

  -- the owner gets a first hold
  joined : by ≡ pos 1 → hold_of owner access lock ≡ None → MayJoin owner access deadline lock
      → IsReady old counts deadlines member
      → IsLockAt new counts deadlines (with_hold (first_hold owner access deadline) lock)
  joined one none may ready =
      let hold : ReadWriteHold = first_hold owner access deadline in
      let more : IsReadWriteLock (with_hold hold lock) =
      lock-becomes owner access deadline lock Granted (with_hold hold lock) in_owner early at.is
      (Joined may.beside may.room) in
      record {
        has = puts hold more (record {
          owner = in_owner;
          text = text;
          count = (λ i. pos (count_if (none i)) +ℤ one i);
          fits = omega arith;
          deadline_is = refl;
          room = λ free. may.room;
          ready = λ free. ready;
        });
        is = more;
      }

  -- taking
  pub granted_step : by ≡ pos 1 → hold_count owner access lock < hold_limit
      → (hold_of owner access lock ≡ None
      → MayJoin owner access deadline lock × IsReady old counts deadlines (member_text access owner))
      → IsLockStep new counts deadlines Granted (take_unhindered owner access deadline lock)
  granted_step one few may = go (hold_of owner access lock) refl
    where
      go : (own : Option ReadWriteHold) → hold_of owner access lock ≡ own
          → IsLockStep new counts deadlines Granted (take_with owner access deadline lock own)
      go None none =
          let joins = may none in
          record {
            answer = refl;
            lock = joined one none joins.0 (subst (IsReady old counts deadlines) (sym text) joins.1);
          }
      go (Some own) found =
          let less : own.count < hold_limit =
          subst (λ o. count_if o < hold_limit) found few in
          let test : (own.count == hold_limit) ≡ false = grind (arith, less, nat_tests) in
          let sum : pos own.count +ℤ by ≡ pos (own.count + 1) =
          ap (λ b. pos own.count +ℤ b) one ∙ omega (arith, ints) in
          otherwise new counts deadlines Granted (own.count == hold_limit)
          (silent_outcome TooDeep lock) (holding_so Granted
          (record own { count = own.count + 1; deadline = deadline }) lock) test
          (record {
            answer = refl;
            lock = changed Granted refl own found (own.count + 1)
                (λ some most. (omega arith, omega (arith, less))) sum;
          })

  -- giving one back and keeping the rest
  pub kept_step : by ≡ negsuc 0 → 1 < hold_count owner access lock → (name : List ℕ)
      → IsLockStep new counts deadlines Kept
      (give_back_with name deadline lock (hold_of owner access lock))
  kept_step one more name = go (hold_of owner access lock) refl
    where
      go : (own : Option ReadWriteHold) → hold_of owner access lock ≡ own
          → IsLockStep new counts deadlines Kept (give_back_with name deadline lock own)
      go None none =
          let few : 1 < 0 = subst (λ o. 1 < count_if o) none more in
          absurd (omega (arith, few))
      go (Some own) found =
          let many : 1 < own.count = subst (λ o. 1 < count_if o) found more in
          let test : (own.count == 1) ≡ false = grind (arith, many, nat_tests) in
          let sum : pos own.count +ℤ by ≡ pos (own.count - 1) =
          ap (λ b. pos own.count +ℤ b) one ∙ omega (arith, ints, many) in
          otherwise new counts deadlines Kept (own.count == 1)
          (ended name own.access (without_hold own.owner own.access lock)) (holding_so Kept
          (record own { count = own.count - 1; deadline = deadline }) lock) test
          (record {
            answer = refl;
            lock = changed Kept refl own found (own.count - 1)
                (λ some most. (omega (arith, many), omega (arith, most))) sum;
          })

  -- renewing
  pub renewed_step : by ≡ pos 0 → hold_count owner access lock ≢ 0
      → IsLockStep new counts deadlines Renewed
      (renew_with deadline lock (hold_of owner access lock))
  renewed_step zero some = go (hold_of owner access lock) refl
    where
      go : (own : Option ReadWriteHold) → hold_of owner access lock ≡ own
          → IsLockStep new counts deadlines Renewed (renew_with deadline lock own)
      go None none = absurd (some (ap count_if none))
      go (Some own) found =
          record {
            answer = refl;
            lock = changed Renewed refl own found own.count (λ some most. (some, most))
                (ap (λ b. pos own.count +ℤ b) zero ∙ omega (arith, ints));
          }

-- a lease ends long before the last moment that is counted
pub deadline_early : (moment lease : ℕ) → moment ≤ last_moment → IsTrue (is_lease lease)
    → moment + lease ≤ never
deadline_early moment lease early good =
    let parts = and_parts (nat_le 1 lease) (nat_le lease longest_lease) good in
    let short = leb-true lease longest_lease parts.1 in
    omega (arith, early, short)

-- ---- what stays

module _ (keys : Keys) (counts deadlines : List ℕ) (lock : ReadWriteLock)
    (at : IsLockAt keys counts deadlines lock) (owner : ThreadOfClient) (access : Access) where
  -- an owner that can't hold it once more
  pub full_step : (deadline : ℕ) → hold_limit ≤ hold_count owner access lock
      → IsLockStep keys counts deadlines TooDeep (take_unhindered owner access deadline lock)
  full_step deadline many = go (hold_of owner access lock) refl
    where
      go : (own : Option ReadWriteHold) → hold_of owner access lock ≡ own
          → IsLockStep keys counts deadlines TooDeep (take_with owner access deadline lock own)
      go None none =
          let few : hold_limit ≤ 0 = subst (λ o. hold_limit ≤ count_if o) none many in
          absurd (omega (arith, few))
      go (Some own) found =
          let most = (find-some (is_hold_of owner access) IsReadWriteHold lock own found at.is.each).1 in
          let least : hold_limit ≤ own.count =
          subst (λ o. hold_limit ≤ count_if o) found many in
          let test : (own.count == hold_limit) ≡ true =
          grind (arith, least, most.most, nat_tests) in
          chosen keys counts deadlines TooDeep (own.count == hold_limit)
          (silent_outcome TooDeep lock) (holding_so Granted
          (record own { count = own.count + 1; deadline = deadline }) lock) test
          (record { answer = refl; lock = at })

  -- an owner without such a hold
  without : hold_count owner access lock ≡ 0 → hold_of owner access lock ≡ None
  without zero = go (hold_of owner access lock) refl
    where
      go : (own : Option ReadWriteHold) → hold_of owner access lock ≡ own → own ≡ None
      go None none = refl
      go (Some own) found =
          let held = (find-some (is_hold_of owner access) IsReadWriteHold lock own found at.is.each).1 in
          let none : own.count ≡ 0 = sym (ap count_if found) ∙ zero in
          absurd (omega (arith, held.some, none))

  pub not_held_step : hold_count owner access lock ≡ 0 → (name : List ℕ) (deadline : ℕ)
      → IsLockStep keys counts deadlines NotHeld
      (give_back_with name deadline lock (hold_of owner access lock))
  not_held_step zero name deadline =
      subst (λ o. IsLockStep keys counts deadlines NotHeld (give_back_with name deadline lock o))
      (sym (without zero)) (record { answer = refl; lock = at })

  pub lost_step : hold_count owner access lock ≡ 0 → (deadline : ℕ)
      → IsLockStep keys counts deadlines Lost (renew_with deadline lock (hold_of owner access lock))
  lost_step zero deadline =
      subst (λ o. IsLockStep keys counts deadlines Lost (renew_with deadline lock o))
      (sym (without zero)) (record { answer = refl; lock = at })

-- the last hold ends
pub freed_step : (old new : Keys) (counts deadlines : List ℕ) (lock : ReadWriteLock)
    (owner : ThreadOfClient) (access : Access) → hold_count owner access lock ≡ 1
    → ((hold : ReadWriteHold) → hold_of owner access lock ≡ Some hold
    → IsLockAt new counts deadlines (without_hold owner access lock))
    → (name : List ℕ) (deadline : ℕ)
    → IsLockStep new counts deadlines Freed
    (give_back_with name deadline lock (hold_of owner access lock))
freed_step old new counts deadlines lock owner access one removes name deadline =
    go (hold_of owner access lock) refl
  where
    go : (own : Option ReadWriteHold) → hold_of owner access lock ≡ own
        → IsLockStep new counts deadlines Freed (give_back_with name deadline lock own)
    go None none =
        let few : 0 ≡ 1 = sym (ap count_if none) ∙ one in
        absurd (omega (arith, few))
    go (Some own) found =
        let count : own.count ≡ 1 = sym (ap count_if found) ∙ one in
        let test : (own.count == 1) ≡ true = grind (arith, count, nat_tests) in
        let key = has_key owner access own (find-passes (is_hold_of owner access) lock own found) in
        chosen new counts deadlines Freed (own.count == 1)
        (ended name own.access (without_hold own.owner own.access lock)) (holding_so Kept
        (record own { count = own.count - 1; deadline = deadline }) lock) test
        (record {
          answer = refl;
          lock = subst (IsLockAt new counts deadlines)
              (λ i. without_hold (sym key.owner_is i) (sym key.access_is i) lock)
              (removes own found);
        })

-- ---- busy, and room

module _ (keys : Keys) (counts deadlines : List ℕ) (lock : ReadWriteLock)
    (at : IsLockAt keys counts deadlines lock) (moment : ℕ) (live : AreLive moment lock)
    (owner : ThreadOfClient) (lease : ℕ) where
  -- another writes
  pub read_busy_step : (deadline left : ℕ)
      → Some deadline ≡ option_map (λ (h : ReadWriteHold). h.deadline) (writer_beside owner lock)
      → (moment < deadline → deadline ≤ never → left ≡ deadline - moment)
      → IsLockStep keys counts deadlines (Busy left) (read moment owner lease lock)
  read_busy_step deadline left busy is = go (writer_beside owner lock) refl busy
    where
      go : (writer : Option ReadWriteHold) → writer_beside owner lock ≡ writer
          → Some deadline ≡ option_map (λ (h : ReadWriteHold). h.deadline) writer
          → IsLockStep keys counts deadlines (Busy left) (read_beside moment owner lease lock writer)
      go None none busy = absurd (none_some deadline busy)
      go (Some writer) found busy =
          let one : deadline ≡ writer.deadline = some_one deadline writer.deadline busy in
          let ahead = (find-some (is_writer_beside owner) (λ h. moment < h.deadline) lock writer
          found live).1 in
          let held = (find-some (is_writer_beside owner) IsReadWriteHold lock writer found at.is.each).1 in
          record {
            answer =
                ap (λ n. Busy n) (is (omega (arith, one, ahead)) (omega (arith, one, held.deadline))
                ∙ ap (λ d. d - moment) one);
            lock = at;
          }

  -- there are as many as there may be
  pub too_many_step : None ≡ option_map (λ (h : ReadWriteHold). h.deadline) (writer_beside owner lock)
      → hold_count owner Read lock ≡ 0 → member_limit ≤ length lock
      → IsLockStep keys counts deadlines TooMany (read moment owner lease lock)
  too_many_step alone zero many =
      go (writer_beside owner lock) alone
    where
      test : nat_lt (length lock) member_limit ≡ false
      test = grind (arith, many, nat_tests)

      unhindered : IsLockStep keys counts deadlines TooMany
          (read_unhindered owner (moment + lease) lock (hold_of owner Read lock))
      unhindered =
          subst (λ o. IsLockStep keys counts deadlines TooMany
          (read_unhindered owner (moment + lease) lock o))
          (sym (without keys counts deadlines lock at owner Read zero))
          (otherwise keys counts deadlines TooMany (nat_lt (length lock) member_limit)
          (holding_so Granted (first_hold owner Read (moment + lease)) lock)
          (silent_outcome TooMany lock) test (record { answer = refl; lock = at }))

      go : (writer : Option ReadWriteHold)
          → None ≡ option_map (λ (h : ReadWriteHold). h.deadline) writer
          → IsLockStep keys counts deadlines TooMany (read_beside moment owner lease lock writer)
      go None none = unhindered
      go (Some writer) found = absurd (none_some writer.deadline (sym found))

  -- else it takes what nobody hinders
  pub may_read : None ≡ option_map (λ (h : ReadWriteHold). h.deadline) (writer_beside owner lock)
      → hold_of owner Read lock ≡ None → length lock < member_limit
      → MayJoin owner Read (moment + lease) lock
  may_read alone none room = record {
    beside = joins_readers owner (moment + lease) lock (nobody (writer_beside owner lock) alone) none;
    room = room;
  }
    where
      nobody : (writer : Option ReadWriteHold)
          → None ≡ option_map (λ (h : ReadWriteHold). h.deadline) writer → writer ≡ None
      nobody None none = refl
      nobody (Some writer) found = absurd (none_some writer.deadline (sym found))

  pub read_step : (new : Keys) (reply : Reply)
      → None ≡ option_map (λ (h : ReadWriteHold). h.deadline) (writer_beside owner lock)
      → (hold_of owner Read lock ≡ None → length lock < member_limit)
      → IsLockStep new counts deadlines reply (take_unhindered owner Read (moment + lease) lock)
      → IsLockStep new counts deadlines reply (read moment owner lease lock)
  read_step new reply alone room taken = go (writer_beside owner lock) alone
    where
      unhindered : (own : Option ReadWriteHold) → hold_of owner Read lock ≡ own
          → IsLockStep new counts deadlines reply
          (take_with owner Read (moment + lease) lock own)
          → IsLockStep new counts deadlines reply
          (read_unhindered owner (moment + lease) lock own)
      unhindered (Some own) found step = step
      unhindered None none step =
          let few = room none in
          let test : nat_lt (length lock) member_limit ≡ true = grind (arith, few, nat_tests) in
          chosen new counts deadlines reply (nat_lt (length lock) member_limit)
          (holding_so Granted (first_hold owner Read (moment + lease)) lock)
          (silent_outcome TooMany lock) test step

      go : (writer : Option ReadWriteHold)
          → None ≡ option_map (λ (h : ReadWriteHold). h.deadline) writer
          → IsLockStep new counts deadlines reply (read_beside moment owner lease lock writer)
      go None none = unhindered (hold_of owner Read lock) refl taken
      go (Some writer) found = absurd (none_some writer.deadline (sym found))

  -- it is held
  pub write_busy_step : (deadline left : ℕ) → hold_count owner Write lock ≡ 0
      → Some deadline ≡ last_deadline_if lock
      → (moment < deadline → deadline ≤ never → left ≡ deadline - moment)
      → IsLockStep keys counts deadlines (Busy left) (write moment owner lease lock)
  write_busy_step deadline left zero busy is =
      subst (λ o. IsLockStep keys counts deadlines (Busy left) (write_with moment owner lease lock o))
      (sym (without keys counts deadlines lock at owner Write zero))
      (go lock at live at.is.each busy)
    where
      most : (xs : ReadWriteLock) → AllByRecursion IsReadWriteHold xs → last_deadline xs ≤ never
      most [] each = omega arith
      most (x ∷ xs) each =
          let rest = most xs each.1 in
          omega (arith, each.0.deadline, rest)

      go : (xs : ReadWriteLock) → IsLockAt keys counts deadlines xs → AreLive moment xs
          → AllByRecursion IsReadWriteHold xs → Some deadline ≡ last_deadline_if xs
          → IsLockStep keys counts deadlines (Busy left) (write_first moment owner lease xs)
      go [] at live each busy = absurd (none_some deadline busy)
      go (x ∷ xs) at live each busy =
          let one : deadline ≡ last_deadline (x ∷ xs) =
          some_one deadline (last_deadline (x ∷ xs)) busy in
          let few = most (x ∷ xs) each in
          record {
            answer =
                ap (λ n. Busy n) (is (omega (arith, one, live.0)) (omega (arith, one, few))
                ∙ ap (λ d. d - moment) one);
            lock = at;
          }

-- ---- who writes

module _ (lock : ReadWriteLock) (is : IsReadWriteLock lock) (owner : ThreadOfClient) where
  -- nobody, where there is no first hold
  pub nobody_writes : slice_get (deadlines_of lock) 0 ≡ None
      → None ≡ option_map (λ (h : ReadWriteHold). h.deadline) (writer_beside owner lock)
  nobody_writes none =
      ap (λ l. option_map (λ (h : ReadWriteHold). h.deadline) (writer_beside owner l))
      (sym (no-first lock is none))

  module _ (in_owner : IsOwner owner) (first : Scored)
      (at : slice_get (deadlines_of lock) 0 ≡ Some first) (writer : List ℕ)
      (text : (access : Access) (holder : ThreadOfClient) → first.0 ≡ member_text access holder
      → writer ≡ member_text Write holder) where
    abbrev holder : ReadWriteHold
    holder = (first-hold lock is first at).0.0

    abbrev in_lock : IsHoldIn lock first.0 holder
    in_lock = (first-hold lock is first at).0.1

    writer_text : writer ≡ member_text Write holder.owner
    writer_text = text holder.access holder.owner in_lock.text

    -- whether the first hold is the owner's
    same : bytes_eq (member_text Write owner) writer ≡ same_owner holder.owner owner
    same =
        ap (bytes_eq (member_text Write owner)) writer_text
        ∙ bytes_eq-member owner Write (first_hold holder.owner Write 0) in_owner in_lock.owner
        ∙ and_true (same_owner holder.owner owner)
      where
        and_true : (b : Bool) → (b && true) ≡ b
        and_true true = refl
        and_true false = refl

    pub own_writes : bytes_eq (member_text Write owner) writer ≡ true
        → None ≡ option_map (λ (h : ReadWriteHold). h.deadline) (writer_beside owner lock)
    own_writes own =
        ap (option_map (λ (h : ReadWriteHold). h.deadline))
        (sym (writer-own lock is holder.owner holder.access holder in_lock.found owner
        (sym same ∙ own)))

    pub other_writes : bytes_eq (member_text Write owner) writer ≡ false → (found : Option ℕ)
        → ((access : Access) (holder : ThreadOfClient) → IsOwner holder
        → writer ≡ member_text access holder
        → found ≡ option_map (λ (h : ReadWriteHold). h.deadline) (hold_of holder access lock))
        → found ≡ option_map (λ (h : ReadWriteHold). h.deadline) (writer_beside owner lock)
    other_writes other found looks =
        looks Write holder.owner in_lock.owner writer_text
        ∙ ap (option_map (λ (h : ReadWriteHold). h.deadline))
        (sym (writer-other lock is holder.owner holder.access holder in_lock.found owner
        (sym same ∙ other)))
