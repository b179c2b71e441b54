-- The functions of a read-write lock, by what becomes of its holds, and that they keep what is true
-- of these.
use Rattle.std.proofs.Common.{◌≡◌, ◌≤◌, ◌<◌, ℕ, suc, ◌+◌, ◌-◌, ◌==◌, nat_lt, Bool, true, false, not, ◌&&◌, ◌||◌, List, [], ◌∷◌, length, Option, Some, None, inl, inr, refl, sym, ap, ◌∙◌, subst, arith}
use Rattle.std.specs.List.{AllByRecursion}
use Rattle.std.proofs.lemmas.Bool.{cond_both, cond-true, cond-false, false≢true, ltb-true}
use Rattle.std.proofs.lemmas.Bool.Decides.{nat_tests}
use Rattle.lr_limits.specs.Limits.{hold_limit, member_limit, never}
use Rattle.lr_names.specs.Owner.{ThreadOfClient, IsOwner, same_owner}
use Rattle.lr_objects.specs.declared.access.Access.{Access}
use Rattle.lr_objects.specs.declared.access.Access.TheVariants.{Read, Write}
use Rattle.lr_objects.specs.declared.reply.Reply.{Reply}
use Rattle.lr_objects.specs.declared.reply.Reply.TheVariants.{Granted, Busy, Kept, Freed, NotHeld, Renewed, Lost, TooDeep, TooMany}
use Rattle.lr_model.specs.declared.read_write_hold.ReadWriteHold.{ReadWriteHold}
use Rattle.lr_model.specs.Moment.{is_live}
use Rattle.lr_model.specs.ReadWrite.{ReadWriteLock, LockOutcome, is_write, is_hold_of, is_writer_beside, hold_of, writer_beside, live_holds, with_hold, without_hold, last_deadline, first_hold, take_again, read_unhindered, read_beside, write_first, write_with, give_back_with, renew_with, read, write, give_back, renew}
use Rattle.lr_model.specs.ReadWriteHolds.{holds_conflict, MayStandBeside, AreApart, IsReadWriteHold, IsReadWriteLock}
use Rattle.lr_model.proofs.ReadWriteFacts.{same_owner-sym, HasKey, has_key, is_hold_of-own, is_hold_of-sym, either_way, some_one, none_some, All-like, All-filter, length-filter-le, find-none, find-some, find-passes}

-- ---- holds beside one another

or-sym : (a b : Bool) → (a || b) ≡ (b || a)
or-sym true true = refl
or-sym true false = refl
or-sym false true = refl
or-sym false false = refl

holds_conflict-sym : (a b : ReadWriteHold) → holds_conflict b a ≡ holds_conflict a b
holds_conflict-sym a b = λ i.
    not (same_owner-sym b.owner a.owner i) && or-sym (is_write b.access) (is_write a.access) i

pub beside-sym : (a b : ReadWriteHold) → MayStandBeside a b → MayStandBeside b a
beside-sym a b h = record {
  another = is_hold_of-sym a b ∙ h.another;
  peace = holds_conflict-sym a b ∙ h.peace;
}

-- it depends on the owners and the accesses alone
beside-like : (a b other : ReadWriteHold) → HasKey a b.owner b.access → MayStandBeside a other
    → MayStandBeside b other
beside-like a b other key h = record {
  another =
      (λ i. is_hold_of (sym key.owner_is i) (sym key.access_is i) other) ∙ h.another;
  peace =
      (λ i. not (same_owner (sym key.owner_is i) other.owner)
      && (is_write (sym key.access_is i) || is_write other.access))
      ∙ h.peace;
}

-- a hold may come to a lock: it may stand beside all but the one in whose place it is put
abbrev pub Fits : ReadWriteHold → ReadWriteLock → Type 0
Fits hold lock =
    AllByRecursion (λ x. is_hold_of hold.owner hold.access x ≡ false → MayStandBeside hold x) lock

-- what was the owner's before fits, however often it is held and until when
module _ (owner : ThreadOfClient) (access : Access) (own : ReadWriteHold) (count deadline : ℕ) where
  abbrev changed : ReadWriteHold
  changed = record own { count = count; deadline = deadline }

  fits-found : (lock : ReadWriteLock) → hold_of owner access lock ≡ Some own → AreApart lock
      → Fits changed lock
  fits-found [] found apart = absurd (none_some own (sym found))
  fits-found (first ∷ rest) found apart =
      elim (either_way (is_hold_of owner access first) (Some first) (hold_of owner access rest)
      (Some own) found) [
        | inl w ↦
            let same : first ≡ own = some_one first own w.1 in (
              λ other. absurd (false≢true (sym other
                  ∙ subst (λ h. is_hold_of own.owner own.access h ≡ true) (sym same)
                  (is_hold_of-own own))),
              All-like (MayStandBeside first)
                  (λ x. is_hold_of own.owner own.access x ≡ false → MayStandBeside changed x)
                  (λ x beside other. beside-like own changed x (record { owner_is = refl; access_is = refl })
                  (subst (λ h. MayStandBeside h x) same beside)) rest apart.0,
            )
        | inr w ↦
            let beside : MayStandBeside first own =
            (find-some (is_hold_of owner access) (MayStandBeside first) rest own w.1 apart.0).1 in (
              λ other. beside-like own changed first (record { owner_is = refl; access_is = refl })
                  (beside-sym first own beside),
              fits-found rest w.1 apart.1,
            )
      ]

-- ---- the lock with a hold

All-with_hold : (P : ReadWriteHold → Type 0) (hold : ReadWriteHold) (lock : ReadWriteLock) → P hold
    → AllByRecursion P lock → AllByRecursion P (with_hold hold lock)
All-with_hold P hold [] it all = (it, tt)
All-with_hold P hold (first ∷ rest) it all =
    cond_both (is_hold_of hold.owner hold.access first) (hold ∷ rest) (first ∷ with_hold hold rest)
    (AllByRecursion P) (λ same. (it, all.1))
    (λ other. (all.0, All-with_hold P hold rest it all.1))

apart-with_hold : (hold : ReadWriteHold) (lock : ReadWriteLock) → Fits hold lock → AreApart lock
    → AreApart (with_hold hold lock)
apart-with_hold hold [] fits apart = (tt, tt)
apart-with_hold hold (first ∷ rest) fits apart =
    cond_both (is_hold_of hold.owner hold.access first) (hold ∷ rest) (first ∷ with_hold hold rest)
    AreApart
    (λ same. (
      All-like (MayStandBeside first) (MayStandBeside hold)
          (λ x beside. beside-like first hold x (has_key hold.owner hold.access first same) beside) rest
          apart.0,
      apart.1,
    ))
    (λ other. (
      All-with_hold (MayStandBeside first) hold rest
          (beside-sym hold first (fits.0 other)) apart.0,
      apart-with_hold hold rest fits.1 apart.1,
    ))

-- one more, or as many where it is put in the place of another
length-with_hold : (hold : ReadWriteHold) (lock : ReadWriteLock)
    → length (with_hold hold lock) ≤ length lock + 1
length-with_hold hold [] = omega arith
length-with_hold hold (first ∷ rest) =
    let more = length-with_hold hold rest in
    cond_both (is_hold_of hold.owner hold.access first) (hold ∷ rest) (first ∷ with_hold hold rest)
    (λ l. length l ≤ length (first ∷ rest) + 1) (λ same. omega arith) (λ other. omega (arith, more))

length-with_found : (hold own : ReadWriteHold) (lock : ReadWriteLock)
    → hold_of hold.owner hold.access lock ≡ Some own
    → length (with_hold hold lock) ≡ length lock
length-with_found hold own [] found = absurd (none_some own (sym found))
length-with_found hold own (first ∷ rest) found =
    elim (either_way (is_hold_of hold.owner hold.access first) (Some first)
    (hold_of hold.owner hold.access rest) (Some own) found) [
      | inl w ↦ ap length (cond-true (is_hold_of hold.owner hold.access first) (hold ∷ rest)
          (first ∷ with_hold hold rest) w.0)
      | inr w ↦
          ap length (cond-false (is_hold_of hold.owner hold.access first) (hold ∷ rest)
          (first ∷ with_hold hold rest) w.0)
          ∙ ap (λ n. suc n) (length-with_found hold own rest w.1)
    ]

-- ---- the lock without a hold, and the live holds of it

All-without : (P : ReadWriteHold → Type 0) (owner : ThreadOfClient) (access : Access)
    (lock : ReadWriteLock) → AllByRecursion P lock
    → AllByRecursion P (without_hold owner access lock)
All-without P owner access [] all = tt
All-without P owner access (first ∷ rest) all =
    cond_both (is_hold_of owner access first) rest (first ∷ without_hold owner access rest)
    (AllByRecursion P) (λ same. all.1) (λ other. (all.0, All-without P owner access rest all.1))

apart-without : (owner : ThreadOfClient) (access : Access) (lock : ReadWriteLock) → AreApart lock
    → AreApart (without_hold owner access lock)
apart-without owner access [] apart = tt
apart-without owner access (first ∷ rest) apart =
    cond_both (is_hold_of owner access first) rest (first ∷ without_hold owner access rest)
    AreApart (λ same. apart.1)
    (λ other. (
      All-without (MayStandBeside first) owner access rest apart.0,
      apart-without owner access rest apart.1,
    ))

length-without : (owner : ThreadOfClient) (access : Access) (lock : ReadWriteLock)
    → length (without_hold owner access lock) ≤ length lock
length-without owner access [] = omega arith
length-without owner access (first ∷ rest) =
    let fewer = length-without owner access rest in
    cond_both (is_hold_of owner access first) rest (first ∷ without_hold owner access rest)
    (λ l. length l ≤ length (first ∷ rest)) (λ same. omega arith) (λ other. omega (arith, fewer))

pub apart-live : (moment : ℕ) (lock : ReadWriteLock) → AreApart lock
    → AreApart (live_holds moment lock)
apart-live moment [] apart = tt
apart-live moment (first ∷ rest) apart =
    cond_both (is_live first.deadline moment) (first ∷ live_holds moment rest)
    (live_holds moment rest) AreApart
    (λ stays. (
      All-filter (MayStandBeside first) (λ h. is_live h.deadline moment) rest apart.0,
      apart-live moment rest apart.1,
    ))
    (λ goes. apart-live moment rest apart.1)

pub lock-live : (moment : ℕ) (lock : ReadWriteLock) → IsReadWriteLock lock
    → IsReadWriteLock (live_holds moment lock)
lock-live moment lock is = record {
  apart = apart-live moment lock is.apart;
  few =
      omega (
        arith,
        length-filter-le (λ (h : ReadWriteHold). is_live h.deadline moment) lock,
        is.few,
      );
  each = All-filter IsReadWriteHold (λ h. is_live h.deadline moment) lock is.each;
}

pub lock-without : (owner : ThreadOfClient) (access : Access) (lock : ReadWriteLock)
    → IsReadWriteLock lock → IsReadWriteLock (without_hold owner access lock)
lock-without owner access lock is = record {
  apart = apart-without owner access lock is.apart;
  few = omega (arith, length-without owner access lock, is.few);
  each = All-without IsReadWriteHold owner access lock is.each;
}

-- ---- what becomes of a lock by a call

-- a reply that leaves a lock as it is
abbrev pub is_refusal : Reply → Bool
is_refusal (Busy remaining) = true
is_refusal NotHeld = true
is_refusal Lost = true
is_refusal TooDeep = true
is_refusal TooMany = true
is_refusal _ = false

-- a reply after which an owner goes on to hold
abbrev pub is_holding : Reply → Bool
is_holding Granted = true
is_holding Kept = true
is_holding Renewed = true
is_holding _ = false

-- a hold is counted so from now on, if it was counted as it may be
abbrev pub IsCounted : ReadWriteHold → ℕ → Type 0
IsCounted own count =
    1 ≤ own.count → own.count ≤ hold_limit → (1 ≤ count) × (count ≤ hold_limit)

-- A call of an owner, for an access, was answered so: it was refused; the owner got a hold, or
-- another count or deadline of its hold; or its hold ended.
pub data Becomes (owner : ThreadOfClient) (access : Access) (deadline : ℕ) (lock : ReadWriteLock)
    : Reply → ReadWriteLock → Type 0 where
  Refused : (reply : Reply) → is_refusal reply ≡ true
      → Becomes owner access deadline lock reply lock
  Joined : AllByRecursion (MayStandBeside (first_hold owner access deadline)) lock
      → length lock < member_limit
      → Becomes owner access deadline lock Granted
      (with_hold (first_hold owner access deadline) lock)
  Changed : (reply : Reply) → is_holding reply ≡ true → (own : ReadWriteHold)
      → hold_of owner access lock ≡ Some own → (count : ℕ) → IsCounted own count
      → Becomes owner access deadline lock reply
      (with_hold (record own { count = count; deadline = deadline }) lock)
  Ended : (own : ReadWriteHold) → hold_of owner access lock ≡ Some own
      → Becomes owner access deadline lock Freed (without_hold own.owner own.access lock)

-- the same of an outcome
abbrev pub IsBecoming : ThreadOfClient → Access → ℕ → ReadWriteLock → LockOutcome → Type 0
IsBecoming owner access deadline lock outcome =
    Becomes owner access deadline lock outcome.reply outcome.object

module _ (owner : ThreadOfClient) (deadline : ℕ) (lock : ReadWriteLock) where
  taken_again : (access : Access) (own : ReadWriteHold) → hold_of owner access lock ≡ Some own
      → IsBecoming owner access deadline lock (take_again deadline lock own)
  taken_again access own found =
      cond_both (own.count == hold_limit) _ _ (IsBecoming owner access deadline lock)
      (λ full. Refused TooDeep refl)
      (λ room. Changed Granted refl own found (own.count + 1)
      (λ some most. grind (arith, nat_tests)))

  -- a new hold to read stands beside all, where nobody else writes and none is the owner's
  pub joins_readers : writer_beside owner lock ≡ None → hold_of owner Read lock ≡ None
      → AllByRecursion (MayStandBeside (first_hold owner Read deadline)) lock
  joins_readers alone none =
      both lock (find-none (is_writer_beside owner) lock alone)
      (find-none (is_hold_of owner Read) lock none)
    where
      peaceful : (x : ReadWriteHold) → is_writer_beside owner x ≡ false
          → (not (same_owner owner x.owner) && (false || is_write x.access)) ≡ false
      peaceful x alone =
          by (is_write x.access) (same_owner x.owner owner) (same_owner owner x.owner)
          (same_owner-sym owner x.owner) alone
        where
          by : (w s t : Bool) → t ≡ s → (w && not s) ≡ false → (not t && (false || w)) ≡ false
          by true true true same e = refl
          by true true false same e = absurd (false≢true same)
          by true false t same e = absurd (false≢true (sym e))
          by false s true same e = refl
          by false s false same e = refl

      both : (rest : ReadWriteLock) → AllByRecursion (λ x. is_writer_beside owner x ≡ false) rest
          → AllByRecursion (λ x. is_hold_of owner Read x ≡ false) rest
          → AllByRecursion (MayStandBeside (first_hold owner Read deadline)) rest
      both [] alone none = tt
      both (x ∷ rest) alone none =
          (record { another = none.0; peace = peaceful x alone.0 }, both rest alone.1 none.1)

  unhindered : writer_beside owner lock ≡ None → (own : Option ReadWriteHold)
      → hold_of owner Read lock ≡ own
      → IsBecoming owner Read deadline lock (read_unhindered owner deadline lock own)
  unhindered alone (Some own) found = taken_again Read own found
  unhindered alone None none =
      cond_both (nat_lt (length lock) member_limit) _ _ (IsBecoming owner Read deadline lock)
      (λ room. Joined (joins_readers alone none) (ltb-true (length lock) member_limit room))
      (λ full. Refused TooMany refl)

  renewed : (access : Access) (own : Option ReadWriteHold) → hold_of owner access lock ≡ own
      → IsBecoming owner access deadline lock (renew_with deadline lock own)
  renewed access None none = Refused Lost refl
  renewed access (Some own) found =
      Changed Renewed refl own found own.count (λ some most. (some, most))

  given_back : (name : List ℕ) (access : Access) (own : Option ReadWriteHold)
      → hold_of owner access lock ≡ own
      → IsBecoming owner access deadline lock (give_back_with name deadline lock own)
  given_back name access None none = Refused NotHeld refl
  given_back name access (Some own) found =
      cond_both (own.count == 1) _ _ (IsBecoming owner access deadline lock)
      (λ last. Ended own found)
      (λ more. Changed Kept refl own found (own.count - 1)
      (λ some most. grind (arith, nat_tests)))

-- ---- so of each function, on the live holds

module _ (moment : ℕ) (owner : ThreadOfClient) (lease : ℕ) where
  pub read-becomes : (lock : ReadWriteLock)
      → IsBecoming owner Read (moment + lease) lock (read moment owner lease lock)
  read-becomes lock = by (writer_beside owner lock) refl
    where
      by : (writer : Option ReadWriteHold) → writer_beside owner lock ≡ writer
          → IsBecoming owner Read (moment + lease) lock
          (read_beside moment owner lease lock writer)
      by (Some writer) busy = Refused (Busy (writer.deadline - moment)) refl
      by None alone =
          unhindered owner (moment + lease) lock alone (hold_of owner Read lock) refl

  first : (lock : ReadWriteLock)
      → IsBecoming owner Write (moment + lease) lock (write_first moment owner lease lock)
  first [] = Joined tt (omega arith)
  first (hold ∷ rest) = Refused (Busy (last_deadline (hold ∷ rest) - moment)) refl

  pub write-becomes : (lock : ReadWriteLock)
      → IsBecoming owner Write (moment + lease) lock (write moment owner lease lock)
  write-becomes lock = by (hold_of owner Write lock) refl
    where
      by : (own : Option ReadWriteHold) → hold_of owner Write lock ≡ own
          → IsBecoming owner Write (moment + lease) lock (write_with moment owner lease lock own)
      by (Some own) found = taken_again owner (moment + lease) lock Write own found
      by None none = first lock

  pub give_back-becomes : (name : List ℕ) (access : Access) (lock : ReadWriteLock)
      → IsBecoming owner access (moment + lease) lock
      (give_back name moment owner access lease lock)
  give_back-becomes name access lock =
      given_back owner (moment + lease) lock name access (hold_of owner access lock) refl

  pub renew-becomes : (access : Access) (lock : ReadWriteLock)
      → IsBecoming owner access (moment + lease) lock (renew moment owner access lease lock)
  renew-becomes access lock =
      renewed owner (moment + lease) lock access (hold_of owner access lock) refl

-- ---- what is true of the holds stays so

module _ (owner : ThreadOfClient) (access : Access) (deadline : ℕ) where
  pub apart-becomes : (lock : ReadWriteLock) (reply : Reply) (new : ReadWriteLock) → AreApart lock
      → Becomes owner access deadline lock reply new → AreApart new
  apart-becomes lock reply new apart (Refused _ refused) = apart
  apart-becomes lock reply new apart (Joined beside room) =
      apart-with_hold (first_hold owner access deadline) lock
      (All-like (MayStandBeside (first_hold owner access deadline))
      (λ x. is_hold_of owner access x ≡ false
      → MayStandBeside (first_hold owner access deadline) x) (λ x h other. h) lock beside) apart
  apart-becomes lock reply new apart (Changed _ holds own found count counted) =
      apart-with_hold (changed owner access own count deadline) lock
      (fits-found owner access own count deadline lock found apart) apart
  apart-becomes lock reply new apart (Ended own found) =
      apart-without own.owner own.access lock apart

  -- the lock finds the hold of the owner and access of the one that was found
  pub found_own : (lock : ReadWriteLock) (own : ReadWriteHold) → hold_of owner access lock ≡ Some own
      → hold_of own.owner own.access lock ≡ Some own
  found_own lock own found =
      let key = has_key owner access own (find-passes (is_hold_of owner access) lock own found) in
      (λ i. hold_of (key.owner_is i) (key.access_is i) lock) ∙ found

  pub lock-becomes : (lock : ReadWriteLock) (reply : Reply) (new : ReadWriteLock)
      → IsOwner owner → deadline ≤ never → IsReadWriteLock lock
      → Becomes owner access deadline lock reply new → IsReadWriteLock new
  lock-becomes lock reply new in_owner early is (Refused _ refused) = is
  lock-becomes lock reply new in_owner early is (Joined beside room) = record {
    apart = apart-becomes lock reply new is.apart (Joined beside room);
    few = omega (arith, length-with_hold (first_hold owner access deadline) lock, room);
    each =
        All-with_hold IsReadWriteHold (first_hold owner access deadline) lock
        (record {
          owner = in_owner;
          some = omega arith;
          most = omega arith;
          deadline = early;
        }) is.each;
  }
  lock-becomes lock reply new in_owner early is (Changed _ holds own found count counted) =
      let was : IsReadWriteHold own =
      (find-some (is_hold_of owner access) IsReadWriteHold lock own found is.each).1 in
      let now = counted was.some was.most in
      record {
        apart = apart-becomes lock reply new is.apart (Changed reply holds own found count counted);
        few =
            omega (
              arith,
              length-with_found (changed owner access own count deadline) own lock
                  (found_own lock own found),
              is.few,
            );
        each =
            All-with_hold IsReadWriteHold (changed owner access own count deadline) lock
            (record { owner = was.owner; some = now.0; most = now.1; deadline = early }) is.each;
      }
  lock-becomes lock reply new in_owner early is (Ended own found) =
      lock-without own.owner own.access lock is
