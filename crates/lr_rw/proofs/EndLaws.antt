-- The first and the last of the holds of a lock, in order of their deadlines.
use Rattle.std.proofs.Common.{◌≡◌, ◌≤◌, ◌<◌, ◌-◌, ℕ, suc, Bool, true, false, not, ◌&&◌, ◌||◌, cond, List, [], ◌∷◌, length, filter, Option, Some, None, option_map, negsuc, if◌then◌else◌, refl, sym, ap, ◌∙◌, subst, inl, inr, arith}
use Rattle.std.specs.Prelude.{slice_get}
use Rattle.std.specs.List.{AllByRecursion, find}
use Rattle.std.specs.Str.{bytes_eq}
use Rattle.std.proofs.lemmas.Bool.{cond-true, cond-false, false≢true}
use Rattle.std.proofs.lemmas.Bool.Decides.{nat_tests}
use Rattle.lr_names.specs.Owner.{ThreadOfClient, same_owner}
use Rattle.lr_objects.specs.declared.access.Access.{Access}
use Rattle.lr_objects.specs.declared.access.Access.TheVariants.{Read, Write}
use Rattle.lr_lists.specs.Places.{item_at}
use Rattle.lr_sorted.specs.Members.{Scored, Members as Scores, comes_before, score_of}
use Rattle.lr_sorted.proofs.OrderLaws.{before-itself, before-asym}
use Rattle.lr_sorted.proofs.MemberLaws.{InOrder, below-member, below-absent, eq-same, eq-is, first-least}
use Rattle.lr_sorted.proofs.SortedLaws.{sorted-in_order, sorted-scores, length-sorted, last-place}
use Rattle.lr_model.specs.declared.read_write_hold.ReadWriteHold.{ReadWriteHold}
use Rattle.lr_model.specs.Moment.{is_live}
use Rattle.lr_model.specs.ReadWrite.{ReadWriteLock, is_write, same_access, is_hold_of, is_writer_beside, hold_of, writer_beside, live_holds, without_hold, last_deadline}
use Rattle.lr_model.specs.ReadWriteHolds.{holds_conflict, MayStandBeside, AreApart, IsReadWriteHold, IsReadWriteLock}
use Rattle.lr_model.proofs.ReadWriteFacts.{same_owner-Decides, same_owner-sym, either_way, some_one, none_some, All-like, find-some}
use Rattle.lr_model.proofs.ReadWriteLaws.{beside-sym}
use Rattle.lr_rw.specs.Holds.{member_of, with_values, deadlines_of}
use Rattle.lr_rw.specs.Step.{IsExpired}
use Rattle.lr_rw.proofs.DeadlineLaws.{deadline_in, IsHoldIn, value-found, values_distinct, each-found, score_of-hold}

-- ---- members in order

-- what doesn't come before another has no lesser score
no_less : (q : List ℕ) (s : ℕ) (e : Scored) → comes_before (q, s) e ≡ false → e.1 ≤ s
no_less q s e not_before = grind (arith, nat_tests)

-- the first has a score, and none has a lesser one
first_facts : (ms : Scores) → InOrder ms → (e : Scored) → slice_get ms 0 ≡ Some e
    → (score_of e.0 ms ≡ Some e.1) × ((q : List ℕ) (s : ℕ) → score_of q ms ≡ Some s → e.1 ≤ s)
first_facts [] order e is = absurd (none_some e (sym is))
first_facts (m ∷ ms) order e is =
    subst (λ (x : Scored). (score_of x.0 (m ∷ ms) ≡ Some x.1)
    × ((q : List ℕ) (s : ℕ) → score_of q (m ∷ ms) ≡ Some s → x.1 ≤ s)) (some_one m e is) (
      cond-true (bytes_eq m.0 m.0) (Some m.1) (score_of m.0 ms) (eq-same m.0),
      λ q s there. no_less q s m (first-least m ms q s order there),
    )

-- the last one
last_of : Scores → Option Scored
last_of [] = None
last_of (m ∷ []) = Some m
last_of (m ∷ n ∷ ns) = last_of (n ∷ ns)

last_of-place : (ms : Scores) → slice_get ms (length ms - 1) ≡ last_of ms
unfolding last_of
last_of-place [] = refl
last_of-place (m ∷ []) = refl
last_of-place (m ∷ n ∷ ns) =
    let place : length (m ∷ n ∷ ns) - 1 ≡ suc (length (n ∷ ns) - 1) = omega arith in
    ap (λ k. slice_get (m ∷ n ∷ ns) k) place ∙ last_of-place (n ∷ ns)

item_at-last : (ms : Scores) → item_at (negsuc 0) ms ≡ last_of ms
unfolding last_of
item_at-last [] = refl
item_at-last (m ∷ ms) = last-place (m ∷ ms) (omega arith) ∙ last_of-place (m ∷ ms)

-- it has a score, and none has a greater one
last_facts : (ms : Scores) → InOrder ms → (e : Scored) → last_of ms ≡ Some e
    → (score_of e.0 ms ≡ Some e.1)
    × ((q : List ℕ) (s : ℕ) → score_of q ms ≡ Some s → comes_before e (q, s) ≡ false)
unfolding last_of
last_facts [] order e is = absurd (none_some e (sym is))
last_facts (m ∷ []) order e is =
    subst (λ (x : Scored). (score_of x.0 (m ∷ []) ≡ Some x.1)
    × ((q : List ℕ) (s : ℕ) → score_of q (m ∷ []) ≡ Some s → comes_before x (q, s) ≡ false))
    (some_one m e is) (
      cond-true (bytes_eq m.0 m.0) (Some m.1) None (eq-same m.0),
      λ q s there. alone q s (bytes_eq q m.0) refl there,
    )
  where
    alone : (q : List ℕ) (s : ℕ) (b : Bool) → bytes_eq q m.0 ≡ b → cond b (Some m.1) None ≡ Some s
        → comes_before m (q, s) ≡ false
    alone q s true same there =
        (λ i. comes_before m (eq-is q m.0 same i, sym (some_one m.1 s there) i)) ∙ before-itself m
    alone q s false other there = absurd (none_some s (sym there))
last_facts (m ∷ n ∷ ns) order e is =
    let rest = last_facts (n ∷ ns) order.1 e is in
    let before : comes_before m e ≡ true = below-member m (n ∷ ns) e.0 e.1 order.0 rest.0 in
    (here (bytes_eq e.0 m.0) refl rest.0, λ q s there. each q s (bytes_eq q m.0) refl before rest.1 there)
  where
    here : (b : Bool) → bytes_eq e.0 m.0 ≡ b → score_of e.0 (n ∷ ns) ≡ Some e.1
        → cond b (Some m.1) (score_of e.0 (n ∷ ns)) ≡ Some e.1
    here true same there =
        let none : score_of e.0 (n ∷ ns) ≡ None =
        ap (λ k. score_of k (n ∷ ns)) (eq-is e.0 m.0 same) ∙ below-absent m (n ∷ ns) order.0 in
        absurd (none_some e.1 (sym there ∙ none))
    here false other there = there

    each : (q : List ℕ) (s : ℕ) (b : Bool) → bytes_eq q m.0 ≡ b → comes_before m e ≡ true
        → ((p : List ℕ) (t : ℕ) → score_of p (n ∷ ns) ≡ Some t → comes_before e (p, t) ≡ false)
        → cond b (Some m.1) (score_of q (n ∷ ns)) ≡ Some s → comes_before e (q, s) ≡ false
    each q s true same before rest there =
        (λ i. comes_before e (eq-is q m.0 same i, sym (some_one m.1 s there) i))
        ∙ before-asym m e before
    each q s false other before rest there = rest q s there

-- ---- one lock

All-both : (P Q R : ReadWriteHold → Type 0) → ((h : ReadWriteHold) → P h → Q h → R h)
    → (xs : ReadWriteLock) → AllByRecursion P xs → AllByRecursion Q xs → AllByRecursion R xs
All-both P Q R join [] p q = tt
All-both P Q R join (x ∷ xs) p q = (join x p.0 q.0, All-both P Q R join xs p.1 q.1)

filter-all : (p : ReadWriteHold → Bool) (xs : ReadWriteLock) → AllByRecursion (λ x. p x ≡ true) xs
    → filter p xs ≡ xs
filter-all p [] all = refl
filter-all p (x ∷ xs) all =
    cond-true (p x) (x ∷ filter p xs) (filter p xs) all.0 ∙ ap (λ l. x ∷ l) (filter-all p xs all.1)

module _ (lock : ReadWriteLock) (is : IsReadWriteLock lock) where
  abbrev order : InOrder (deadlines_of lock)
  order = sorted-in_order (with_values deadline_in lock) (values_distinct lock is)

  -- what is true of all scores is true of all deadlines
  each-score : (P : ℕ → Type 0) → ((q : List ℕ) (s : ℕ) → score_of q (deadlines_of lock) ≡ Some s → P s)
      → AllByRecursion (λ h. P h.deadline) lock
  each-score P all =
      All-both IsReadWriteHold (λ h. hold_of h.owner h.access lock ≡ Some h) (λ h. P h.deadline)
      (λ h held found. all (member_of h) h.deadline
      (score_of-hold lock is h.owner h.access held.owner
      ∙ ap (λ o. option_map deadline_in o) found))
      lock is.each (each-found lock is.apart)

  -- a score is of a hold
  score-hold : (q : List ℕ) (s : ℕ) → score_of q (deadlines_of lock) ≡ Some s
      → (hold : ReadWriteHold) × IsHoldIn lock q hold × (s ≡ hold.deadline)
  score-hold q s there =
      value-found lock is.each q s
      (sym (sorted-scores (with_values deadline_in lock) q (values_distinct lock is)) ∙ there)

  -- the first place is that of a hold, and none ends before
  pub first-hold : (e : Scored) → slice_get (deadlines_of lock) 0 ≡ Some e
      → ((hold : ReadWriteHold) × IsHoldIn lock e.0 hold × (e.1 ≡ hold.deadline))
      × AllByRecursion (λ h. e.1 ≤ h.deadline) lock
  first-hold e at =
      let facts = first_facts (deadlines_of lock) order e at in
      (score-hold e.0 e.1 facts.0, each-score (λ s. e.1 ≤ s) facts.1)

  pub first-expired : (moment : ℕ) (e : Scored) → slice_get (deadlines_of lock) 0 ≡ Some e
      → e.1 ≤ moment → IsExpired moment lock e.0
  first-expired moment e at gone =
      let own = (first-hold e at).0 in
      record {
        hold = own.0;
        owner = own.1.owner;
        text = own.1.text;
        found = own.1.found;
        gone = omega (arith, own.2, gone);
      }

  -- so where it lies ahead all do
  pub none-expired : (moment : ℕ) (e : Scored) → slice_get (deadlines_of lock) 0 ≡ Some e
      → moment < e.1 → live_holds moment lock ≡ lock
  none-expired moment e at ahead =
      filter-all (λ h. is_live h.deadline moment) lock
      (All-like (λ h. e.1 ≤ h.deadline) (λ h. is_live h.deadline moment ≡ true)
      (λ h later. grind (arith, later, ahead, nat_tests)) lock (first-hold e at).1)

  -- where there is no place there is no hold
  no-places : length (deadlines_of lock) ≡ 0 → lock ≡ []
  no-places none = by lock (sym (length-sorted (with_values deadline_in lock)) ∙ none)
    where
      by : (xs : ReadWriteLock) → length (with_values deadline_in xs) ≡ 0 → xs ≡ []
      by [] e = refl
      by (x ∷ xs) e = absurd (omega (arith, e))

  pub no-first : slice_get (deadlines_of lock) 0 ≡ None → lock ≡ []
  no-first none = no-places (by (deadlines_of lock) none)
    where
      by : (ms : Scores) → slice_get ms 0 ≡ None → length ms ≡ 0
      by [] e = refl
      by (m ∷ ms) e = absurd (none_some m e)

  pub no-last : item_at (negsuc 0) (deadlines_of lock) ≡ None → lock ≡ []
  unfolding last_of
  no-last none = no-places (by (deadlines_of lock) (sym (item_at-last (deadlines_of lock)) ∙ none))
    where
      by : (ms : Scores) → last_of ms ≡ None → length ms ≡ 0
      by [] e = refl
      by (m ∷ []) e = absurd (none_some m e)
      by (m ∷ n ∷ ns) e = absurd (let none = by (n ∷ ns) e in omega (arith, none))

  -- the last place tells the greatest deadline
  pub last-hold : (e : Scored) → item_at (negsuc 0) (deadlines_of lock) ≡ Some e
      → e.1 ≡ last_deadline lock
  last-hold e at =
      let facts = last_facts (deadlines_of lock) order e (sym (item_at-last (deadlines_of lock)) ∙ at) in
      let own = score-hold e.0 e.1 facts.0 in
      let most = at_most lock (each-score (λ s. s ≤ e.1)
      (λ q s there. no_less e.0 e.1 (q, s) (facts.1 q s there))) in
      let within = (find-some (is_hold_of own.0.owner own.0.access)
      (λ h. h.deadline ≤ last_deadline lock) lock own.0 own.1.found (within_last lock)).1 in
      omega (arith, own.2, most, within)
    where
      at_most : (xs : ReadWriteLock) → AllByRecursion (λ h. h.deadline ≤ e.1) xs
          → last_deadline xs ≤ e.1
      at_most [] all = omega arith
      at_most (x ∷ xs) all = let rest = at_most xs all.1 in omega (arith, all.0, rest)

      within_last : (xs : ReadWriteLock)
          → AllByRecursion (λ h. h.deadline ≤ last_deadline xs) xs
      within_last [] = tt
      within_last (x ∷ xs) = (
        omega arith,
        All-like (λ h. h.deadline ≤ last_deadline xs) (λ h. h.deadline ≤ last_deadline (x ∷ xs))
            (λ h le. omega (arith, le)) xs (within_last xs),
      )

-- what has expired goes, and what is live stays
pub live-without : (moment : ℕ) (owner : ThreadOfClient) (access : Access) (hold : ReadWriteHold)
    (lock : ReadWriteLock) → hold_of owner access lock ≡ Some hold → hold.deadline ≤ moment
    → live_holds moment (without_hold owner access lock) ≡ live_holds moment lock
live-without moment owner access hold [] found dead = refl
live-without moment owner access hold (first ∷ rest) found dead =
    elim (either_way (is_hold_of owner access first) (Some first) (hold_of owner access rest)
    (Some hold) found) [
      | inl w ↦
          let one : first ≡ hold = some_one first hold w.1 in
          let gone : is_live first.deadline moment ≡ false =
          ap (λ (h : ReadWriteHold). is_live h.deadline moment) one ∙ grind (arith, dead, nat_tests) in
          ap (live_holds moment) (cond-true (is_hold_of owner access first) rest
          (first ∷ without_hold owner access rest) w.0)
          ∙ sym (cond-false (is_live first.deadline moment) (first ∷ live_holds moment rest)
          (live_holds moment rest) gone)
      | inr w ↦
          ap (live_holds moment) (cond-false (is_hold_of owner access first) rest
          (first ∷ without_hold owner access rest) w.0)
          ∙ ap (λ l. if is_live first.deadline moment then first ∷ l else l)
          (live-without moment owner access hold rest w.1 dead)
    ]

-- ---- who writes

pub find-nowhere : (p : ReadWriteHold → Bool) (xs : ReadWriteLock)
    → AllByRecursion (λ x. p x ≡ false) xs → find p xs ≡ None
find-nowhere p [] all = refl
find-nowhere p (x ∷ xs) all =
    cond-false (p x) (Some x) (find p xs) all.0 ∙ find-nowhere p xs all.1

find-alike : (p q : ReadWriteHold → Bool) (xs : ReadWriteLock)
    → AllByRecursion (λ x. p x ≡ q x) xs → find p xs ≡ find q xs
find-alike p q [] all = refl
find-alike p q (x ∷ xs) all =
    (λ i. if all.0 i then Some x else find p xs)
    ∙ ap (λ o. if q x then Some x else o) (find-alike p q xs all.1)

-- no hold of a lock conflicts with one that is found there
peaceful : (owner : ThreadOfClient) (access : Access) (hold : ReadWriteHold) (lock : ReadWriteLock)
    → AreApart lock → hold_of owner access lock ≡ Some hold
    → AllByRecursion (λ x. holds_conflict hold x ≡ false) lock
peaceful owner access hold [] apart found = tt
peaceful owner access hold (first ∷ rest) apart found =
    elim (either_way (is_hold_of owner access first) (Some first) (hold_of owner access rest)
    (Some hold) found) [
      | inl w ↦
          let one : first ≡ hold = some_one first hold w.1 in
          subst (λ h. AllByRecursion (λ x. holds_conflict h x ≡ false) (first ∷ rest)) one (
            ap (λ same. not same && (is_write first.access || is_write first.access))
                ((same_owner-Decides first.owner first.owner).1 refl),
            All-like (MayStandBeside first) (λ x. holds_conflict first x ≡ false)
                (λ x beside. beside.peace) rest apart.0,
          )
      | inr w ↦ (
        (beside-sym first hold (find-some (is_hold_of owner access) (MayStandBeside first) rest
            hold w.1 apart.0).1).peace,
        peaceful owner access hold rest apart.1 w.1,
      )
    ]

same_access-write : (access : Access) → same_access access Write ≡ is_write access
same_access-write Read = refl
same_access-write Write = refl

-- By any hold of a lock it is known who writes, if anybody does: a write hold stands only beside
-- holds of its own owner.
module _ (lock : ReadWriteLock) (is : IsReadWriteLock lock) (holder : ThreadOfClient)
    (access : Access) (hold : ReadWriteHold) (found : hold_of holder access lock ≡ Some hold)
    (owner : ThreadOfClient) where
  -- nobody else, where the hold is the owner's
  pub writer-own : same_owner hold.owner owner ≡ true → writer_beside owner lock ≡ None
  writer-own own =
      find-nowhere (is_writer_beside owner) lock
      (All-like (λ x. holds_conflict hold x ≡ false) (λ x. is_writer_beside owner x ≡ false)
      (λ x peace. by (is_write x.access) (same_owner x.owner owner) (is_write hold.access)
      ((λ i. not (same x i) && (is_write hold.access || is_write x.access)) ∙ peace))
      lock (peaceful holder access hold lock is.apart found))
    where
      one : hold.owner ≡ owner
      one = (same_owner-Decides hold.owner owner).0 own

      same : (x : ReadWriteHold) → same_owner x.owner owner ≡ same_owner hold.owner x.owner
      same x = same_owner-sym x.owner owner ∙ ap (λ o. same_owner o x.owner) (sym one)

      by : (w s v : Bool) → (not s && (v || w)) ≡ false → (w && not s) ≡ false
      by true true v e = refl
      by true false true e = e
      by true false false e = e
      by false s v e = refl

  -- else the hold's owner, where that writes
  pub writer-other : same_owner hold.owner owner ≡ false
      → writer_beside owner lock ≡ hold_of hold.owner Write lock
  writer-other other =
      find-alike (is_writer_beside owner) (is_hold_of hold.owner Write) lock
      (All-like (λ x. holds_conflict hold x ≡ false)
      (λ x. is_writer_beside owner x ≡ is_hold_of hold.owner Write x)
      (λ x peace. by x (is_write x.access) (same_owner hold.owner x.owner) refl (is_write hold.access)
      peace
      ∙ sym (λ i. same_owner-sym x.owner hold.owner i && same_access-write x.access i))
      lock (peaceful holder access hold lock is.apart found))
    where
      by : (x : ReadWriteHold) (w s : Bool) → same_owner hold.owner x.owner ≡ s → (v : Bool)
          → (not s && (v || w)) ≡ false → (w && not (same_owner x.owner owner)) ≡ (s && w)
      by x false true same v e = refl
      by x false false same v e = refl
      by x true false same true e = absurd (false≢true (sym e))
      by x true false same false e = absurd (false≢true (sym e))
      by x true true same v e =
          let one : hold.owner ≡ x.owner = (same_owner-Decides hold.owner x.owner).0 same in
          ap (λ b. not b) (ap (λ o. same_owner o owner) (sym one) ∙ other)
