-- The leases of expirable permits as the members of a sorted set: what is found, put and removed there.
use Rattle.std.proofs.Common.{◌≡◌, ◌≤◌, ◌<◌, ℕ, suc, min, Bool, true, false, not, cond, List, [], ◌∷◌, length, filter, Option, Some, None, option_map, if◌then◌else◌, inl, inr, refl, sym, ap, ◌∙◌, arith}
use Rattle.std.specs.Prelude.{slice_get}
use Rattle.std.specs.List.{AllByRecursion}
use Rattle.std.specs.Map.{keys_of}
use Rattle.std.specs.Str.{bytes_eq}
use Rattle.std.proofs.lemmas.Bool.{cond_both, cond-true, cond-false}
use Rattle.std.proofs.lemmas.Bool.Decides.{Decides-like, same_from_decides, nat_tests}
use Rattle.std.proofs.lemmas.Slice.Eq.{bytes_eq-Decides}
use Rattle.std.proofs.lemmas.Map.Keys.{IsDistinct-cons, IsDistinct-head, IsDistinct-tail}
use Rattle.lr_limits.specs.Limits.{member_limit, never}
use Rattle.lr_names.specs.Owner.{IsId, id_text}
use Rattle.lr_names.proofs.OwnerLaws.{id_text-injective}
use Rattle.lr_sorted.specs.Members.{Scored, Members as Scores, comes_before, inserted, score_of, with_score, without_member}
use Rattle.lr_sorted.specs.Sorted.{AreDistinct}
use Rattle.lr_sorted.proofs.OrderLaws.{before-trans}
use Rattle.lr_sorted.proofs.MemberLaws.{IsBelow, InOrder, eq-is, eq-sym}
use Rattle.lr_sorted.proofs.SortedLaws.{length-sorted, sorted-in_order, sorted-scores, sorted-without, tail-distinct}
use Rattle.lr_model.specs.Moment.{is_live}
use Rattle.lr_model.specs.Permits.{PermitLease, is_under, least_deadline, lease_under, live_leases, without_lease}
use Rattle.lr_model.proofs.ReadWriteFacts.{All-filter, either_way, length-filter-le, none_some, some_one}
use Rattle.lr_expirable.specs.Leases.{AreLeases, in_order_of, member_of, members_of}
use Rattle.lr_expirable.specs.Step.{live_members}

abbrev pub deadline_in : PermitLease → ℕ
deadline_in lease = lease.deadline

-- ---- texts

-- ids are told apart by their texts
pub text-eq : (a b : List ℕ) → IsId a → IsId b → bytes_eq (id_text a) (id_text b) ≡ bytes_eq a b
text-eq a b in_a in_b =
    same_from_decides (bytes_eq (id_text a) (id_text b)) (bytes_eq a b)
    (bytes_eq-Decides (id_text a) (id_text b))
    (Decides-like (bytes_eq a b) (λ e. ap id_text e) (id_text-injective a b in_a in_b)
    (bytes_eq-Decides a b))

abbrev pub HaveIds : List PermitLease → Type 0
HaveIds leases = AllByRecursion (λ lease. IsId lease.id) leases

module _ (id : List ℕ) (in_id : IsId id) where
  -- the deadline of a lease is found by its text
  pub score_of-lease : (leases : List PermitLease) → HaveIds leases
      → score_of (id_text id) (members_of leases) ≡ option_map deadline_in (lease_under id leases)
  score_of-lease [] ids = refl
  score_of-lease (first ∷ rest) ids =
      ap (λ b. if b then Some first.deadline else score_of (id_text id) (members_of rest))
      (text-eq id first.id in_id ids.0)
      ∙ by (is_under id first) (score_of-lease rest ids.1)
    where
      by : (b : Bool)
          → score_of (id_text id) (members_of rest) ≡ option_map deadline_in (lease_under id rest)
          → (if b then Some first.deadline else score_of (id_text id) (members_of rest))
          ≡ option_map deadline_in (if b then Some first else lease_under id rest)
      by true later = refl
      by false later = later

  -- without a lease all others have the scores that they had
  pub scores-without : (q : List ℕ) (leases : List PermitLease) → HaveIds leases
      → score_of q (members_of (without_lease id leases))
      ≡ cond (bytes_eq (id_text id) q) None (score_of q (members_of leases))
  scores-without q [] ids = nothing (bytes_eq (id_text id) q)
    where
      none : Option ℕ
      none = None

      nothing : (b : Bool) → none ≡ cond b none none
      nothing true = refl
      nothing false = refl
  scores-without q (first ∷ rest) ids =
      by (is_under id first) (bytes_eq (id_text id) q) refl (bytes_eq q (id_text first.id)) refl
      (text-eq id first.id in_id ids.0) (scores-without q rest ids.1)
    where
      own : List ℕ
      own = id_text first.id

      old : Option ℕ
      old = score_of q (members_of rest)

      new : Option ℕ
      new = score_of q (members_of (without_lease id rest))

      by : (gone here : Bool) → bytes_eq (id_text id) q ≡ here → (found : Bool)
          → bytes_eq q own ≡ found → bytes_eq (id_text id) own ≡ gone → new ≡ cond here None old
          → score_of q (members_of (if not gone then first ∷ without_lease id rest
          else without_lease id rest))
          ≡ cond here None (cond found (Some first.deadline) old)
      by true true e found f g later = later
      by true false e true f g later =
          let same : id_text id ≡ own = eq-is (id_text id) own g in
          let there : bytes_eq (id_text id) q ≡ true =
          ap (λ t. bytes_eq t q) same ∙ eq-sym own q ∙ f in
          absurd (cc)
      by true false e false f g later = later
      by false true e true f g later =
          let same : id_text id ≡ q = eq-is (id_text id) q e in
          let there : bytes_eq (id_text id) own ≡ true = ap (λ t. bytes_eq t own) same ∙ f in
          absurd (cc)
      by false true e false f g later =
          ap (λ b. if b then Some first.deadline else new) f ∙ later
      by false false e true f g later = ap (λ b. if b then Some first.deadline else new) f
      by false false e false f g later =
          ap (λ b. if b then Some first.deadline else new) f ∙ later

-- ---- leases that are filtered

abbrev pub IsAbsent : List ℕ → List PermitLease → Type 0
IsAbsent text leases = AllByRecursion (λ y. bytes_eq text y ≡ false) (keys_of (members_of leases))

absent-filter : (text : List ℕ) (p : PermitLease → Bool) (leases : List PermitLease)
    → IsAbsent text leases → IsAbsent text (filter p leases)
absent-filter text p [] absent = tt
absent-filter text p (x ∷ xs) absent =
    cond_both (p x) (x ∷ filter p xs) (filter p xs) (IsAbsent text)
    (λ stays. (absent.0, absent-filter text p xs absent.1))
    (λ goes. absent-filter text p xs absent.1)

distinct-filter : (p : PermitLease → Bool) (leases : List PermitLease)
    → AreDistinct (members_of leases) → AreDistinct (members_of (filter p leases))
distinct-filter p [] distinct = distinct
distinct-filter p (x ∷ xs) distinct =
    let keys = keys_of (members_of xs) in
    let rest = distinct-filter p xs (IsDistinct-tail bytes_eq (id_text x.id) keys distinct) in
    let apart = IsDistinct-head bytes_eq (id_text x.id) keys distinct in
    cond_both (p x) (x ∷ filter p xs) (filter p xs) (λ l. AreDistinct (members_of l))
    (λ stays. IsDistinct-cons bytes_eq (id_text x.id) (keys_of (members_of (filter p xs)))
    (absent-filter (id_text x.id) p xs apart) rest)
    (λ goes. rest)

-- they are leases still
pub leases-filter : (p : PermitLease → Bool) (leases : List PermitLease) → AreLeases leases
    → AreLeases (filter p leases)
leases-filter p leases are = record {
  ids = All-filter (λ (l : PermitLease). IsId l.id) p leases are.ids;
  distinct = distinct-filter p leases are.distinct;
  early = All-filter (λ (l : PermitLease). l.deadline ≤ never) p leases are.early;
  few = omega (arith, length-filter-le p leases, are.few);
}

-- ---- a lease is found, removed and added

module _ (id : List ℕ) (in_id : IsId id) (leases : List PermitLease) (are : AreLeases leases) where
  pub score_of-in_order : score_of (id_text id) (in_order_of leases)
      ≡ option_map deadline_in (lease_under id leases)
  score_of-in_order =
      sorted-scores (members_of leases) (id_text id) are.distinct
      ∙ score_of-lease id in_id leases are.ids

  pub in_order-without : in_order_of (without_lease id leases)
      ≡ without_member (id_text id) (in_order_of leases)
  in_order-without =
      sorted-without (members_of leases) (members_of (without_lease id leases)) (id_text id)
      are.distinct
      (distinct-filter (λ lease. not (is_under id lease)) leases are.distinct)
      (λ q. scores-without id in_id q leases are.ids)

  module _ (none : lease_under id leases ≡ None) (deadline : ℕ) where
    no_score : score_of (id_text id) (in_order_of leases) ≡ None
    no_score = score_of-in_order ∙ ap (option_map deadline_in) none

    pub in_order-with : in_order_of (record { id = id; deadline = deadline } ∷ leases)
        ≡ with_score (id_text id) deadline (in_order_of leases)
    in_order-with =
        ap (inserted (id_text id, deadline)) (sym (stays (in_order_of leases) no_score))
      where
        stays : (ms : Scores) → score_of (id_text id) ms ≡ None
            → without_member (id_text id) ms ≡ ms
        stays [] absent = refl
        stays (m ∷ ms) absent =
            elim (either_way (bytes_eq (id_text id) m.0) (Some m.1) (score_of (id_text id) ms) None
            absent) [
              | inl w ↦ absurd (none_some m.1 w.1)
              | inr w ↦
                  cond-false (bytes_eq (id_text id) m.0) ms (m ∷ without_member (id_text id) ms) w.0
                  ∙ ap (λ l. m ∷ l) (stays ms w.1)
            ]

    pub leases-with : length leases < member_limit → deadline ≤ never
        → AreLeases (record { id = id; deadline = deadline } ∷ leases)
    leases-with room early = record {
      ids = (in_id, are.ids);
      distinct =
          IsDistinct-cons bytes_eq (id_text id) (keys_of (members_of leases))
          (absent leases (score_of-lease id in_id leases are.ids
          ∙ ap (option_map deadline_in) none)) are.distinct;
      early = (early, are.early);
      few = omega (arith, room);
    }
      where
        absent : (xs : List PermitLease) → score_of (id_text id) (members_of xs) ≡ None
            → IsAbsent (id_text id) xs
        absent [] none = tt
        absent (x ∷ xs) none =
            elim (either_way (bytes_eq (id_text id) (id_text x.id)) (Some x.deadline)
            (score_of (id_text id) (members_of xs)) None none) [
              | inl w ↦ absurd (none_some x.deadline w.1)
              | inr w ↦ (w.0, absent xs w.1)
            ]

-- ---- how many there are, and which ends first

pub length-in_order : (leases : List PermitLease) → length (in_order_of leases) ≡ length leases
length-in_order leases = length-sorted (members_of leases) ∙ by leases
  where
    by : (xs : List PermitLease) → length (members_of xs) ≡ length xs
    by [] = refl
    by (x ∷ xs) = ap (λ n. suc n) (by xs)

-- of two members the one that comes first has no greater score
no_more : (one other : Scored) → comes_before one other ≡ true → one.1 ≤ other.1
no_more one other before = grind (arith, nat_tests)

no_less : (one other : Scored) → comes_before one other ≡ false → other.1 ≤ one.1
no_less one other behind = grind (arith, nat_tests)

pub first-least : (leases : List PermitLease) (e : Scored)
    → slice_get (in_order_of leases) 0 ≡ Some e → e.1 ≡ least_deadline leases
first-least [] e at = absurd (none_some e (sym at))
first-least (x ∷ []) e at = sym (ap (λ (m : Scored). m.1) (some_one (member_of x) e at))
first-least (x ∷ y ∷ rest) e at =
    by (in_order_of (y ∷ rest)) (length-in_order (y ∷ rest)) (first-least (y ∷ rest)) at
  where
    by : (ms : Scores) → length ms ≡ length (y ∷ rest)
        → ((m : Scored) → slice_get ms 0 ≡ Some m → m.1 ≡ least_deadline (y ∷ rest))
        → slice_get (inserted (member_of x) ms) 0 ≡ Some e
        → e.1 ≡ min x.deadline (least_deadline (y ∷ rest))
    by [] long least at = absurd (omega (arith, long))
    by (m ∷ ms) long least at =
        let first : m.1 ≡ least_deadline (y ∷ rest) = least m refl in
        elim (either_way (comes_before (member_of x) m) (Some (member_of x)) (Some m) (Some e)
        (ap (λ b. b) (cond_both (comes_before (member_of x) m) (member_of x ∷ m ∷ ms)
        (m ∷ inserted (member_of x) ms)
        (λ l. slice_get l 0 ≡ Some e
        → (if comes_before (member_of x) m then Some (member_of x) else Some m) ≡ Some e)
        (λ before at. cond-true (comes_before (member_of x) m) (Some (member_of x)) (Some m) before
        ∙ at)
        (λ behind at. cond-false (comes_before (member_of x) m) (Some (member_of x)) (Some m) behind
        ∙ at) at))) [
          | inl w ↦
              let le = no_more (member_of x) m w.0 in
              let is = ap (λ (s : Scored). s.1) (some_one (member_of x) e w.1) in
              omega (arith, first, le, is)
          | inr w ↦
              let le = no_less (member_of x) m w.0 in
              let is = ap (λ (s : Scored). s.1) (some_one m e w.1) in
              omega (arith, first, le, is)
        ]

pub no-first : (leases : List PermitLease) → slice_get (in_order_of leases) 0 ≡ None
    → least_deadline leases ≡ 0
no-first leases none = by leases (sym (length-in_order leases) ∙ empty (in_order_of leases) none)
  where
    empty : (ms : Scores) → slice_get ms 0 ≡ None → length ms ≡ 0
    empty [] e = refl
    empty (m ∷ ms) e = absurd (none_some m e)

    by : (xs : List PermitLease) → length xs ≡ 0 → least_deadline xs ≡ 0
    by [] e = refl
    by (x ∷ xs) e = absurd (omega (arith, e))

-- ---- the live ones

module _ (moment : ℕ) where
  abbrev live : Scored → Bool
  live member = is_live member.1 moment

  -- a member that comes before all others is put first
  put-first : (m : Scored) (ms : Scores) → AllByRecursion (λ n. comes_before m n ≡ true) ms
      → inserted m ms ≡ m ∷ ms
  put-first m [] all = refl
  put-first m (n ∷ ns) all = cond-true (comes_before m n) (m ∷ n ∷ ns) (n ∷ inserted m ns) all.0

  before-all : (m n : Scored) (ns : Scores) → comes_before m n ≡ true → IsBelow n ns
      → AllByRecursion (λ x. comes_before m x ≡ true) ns
  before-all m n [] before below = tt
  before-all m n (x ∷ xs) before below =
      (before-trans m n x before below.0, before-all m n xs before below.2)

  live-inserted : (m : Scored) (ms : Scores) → InOrder ms
      → live_members moment (inserted m ms)
      ≡ (if live m then inserted m (live_members moment ms) else live_members moment ms)
  live-inserted m [] order = refl
  live-inserted m (n ∷ ns) order =
      cond_both (comes_before m n) (m ∷ n ∷ ns) (n ∷ inserted m ns)
      (λ l. live_members moment l ≡ (if live m then inserted m (live_members moment (n ∷ ns))
      else live_members moment (n ∷ ns)))
      (λ before. ap (λ l. if live m then l else live_members moment (n ∷ ns))
      (sym (put-first m (live_members moment (n ∷ ns))
      (All-filter (λ x. comes_before m x ≡ true) live (n ∷ ns)
      (before, before-all m n ns before order.0)))))
      (λ behind. by (live m) (live n) refl behind (live-inserted m ns order.1))
    where
      by : (a b : Bool) → live n ≡ b → comes_before m n ≡ false
          → live_members moment (inserted m ns)
          ≡ (if a then inserted m (live_members moment ns) else live_members moment ns)
          → (if live n then n ∷ live_members moment (inserted m ns)
          else live_members moment (inserted m ns))
          ≡ (if a then inserted m (live_members moment (n ∷ ns)) else live_members moment (n ∷ ns))
      by true true e behind rest =
          ap (λ c. if c then n ∷ live_members moment (inserted m ns)
          else live_members moment (inserted m ns)) e
          ∙ ap (λ l. n ∷ l) rest
          ∙ sym (ap (inserted m) (ap (λ c. if c then n ∷ live_members moment ns
          else live_members moment ns) e)
          ∙ cond-false (comes_before m n) (m ∷ n ∷ live_members moment ns)
          (n ∷ inserted m (live_members moment ns)) behind)
      by true false e behind rest =
          ap (λ c. if c then n ∷ live_members moment (inserted m ns)
          else live_members moment (inserted m ns)) e
          ∙ rest
          ∙ sym (ap (inserted m) (ap (λ c. if c then n ∷ live_members moment ns
          else live_members moment ns) e))
      by false true e behind rest =
          ap (λ l. if live n then n ∷ l else l) rest
      by false false e behind rest = ap (λ l. if live n then n ∷ l else l) rest

  -- the live leases in order are the live ones of those in order
  pub live-in_order : (leases : List PermitLease) → AreDistinct (members_of leases)
      → live_members moment (in_order_of leases) ≡ in_order_of (live_leases moment leases)
  live-in_order [] distinct = refl
  live-in_order (x ∷ xs) distinct =
      let tail = tail-distinct (member_of x) (members_of xs) distinct in
      live-inserted (member_of x) (in_order_of xs) (sorted-in_order (members_of xs) tail)
      ∙ by (is_live x.deadline moment) (live-in_order xs tail)
    where
      by : (b : Bool) → live_members moment (in_order_of xs) ≡ in_order_of (live_leases moment xs)
          → (if b then inserted (member_of x) (live_members moment (in_order_of xs))
          else live_members moment (in_order_of xs))
          ≡ in_order_of (if b then x ∷ live_leases moment xs else live_leases moment xs)
      by true rest = ap (inserted (member_of x)) rest
      by false rest = rest

  -- where the first member is live all are
  pub live-all : (e : Scored) (ms : Scores) → InOrder ms → slice_get ms 0 ≡ Some e → moment < e.1
      → live_members moment ms ≡ ms
  live-all e [] order at ahead = absurd (none_some e (sym at))
  live-all e (m ∷ ms) order at ahead =
      let one = ap (λ (s : Scored). s.1) (some_one m e at) in
      stays (m ∷ ms) (
        is_ahead m (omega (arith, one, ahead)),
        later ms order.0
            (omega (arith, one, ahead)),
      )
    where
      is_ahead : (n : Scored) → moment < n.1 → live n ≡ true
      is_ahead n ahead = grind (arith, ahead, nat_tests)

      later : (ns : Scores) → IsBelow m ns → moment < m.1 → AllByRecursion (λ n. live n ≡ true) ns
      later [] below ahead = tt
      later (n ∷ ns) below ahead =
          let le = no_more m n below.0 in
          (is_ahead n (omega (arith, le, ahead)), later ns below.2 ahead)

      stays : (ns : Scores) → AllByRecursion (λ n. live n ≡ true) ns → live_members moment ns ≡ ns
      stays [] all = refl
      stays (n ∷ ns) all =
          cond-true (live n) (n ∷ live_members moment ns) (live_members moment ns) all.0
          ∙ ap (λ l. n ∷ l) (stays ns all.1)
