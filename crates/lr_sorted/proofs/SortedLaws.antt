-- Laws of members put in order: they have the scores that they had, and the ends are those against
-- which nobody wins.
use Rattle.std.proofs.Common.{◌≡◌, ◌≢◌, ◌+◌, ◌-◌, ◌≤◌, ◌<◌, ℕ, suc, pos, negsuc, Bool, true, false, cond, List, [], ◌∷◌, length, Option, Some, None, nat_lt, refl, sym, ap, ◌∙◌, subst, true≢false, arith, get_or}
use Rattle.std.specs.Prelude.{slice_get}
use Rattle.std.specs.List.{AllByRecursion}
use Rattle.std.specs.Map.{keys_of}
use Rattle.std.specs.Str.{bytes_eq}
use Rattle.std.specs.Option.{option_and_then}
use Rattle.std.proofs.lemmas.Map.Keys.{IsDistinct-head, IsDistinct-tail}
use Rattle.std.proofs.lemmas.Map.Entries.{lookup_from_place}
use Rattle.std.proofs.lemmas.Cmp.{nat_list_eq_equiv}
use Rattle.std.proofs.lemmas.Bool.Decides.{nat_tests}
use Rattle.std.specs.List.Sorted.{IsPermutation, IsSortedBy}
use Rattle.std.proofs.lemmas.List.Sorted.{IsPermutation-map}
use Rattle.std.proofs.lemmas.Map.Keys.{IsDistinct-IsPermutation}
use Rattle.indexmap.proofs.MapLemmas.{lookup_permutation}
use Rattle.lr_lists.specs.Places.{item_at}
use Rattle.lr_lists.proofs.PlaceLaws.{item_at-place_in}
use Rattle.lr_sorted.specs.Members.{Scored, Members, comes_before, is_in_order, score_of, without_member, with_score}
use Rattle.lr_sorted.specs.Sorted.{AreDistinct, sorted, IsPut, IsTaken}
use Rattle.lr_sorted.specs.Tournament.{wins}
use Rattle.lr_sorted.proofs.OrderLaws.{before-other}
use Rattle.lr_sorted.proofs.MemberLaws.{IsBelow, InOrder, in_order_to, greatest-last, in_order-inserted, in_order-with_score, in_order-without, score_of-inserted, score_of-with_score, score_of-without, length-inserted, same_members, below-absent, below-member, below-through, eq-sym, eq-same, eq-is}

keys-absent : (q : List ℕ) (es : Members) → AllByRecursion (λ y. bytes_eq q y ≡ false) (keys_of es)
    → score_of q es ≡ None
keys-absent q [] h = refl
keys-absent q (e ∷ es) h = ap (λ b. cond b (Some e.1) (score_of q es)) h.0 ∙ keys-absent q es h.1

-- the first of distinct members isn't among the others
pub head-absent : (e : Scored) (es : Members) → AreDistinct (e ∷ es) → score_of e.0 es ≡ None
head-absent e es h = keys-absent e.0 es (IsDistinct-head bytes_eq e.0 (keys_of es) h)

pub tail-distinct : (e : Scored) (es : Members) → AreDistinct (e ∷ es) → AreDistinct es
tail-distinct e es h = IsDistinct-tail bytes_eq e.0 (keys_of es) h

mutual_scores : (es : Members) → AreDistinct es
    → InOrder (sorted es) × ((q : List ℕ) → score_of q (sorted es) ≡ score_of q es)
mutual_scores [] h = (tt, λ q. refl)
mutual_scores (e ∷ es) h =
    let rest = mutual_scores es (tail-distinct e es h) in
    let absent : score_of e.0 (sorted es) ≡ None = rest.1 e.0 ∙ head-absent e es h in (
      in_order-inserted e (sorted es) rest.0 absent,
      λ q. score_of-inserted e q (sorted es) absent
          ∙ ap (λ o. cond (bytes_eq e.0 q) (Some e.1) o) (rest.1 q)
          ∙ ap (λ b. cond b (Some e.1) (score_of q es)) (eq-sym e.0 q),
    )

pub sorted-in_order : (es : Members) → AreDistinct es → InOrder (sorted es)
sorted-in_order es h = (mutual_scores es h).0

pub sorted-scores : (es : Members) (q : List ℕ) → AreDistinct es → score_of q (sorted es) ≡ score_of q es
sorted-scores es q h = (mutual_scores es h).1 q

pub length-sorted : (es : Members) → length (sorted es) ≡ length es
length-sorted [] = refl
length-sorted (e ∷ es) = length-inserted e (sorted es) ∙ ap suc (length-sorted es)

-- a new score for a member
pub sorted-with_score : (old new : Members) (k : List ℕ) (s : ℕ) → AreDistinct old → AreDistinct new
    → ((q : List ℕ) → score_of q new ≡ cond (bytes_eq k q) (Some s) (score_of q old))
    → sorted new ≡ with_score k s (sorted old)
sorted-with_score old new k s h g scores =
    let ordered = sorted-in_order old h in
    same_members (sorted new) (with_score k s (sorted old)) (sorted-in_order new g)
    (in_order-with_score k s (sorted old) ordered)
    (λ q. sorted-scores new q g ∙ scores q
    ∙ ap (λ o. cond (bytes_eq k q) (Some s) o) (sym (sorted-scores old q h))
    ∙ sym (score_of-with_score k s q (sorted old) ordered))

-- a member less
pub sorted-without : (old new : Members) (k : List ℕ) → AreDistinct old → AreDistinct new
    → ((q : List ℕ) → score_of q new ≡ cond (bytes_eq k q) None (score_of q old))
    → sorted new ≡ without_member k (sorted old)
sorted-without old new k h g scores =
    let ordered = sorted-in_order old h in
    same_members (sorted new) (without_member k (sorted old)) (sorted-in_order new g)
    (in_order-without k (sorted old) ordered)
    (λ q. sorted-scores new q g ∙ scores q
    ∙ ap (λ o. cond (bytes_eq k q) None o) (sym (sorted-scores old q h))
    ∙ sym (score_of-without k q (sorted old) ordered))

-- a member that has a score stands somewhere
pub place_of-score : (q : List ℕ) (s : ℕ) (es : Members) → score_of q es ≡ Some s
    → (p : ℕ) × (p < length es) × (slice_get es p ≡ Some (q, s))
place_of-score q s [] there = absurd (cc)
place_of-score q s (e ∷ es) there = by (bytes_eq q e.0) refl there (place_of-score q s es)
  where
    by : (b : Bool) → bytes_eq q e.0 ≡ b → cond b (Some e.1) (score_of q es) ≡ Some s
        → (score_of q es ≡ Some s → (p : ℕ) × (p < length es) × (slice_get es p ≡ Some (q, s)))
        → (p : ℕ) × (p < length (e ∷ es)) × (slice_get (e ∷ es) p ≡ Some (q, s))
    by true f there rest =
        let bytes : e.0 ≡ q = sym (eq-is q e.0 f) in
        let score : e.1 ≡ s = cc in
        (0, omega arith, λ i. Some (bytes i, score i))
    by false f there rest = let r = rest there in (suc r.0, omega arith, r.2)

-- members in order, of which the one before which none comes is first
pub first-is : (e : Scored) (ms : Members) → InOrder ms → score_of e.0 ms ≡ Some e.1
    → ((q : List ℕ) (s : ℕ) → score_of q ms ≡ Some s → comes_before (q, s) e ≡ false)
    → item_at (pos 0) ms ≡ Some e
first-is e [] h there least = absurd (cc)
first-is e (m ∷ ms) h there least = by (bytes_eq e.0 m.0) refl there
  where
    by : (b : Bool) → bytes_eq e.0 m.0 ≡ b → cond b (Some m.1) (score_of e.0 ms) ≡ Some e.1
        → Some m ≡ Some e
    by true f there =
        let bytes : m.0 ≡ e.0 = sym (eq-is e.0 m.0 f) in
        let score : m.1 ≡ e.1 = cc in
        λ i. Some (bytes i, score i)
    by false f there =
        let before = below-member m ms e.0 e.1 h.0 there in
        let first = least m.0 m.1 (ap (λ b. cond b (Some m.1) (score_of m.0 ms)) (eq-same m.0)) in
        absurd (true≢false (sym before ∙ first))

-- and the one after which none comes is last
pub last-is : (e : Scored) (ms : Members) → InOrder ms → score_of e.0 ms ≡ Some e.1
    → ((q : List ℕ) (s : ℕ) → score_of q ms ≡ Some s → comes_before e (q, s) ≡ false)
    → slice_get ms (length ms - 1) ≡ Some e
last-is e [] h there greatest = absurd (cc)
last-is e (m ∷ []) h there greatest = by (bytes_eq e.0 m.0) refl there
  where
    by : (b : Bool) → bytes_eq e.0 m.0 ≡ b → cond b (Some m.1) None ≡ Some e.1 → Some m ≡ Some e
    by true f there =
        let bytes : m.0 ≡ e.0 = sym (eq-is e.0 m.0 f) in
        let score : m.1 ≡ e.1 = cc in
        λ i. Some (bytes i, score i)
    by false f there = absurd (cc)
last-is e (m ∷ n ∷ ns) h there greatest = by (bytes_eq e.0 m.0) refl there (last-is e (n ∷ ns) h.1)
  where
    next : score_of n.0 (m ∷ n ∷ ns) ≡ Some n.1
    next =
        ap (λ b. cond b (Some m.1) (score_of n.0 (n ∷ ns))) (eq-sym n.0 m.0 ∙ h.0.1)
        ∙ ap (λ b. cond b (Some n.1) (score_of n.0 ns)) (eq-same n.0)

    behind : (q : List ℕ) (s : ℕ) → score_of q (n ∷ ns) ≡ Some s → score_of q (m ∷ n ∷ ns) ≡ Some s
    behind q s f = go (bytes_eq q m.0) refl
      where
        go : (b : Bool) → bytes_eq q m.0 ≡ b → cond b (Some m.1) (score_of q (n ∷ ns)) ≡ Some s
        go true g =
            let before = below-member m (n ∷ ns) q s h.0 f in
            let is : q ≡ m.0 = eq-is q m.0 g in
            absurd (not_here is f)
          where
            not_here : q ≡ m.0 → score_of q (n ∷ ns) ≡ Some s → ⊥
            not_here is f =
                let none = below-absent m (n ∷ ns) h.0 in
                let some : score_of m.0 (n ∷ ns) ≡ Some s = subst (λ (k : List ℕ). score_of k (n ∷ ns) ≡ Some s) is f in
                let e : None ≡ Some s = sym none ∙ some in
                cc
        go false g = f

    by : (b : Bool) → bytes_eq e.0 m.0 ≡ b → cond b (Some m.1) (score_of e.0 (n ∷ ns)) ≡ Some e.1
        → (score_of e.0 (n ∷ ns) ≡ Some e.1
        → ((q : List ℕ) (s : ℕ) → score_of q (n ∷ ns) ≡ Some s → comes_before e (q, s) ≡ false)
        → slice_get (n ∷ ns) (length (n ∷ ns) - 1) ≡ Some e)
        → slice_get (m ∷ n ∷ ns) (length (m ∷ n ∷ ns) - 1) ≡ Some e
    by true f there rest =
        let bytes : m.0 ≡ e.0 = sym (eq-is e.0 m.0 f) in
        let score : m.1 ≡ e.1 = cc in
        let same : m ≡ e = λ i. (bytes i, score i) in
        let before : comes_before e n ≡ true = subst (λ (x : Scored). comes_before x n ≡ true) same h.0.0 in
        absurd (true≢false (sym before ∙ greatest n.0 n.1 next))
    by false f there rest =
        let place : length (m ∷ n ∷ ns) - 1 ≡ suc (length (n ∷ ns) - 1) = omega arith in
        ap (λ k. slice_get (m ∷ n ∷ ns) k) place ∙ rest there (λ q s g. greatest q s (behind q s g))

-- the last place counted from the end
pub last-place : (ms : Members) → 0 < length ms → item_at (negsuc 0) ms ≡ slice_get ms (length ms - 1)
last-place ms some =
    item_at-place_in (negsuc 0) ms ∙ by (nat_lt 0 (length ms)) refl
  where
    by : (b : Bool) → nat_lt 0 (length ms) ≡ b
        → option_and_then (λ p. slice_get ms p) (cond b (Some (length ms - (0 + 1))) None) ≡ slice_get ms (length ms - 1)
    by true f = refl
    by false f = absurd (let none : length ms ≤ 0 = grind (arith, nat_tests) in omega arith)

-- what a change of a table comes to, for the members in order
pub put-is : (old new : Members) (k : List ℕ) (s place : ℕ) → AreDistinct old → AreDistinct new
    → ((q : List ℕ) → score_of q new ≡ cond (bytes_eq k q) (Some s) (score_of q old))
    → ((j : ℕ) → j ≢ place → slice_get new j ≡ slice_get old j) → IsPut k s place old new
put-is old new k s place h g scores others = record {
  order = in_order_to (sorted old) (sorted-in_order old h);
  there = sorted-scores old k h;
  sorted = sorted-with_score old new k s h g scores;
  others = others;
}

pub taken-is : (old new : Members) (k : List ℕ) (place : ℕ) → AreDistinct old → AreDistinct new
    → ((q : List ℕ) → score_of q new ≡ cond (bytes_eq k q) None (score_of q old))
    → ((j : ℕ) → j ≢ place → j ≢ length new → slice_get new j ≡ slice_get old j) → IsTaken k place old new
taken-is old new k place h g scores others = record {
  order = in_order_to (sorted old) (sorted-in_order old h);
  sorted = sorted-without old new k h g scores;
  others = others;
}

-- who wins the final of the members is the first, or the last, of them in order
pub final-first : (es : Members) (place : ℕ) → AreDistinct es
    → ((p : ℕ) → p < length es → wins false (slice_get es p) (slice_get es place) ≡ false)
    → slice_get es place ≡ item_at (pos 0) (sorted es)
final-first [] place h best = refl
final-first (e ∷ es) place h best = by (slice_get (e ∷ es) place) refl
  where
    by : (o : Option Scored) → slice_get (e ∷ es) place ≡ o → o ≡ item_at (pos 0) (sorted (e ∷ es))
    by None f =
        let beaten = best 0 (omega arith) in
        absurd (true≢false (subst (λ (o : Option Scored). wins false (Some e) o ≡ false) f beaten))
    by (Some w) f =
        let there = lookup_from_place nat_list_eq_equiv (e ∷ es) place w.0 w.1 h f in
        sym (first-is w (sorted (e ∷ es)) (sorted-in_order (e ∷ es) h)
        (sorted-scores (e ∷ es) w.0 h ∙ there)
        (λ q s g.
        let at = place_of-score q s (e ∷ es) (sym (sorted-scores (e ∷ es) q h) ∙ g) in
        (λ i. wins false (sym at.2 i) (sym f i)) ∙ best at.0 at.1))

pub final-last : (es : Members) (place : ℕ) → AreDistinct es
    → ((p : ℕ) → p < length es → wins true (slice_get es p) (slice_get es place) ≡ false)
    → slice_get es place ≡ item_at (negsuc 0) (sorted es)
final-last [] place h best = refl
final-last (e ∷ es) place h best = by (slice_get (e ∷ es) place) refl
  where
    by : (o : Option Scored) → slice_get (e ∷ es) place ≡ o → o ≡ item_at (negsuc 0) (sorted (e ∷ es))
    by None f =
        let beaten = best 0 (omega arith) in
        absurd (true≢false (subst (λ (o : Option Scored). wins true (Some e) o ≡ false) f beaten))
    by (Some w) f =
        let there = lookup_from_place nat_list_eq_equiv (e ∷ es) place w.0 w.1 h f in
        let long = length-sorted (e ∷ es) in
        sym (last-place (sorted (e ∷ es)) (omega arith)
        ∙ last-is w (sorted (e ∷ es)) (sorted-in_order (e ∷ es) h)
        (sorted-scores (e ∷ es) w.0 h ∙ there)
        (λ q s g.
        let at = place_of-score q s (e ∷ es) (sym (sorted-scores (e ∷ es) q h) ∙ g) in
        (λ i. wins true (sym at.2 i) (sym f i)) ∙ best at.0 at.1))

-- members of which none comes after the next are in order
pub in_order-sorted : (ms : Members) → AreDistinct ms → IsSortedBy comes_before ms → InOrder ms
in_order-sorted [] h rises = tt
in_order-sorted (m ∷ ms) h rises = (
  below-rest m ms (head-absent m ms h) (in_order-sorted ms (tail-distinct m ms h) (tail ms rises)) (first ms rises),
  in_order-sorted ms (tail-distinct m ms h) (tail ms rises),
)
  where
    tail : (ms : Members) → IsSortedBy comes_before (m ∷ ms) → IsSortedBy comes_before ms
    tail ms rises = λ k d low high.
        let next : suc k + 1 ≡ suc (k + 1) = omega arith in
        subst (λ (n : ℕ). comes_before (get_or (m ∷ ms) n d) (get_or ms k d) ≡ false) next
        (rises (suc k) d (omega arith) (omega arith))

    first : (ms : Members) → IsSortedBy comes_before (m ∷ ms) → (n : Scored) → slice_get ms 0 ≡ Some n → comes_before n m ≡ false
    first [] rises n at = absurd (cc)
    first (x ∷ xs) rises n at =
        let is : x ≡ n = cc in
        subst (λ (y : Scored). comes_before y m ≡ false) is (rises 0 m (omega arith) (omega arith))

    below-rest : (m : Scored) (ms : Members) → score_of m.0 ms ≡ None → InOrder ms
        → ((n : Scored) → slice_get ms 0 ≡ Some n → comes_before n m ≡ false) → IsBelow m ms
    below-rest m [] absent g least = tt
    below-rest m (n ∷ ns) absent g least =
        let apart = absent-apart n ns absent in
        let before = before-other n m (eq-sym n.0 m.0 ∙ apart) (least n refl) in
        (before, apart, below-through m n ns before g.0 (absent-rest n ns absent apart))
      where
        absent-apart : (n : Scored) (ns : Members) → score_of m.0 (n ∷ ns) ≡ None → bytes_eq m.0 n.0 ≡ false
        absent-apart n ns absent = by (bytes_eq m.0 n.0) absent
          where
            by : (b : Bool) → cond b (Some n.1) (score_of m.0 ns) ≡ None → b ≡ false
            by true e = absurd (cc)
            by false e = refl

        absent-rest : (n : Scored) (ns : Members) → score_of m.0 (n ∷ ns) ≡ None → bytes_eq m.0 n.0 ≡ false → score_of m.0 ns ≡ None
        absent-rest n ns absent apart = sym (ap (λ b. cond b (Some n.1) (score_of m.0 ns)) apart) ∙ absent

-- a sort gives the members in order
pub sort-is : (old new : Members) → AreDistinct old → IsPermutation old new → IsSortedBy comes_before new
    → new ≡ sorted old
sort-is old new h moves rises =
    let distinct = IsDistinct-IsPermutation bytes_eq (λ x y. eq-sym x y) (keys_of old) (keys_of new)
    (IsPermutation-map (λ (e : Scored). e.0) old new moves) h in
    same_members new (sorted old) (in_order-sorted new distinct rises) (sorted-in_order old h)
    (λ q. moved q distinct ∙ sym (sorted-scores old q h))
  where
    moved : (q : List ℕ) → AreDistinct new → score_of q new ≡ score_of q old
    moved q distinct = lookup_permutation nat_list_eq_equiv old new moves distinct (bytes_eq q) (nat_list_eq_equiv.congr q)

-- the last member, counted from the end, has the greatest score
pub greatest-at_end : (e : Scored) (ms : Members) (q : List ℕ) (s : ℕ) → is_in_order ms ≡ true
    → item_at (negsuc 0) ms ≡ Some e → score_of q ms ≡ Some s → s ≤ e.1
greatest-at_end e [] q s h at there = absurd (cc)
greatest-at_end e (m ∷ ms) q s h at there =
    greatest-last e (m ∷ ms) q s h (sym (last-place (m ∷ ms) (omega arith)) ∙ at) there
