-- Laws of ranks: the member of a rank stands at that place of the order, and ranks go with the order.
use Rattle.std.proofs.Common.{◌≡◌, ◌+◌, ◌≤◌, ◌<◌, ℕ, zero, suc, Bool, true, false, cond, ◌&&◌, List, [], ◌∷◌, length, take, Option, Some, None, refl, sym, ap, ◌∙◌, subst, true≢false, arith, add-one}
use Rattle.std.specs.Prelude.{slice_get, IfSome}
use Rattle.std.specs.Str.{bytes_eq}
use Rattle.std.proofs.lemmas.Map.Entries.{lookup_from_place}
use Rattle.std.proofs.lemmas.Cmp.{nat_list_eq_equiv}
use Rattle.lr_sorted.specs.Members.{Scored, Members, comes_before, score_of, inserted}
use Rattle.lr_sorted.specs.Select.{rank_of, rank_at, is_behind, is_ahead, is_between, least_behind, first_past}
use Rattle.lr_sorted.specs.Sorted.{AreDistinct, sorted}
use Rattle.lr_sorted.specs.Tournament.{wins}
use Rattle.lr_sorted.proofs.OrderLaws.{before-itself, before-asym}
use Rattle.lr_sorted.proofs.MemberLaws.{IsBelow, InOrder, below-member, eq-same, eq-sym, eq-is}
use Rattle.lr_sorted.proofs.SortedLaws.{sorted-in_order, sorted-scores, length-sorted, place_of-score}
use Rattle.lr_sorted.proofs.TournamentLaws.{wins-asym, loses-trans}

abbrev pub once : Bool → ℕ
once b = cond b 1 0

rank-cons : (o : Option Scored) (m : Scored) (ms : Members) → rank_of o (m ∷ ms) ≡ once (wins false (Some m) o) + rank_of o ms
rank-cons o m ms = by (wins false (Some m) o)
  where
    by : (b : Bool) → cond b (rank_of o ms + 1) (rank_of o ms) ≡ once b + rank_of o ms
    by true = omega arith
    by false = omega arith

-- the order doesn't matter for ranks
rank-inserted : (o : Option Scored) (x : Scored) (ms : Members) → rank_of o (inserted x ms) ≡ rank_of o (x ∷ ms)
rank-inserted o x [] = refl
rank-inserted o x (m ∷ ms) = by (comes_before x m) (rank-inserted o x ms)
  where
    by : (b : Bool) → rank_of o (inserted x ms) ≡ rank_of o (x ∷ ms)
        → rank_of o (cond b (x ∷ m ∷ ms) (m ∷ inserted x ms)) ≡ rank_of o (x ∷ m ∷ ms)
    by true rest = refl
    by false rest =
        let here = rank-cons o m (inserted x ms) in
        let first = rank-cons o x (m ∷ ms) in
        let second = rank-cons o m ms in
        let behind = rank-cons o x ms in
        omega arith

rank-sorted : (o : Option Scored) (es : Members) → rank_of o (sorted es) ≡ rank_of o es
rank-sorted o [] = refl
rank-sorted o (e ∷ es) =
    let first = rank-inserted o e (sorted es) in
    let left = rank-cons o e (sorted es) in
    let right = rank-cons o e es in
    let rest = rank-sorted o es in
    omega arith

-- none comes before what is below all
rank-below : (e : Scored) (ms : Members) → IsBelow e ms → rank_of (Some e) ms ≡ 0
rank-below e [] h = refl
rank-below e (m ∷ ms) h =
    ap (λ b. cond b (rank_of (Some e) ms + 1) (rank_of (Some e) ms)) (before-asym e m h.0) ∙ rank-below e ms h.2

below-place : (m t : Scored) (ms : Members) (k : ℕ) → IsBelow m ms → slice_get ms k ≡ Some t → comes_before m t ≡ true
below-place m t [] k h at = absurd (cc)
below-place m t (n ∷ ns) zero h at =
    let is : n ≡ t = cc in
    subst (λ (x : Scored). comes_before m x ≡ true) is h.0
below-place m t (n ∷ ns) (suc k) h at = below-place m t ns k h.2 at

-- the rank of the member at a place of the order is the place
rank-place : (t : Scored) (ms : Members) (k : ℕ) → InOrder ms → slice_get ms k ≡ Some t → rank_of (Some t) ms ≡ k
rank-place t [] k h at = absurd (cc)
rank-place t (m ∷ ms) zero h at =
    let is : m ≡ t = cc in
    subst (λ (x : Scored). rank_of (Some x) (m ∷ ms) ≡ 0) is
    (ap (λ b. cond b (rank_of (Some m) ms + 1) (rank_of (Some m) ms)) (before-itself m) ∙ rank-below m ms h.0)
rank-place t (m ∷ ms) (suc k) h at =
    let rest = rank-place t ms k h.1 at in
    ap (λ b. cond b (rank_of (Some t) ms + 1) (rank_of (Some t) ms)) (below-place m t ms k h.0 at) ∙ omega arith

-- a member of the order has its score
score-place : (t : Scored) (ms : Members) (k : ℕ) → InOrder ms → slice_get ms k ≡ Some t → score_of t.0 ms ≡ Some t.1
score-place t [] k h at = absurd (cc)
score-place t (m ∷ ms) zero h at =
    let is : m ≡ t = cc in
    subst (λ (x : Scored). score_of x.0 (m ∷ ms) ≡ Some x.1) is (ap (λ b. cond b (Some m.1) (score_of m.0 ms)) (eq-same m.0))
score-place t (m ∷ ms) (suc k) h at = by (bytes_eq t.0 m.0) refl (score-place t ms k h.1 at)
  where
    apart : (m : Scored) (ns : Members) (k : ℕ) → IsBelow m ns → slice_get ns k ≡ Some t → bytes_eq m.0 t.0 ≡ false
    apart m [] k h at = absurd (cc)
    apart m (n ∷ ns) zero h at =
        let is : n ≡ t = cc in
        subst (λ (x : Scored). bytes_eq m.0 x.0 ≡ false) is h.1
    apart m (n ∷ ns) (suc k) h at = apart m ns k h.2 at

    by : (b : Bool) → bytes_eq t.0 m.0 ≡ b → score_of t.0 ms ≡ Some t.1 → cond b (Some m.1) (score_of t.0 ms) ≡ Some t.1
    by true f rest = absurd (true≢false (sym f ∙ eq-sym t.0 m.0 ∙ apart m ms k h.0 at))
    by false f rest = rest

some-at : {X : Type 0} (xs : List X) (k : ℕ) → k < length xs → (x : X) × (slice_get xs k ≡ Some x)
some-at [] k within = absurd (omega arith)
some-at (x ∷ xs) zero within = (x, refl)
some-at (x ∷ xs) (suc k) within = some-at xs k (omega arith)

-- the member of a rank is in the table
pub sought : (es : Members) (at : ℕ) → AreDistinct es → at < length es
    → (p : ℕ) × (p < length es) × (slice_get es p ≡ slice_get (sorted es) at) × (rank_at es p ≡ at)
sought es at h within =
    let ordered = sorted-in_order es h in
    let long = length-sorted es in
    let t = some-at (sorted es) at (omega arith) in
    let there = sym (sorted-scores es t.0.0 h) ∙ score-place t.0 (sorted es) at ordered t.1 in
    let place = place_of-score t.0.0 t.0.1 es there in (
      place.0,
      place.1,
      place.2 ∙ sym t.1,
      ap (λ o. rank_of o es) place.2 ∙ sym (rank-sorted (Some t.0) es) ∙ rank-place t.0 (sorted es) at ordered t.1,
    )

-- ranks go with the order
rank-mono : (a b : Option Scored) (es : Members) → wins false a b ≡ false → rank_of b es ≤ rank_of a es
rank-mono a b [] e = omega arith
rank-mono a b (m ∷ ms) e = by (wins false (Some m) b) refl (wins false (Some m) a) refl (rank-mono a b ms e)
  where
    by : (x : Bool) → wins false (Some m) b ≡ x → (y : Bool) → wins false (Some m) a ≡ y → rank_of b ms ≤ rank_of a ms
        → cond x (rank_of b ms + 1) (rank_of b ms) ≤ cond y (rank_of a ms + 1) (rank_of a ms)
    by true f true g rest = omega arith
    by true f false g rest = absurd (true≢false (sym f ∙ loses-trans false (Some m) a b g e))
    by false f true g rest = omega arith
    by false f false g rest = rest

rank-strict : (x : Scored) (b : Option Scored) (es : Members) (p : ℕ) → wins false (Some x) b ≡ true
    → slice_get es p ≡ Some x → rank_of (Some x) es < rank_of b es
rank-strict x b [] p e at = absurd (cc)
rank-strict x b (m ∷ ms) zero e at =
    let is : m ≡ x = cc in
    let none : wins false (Some m) (Some x) ≡ false = ap (λ y. wins false (Some y) (Some x)) is ∙ before-itself x in
    let one : wins false (Some m) b ≡ true = ap (λ y. wins false (Some y) b) is ∙ e in
    let here = rank-cons (Some x) m ms ∙ ap (λ c. once c + rank_of (Some x) ms) none in
    let there = rank-cons b m ms ∙ ap (λ c. once c + rank_of b ms) one in
    let rest = rank-mono b (Some x) ms (wins-asym false (Some x) b e) in
    omega arith
rank-strict x b (m ∷ ms) (suc p) e at = by (wins false (Some m) (Some x)) refl (wins false (Some m) b) refl (rank-strict x b ms p e at)
  where
    by : (u : Bool) → wins false (Some m) (Some x) ≡ u → (v : Bool) → wins false (Some m) b ≡ v
        → rank_of (Some x) ms < rank_of b ms
        → cond u (rank_of (Some x) ms + 1) (rank_of (Some x) ms) < cond v (rank_of b ms + 1) (rank_of b ms)
    by true f true g rest = omega arith
    by true f false g rest = absurd (true≢false (sym f ∙ loses-trans false (Some m) b (Some x) g (wins-asym false (Some x) b e)))
    by false f true g rest = omega arith
    by false f false g rest = rest

rank-le : (o : Option Scored) (es : Members) → rank_of o es ≤ length es
rank-le o [] = omega arith
rank-le o (m ∷ ms) = by (wins false (Some m) o) (rank-le o ms)
  where
    by : (b : Bool) → rank_of o ms ≤ length ms → cond b (rank_of o ms + 1) (rank_of o ms) ≤ suc (length ms)
    by true rest = omega arith
    by false rest = omega arith

rank-inside : (x : Scored) (es : Members) (p : ℕ) → slice_get es p ≡ Some x → rank_of (Some x) es < length es
rank-inside x [] p at = absurd (cc)
rank-inside x (m ∷ ms) zero at =
    let is : m ≡ x = cc in
    let none : wins false (Some m) (Some x) ≡ false = ap (λ y. wins false (Some y) (Some x)) is ∙ before-itself x in
    let here = rank-cons (Some x) m ms ∙ ap (λ c. once c + rank_of (Some x) ms) none in
    let rest = rank-le (Some x) ms in
    omega arith
rank-inside x (m ∷ ms) (suc p) at = by (wins false (Some m) (Some x)) (rank-inside x ms p at)
  where
    by : (b : Bool) → rank_of (Some x) ms < length ms → cond b (rank_of (Some x) ms + 1) (rank_of (Some x) ms) < suc (length ms)
    by true rest = omega arith
    by false rest = omega arith

rank-wins : (es : Members) (p q : ℕ) → p < length es → wins false (slice_get es p) (slice_get es q) ≡ true
    → rank_at es p < rank_at es q
rank-wins es p q within e =
    let x = some-at es p within in
    subst (λ (o : Option Scored). rank_of o es < rank_of (slice_get es q) es) (sym x.1)
    (rank-strict x.0 (slice_get es q) es p (subst (λ (o : Option Scored). wins false o (slice_get es q) ≡ true) x.1 e) x.1)

wins-rank : (es : Members) (p q : ℕ) → rank_at es p < rank_at es q → wins false (slice_get es p) (slice_get es q) ≡ true
wins-rank es p q less = by (wins false (slice_get es p) (slice_get es q)) refl
  where
    by : (b : Bool) → wins false (slice_get es p) (slice_get es q) ≡ b → b ≡ true
    by true f = refl
    by false f = absurd (let le = rank-mono (slice_get es p) (slice_get es q) es f in omega arith)

both_true : (a b : Bool) → a ≡ true → b ≡ true → (a && b) ≡ true
both_true a b e f = (λ i. e i && f i)

first_true : (a b : Bool) → (a && b) ≡ true → (a ≡ true) × (b ≡ true)
first_true true true e = (refl, refl)
first_true true false e = absurd (true≢false (sym e))
first_true false b e = absurd (true≢false (sym e))

-- the one that is sought comes between the bounds
pub between-sought : (es : Members) (low high : Option ℕ) (at p : ℕ) → least_behind es low ≤ at → at < first_past es high
    → rank_at es p ≡ at → is_between es low high p ≡ true
between-sought es low high at p from to is = both_true _ _ (behind low from) (ahead high to)
  where
    behind : (low : Option ℕ) → least_behind es low ≤ at → is_behind es low p ≡ true
    behind None from = refl
    behind (Some l) from = wins-rank es l p (omega arith)

    ahead : (high : Option ℕ) → at < first_past es high → is_ahead es high p ≡ true
    ahead None to = refl
    ahead (Some h) to = wins-rank es p h (omega arith)

-- one that comes between the bounds has a rank between them
pub between-behind : (es : Members) (low high : Option ℕ) (p : ℕ) → IfSome low (λ l. l < length es)
    → is_between es low high p ≡ true → least_behind es low ≤ rank_at es p
between-behind es low high p within e = by low within (first_true _ _ e).0
  where
    by : (low : Option ℕ) → IfSome low (λ l. l < length es) → is_behind es low p ≡ true → least_behind es low ≤ rank_at es p
    by None w f = omega arith
    by (Some l) w f = let less = rank-wins es l p w f in omega arith

pub between-ahead : (es : Members) (low high : Option ℕ) (p : ℕ) → p < length es
    → is_between es low high p ≡ true → rank_at es p < first_past es high
between-ahead es low high p within e = by high (first_true _ _ e).1
  where
    by : (high : Option ℕ) → is_ahead es high p ≡ true → rank_at es p < first_past es high
    by None f =
        let x = some-at es p within in
        subst (λ (o : Option Scored). rank_of o es < length es) (sym x.1) (rank-inside x.0 es p x.1)
    by (Some h) f = rank-wins es p h within f

-- the member of this rank stands at that place of the order
rank-found : (x : Scored) (ms : Members) → InOrder ms → score_of x.0 ms ≡ Some x.1
    → slice_get ms (rank_of (Some x) ms) ≡ Some x
rank-found x [] h there = absurd (cc)
rank-found x (m ∷ ms) h there = by (bytes_eq x.0 m.0) refl there (rank-found x ms h.1)
  where
    by : (b : Bool) → bytes_eq x.0 m.0 ≡ b → cond b (Some m.1) (score_of x.0 ms) ≡ Some x.1
        → (score_of x.0 ms ≡ Some x.1 → slice_get ms (rank_of (Some x) ms) ≡ Some x)
        → slice_get (m ∷ ms) (rank_of (Some x) (m ∷ ms)) ≡ Some x
    by true f there rest =
        let bytes : m.0 ≡ x.0 = sym (eq-is x.0 m.0 f) in
        let score : m.1 ≡ x.1 = cc in
        let is : m ≡ x = λ i. (bytes i, score i) in
        let first : rank_of (Some m) (m ∷ ms) ≡ 0 =
        ap (λ b. cond b (rank_of (Some m) ms + 1) (rank_of (Some m) ms)) (before-itself m) ∙ rank-below m ms h.0 in
        ap (λ y. slice_get (m ∷ ms) (rank_of (Some y) (m ∷ ms))) (sym is)
        ∙ ap (λ k. slice_get (m ∷ ms) k) first ∙ ap (λ y. Some y) is
    by false f there rest =
        let behind : rank_of (Some x) (m ∷ ms) ≡ suc (rank_of (Some x) ms) =
        ap (λ b. cond b (rank_of (Some x) ms + 1) (rank_of (Some x) ms)) (below-member m ms x.0 x.1 h.0 there)
        ∙ omega arith in
        ap (λ k. slice_get (m ∷ ms) k) behind ∙ rest there

-- a place of the table with this rank has the member at that place of the order
pub rank-is : (es : Members) (at p : ℕ) → AreDistinct es → p < length es → rank_at es p ≡ at
    → slice_get es p ≡ slice_get (sorted es) at
rank-is es at p h within is =
    let x = some-at es p within in
    let there = lookup_from_place nat_list_eq_equiv es p x.0.0 x.0.1 h x.1 in
    let rank : rank_of (Some x.0) (sorted es) ≡ at =
    rank-sorted (Some x.0) es ∙ ap (λ o. rank_of o es) (sym x.1) ∙ is in
    x.1 ∙ sym (rank-found x.0 (sorted es) (sorted-in_order es h) (sorted-scores es x.0.0 h ∙ there))
    ∙ ap (λ k. slice_get (sorted es) k) rank

-- the ranks among the first entries
rank-take-suc : (o : Option Scored) (es : Members) (k : ℕ) → k < length es
    → rank_of o (take (suc k) es) ≡ rank_of o (take k es) + once (wins false (slice_get es k) o)
rank-take-suc o [] k within = absurd (omega arith)
rank-take-suc o (e ∷ es) zero within = rank-cons o e [] ∙ omega arith
rank-take-suc o (e ∷ es) (suc k) within =
    let rest = rank-take-suc o es k (omega arith) in
    let now = rank-cons o e (take (suc k) es) in
    let was = rank-cons o e (take k es) in
    let both : rank_of o (e ∷ take (suc k) es) ≡ rank_of o (e ∷ take k es) + once (wins false (slice_get es k) o) = omega arith in
    both

pub rank-take : (o : Option Scored) (es : Members) (k : ℕ) → k < length es
    → rank_of o (take (k + 1) es) ≡ rank_of o (take k es) + once (wins false (slice_get es k) o)
rank-take o es k within = rw add-one (rank-take-suc o es k within)
