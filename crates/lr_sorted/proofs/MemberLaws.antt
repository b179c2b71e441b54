-- Laws of sorted members: what is in order stays so, what scores there are, and that members in
-- order are known by their scores.
use Rattle.std.proofs.Common.{◌≡◌, ◌⊎◌, inl, inr, ◌+◌, ◌-◌, ◌≤◌, ◌<◌, ℕ, zero, suc, pos, nat_lt, Bool, true, false, cond, not, ◌&&◌, List, [], ◌∷◌, ◌++◌, length, take, get_or, Option, Some, None, refl, sym, ap, ◌∙◌, subst, true≢false, arith}
use Rattle.std.specs.Prelude.{slice_get, ◌==◌}
use Rattle.std.specs.Ordering.{nat_cmp, is_lt, ordering_then}
use Rattle.std.specs.declared.cmp.Ordering.TheVariants.{Less, Equal, Greater}
use Rattle.std.specs.Cmp.Lexicographic.{slice_cmp}
use Rattle.std.proofs.lemmas.Bool.Decides.{nat_tests}
use Rattle.lr_lists.specs.Places.{item_at}
use Rattle.std.specs.List.{list_all}
use Rattle.std.proofs.lemmas.List.{take_more}
use Rattle.std.specs.Str.{bytes_eq}
use Rattle.std.proofs.lemmas.Slice.Eq.{bytes_eq-Decides}
use Rattle.std.proofs.lemmas.Cmp.{nat_list_eq_equiv}
use Rattle.lr_sorted.specs.Members.{Scored, Members, comes_before, is_in_order, score_of, without_member, inserted, with_score}
use Rattle.lr_sorted.proofs.OrderLaws.{before-itself, before-trans, before-asym, before-other}

-- a member comes before each of these, and has other bytes
abbrev pub IsBelow : Scored → Members → Type 0
IsBelow m [] = Unit {0}
IsBelow m (n ∷ ns) = (comes_before m n ≡ true) × (bytes_eq m.0 n.0 ≡ false) × IsBelow m ns

-- each member comes before the later ones
abbrev pub InOrder : Members → Type 0
InOrder [] = Unit {0}
InOrder (m ∷ ms) = IsBelow m ms × InOrder ms

both : (a b : Bool) → (a && b) ≡ true → (a ≡ true) × (b ≡ true)
both true true e = (refl, refl)
both true false e = absurd (true≢false (sym e))
both false b e = absurd (true≢false (sym e))

not-true : (b : Bool) → not b ≡ true → b ≡ false
not-true true e = absurd (true≢false (sym e))
not-true false e = refl

below_from : (m : Scored) (ms : Members)
    → list_all (λ later. comes_before m later && not (bytes_eq m.0 later.0)) ms ≡ true → IsBelow m ms
below_from m [] e = tt
below_from m (n ∷ ns) e =
    let p = both _ _ e in
    let q = both _ _ p.0 in
    (q.0, not-true _ q.1, below_from m ns p.1)

below_to : (m : Scored) (ms : Members) → IsBelow m ms
    → list_all (λ later. comes_before m later && not (bytes_eq m.0 later.0)) ms ≡ true
below_to m [] h = refl
below_to m (n ∷ ns) h = rw (h.0, h.1, below_to m ns h.2)

pub in_order_from : (ms : Members) → is_in_order ms ≡ true → InOrder ms
in_order_from [] e = tt
in_order_from (m ∷ ms) e =
    let p = both _ _ e in
    (below_from m ms p.0, in_order_from ms p.1)

pub in_order_to : (ms : Members) → InOrder ms → is_in_order ms ≡ true
in_order_to [] h = refl
in_order_to (m ∷ ms) h = rw (below_to m ms h.0, in_order_to ms h.1)

-- equal bytes, either way round
pub eq-sym : (a b : List ℕ) → bytes_eq a b ≡ bytes_eq b a
eq-sym a b = nat_list_eq_equiv.symm a b

pub eq-same : (a : List ℕ) → bytes_eq a a ≡ true
eq-same a = nat_list_eq_equiv.refl a

pub eq-is : (a b : List ℕ) → bytes_eq a b ≡ true → a ≡ b
eq-is a b e = (bytes_eq-Decides a b).0 e

-- a member that is below these isn't among them
pub below-absent : (m : Scored) (ms : Members) → IsBelow m ms → score_of m.0 ms ≡ None
below-absent m [] h = refl
below-absent m (n ∷ ns) h = rw h.1 (below-absent m ns h.2)

-- and comes before each
pub below-member : (m : Scored) (ms : Members) (q : List ℕ) (s : ℕ) → IsBelow m ms
    → score_of q ms ≡ Some s → comes_before m (q, s) ≡ true
below-member m [] q s h e = absurd (cc)
below-member m (n ∷ ns) q s h e = by (bytes_eq q n.0) refl e (below-member m ns q s h.2)
  where
    by : (b : Bool) → bytes_eq q n.0 ≡ b → cond b (Some n.1) (score_of q ns) ≡ Some s
        → (score_of q ns ≡ Some s → comes_before m (q, s) ≡ true) → comes_before m (q, s) ≡ true
    by true same e rest =
        let score : n.1 ≡ s = cc in
        let bytes : n.0 ≡ q = sym (eq-is q n.0 same) in
        subst (λ (x : ℕ). comes_before m (q, x) ≡ true) score
        (subst (λ (x : List ℕ). comes_before m (x, n.1) ≡ true) bytes h.0)
    by false same e rest = rest e

-- what comes before the first comes before all
pub below-through : (e m : Scored) (ms : Members) → comes_before e m ≡ true → IsBelow m ms
    → score_of e.0 ms ≡ None → IsBelow e ms
below-through e m [] before h absent = tt
below-through e m (n ∷ ns) before h absent = by (bytes_eq e.0 n.0) refl absent (below-through e m ns before h.2)
  where
    by : (b : Bool) → bytes_eq e.0 n.0 ≡ b → cond b (Some n.1) (score_of e.0 ns) ≡ None
        → (score_of e.0 ns ≡ None → IsBelow e ns)
        → (comes_before e n ≡ true) × (bytes_eq e.0 n.0 ≡ false) × IsBelow e ns
    by true same absent rest = absurd (cc)
    by false apart absent rest = (before-trans e m n before h.0, apart, rest absent)

below-inserted : (m e : Scored) (ms : Members) → comes_before m e ≡ true → bytes_eq m.0 e.0 ≡ false
    → IsBelow m ms → IsBelow m (inserted e ms)
below-inserted m e [] before apart h = (before, apart, tt)
below-inserted m e (n ∷ ns) before apart h = by (comes_before e n) (below-inserted m e ns before apart h.2)
  where
    by : (b : Bool) → IsBelow m (inserted e ns) → IsBelow m (cond b (e ∷ n ∷ ns) (n ∷ inserted e ns))
    by true rest = (before, apart, h)
    by false rest = (h.0, h.1, rest)

-- a new member goes where it keeps the order
pub in_order-inserted : (e : Scored) (ms : Members) → InOrder ms → score_of e.0 ms ≡ None
    → InOrder (inserted e ms)
in_order-inserted e [] h absent = (tt, tt)
in_order-inserted e (m ∷ ms) h absent = by (bytes_eq e.0 m.0) refl absent (comes_before e m) refl (in_order-inserted e ms h.1)
  where
    by : (b : Bool) → bytes_eq e.0 m.0 ≡ b → cond b (Some m.1) (score_of e.0 ms) ≡ None
        → (d : Bool) → comes_before e m ≡ d → (score_of e.0 ms ≡ None → InOrder (inserted e ms))
        → InOrder (cond d (e ∷ m ∷ ms) (m ∷ inserted e ms))
    by true same absent d f rest = absurd (cc)
    by false apart absent true before rest =
        ((before, apart, below-through e m ms before h.0 absent), h)
    by false apart absent false after rest =
        (below-inserted m e ms (before-other e m apart after) (eq-sym m.0 e.0 ∙ apart) h.0, rest absent)

below-without : (q : List ℕ) (m : Scored) (ms : Members) → IsBelow m ms → IsBelow m (without_member q ms)
below-without q m [] h = tt
below-without q m (n ∷ ns) h = by (bytes_eq q n.0) (below-without q m ns h.2)
  where
    by : (b : Bool) → IsBelow m (without_member q ns) → IsBelow m (cond b ns (n ∷ without_member q ns))
    by true rest = h.2
    by false rest = (h.0, h.1, rest)

-- the order stays without a member
pub in_order-without : (q : List ℕ) (ms : Members) → InOrder ms → InOrder (without_member q ms)
in_order-without q [] h = tt
in_order-without q (m ∷ ms) h = by (bytes_eq q m.0) (in_order-without q ms h.1)
  where
    by : (b : Bool) → InOrder (without_member q ms) → InOrder (cond b ms (m ∷ without_member q ms))
    by true rest = h.1
    by false rest = (below-without q m ms h.0, rest)

-- the scores without a member: the others keep theirs
pub score_of-without : (k q : List ℕ) (ms : Members) → InOrder ms
    → score_of q (without_member k ms) ≡ cond (bytes_eq k q) None (score_of q ms)
score_of-without k q [] h = by (bytes_eq k q)
  where
    by : (b : Bool) → ◌≡◌ {A = Option ℕ} None (cond b None None)
    by true = refl
    by false = refl
score_of-without k q (m ∷ ms) h = by (bytes_eq k m.0) refl (bytes_eq q m.0) refl (bytes_eq k q) refl (score_of-without k q ms h.1)
  where
    by : (a : Bool) → bytes_eq k m.0 ≡ a → (b : Bool) → bytes_eq q m.0 ≡ b → (d : Bool) → bytes_eq k q ≡ d
        → score_of q (without_member k ms) ≡ cond d None (score_of q ms)
        → score_of q (cond a ms (m ∷ without_member k ms)) ≡ cond d None (cond b (Some m.1) (score_of q ms))
    by true e b f true g rest =
        let is : q ≡ m.0 = sym (eq-is k q g) ∙ eq-is k m.0 e in
        ap (λ x. score_of x ms) is ∙ below-absent m ms h.0
    by true e true f false g rest =
        let is : k ≡ q = eq-is k m.0 e ∙ sym (eq-is q m.0 f) in
        absurd (true≢false (sym (eq-same k) ∙ ap (bytes_eq k) is ∙ g))
    by true e false f false g rest = refl
    by false e true f true g rest =
        let is : k ≡ m.0 = eq-is k q g ∙ eq-is q m.0 f in
        absurd (true≢false (sym (eq-same k) ∙ ap (bytes_eq k) is ∙ e))
    by false e true f false g rest = rw f
    by false e false f true g rest = rw f rest
    by false e false f false g rest = rw f rest

-- the scores with a new member
pub score_of-inserted : (e : Scored) (q : List ℕ) (ms : Members) → score_of e.0 ms ≡ None
    → score_of q (inserted e ms) ≡ cond (bytes_eq e.0 q) (Some e.1) (score_of q ms)
score_of-inserted e q [] absent = ap (λ b. cond b (Some e.1) None) (eq-sym q e.0)
score_of-inserted e q (m ∷ ms) absent = by (comes_before e m) (bytes_eq e.0 m.0) refl absent (score_of-inserted e q ms)
  where
    turned : (e : Scored) (q : List ℕ) (o : Option ℕ) → cond (bytes_eq q e.0) (Some e.1) o ≡ cond (bytes_eq e.0 q) (Some e.1) o
    turned e q o = ap (λ b. cond b (Some e.1) o) (eq-sym q e.0)

    swapped : (b d : Bool) → (b ≡ true → d ≡ true → ⊥) → (x y : ℕ) (o : Option ℕ)
        → cond b (Some x) (cond d (Some y) o) ≡ cond d (Some y) (cond b (Some x) o)
    swapped true true never x y o = absurd (never refl refl)
    swapped true false never x y o = refl
    swapped false true never x y o = refl
    swapped false false never x y o = refl

    by : (d b : Bool) → bytes_eq e.0 m.0 ≡ b → cond b (Some m.1) (score_of e.0 ms) ≡ None
        → (score_of e.0 ms ≡ None
        → score_of q (inserted e ms) ≡ cond (bytes_eq e.0 q) (Some e.1) (score_of q ms))
        → score_of q (cond d (e ∷ m ∷ ms) (m ∷ inserted e ms))
        ≡ cond (bytes_eq e.0 q) (Some e.1) (cond (bytes_eq q m.0) (Some m.1) (score_of q ms))
    by d true f absent rest = absurd (cc)
    by true false f absent rest = turned e q (cond (bytes_eq q m.0) (Some m.1) (score_of q ms))
    by false false f absent rest =
        ap (λ o. cond (bytes_eq q m.0) (Some m.1) o) (rest absent)
        ∙ swapped (bytes_eq q m.0) (bytes_eq e.0 q)
        (λ g h. true≢false (sym (eq-same e.0) ∙ ap (bytes_eq e.0) (eq-is e.0 q h ∙ eq-is q m.0 g) ∙ f)) m.1 e.1 (score_of q ms)

-- a member that was taken out is absent
pub without-absent : (k : List ℕ) (ms : Members) → InOrder ms → score_of k (without_member k ms) ≡ None
without-absent k ms h =
    score_of-without k k ms h ∙ ap (λ b. cond b None (score_of k ms)) (eq-same k)

-- the scores with a score for a member: the others keep theirs
pub score_of-with_score : (k : List ℕ) (s : ℕ) (q : List ℕ) (ms : Members) → InOrder ms
    → score_of q (with_score k s ms) ≡ cond (bytes_eq k q) (Some s) (score_of q ms)
score_of-with_score k s q ms h =
    score_of-inserted (k, s) q (without_member k ms) (without-absent k ms h)
    ∙ ap (λ o. cond (bytes_eq k q) (Some s) o) (score_of-without k q ms h)
    ∙ twice (bytes_eq k q) (score_of q ms)
  where
    twice : (b : Bool) (o : Option ℕ) → cond b (Some s) (cond b None o) ≡ cond b (Some s) o
    twice true o = refl
    twice false o = refl

pub in_order-with_score : (k : List ℕ) (s : ℕ) (ms : Members) → InOrder ms → InOrder (with_score k s ms)
in_order-with_score k s ms h =
    in_order-inserted (k, s) (without_member k ms) (in_order-without k ms h) (without-absent k ms h)

pub length-inserted : (e : Scored) (ms : Members) → length (inserted e ms) ≡ suc (length ms)
length-inserted e [] = refl
length-inserted e (m ∷ ms) = by (comes_before e m) (length-inserted e ms)
  where
    by : (b : Bool) → length (inserted e ms) ≡ suc (length ms)
        → length (cond b (e ∷ m ∷ ms) (m ∷ inserted e ms)) ≡ suc (suc (length ms))
    by true rest = refl
    by false rest = ap suc rest

-- a member that isn't there leaves the members as they are
pub without_member-absent : (q : List ℕ) (ms : Members) → score_of q ms ≡ None → without_member q ms ≡ ms
without_member-absent q [] absent = refl
without_member-absent q (m ∷ ms) absent = by (bytes_eq q m.0) absent (without_member-absent q ms)
  where
    by : (b : Bool) → cond b (Some m.1) (score_of q ms) ≡ None
        → (score_of q ms ≡ None → without_member q ms ≡ ms)
        → cond b ms (m ∷ without_member q ms) ≡ m ∷ ms
    by true absent rest = absurd (cc)
    by false absent rest = ap (λ l. m ∷ l) (rest absent)

-- and one that is there leaves one less
pub length-without_member : (q : List ℕ) (ms : Members) (s : ℕ) → score_of q ms ≡ Some s
    → suc (length (without_member q ms)) ≡ length ms
length-without_member q [] s there = absurd (cc)
length-without_member q (m ∷ ms) s there = by (bytes_eq q m.0) there (length-without_member q ms s)
  where
    by : (b : Bool) → cond b (Some m.1) (score_of q ms) ≡ Some s
        → (score_of q ms ≡ Some s → suc (length (without_member q ms)) ≡ length ms)
        → suc (length (cond b ms (m ∷ without_member q ms))) ≡ suc (length ms)
    by true there rest = refl
    by false there rest = ap suc (rest there)

-- a new member makes one more, and one that is there as many
pub length-with_score_new : (k : List ℕ) (s : ℕ) (ms : Members) → score_of k ms ≡ None
    → length (with_score k s ms) ≡ suc (length ms)
length-with_score_new k s ms absent =
    length-inserted (k, s) (without_member k ms) ∙ ap (λ l. suc (length l)) (without_member-absent k ms absent)

pub length-with_score_there : (k : List ℕ) (s t : ℕ) (ms : Members) → score_of k ms ≡ Some t
    → length (with_score k s ms) ≡ length ms
length-with_score_there k s t ms there =
    length-inserted (k, s) (without_member k ms) ∙ length-without_member k ms t there

-- the score of a member, and of another
pub score_of-with_score_same : (k : List ℕ) (s : ℕ) (ms : Members) → InOrder ms
    → score_of k (with_score k s ms) ≡ Some s
score_of-with_score_same k s ms h =
    score_of-with_score k s k ms h ∙ ap (λ b. cond b (Some s) (score_of k ms)) (eq-same k)

pub score_of-with_score_other : (k : List ℕ) (s : ℕ) (q : List ℕ) (ms : Members) → InOrder ms
    → bytes_eq k q ≡ false → score_of q (with_score k s ms) ≡ score_of q ms
score_of-with_score_other k s q ms h apart =
    score_of-with_score k s q ms h ∙ ap (λ b. cond b (Some s) (score_of q ms)) apart

pub score_of-without_other : (k q : List ℕ) (ms : Members) → InOrder ms → bytes_eq k q ≡ false
    → score_of q (without_member k ms) ≡ score_of q ms
score_of-without_other k q ms h apart =
    score_of-without k q ms h ∙ ap (λ b. cond b None (score_of q ms)) apart

-- a member that is first by its bytes has the first score
head-score : (m : Scored) (ms : Members) → score_of m.0 (m ∷ ms) ≡ Some m.1
head-score m ms = ap (λ b. cond b (Some m.1) (score_of m.0 ms)) (eq-same m.0)

-- the first of members in order comes before each other, or is the one
pub first-least : (m : Scored) (ms : Members) (q : List ℕ) (s : ℕ) → InOrder (m ∷ ms)
    → score_of q (m ∷ ms) ≡ Some s → comes_before (q, s) m ≡ false
first-least m ms q s h there = by (bytes_eq q m.0) refl there
  where
    by : (b : Bool) → bytes_eq q m.0 ≡ b → cond b (Some m.1) (score_of q ms) ≡ Some s
        → comes_before (q, s) m ≡ false
    by true e there =
        let score : m.1 ≡ s = cc in
        let bytes : m.0 ≡ q = sym (eq-is q m.0 e) in
        subst (λ (x : ℕ). comes_before (q, x) m ≡ false) score
        (subst (λ (x : List ℕ). comes_before (x, m.1) m ≡ false) bytes (before-itself m))
    by false e there = before-asym m (q, s) (below-member m ms q s h.0 there)

-- members in order with the same scores are the same
pub same_members : (xs ys : Members) → InOrder xs → InOrder ys
    → ((q : List ℕ) → score_of q xs ≡ score_of q ys) → xs ≡ ys
same_members [] [] h g same = refl
same_members [] (y ∷ ys) h g same = absurd (let e = same y.0 ∙ head-score y ys in cc)
same_members (x ∷ xs) [] h g same = absurd (let e = sym (head-score x xs) ∙ same x.0 in cc)
same_members (x ∷ xs) (y ∷ ys) h g same = by (bytes_eq x.0 y.0) refl (same_members xs ys h.1 g.1)
  where
    x_there : score_of x.0 (y ∷ ys) ≡ Some x.1
    x_there = sym (same x.0) ∙ head-score x xs

    y_there : score_of y.0 (x ∷ xs) ≡ Some y.1
    y_there = same y.0 ∙ head-score y ys

    by : (b : Bool) → bytes_eq x.0 y.0 ≡ b
        → (((q : List ℕ) → score_of q xs ≡ score_of q ys) → xs ≡ ys) → x ∷ xs ≡ y ∷ ys
    by true e rest =
        let bytes : x.0 ≡ y.0 = eq-is x.0 y.0 e in
        let there : cond true (Some y.1) (score_of x.0 ys) ≡ Some x.1 = subst (λ (b : Bool). cond b (Some y.1) (score_of x.0 ys) ≡ Some x.1) e x_there in
        let score : y.1 ≡ x.1 = cc in
        let tails = rest (λ q. tail q (bytes_eq q x.0) refl bytes) in
        λ i. (bytes i, sym score i) ∷ tails i
      where
        tail : (q : List ℕ) (d : Bool) → bytes_eq q x.0 ≡ d → x.0 ≡ y.0 → score_of q xs ≡ score_of q ys
        tail q true f bytes =
            let is : q ≡ x.0 = eq-is q x.0 f in
            ap (λ k. score_of k xs) is ∙ below-absent x xs h.0
            ∙ sym (ap (λ k. score_of k ys) (is ∙ bytes) ∙ below-absent y ys g.0)
        tail q false f bytes =
            let left : cond false (Some x.1) (score_of q xs) ≡ score_of q (x ∷ xs) = ap (λ b. cond b (Some x.1) (score_of q xs)) (sym f) in
            let right : score_of q (y ∷ ys) ≡ cond false (Some y.1) (score_of q ys) = ap (λ b. cond b (Some y.1) (score_of q ys)) (ap (bytes_eq q) (sym bytes) ∙ f) in
            left ∙ same q ∙ right
    by false e rest =
        let there : cond false (Some y.1) (score_of x.0 ys) ≡ Some x.1 = subst (λ (b : Bool). cond b (Some y.1) (score_of x.0 ys) ≡ Some x.1) e x_there in
        let back : cond false (Some x.1) (score_of y.0 xs) ≡ Some y.1 = subst (λ (b : Bool). cond b (Some x.1) (score_of y.0 xs) ≡ Some y.1) (eq-sym y.0 x.0 ∙ e) y_there in
        let one = below-member y ys x.0 x.1 g.0 there in
        let other = below-member x xs y.0 y.1 h.0 back in
        absurd (true≢false (sym one ∙ before-asym x y other))

-- a member that comes last goes to the end
pub inserted-last : (e : Scored) (ms : Members) → InOrder (ms ++ e ∷ []) → inserted e ms ≡ ms ++ e ∷ []
inserted-last e [] h = refl
inserted-last e (m ∷ ms) h =
    ap (λ b. cond b (e ∷ m ∷ ms) (m ∷ inserted e ms)) (before-asym m e (last-below m ms h.0))
    ∙ ap (λ l. m ∷ l) (inserted-last e ms h.1)
  where
    last-below : (m : Scored) (ms : Members) → IsBelow m (ms ++ e ∷ []) → comes_before m e ≡ true
    last-below m [] h = h.0
    last-below m (n ∷ ns) h = last-below m ns h.2

-- and isn't among those before it
pub last-absent : (e : Scored) (ms : Members) → InOrder (ms ++ e ∷ []) → score_of e.0 ms ≡ None
last-absent e [] h = refl
last-absent e (m ∷ ms) h =
    ap (λ b. cond b (Some m.1) (score_of e.0 ms)) (eq-sym e.0 m.0 ∙ last-apart m ms h.0)
    ∙ last-absent e ms h.1
  where
    last-apart : (m : Scored) (ms : Members) → IsBelow m (ms ++ e ∷ []) → bytes_eq m.0 e.0 ≡ false
    last-apart m [] h = h.1
    last-apart m (n ∷ ns) h = last-apart m ns h.2

-- the first of members in order are in order
pub in_order-take : (k : ℕ) (ms : Members) → InOrder ms → InOrder (take k ms)
in_order-take zero [] h = tt
in_order-take zero (m ∷ ms) h = tt
in_order-take (suc k) [] h = tt
in_order-take (suc k) (m ∷ ms) h = (below-take k m ms h.0, in_order-take k ms h.1)
  where
    below-take : (k : ℕ) (m : Scored) (ms : Members) → IsBelow m ms → IsBelow m (take k ms)
    below-take zero m [] h = tt
    below-take zero m (n ∷ ns) h = tt
    below-take (suc k) m [] h = tt
    below-take (suc k) m (n ∷ ns) h = (h.0, h.1, below-take k m ns h.2)

-- the next of members in order is put behind those before it
pub with_score-next : (ms : Members) (k : ℕ) (d : Scored) → InOrder ms → k < length ms
    → with_score (get_or ms k d).0 (get_or ms k d).1 (take k ms) ≡ take (k + 1) ms
with_score-next ms k d h within =
    let more = take_more ms k d within in
    let ordered = subst (λ (l : Members). InOrder l) more (in_order-take (k + 1) ms h) in
    ap (λ l. inserted (get_or ms k d) l)
    (without_member-absent (get_or ms k d).0 (take k ms) (last-absent (get_or ms k d) (take k ms) ordered))
    ∙ inserted-last (get_or ms k d) (take k ms) ordered ∙ sym more

-- and isn't among them
pub next-absent : (ms : Members) (k : ℕ) (d : Scored) → InOrder ms → k < length ms
    → score_of (get_or ms k d).0 (take k ms) ≡ None
next-absent ms k d h within =
    last-absent (get_or ms k d) (take k ms)
    (subst (λ (l : Members). InOrder l) (take_more ms k d within) (in_order-take (k + 1) ms h))

-- a lower score comes first
before-score : (a b : Scored) → a.1 < b.1 → comes_before a b ≡ true
before-score a b less =
    let e : nat_lt a.1 b.1 ≡ true = grind (arith, nat_tests) in
    ap (λ x. is_lt (ordering_then (cond x Less (cond (a.1 == b.1) Equal Greater)) (slice_cmp nat_cmp a.0 b.0))) e

-- the first member has the least score
pub least-first : (e : Scored) (ms : Members) (q : List ℕ) (s : ℕ) → is_in_order ms ≡ true
    → item_at (pos 0) ms ≡ Some e → score_of q ms ≡ Some s → e.1 ≤ s
least-first e [] q s h at there = absurd (cc)
least-first e (m ∷ ms) q s h at there = by (cases s e.1)
  where
    cases : (a b : ℕ) → (a < b) ⊎ (b ≤ a)
    cases a b = grind arith

    by : (s < e.1) ⊎ (e.1 ≤ s) → e.1 ≤ s
    by (inr le) = le
    by (inl less) =
        let is : m ≡ e = cc in
        let not_before : comes_before (q, s) e ≡ false =
        subst (λ (x : Scored). comes_before (q, s) x ≡ false) is (first-least m ms q s (in_order_from (m ∷ ms) h) there) in
        absurd (true≢false (sym (before-score (q, s) e less) ∙ not_before))

-- the last member comes after each other
last-greatest : (ms : Members) (e : Scored) (q : List ℕ) (s : ℕ) → InOrder ms → slice_get ms (length ms - 1) ≡ Some e
    → score_of q ms ≡ Some s → comes_before e (q, s) ≡ false
last-greatest [] e q s h at there = absurd (cc)
last-greatest (m ∷ []) e q s h at there = by (bytes_eq q m.0) refl there
  where
    by : (b : Bool) → bytes_eq q m.0 ≡ b → cond b (Some m.1) None ≡ Some s → comes_before e (q, s) ≡ false
    by true f there =
        let bytes : m.0 ≡ q = sym (eq-is q m.0 f) in
        let score : m.1 ≡ s = cc in
        let is : e ≡ m = cc in
        (λ i. comes_before (is i) (sym bytes i, sym score i)) ∙ before-itself m
    by false f there = absurd (cc)
last-greatest (m ∷ n ∷ ns) e q s h at there = by (bytes_eq q m.0) refl there (last-greatest (n ∷ ns) e q s h.1 behind)
  where
    behind : slice_get (n ∷ ns) (length (n ∷ ns) - 1) ≡ Some e
    behind =
        let place : length (m ∷ n ∷ ns) - 1 ≡ suc (length (n ∷ ns) - 1) = omega arith in
        sym (ap (λ k. slice_get (m ∷ n ∷ ns) k) place) ∙ at

    below-at : (m : Scored) (ns : Members) (k : ℕ) → IsBelow m ns → slice_get ns k ≡ Some e → comes_before m e ≡ true
    below-at m [] k h at = absurd (cc)
    below-at m (x ∷ xs) zero h at =
        let is : x ≡ e = cc in
        subst (λ (y : Scored). comes_before m y ≡ true) is h.0
    below-at m (x ∷ xs) (suc k) h at = below-at m xs k h.2 at

    by : (b : Bool) → bytes_eq q m.0 ≡ b → cond b (Some m.1) (score_of q (n ∷ ns)) ≡ Some s
        → (score_of q (n ∷ ns) ≡ Some s → comes_before e (q, s) ≡ false) → comes_before e (q, s) ≡ false
    by true f there rest =
        let bytes : m.0 ≡ q = sym (eq-is q m.0 f) in
        let score : m.1 ≡ s = cc in
        (λ i. comes_before e (sym bytes i, sym score i))
        ∙ before-asym m e (below-at m (n ∷ ns) (length (n ∷ ns) - 1) h.0 behind)
    by false f there rest = rest there

-- the last member has the greatest score
pub greatest-last : (e : Scored) (ms : Members) (q : List ℕ) (s : ℕ) → is_in_order ms ≡ true
    → slice_get ms (length ms - 1) ≡ Some e → score_of q ms ≡ Some s → s ≤ e.1
greatest-last e ms q s h at there = by (cases e.1 s)
  where
    cases : (a b : ℕ) → (a < b) ⊎ (b ≤ a)
    cases a b = grind arith

    by : (e.1 < s) ⊎ (s ≤ e.1) → s ≤ e.1
    by (inr le) = le
    by (inl less) =
        absurd (true≢false (sym (before-score e (q, s) less) ∙ last-greatest ms e q s (in_order_from ms h) at there))
