-- Laws of the order of members: it is strict, and two members of which neither comes first are one.
use Rattle.std.proofs.Common.{◌≡◌, ℕ, Bool, true, false, List, ◌∷◌, refl, sym, ap, ◌∙◌, true≢false}
use Rattle.std.specs.Ordering.{nat_cmp, is_lt, is_gt, is_eq, ordering_reverse}
use Rattle.std.specs.declared.cmp.Ordering.{Ordering}
use Rattle.std.specs.declared.cmp.Ordering.TheVariants.{Less, Equal, Greater}
use Rattle.std.specs.Cmp.Lexicographic.{slice_cmp}
use Rattle.std.specs.Str.{bytes_eq}
use Rattle.std.proofs.lemmas.Cmp.{nat_list_cmp_total, upto, tied_itself}
use Rattle.std.proofs.lemmas.Map.Text.{is_eq-slice_cmp}
use Rattle.std.proofs.lemmas.Slice.Eq.{bytes_eq-Decides}
use Rattle.lr_sorted.specs.Members.{Scored, comes_before}

-- a score and the bytes, which compare as members do
abbrev rank : Scored → List ℕ
rank m = m.1 ∷ m.0

abbrev compared : Scored → Scored → Ordering
compared a b = slice_cmp nat_cmp (rank a) (rank b)

lt-gt : (o : Ordering) → is_lt (ordering_reverse o) ≡ is_gt o
lt-gt Less = refl
lt-gt Equal = refl
lt-gt Greater = refl

lt-less : (o : Ordering) → is_lt o ≡ true → o ≡ Less
lt-less Less e = refl
lt-less Equal e = absurd (cc)
lt-less Greater e = absurd (cc)

-- a member comes before another where that comes after it
before-after : (a b : Scored) → comes_before a b ≡ is_gt (compared b a)
before-after a b =
    ap is_lt (nat_list_cmp_total.antisymm (rank a) (rank b)) ∙ lt-gt (compared b a)

-- no member comes before itself
pub before-itself : (a : Scored) → comes_before a a ≡ false
before-itself a = ap is_lt (tied_itself nat_list_cmp_total (rank a))

pub before-trans : (a b c : Scored) → comes_before a b ≡ true → comes_before b c ≡ true
    → comes_before a c ≡ true
before-trans a b c e f =
    ap is_lt (nat_list_cmp_total.trans (rank a) (rank b) (rank c) (lt-less _ e) (lt-less _ f))

-- of two members one at most comes before the other
pub before-asym : (a b : Scored) → comes_before a b ≡ true → comes_before b a ≡ false
before-asym a b e = by (comes_before b a) refl
  where
    by : (x : Bool) → comes_before b a ≡ x → x ≡ false
    by true f = sym (before-trans a b a e f) ∙ before-itself a
    by false f = refl

-- not to come before is an order too
pub not_before-trans : (a b c : Scored) → comes_before a b ≡ false → comes_before b c ≡ false
    → comes_before a c ≡ false
not_before-trans a b c e f =
    before-after a c
    ∙ upto nat_list_cmp_total (rank c) (rank b) (rank a) (sym (before-after b c) ∙ f) (sym (before-after a b) ∙ e)

-- one of two members with other bytes comes first
pub before-other : (a b : Scored) → bytes_eq a.0 b.0 ≡ false → comes_before a b ≡ false
    → comes_before b a ≡ true
before-other a b apart e = by (compared b a) refl
  where
    tails : (x y : ℕ) (xs ys : List ℕ) → x ∷ xs ≡ y ∷ ys → ys ≡ xs
    tails x y xs ys h = cc

    by : (o : Ordering) → compared b a ≡ o → is_lt o ≡ true
    by Less f = refl
    by Greater f = absurd (true≢false (sym (before-after a b ∙ ap is_gt f) ∙ e))
    by Equal f =
        let ranks : rank b ≡ rank a = (bytes_eq-Decides (rank b) (rank a)).0 (sym (is_eq-slice_cmp (rank b) (rank a)) ∙ ap is_eq f) in
        let same : bytes_eq a.0 b.0 ≡ true = (bytes_eq-Decides a.0 b.0).1 (tails b.1 a.1 b.0 a.0 ranks) in
        absurd (true≢false (sym same ∙ apart))
