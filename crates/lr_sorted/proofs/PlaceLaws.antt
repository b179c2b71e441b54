-- Laws of places among a few members.
use Rattle.std.proofs.Common.{◌≡◌, ◌+◌, ◌<◌, ℕ, zero, suc, Bool, true, false, cond, List, [], ◌∷◌, length, take, get_or, Some, None, refl, sym, ap, ◌∙◌, arith, add-one}
use Rattle.std.specs.Str.{bytes_eq}
use Rattle.lr_sorted.specs.Members.{Scored, Members, score_of, without_member}
use Rattle.lr_sorted.specs.Places.{IsPlaceOf}

found-first : (q : List ℕ) (n : Scored) (ns : Members) → bytes_eq q n.0 ≡ true → IsPlaceOf q (n ∷ ns) 0
found-first q n ns same = record {
  within = omega arith;
  score = λ d. ap (λ b. cond b (Some n.1) (score_of q ns)) same;
  without = ap (λ b. cond b ns (n ∷ without_member q ns)) same;
}

found-later : (q : List ℕ) (n : Scored) (ns : Members) (place : ℕ) → bytes_eq q n.0 ≡ false
    → IsPlaceOf q ns place → IsPlaceOf q (n ∷ ns) (suc place)
found-later q n ns place apart h = record {
  within = let w = h.within in omega arith;
  score = λ d. ap (λ b. cond b (Some n.1) (score_of q ns)) apart ∙ h.score d;
  without =
      ap (λ b. cond b ns (n ∷ without_member q ns)) apart
      ∙ ap (λ l. n ∷ l) h.without;
}

-- a member that isn't before a place, and has the bytes of the one there, is at the place
pub found_at : (q : List ℕ) (ms : Members) (place : ℕ) (m : Scored) → score_of q (take place ms) ≡ None
    → place < length ms → m ≡ get_or ms place m → bytes_eq q m.0 ≡ true → IsPlaceOf q ms place
found_at q [] place m none within is same = absurd (omega arith)
found_at q (n ∷ ns) zero m none within is same =
    found-first q n ns (ap (λ x. bytes_eq q x.0) (sym is) ∙ same)
found_at q (n ∷ ns) (suc place) m none within is same = by (bytes_eq q n.0) refl none
    (λ g. found_at q ns place m g (omega arith) is same)
  where
    by : (b : Bool) → bytes_eq q n.0 ≡ b → cond b (Some n.1) (score_of q (take place ns)) ≡ None
        → (score_of q (take place ns) ≡ None → IsPlaceOf q ns place) → IsPlaceOf q (n ∷ ns) (suc place)
    by true f none rest = absurd (cc)
    by false f none rest = found-later q n ns place f (rest none)

-- a member that isn't before a place, nor there, isn't before the next
pub not_before-more : (q : List ℕ) (ms : Members) (place : ℕ) (m : Scored) → score_of q (take place ms) ≡ None
    → place < length ms → m ≡ get_or ms place m → bytes_eq q m.0 ≡ false
    → score_of q (take (place + 1) ms) ≡ None
not_before-more q [] place m none within is apart = absurd (omega arith)
not_before-more q (n ∷ ns) zero m none within is apart =
    ap (λ b. cond b (Some n.1) None) (ap (λ x. bytes_eq q x.0) (sym is) ∙ apart)
not_before-more q (n ∷ ns) (suc place) m none within is apart =
    rw add-one (by (bytes_eq q n.0) none (λ g. rw (← add-one) (not_before-more q ns place m g (omega arith) is apart)))
  where
    by : (b : Bool) → cond b (Some n.1) (score_of q (take place ns)) ≡ None
        → (score_of q (take place ns) ≡ None → score_of q (take (suc place) ns) ≡ None)
        → cond b (Some n.1) (score_of q (take (suc place) ns)) ≡ None
    by true none rest = absurd (cc)
    by false none rest = rest none
