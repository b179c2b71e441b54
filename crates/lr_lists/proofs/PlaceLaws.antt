-- Laws of places: a signed place counted from the front, and ranges.
use Rattle.std.proofs.Common.{◌≡◌, ◌+◌, ◌-◌, ◌≤◌, ◌<◌, ℕ, ℤ, pos, negsuc, Bool, true, false, cond, List, [], ◌∷◌, ◌++◌, length, take, drop, reverse, get_or, min, Some, None, refl, sym, ap, ◌∙◌, arith, nat_lt}
use Rattle.std.proofs.lemmas.Bool.Decides.{nat_tests}
use Rattle.std.specs.Prelude.{slice_get}
use Rattle.std.specs.Option.{option_and_then}
use Rattle.std.proofs.lemmas.List.{length-reverse, get_or-reverse, take_min, take_more, length-take, drop-append-le, drop_all}
use Rattle.std.proofs.lemmas.Option.{slice_get_past, slice_get-get_or}
use Rattle.lr_lists.specs.Places.{item_at, place_in, before_start, up_to_stop, range_of}

-- what stands at a signed place stands at the place counted from the front
pub item_at-place_in : {X : Type 0} (place : ℤ) (items : List X)
    → item_at place items ≡ option_and_then (λ p. slice_get items p) (place_in place (length items))
item_at-place_in (pos place) items = by (nat_lt place (length items)) refl
  where
    by : (b : Bool) → nat_lt place (length items) ≡ b
        → slice_get items place ≡ option_and_then (λ p. slice_get items p) (cond b (Some place) None)
    by true e = refl
    by false e = slice_get_past items place (grind (arith, nat_tests))
item_at-place_in {X} (negsuc back) [] = by (nat_lt back 0)
  where
    by : (b : Bool) → None ≡ option_and_then (λ p. slice_get {X = X} [] p) (cond b (Some (0 - (back + 1))) None)
    by true = refl
    by false = refl
item_at-place_in (negsuc back) (i ∷ is) = by (nat_lt back (length (i ∷ is))) refl
  where
    by : (b : Bool) → nat_lt back (length (i ∷ is)) ≡ b
        → slice_get (reverse (i ∷ is)) back
        ≡ option_and_then (λ p. slice_get (i ∷ is) p) (cond b (Some (length (i ∷ is) - (back + 1))) None)
    by true e =
        let within : back < length (i ∷ is) = grind (arith, nat_tests) in
        let long = length-reverse (i ∷ is) in
        slice_get-get_or (reverse (i ∷ is)) back i (omega arith)
        ∙ ap (λ x. Some x) (get_or-reverse (i ∷ is) back i within
        ∙ ap (λ n. get_or (i ∷ is) n i) (omega arith))
        ∙ sym (slice_get-get_or (i ∷ is) (length (i ∷ is) - (back + 1)) i (omega arith))
    by false e =
        let long = length-reverse (i ∷ is) in
        let past : length (i ∷ is) ≤ back = grind (arith, nat_tests) in
        slice_get_past (reverse (i ∷ is)) back (omega arith)

-- the items of a range, by places cut at the ends
pub range_of-cut : {X : Type 0} (start stop : ℤ) (items : List X)
    → drop (before_start start (length items)) (take (min (up_to_stop stop (length items)) (length items)) items)
    ≡ range_of start stop items
range_of-cut start stop items =
    ap (λ l. drop (before_start start (length items)) l) (take_min (up_to_stop stop (length items)) items)

-- one more item of a range
pub range-more : {X : Type 0} (first place : ℕ) (items : List X) (d : X) → first ≤ place → place < length items
    → drop first (take (place + 1) items) ≡ drop first (take place items) ++ get_or items place d ∷ []
range-more first place items d from within =
    let long : first ≤ length (take place items) = omega (arith, length-take place items) in
    ap (λ l. drop first l) (take_more items place d within)
    ∙ drop-append-le first (take place items) (get_or items place d ∷ []) long

-- a range that starts at or past its end is empty
pub range-none : {X : Type 0} (first end : ℕ) (items : List X) → end ≤ first → drop first (take end items) ≡ []
range-none first end items past = drop_all first (take end items) (omega (arith, length-take end items))
