-- Laws of lists: how often items are there, and what is left without some.
use Rattle.std.proofs.Common.{◌≡◌, ◌+◌, ◌≤◌, ◌<◌, ℕ, zero, suc, remove, Bool, true, false, cond, not, List, [], ◌∷◌, ◌++◌, length, drop, take, get_or, refl, sym, ap, ◌∙◌, arith, drop-cons}
use Rattle.std.specs.Prelude.{filter}
use Rattle.std.proofs.lemmas.List.{take_more}
use Rattle.std.specs.Str.{bytes_eq}
use Rattle.std.proofs.lemmas.Slice.Eq.{bytes_eq-Decides}
use Rattle.lr_lists.specs.Counts.{IsAt}
use Rattle.lr_lists.specs.Items.{times, without_item}

-- one more, if the item is equal
abbrev pub once_if : Bool → ℕ
once_if b = cond b 1 0

pub times-cons : (item i : List ℕ) (is : List (List ℕ))
    → times item (i ∷ is) ≡ once_if (bytes_eq item i) + times item is
times-cons item i is = by (bytes_eq item i)
  where
    by : (b : Bool) → cond b (times item is + 1) (times item is) ≡ once_if b + times item is
    by true = omega arith
    by false = omega arith

-- the items from a place on are the one there and those behind it
pub times_at : (item : List ℕ) (items : List (List ℕ)) (place : ℕ) → place < length items
    → times item (drop place items)
    ≡ once_if (bytes_eq item (get_or items place [])) + times item (drop (place + 1) items)
times_at item items place within =
    let next : suc place ≡ place + 1 = omega arith in
    ap (times item) (drop-cons items place [] within)
    ∙ times-cons item (get_or items place []) (drop (suc place) items)
    ∙ ap (λ n. once_if (bytes_eq item (get_or items place [])) + times item (drop n items)) next

pub times-append : (item : List ℕ) (xs ys : List (List ℕ))
    → times item (xs ++ ys) ≡ times item xs + times item ys
times-append item [] ys = omega arith
times-append item (x ∷ xs) ys =
    let rest = times-append item xs ys in
    let here = times-cons item x xs in
    let both = times-cons item x (xs ++ ys) in
    omega arith

-- an item that isn't there leaves the items as they are
pub without_item-absent : (item : List ℕ) (items : List (List ℕ)) → times item items ≡ 0
    → without_item item items ≡ items
without_item-absent item [] none = refl
without_item-absent item (i ∷ is) none = by (bytes_eq item i) none (without_item-absent item is)
  where
    by : (b : Bool) → cond b (times item is + 1) (times item is) ≡ 0
        → (times item is ≡ 0 → without_item item is ≡ is)
        → cond b (without_item item is) (i ∷ without_item item is) ≡ i ∷ is
    by true none _ = absurd (omega arith)
    by false none rest = ap (λ l. i ∷ l) (rest none)

-- one that is there is there once at least
times-at : (item : List ℕ) (items : List (List ℕ)) (place : ℕ) → IsAt item items place → 1 ≤ times item items
times-at item [] place h = let w = h.within in absurd (omega arith)
times-at item (i ∷ is) zero h =
    let e : times item (i ∷ is) ≡ times item is + 1 = ap (λ b. cond b (times item is + 1) (times item is)) (h.same []) in
    omega arith
times-at item (i ∷ is) (suc place) h =
    let rest = times-at item is place (record { within = let w = h.within in omega arith; same = h.same }) in
    let e = times-cons item i is in
    omega arith

-- without the only one, the others are left
pub without_item-once : (item : List ℕ) (items : List (List ℕ)) (place : ℕ) → IsAt item items place
    → times item items ≡ 1 → without_item item items ≡ remove items place
without_item-once item [] place h once = let w = h.within in absurd (omega arith)
without_item-once item (i ∷ is) zero h once =
    let e : times item (i ∷ is) ≡ times item is + 1 = ap (λ b. cond b (times item is + 1) (times item is)) (h.same []) in
    ap (λ b. cond b (without_item item is) (i ∷ without_item item is)) (h.same [])
    ∙ without_item-absent item is (omega arith)
without_item-once item (i ∷ is) (suc place) h once =
    let inner : IsAt item is place = record { within = let w = h.within in omega arith; same = h.same } in
    let some = times-at item is place inner in
    by (bytes_eq item i) once some (without_item-once item is place inner)
  where
    by : (b : Bool) → cond b (times item is + 1) (times item is) ≡ 1 → 1 ≤ times item is
        → (times item is ≡ 1 → without_item item is ≡ remove is place)
        → cond b (without_item item is) (i ∷ without_item item is) ≡ remove (i ∷ is) (suc place)
    by true once some rest = absurd (omega arith)
    by false once some rest = ap (λ l. i ∷ l) (rest once)

pub without_item-filter : (item : List ℕ) (items : List (List ℕ))
    → filter (λ i. not (bytes_eq item i)) items ≡ without_item item items
without_item-filter item [] = refl
without_item-filter item (i ∷ is) = by (bytes_eq item i) (without_item-filter item is)
  where
    by : (b : Bool) → filter (λ i. not (bytes_eq item i)) is ≡ without_item item is
        → cond (not b) (i ∷ filter (λ i. not (bytes_eq item i)) is) (filter (λ i. not (bytes_eq item i)) is)
        ≡ cond b (without_item item is) (i ∷ without_item item is)
    by true rest = rest
    by false rest = ap (λ l. i ∷ l) rest

-- no more items are left
pub length-without_item : (item : List ℕ) (items : List (List ℕ))
    → length (without_item item items) ≤ length items
length-without_item item [] = omega arith
length-without_item item (i ∷ is) = by (bytes_eq item i) (length-without_item item is)
  where
    by : (b : Bool) → length (without_item item is) ≤ length is
        → length (cond b (without_item item is) (i ∷ without_item item is)) ≤ suc (length is)
    by true rest = omega arith
    by false rest = omega arith

-- how often an item is there afterwards: never, if it is the one, and else as often
pub times-without_item : (item q : List ℕ) (items : List (List ℕ))
    → times q (without_item item items) ≡ cond (bytes_eq item q) 0 (times q items)
times-without_item item q [] = by (bytes_eq item q)
  where
    by : (b : Bool) → ◌≡◌ {A = ℕ} 0 (cond b 0 0)
    by true = refl
    by false = refl
times-without_item item q (i ∷ is) = by (bytes_eq item i) refl (bytes_eq item q) refl (times-without_item item q is)
  where
    by : (b : Bool) → bytes_eq item i ≡ b → (d : Bool) → bytes_eq item q ≡ d
        → times q (without_item item is) ≡ cond d 0 (times q is)
        → times q (cond b (without_item item is) (i ∷ without_item item is)) ≡ cond d 0 (times q (i ∷ is))
    by true e true f rest = rest
    by true e false f rest =
        let apart : bytes_eq q i ≡ false = other e f in
        rest ∙ sym (ap (λ b. cond b (times q is + 1) (times q is)) apart)
      where
        other : bytes_eq item i ≡ true → bytes_eq item q ≡ false → bytes_eq q i ≡ false
        other e f = pick (bytes_eq q i) refl
          where
            pick : (b : Bool) → bytes_eq q i ≡ b → b ≡ false
            pick true g =
                let whole : item ≡ q = (bytes_eq-Decides item i).0 e ∙ sym ((bytes_eq-Decides q i).0 g) in
                let again : bytes_eq item q ≡ true = (bytes_eq-Decides item q).1 whole in
                absurd (cc)
            pick false g = refl
    by false e true f rest =
        let apart : bytes_eq q i ≡ false = ap (λ (x : List ℕ). bytes_eq x i) (sym ((bytes_eq-Decides item q).0 f)) ∙ e in
        ap (λ b. cond b (times q (without_item item is) + 1) (times q (without_item item is))) apart ∙ rest
    by false e false f rest =
        times-cons q i (without_item item is) ∙ ap (λ n. once_if (bytes_eq q i) + n) rest ∙ sym (times-cons q i is)

-- the first items with the next one
pub times-take : (item : List ℕ) (items : List (List ℕ)) (place : ℕ) (next : List ℕ) → place < length items
    → get_or items place next ≡ next
    → times item (take (place + 1) items) ≡ times item (take place items) + times item (next ∷ [])
times-take item items place next within is =
    ap (times item) (take_more items place next within)
    ∙ times-append item (take place items) (get_or items place next ∷ [])
    ∙ ap (λ n. times item (take place items) + times item (n ∷ [])) is

-- an item is there no more often than there are items
pub times_le : (item : List ℕ) (items : List (List ℕ)) → times item items ≤ length items
times_le item [] = omega arith
times_le item (i ∷ is) = by (bytes_eq item i) (times_le item is)
  where
    by : (b : Bool) → times item is ≤ length is
        → cond b (times item is + 1) (times item is) ≤ suc (length is)
    by true rest = omega arith
    by false rest = omega arith
