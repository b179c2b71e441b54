-- Which entries a change of the table moves.
use Rattle.std.proofs.Common.{◌≡◌, ◌≢◌, ◌⊎◌, inl, inr, ◌+◌, ◌-◌, ◌<◌, ℕ, zero, suc, Bool, true, false, cond, not, List, [], ◌∷◌, length, take, Some, None, nat_lt, refl, sym, ap, ◌∙◌, arith}
use Rattle.std.specs.Prelude.{slice_get, slice_set, slice_index_or, swap_remove}
use Rattle.std.specs.List.{position, position_or_len}
use Rattle.std.specs.Option.{option_map_or}
use Rattle.std.proofs.lemmas.Slice.Eq.{bytes_eq-Decides}
use Rattle.std.proofs.lemmas.Bool.Decides.{nat_tests}
use Rattle.std.specs.Map.{keys_of}
use Rattle.std.specs.Str.{bytes_eq}
use Rattle.std.proofs.lemmas.Option.{slice_get_past}
use Rattle.std.proofs.lemmas.List.{length-take, length-map}
use Rattle.indexmap.specs.IndexMap.{insert_entry, set_value_at, swap_remove_entry}
use Rattle.lr_sorted.specs.Members.{Scored, Members}

-- a write moves the entry of its key alone
pub insert-others : (es : Members) (k : List ℕ) (v j : ℕ) → j ≢ position_or_len (bytes_eq k) (keys_of es)
    → slice_get (insert_entry bytes_eq es k v) j ≡ slice_get es j
insert-others [] k v zero apart = absurd (apart refl)
insert-others [] k v (suc j) apart = refl
insert-others (e ∷ es) k v j apart = by (bytes_eq k e.0) j apart (insert-others es k v)
  where
    by : (b : Bool) (j : ℕ) → j ≢ cond (not b) (1 + position_or_len (bytes_eq k) (keys_of es)) 0
        → ((i : ℕ) → i ≢ position_or_len (bytes_eq k) (keys_of es)
        → slice_get (insert_entry bytes_eq es k v) i ≡ slice_get es i)
        → slice_get (cond b ((e.0, v) ∷ es) (e ∷ insert_entry bytes_eq es k v)) j ≡ slice_get (e ∷ es) j
    by true zero apart rest = absurd (apart refl)
    by true (suc j) apart rest = refl
    by false zero apart rest = refl
    by false (suc j) apart rest = rest j (λ f. apart (omega arith))

set-others : {X : Type 0} (xs : List X) (i j : ℕ) (x : X) → j ≢ i → slice_get (slice_set xs i x) j ≡ slice_get xs j
set-others [] i j x apart = refl
set-others (y ∷ ys) zero zero x apart = absurd (apart refl)
set-others (y ∷ ys) zero (suc j) x apart = refl
set-others (y ∷ ys) (suc i) zero x apart = refl
set-others (y ∷ ys) (suc i) (suc j) x apart = set-others ys i j x (λ f. apart (ap suc f))

take-front : {X : Type 0} (xs : List X) (n j : ℕ) → j < n → slice_get (take n xs) j ≡ slice_get xs j
take-front [] zero j within = refl
take-front [] (suc n) j within = refl
take-front (x ∷ xs) zero j within = absurd (omega arith)
take-front (x ∷ xs) (suc n) zero within = refl
take-front (x ∷ xs) (suc n) (suc j) within = take-front xs n j (omega arith)

-- a removal moves the entry at its place, and the last one
pub remove-others : {X : Type 0} (xs : List X) (i j : ℕ) (d : X) → j ≢ i → j ≢ length xs - 1
    → slice_get (swap_remove xs i d) j ≡ slice_get xs j
remove-others {X} xs i j d apart last = by (slice_index_or xs (length xs - 1) d) (cases j (length xs - 1) last)
  where
    cases : (a b : ℕ) → a ≢ b → (a < b) ⊎ (b < a)
    cases a b h = grind arith

    by : (x : X) → (j < length xs - 1) ⊎ (length xs - 1 < j)
        → slice_get (take (length xs - 1) (slice_set xs i x)) j ≡ slice_get xs j
    by x (inl e) = take-front (slice_set xs i x) (length xs - 1) j e ∙ set-others xs i j x apart
    by x (inr e) =
        let long = length-take (length xs - 1) (slice_set xs i x) in
        slice_get_past (take (length xs - 1) (slice_set xs i x)) j (omega arith)
        ∙ sym (slice_get_past xs j (omega arith))

-- the entry at the place of a key
at-place : (q : List ℕ) (es : Members) → position_or_len (bytes_eq q) (keys_of es) < length es
    → (v : ℕ) × (slice_get es (position_or_len (bytes_eq q) (keys_of es)) ≡ Some (q, v))
at-place q [] within = absurd (omega arith)
at-place q (e ∷ es) within = by (bytes_eq q e.0) refl within (at-place q es)
  where
    by : (b : Bool) → bytes_eq q e.0 ≡ b
        → cond (not b) (1 + position_or_len (bytes_eq q) (keys_of es)) 0 < suc (length es)
        → (position_or_len (bytes_eq q) (keys_of es) < length es
        → (v : ℕ) × (slice_get es (position_or_len (bytes_eq q) (keys_of es)) ≡ Some (q, v)))
        → (v : ℕ) × (slice_get (e ∷ es) (cond (not b) (1 + position_or_len (bytes_eq q) (keys_of es)) 0) ≡ Some (q, v))
    by true f within rest =
        let bytes : e.0 ≡ q = sym ((bytes_eq-Decides q e.0).0 f) in
        (e.1, λ i. Some (bytes i, e.1))
    by false f within rest =
        let r = rest (omega arith) in
        let next : 1 + position_or_len (bytes_eq q) (keys_of es) ≡ suc (position_or_len (bytes_eq q) (keys_of es)) = omega arith in
        (r.0, ap (λ n. slice_get (e ∷ es) n) next ∙ r.1)

pub at-position : (q : List ℕ) (es : Members) (place : ℕ) → position (bytes_eq q) (keys_of es) ≡ Some place
    → (v : ℕ) × (slice_get es place ≡ Some (q, v))
at-position q es place found = by (nat_lt (position_or_len (bytes_eq q) (keys_of es)) (length (keys_of es))) refl found
  where
    by : (b : Bool) → nat_lt (position_or_len (bytes_eq q) (keys_of es)) (length (keys_of es)) ≡ b
        → cond b (Some (position_or_len (bytes_eq q) (keys_of es))) None ≡ Some place
        → (v : ℕ) × (slice_get es place ≡ Some (q, v))
    by true f found =
        let long = length-map es (λ (e : Scored). e.0) in
        let within : position_or_len (bytes_eq q) (keys_of es) < length es = grind (arith, nat_tests, f, long) in
        let r = at-place q es within in
        let is : position_or_len (bytes_eq q) (keys_of es) ≡ place = cc in
        (r.0, ap (λ n. slice_get es n) (sym is) ∙ r.1)
    by false f found = absurd (cc)

-- a write of a score moves the entry at its place alone
pub write-others : (es : Members) (i k w : ℕ) → k ≢ i → slice_get (set_value_at es i w) k ≡ slice_get es k
write-others [] i k w apart = refl
write-others (e ∷ es) zero zero w apart = absurd (apart refl)
write-others (e ∷ es) zero (suc k) w apart = refl
write-others (e ∷ es) (suc i) zero w apart = refl
write-others (e ∷ es) (suc i) (suc k) w apart = write-others es i k w (λ f. apart (ap suc f))

-- a removal by a key that is there is one at its place
pub removed-at : (test : List ℕ → Bool) (es : Members) (place : ℕ) → position test (keys_of es) ≡ Some place
    → (d : Scored) × (swap_remove_entry test es ≡ swap_remove es place d)
removed-at test [] place found = absurd (cc)
removed-at test (e ∷ es) place found =
    (e, ap (λ o. option_map_or (λ i. swap_remove (e ∷ es) i e) o (e ∷ es)) found)
