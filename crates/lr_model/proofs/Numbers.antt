-- The numbers below a bound that pass a test.
use Rattle.std.proofs.Common.{◌≡◌, ℕ, zero, suc, ◌<◌, ◌≤◌, ◌==◌, nat_lt, Bool, true, false, ◌&&◌, ◌||◌, cond, if◌then◌else◌, List, [], ◌∷◌, ◌++◌, filter, length, All, slice_get, refl, ap, sym, ◌∙◌, arith, ◌⊎◌, inl, inr, Some, None}
use Rattle.std.specs.List.{list_any}
use Rattle.std.proofs.lemmas.Bool.{cases_eq, eq-eqb, ne_eqb, lt-ltb, le-ltb}
use Rattle.std.proofs.lemmas.Bool.Decides.{nat_tests}
use Rattle.std.proofs.lemmas.List.{append-nil, length-append}
use Rattle.std.proofs.lemmas.List.Elements.{All-append, All-nil, All-cons, All-weaker, filter-append}
use Rattle.std.proofs.lemmas.List.Folds.{list_any-append}
use Rattle.lr_model.specs.Board.{numbers_below}
use Rattle.lr_model.specs.Table.{put}

-- the number n, where it passes
abbrev last : Bool → ℕ → List ℕ
last passes n = if passes then n ∷ [] else []

-- tests that agree below the bound give the same numbers
pub below_same : (n : ℕ) (p q : ℕ → Bool) → ((c : ℕ) → c < n → p c ≡ q c) → numbers_below n p
    ≡ numbers_below n q
unfolding numbers_below
below_same zero p q same = refl
below_same (suc n) p q same =
    (λ i. below_same n p q (λ c below. same c (omega arith)) i ++ last (same n (omega arith) i) n)

-- a second test is a filter
pub below_and : (n : ℕ) (p q : ℕ → Bool) → numbers_below n (λ c. p c && q c)
    ≡ filter q (numbers_below n p)
unfolding numbers_below
below_and zero p q = refl
below_and (suc n) p q =
    (λ i. below_and n p q i ++ by (p n) i)
    ∙ sym (filter-append q (numbers_below n p) (last (p n) n))
  where
    by : (b : Bool) → last (b && q n) n ≡ filter q (last b n)
    by true = refl
    by false = refl

-- each is below the bound and passes
pub below_all : (n : ℕ) (p : ℕ → Bool) → All (λ c. (c < n) × (p c ≡ true)) (numbers_below n p)
unfolding numbers_below
below_all zero p = All-nil (λ c. (c < 0) × (p c ≡ true))
below_all (suc n) p =
    All-append (λ c. (c < suc n) × (p c ≡ true)) (numbers_below n p) (last (p n) n)
    (All-weaker (λ c. (c < n) × (p c ≡ true)) (λ c. (c < suc n) × (p c ≡ true))
    (λ c h. (omega (arith, h.0), h.1)) (numbers_below n p) (below_all n p))
    (by (p n) refl)
  where
    by : (b : Bool) → p n ≡ b → All (λ c. (c < suc n) × (p c ≡ true)) (last b n)
    by true e = All-cons (λ c. (c < suc n) × (p c ≡ true)) n [] (omega arith, e)
        (All-nil (λ c. (c < suc n) × (p c ≡ true)))
    by false e = All-nil (λ c. (c < suc n) × (p c ≡ true))

-- a number is among them exactly where it is below the bound and passes
pub below_any : (n : ℕ) (p : ℕ → Bool) (conn : ℕ)
    → list_any (λ other. other == conn) (numbers_below n p) ≡ (nat_lt conn n && p conn)
unfolding numbers_below
below_any zero p conn = sym (ap (λ b. b && p conn) (le-ltb conn 0 (omega arith)))
below_any (suc n) p conn =
    list_any-append (λ other. other == conn) (numbers_below n p) (last (p n) n)
    ∙ ap (λ b. b || list_any (λ other. other == conn) (last (p n) n)) (below_any n p conn)
    ∙ by_order (cases_eq n conn)
  where
    here : (b : Bool) → n == conn ≡ true → (false || list_any (λ other. other == conn) (last b n))
        ≡ b
    here true e = ap (λ t. t || false) e
    here false e = refl

    there : (b : Bool) → n == conn ≡ false → list_any (λ other. other == conn) (last b n) ≡ false
    there true e = ap (λ t. t || false) e
    there false e = refl

    or_false : (b : Bool) → (b || false) ≡ b
    or_false true = refl
    or_false false = refl

    by_order : (n ≡ conn) ⊎ (n ≡ conn → ⊥)
        → ((nat_lt conn n && p conn) || list_any (λ other. other == conn) (last (p n) n))
        ≡ (nat_lt conn (suc n) && p conn)
    by_order (inl same) =
        ap (λ b. (b && p conn) || list_any (λ other. other == conn) (last (p n) n))
        (le-ltb conn n (omega arith))
        ∙ here (p n) (eq-eqb n conn same) ∙ ap p same
        ∙ sym (ap (λ b. b && p conn) (lt-ltb conn (suc n) (omega arith)))
    by_order (inr apart) =
        ap (λ b. (nat_lt conn n && p conn) || b) (there (p n) (ne_eqb n conn apart))
        ∙ or_false (nat_lt conn n && p conn) ∙ ap (λ b. b && p conn) same_test
      where
        same_test : nat_lt conn n ≡ nat_lt conn (suc n)
        same_test = grind (arith, nat_tests)

pub below_has : (n : ℕ) (p : ℕ → Bool) (conn : ℕ) → conn < n
    → list_any (λ other. other == conn) (numbers_below n p) ≡ p conn
below_has n p conn below = below_any n p conn ∙ ap (λ b. b && p conn) (lt-ltb conn n below)

pub below_lacks : (n : ℕ) (p : ℕ → Bool) (conn : ℕ) → n ≤ conn
    → list_any (λ other. other == conn) (numbers_below n p) ≡ false
below_lacks n p conn above = below_any n p conn ∙ ap (λ b. b && p conn) (le-ltb conn n above)

-- where none passes there are none
pub below_none : (n : ℕ) (p : ℕ → Bool) → ((k : ℕ) → k < n → p k ≡ false) → numbers_below n p ≡ []
unfolding numbers_below
below_none zero p none = refl
below_none (suc n) p none =
    ap (λ xs. xs ++ last (p n) n) (below_none n p (λ k below. none k (omega arith)))
    ∙ ap (λ b. last b n) (none n (omega arith))

-- the least number that passes stands first, and the others behind it
pub below_next : (n : ℕ) (p : ℕ → Bool) (k : ℕ) → k < n → p k ≡ true
    → ((j : ℕ) → j < k → p j ≡ false)
    → numbers_below n p ≡ k ∷ numbers_below n (put ◌==◌ p k false)
unfolding numbers_below
below_next zero p k below here least = absurd (omega (arith, below))
below_next (suc n) p k below here least =
    by (cases_eq n k) (λ lesser. below_next n p k lesser here least)
  where
    at : (j : ℕ) → j ≡ k → put ◌==◌ p k false j ≡ false
    at j e = ap (λ b. cond b false (p j)) (eq-eqb k j (sym e))

    other : (j : ℕ) → (j ≡ k → ⊥) → put ◌==◌ p k false j ≡ p j
    other j apart = ap (λ b. cond b false (p j)) (ne_eqb k j (λ e. apart (sym e)))

    by : (n ≡ k) ⊎ (n ≡ k → ⊥)
        → (k < n → numbers_below n p ≡ k ∷ numbers_below n (put ◌==◌ p k false))
        → numbers_below n p ++ last (p n) n
        ≡ k ∷ (numbers_below n (put ◌==◌ p k false) ++ last (put ◌==◌ p k false n) n)
    by (inl last_one) before =
        ap (λ xs. xs ++ last (p n) n) (below_none n p (λ j lesser. least j (omega arith)))
        ∙ ap (λ b. last b n) (ap p last_one ∙ here)
        ∙ ap (λ m. m ∷ []) last_one
        ∙ ap (λ xs. k ∷ xs)
        (sym (ap (λ b. numbers_below n (put ◌==◌ p k false) ++ last b n) (at n last_one)
        ∙ append-nil (numbers_below n (put ◌==◌ p k false))
        ∙ below_none n (put ◌==◌ p k false)
        (λ j lesser. other j (λ e. omega arith) ∙ least j (omega arith))))
    by (inr apart) before =
        ap (λ xs. xs ++ last (p n) n) (before (omega arith))
        ∙ ap (λ b. k ∷ (numbers_below n (put ◌==◌ p k false) ++ last b n)) (sym (other n apart))

-- a number below the bound that passes, and none before it does
pub record IsLeast (n : ℕ) (p : ℕ → Bool) (k : ℕ) : Type 0 where
  pub below : k < n
  pub passes : p k ≡ true
  pub first : (j : ℕ) → j < k → p j ≡ false

-- where there are none, none passes
pub below_lacks_all : (n : ℕ) (p : ℕ → Bool) → numbers_below n p ≡ [] → (k : ℕ) → k < n → p k
    ≡ false
below_lacks_all n p none k below = sym (below_has n p k below)
    ∙ ap (list_any (λ other. other == k)) none

-- what stands first is the least
pub below_least : (n : ℕ) (p : ℕ → Bool) (k : ℕ) → slice_get (numbers_below n p) 0 ≡ Some k
    → IsLeast n p k
unfolding numbers_below
below_least zero p k first = absurd (cc first)
below_least (suc n) p k first = by (numbers_below n p) refl (below_least n p k)
  where
    by_last : numbers_below n p ≡ [] → (b : Bool) → p n ≡ b → slice_get (last b n) 0 ≡ Some k
        → IsLeast (suc n) p k
    by_last none true passes at =
        let here : n ≡ k = cc at in
        record {
          below = omega arith;
          passes = ap p (sym here) ∙ passes;
          first = λ j lesser. below_lacks_all n p none j (omega arith);
        }
    by_last none false fails at = absurd (cc at)

    by : (xs : List ℕ) → numbers_below n p ≡ xs
        → (slice_get (numbers_below n p) 0 ≡ Some k → IsLeast n p k) → IsLeast (suc n) p k
    by [] none before =
        by_last none (p n) refl (sym (ap (λ xs. slice_get (xs ++ last (p n) n) 0) none) ∙ first)
    by (x ∷ xs) some before =
        let at : Some x ≡ Some k = sym (ap (λ ys. slice_get (ys ++ last (p n) n) 0) some) ∙ first in
        let rest = before (ap (λ ys. slice_get ys 0) some ∙ at) in
        record { below = omega (arith, rest.below); passes = rest.passes; first = rest.first }

pub below_first_none : (n : ℕ) (p : ℕ → Bool) → slice_get (numbers_below n p) 0 ≡ None
    → numbers_below n p ≡ []
below_first_none n p first = by (numbers_below n p) first
  where
    by : (xs : List ℕ) → slice_get xs 0 ≡ None → xs ≡ []
    by [] none = refl
    by (x ∷ xs) some = absurd (cc some)

-- they are at most as many as the bound
pub below_few : (n : ℕ) (p : ℕ → Bool) → length (numbers_below n p) ≤ n
unfolding numbers_below
below_few zero p = omega arith
below_few (suc n) p =
    let parts = length-append (numbers_below n p) (last (p n) n) in
    omega (arith, parts, below_few n p, by (p n))
  where
    by : (b : Bool) → length (last b n) ≤ 1
    by true = omega arith
    by false = omega arith

-- what stands first is taken out
pub record IsPopped (n : ℕ) (p q : ℕ → Bool) (k : ℕ) : Type 0 where
  pub below : k < n
  pub passes : p k ≡ true
  pub numbers : numbers_below n p ≡ k ∷ numbers_below n q

pub below_popped : (n : ℕ) (p q : ℕ → Bool) (k : ℕ) → Some k ≡ slice_get (numbers_below n p) 0
    → q ≡ put ◌==◌ p k false → IsPopped n p q k
below_popped n p q k first rest =
    let least = below_least n p k (sym first) in
    record {
      below = least.below;
      passes = least.passes;
      numbers = below_next n p k least.below least.passes least.first
          ∙ ap (λ r. k ∷ numbers_below n r) (sym rest);
    }
