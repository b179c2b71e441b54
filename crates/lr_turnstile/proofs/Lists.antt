-- Lists of entries and of views.
use Rattle.std.proofs.Common.{◌≡◌, ◌≢◌, ◌⊎◌, ℕ, zero, suc, ◌+◌, ◌<◌, ◌≤◌, ◌==◌, cond, List, [], ◌∷◌, ◌++◌, length, set, refl, sym, ap, ◌∙◌, subst, inl, inr, ⊎_elim, arith, eq-eqb, ne_eqb}
use Rattle.std.specs.List.{All}
use Rattle.std.proofs.lemmas.List.Elements.{All-head, All-tail, filter-append}
use mathlib.Core.Option.{some, some-injective, some-ne-none}
use lib.ListN.{get_elem?}
use Rattle.lr_model.specs.declared.entry.Entry.{Entry}
use Rattle.lr_turnstile.specs.declared.view.View.{View}
use Rattle.lr_turnstile.specs.Views.{entries_by}
use Rattle.lr_turnstile.specs.Rule.{total}

pub entries_by-append : (caller : ℕ) (xs ys : List Entry)
    → entries_by caller (xs ++ ys) ≡ entries_by caller xs ++ entries_by caller ys
entries_by-append caller xs ys = filter-append (λ (e : Entry). e.caller == caller) xs ys

-- no entry is by a caller whose number is above all of theirs
pub none_known : (made : ℕ) (entries : List Entry)
    → All (λ (e : Entry). e.caller < made) entries → entries_by made entries ≡ []
none_known made [] below = refl
none_known made (e ∷ es) below =
    let first : e.caller < made = All-head (λ (x : Entry). x.caller < made) e es below in
    let rest = All-tail (λ (x : Entry). x.caller < made) e es below in
    subst (λ b. cond b (e ∷ entries_by made es) (entries_by made es) ≡ [])
    (sym (ne_eqb e.caller made (λ same. omega arith))) (none_known made es rest)

-- entries that are all by one caller
pub record By (caller : ℕ) (entries : List Entry) : Type 0 where
  pub own : entries_by caller entries ≡ entries
  pub others : (other : ℕ) → other ≢ caller → entries_by other entries ≡ []
  pub each : All (λ e. e.caller ≡ caller) entries

module _ {A : Type 0} (P : A → Type 0) where
  pub all_none : All P []
  all_none k d below = absurd (omega arith)

  pub all_one : (a : A) → P a → All P (a ∷ [])
  all_one a p zero d below = p
  all_one a p (suc k) d below = absurd (omega arith)

pub by_none : (caller : ℕ) → By caller []
by_none caller = record {
  own = refl;
  others = λ other n. refl;
  each = all_none (λ (e : Entry). e.caller ≡ caller);
}

pub by_one : (caller : ℕ) (e : Entry) → e.caller ≡ caller → By caller (e ∷ [])
by_one caller e is = record {
  own = subst (λ b. cond b (e ∷ []) [] ≡ e ∷ []) (sym (eq-eqb e.caller caller is)) refl;
  others = λ other n. subst (λ b. cond b (e ∷ []) [] ≡ [])
      (sym (ne_eqb e.caller other (λ same. n (sym same ∙ is)))) refl;
  each = all_one (λ (x : Entry). x.caller ≡ caller) e is;
}

pub nil_left : (xs ys : List Entry) → xs ++ ys ≡ [] → xs ≡ []
nil_left [] ys e = refl
nil_left (x ∷ xs) ys e = absurd (cc)

pub nil_right : (xs ys : List Entry) → xs ++ ys ≡ [] → ys ≡ []
nil_right [] ys e = e
nil_right (x ∷ xs) ys e = absurd (cc)

module _ {A : Type 0} where
  pub at_end : (xs : List A) (y a : A) (k : ℕ) → get_elem? (xs ++ y ∷ []) k ≡ some a
      → ((k < length xs) × (get_elem? xs k ≡ some a)) ⊎ ((k ≡ length xs) × (y ≡ a))
  at_end [] y a zero e = inr (refl, some-injective y a e)
  at_end [] y a (suc k) e = absurd (some-ne-none a (sym e))
  at_end (x ∷ xs) y a zero e = inl (omega arith, e)
  at_end (x ∷ xs) y a (suc k) e = ⊎_elim
      (λ t. let h = t.0 in inl (omega arith, t.1))
      (λ t. let h = t.0 in inr (omega arith, t.1))
      (at_end xs y a k e)

  pub at_here : (xs : List A) (k : ℕ) (a b : A) → get_elem? xs k ≡ some a
      → get_elem? (set xs k b) k ≡ some b
  at_here [] k a b e = absurd (some-ne-none a (sym e))
  at_here (x ∷ xs) zero a b e = refl
  at_here (x ∷ xs) (suc k) a b e = at_here xs k a b e

-- A number of each view, added up.

pub total-set : (f : View → ℕ) (vs : List View) (k : ℕ) (v w : View) → get_elem? vs k ≡ some v
    → total f (set vs k w) + f v ≡ total f vs + f w
total-set f [] k v w e = absurd (some-ne-none v (sym e))
total-set f (x ∷ xs) zero v w e = let same = ap f (some-injective x v e) in omega arith
total-set f (x ∷ xs) (suc k) v w e = let h = total-set f xs k v w e in omega arith

pub total-append : (f : View → ℕ) (vs : List View) (v : View)
    → total f (vs ++ v ∷ []) ≡ total f vs + f v
total-append f [] v = omega arith
total-append f (x ∷ xs) v = let h = total-append f xs v in omega arith

pub total_zero : (f : View → ℕ) (vs : List View) (k : ℕ) (v : View) → total f vs ≡ 0
    → get_elem? vs k ≡ some v → f v ≡ 0
total_zero f [] k v z e = absurd (some-ne-none v (sym e))
total_zero f (x ∷ xs) zero v z e = let same = ap f (some-injective x v e) in omega arith
total_zero f (x ∷ xs) (suc k) v z e =
    let h : total f xs ≡ 0 = omega arith in total_zero f xs k v h e

-- Beginnings of one list.

-- the shorter of two begins the longer
pub begins_longer : (xs us ys vs : List Entry) → xs ++ us ≡ ys ++ vs → length xs ≤ length ys
    → (mid : List Entry) × (ys ≡ xs ++ mid) × (us ≡ mid ++ vs)
begins_longer [] us ys vs e le = (ys, refl, e)
begins_longer (x ∷ xs) us [] vs e le = absurd (omega arith)
begins_longer (x ∷ xs) us (y ∷ ys) vs e le =
    let tails : xs ++ us ≡ ys ++ vs = cc in
    let heads : x ≡ y = cc in
    let h = begins_longer xs us ys vs tails (omega arith) in
    (h.0, (ap (λ z. z ∷ ys) (sym heads) ∙ ap (λ zs. x ∷ zs) h.1), h.2)

-- one that is as long as the whole is the whole
pub whole : (xs later all : List Entry) → all ≡ xs ++ later → length all ≤ length xs
    → (xs ≡ all) × (later ≡ [])
whole [] [] all e le = (sym e, refl)
whole [] (z ∷ later) all e le = let h = ap length e in absurd (omega arith)
whole (x ∷ xs) later [] e le = absurd (cc)
whole (x ∷ xs) later (y ∷ all) e le =
    let tails : all ≡ xs ++ later = cc in
    let heads : y ≡ x = cc in
    let h = whole xs later all tails (omega arith) in
    (ap (λ z. z ∷ xs) (sym heads) ∙ ap (λ zs. y ∷ zs) h.0, h.1)
