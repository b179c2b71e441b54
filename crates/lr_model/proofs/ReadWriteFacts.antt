-- The holds of a read-write lock: what is found among them, and what is true of each.
use Rattle.std.proofs.Common.{◌≡◌, ◌≤◌, ◌==◌, Bool, true, false, ◌&&◌, List, [], ◌∷◌, length, filter, Some, None, ◌⊎◌, inl, inr, if◌then◌else◌, Decides, refl, sym, ap, ◌∙◌, subst, arith}
use Rattle.std.specs.List.{AllByRecursion, find}
use Rattle.std.specs.Str.{bytes_eq}
use Rattle.std.proofs.lemmas.Bool.{cond_both, cond-true, cond-false, false≢true, and_parts}
use Rattle.std.proofs.lemmas.Bool.Decides.{Decides-and, Decides-eqb, Decides-like, same_from_decides}
use Rattle.std.proofs.lemmas.Slice.Eq.{bytes_eq-Decides}
use Rattle.lr_names.specs.Owner.{ThreadOfClient, same_owner}
use Rattle.lr_objects.specs.declared.access.Access.{Access}
use Rattle.lr_objects.specs.declared.access.Access.TheVariants.{Read, Write}
use Rattle.lr_model.specs.declared.read_write_hold.ReadWriteHold.{ReadWriteHold}
use Rattle.lr_model.specs.ReadWrite.{same_access, is_hold_of}

-- ---- owners and accesses

pub same_owner-Decides : (a b : ThreadOfClient) → Decides (same_owner a b) (a ≡ b)
same_owner-Decides a b =
    Decides-like (same_owner a b)
    (λ parts. λ i. record { client = parts.0 i; thread = parts.1 i })
    (λ e. (ap (λ (o : ThreadOfClient). o.client) e, ap (λ (o : ThreadOfClient). o.thread) e))
    (Decides-and (bytes_eq a.client b.client) (a.thread == b.thread)
    (bytes_eq-Decides a.client b.client) (Decides-eqb a.thread b.thread))

pub same_owner-sym : (a b : ThreadOfClient) → same_owner a b ≡ same_owner b a
same_owner-sym a b =
    same_from_decides (same_owner a b) (same_owner b a) (same_owner-Decides a b)
    (Decides-like (same_owner b a) sym sym (same_owner-Decides b a))

same_access-sym : (a b : Access) → same_access a b ≡ same_access b a
same_access-sym Read Read = refl
same_access-sym Read Write = refl
same_access-sym Write Read = refl
same_access-sym Write Write = refl

pub same_access-is : (a b : Access) → same_access a b ≡ true → a ≡ b
same_access-is Read Read same = refl
same_access-is Read Write same = absurd (false≢true same)
same_access-is Write Read same = absurd (false≢true same)
same_access-is Write Write same = refl

pub same_access-same : (a : Access) → same_access a a ≡ true
same_access-same Read = refl
same_access-same Write = refl

-- a hold that passes the test is of this owner and this access
pub record HasKey (hold : ReadWriteHold) (owner : ThreadOfClient) (access : Access) : Type 0 where
  pub owner_is : hold.owner ≡ owner
  pub access_is : hold.access ≡ access

pub has_key : (owner : ThreadOfClient) (access : Access) (hold : ReadWriteHold)
    → is_hold_of owner access hold ≡ true → HasKey hold owner access
has_key owner access hold same =
    let parts = and_parts (same_owner hold.owner owner) (same_access hold.access access) same in
    record {
      owner_is = (same_owner-Decides hold.owner owner).0 parts.0;
      access_is = same_access-is hold.access access parts.1;
    }

pub is_hold_of-own : (hold : ReadWriteHold) → is_hold_of hold.owner hold.access hold ≡ true
is_hold_of-own hold =
    ap (λ b. b && same_access hold.access hold.access)
    ((same_owner-Decides hold.owner hold.owner).1 refl)
    ∙ same_access-same hold.access

-- the test asks the same the other way round
pub is_hold_of-sym : (a b : ReadWriteHold) → is_hold_of b.owner b.access a ≡ is_hold_of a.owner a.access b
is_hold_of-sym a b = λ i. same_owner-sym a.owner b.owner i && same_access-sym a.access b.access i

-- ---- what is found, and what is true of each

pub either_way : {A : Type 0} (b : Bool) (x y z : A) → (if b then x else y) ≡ z
    → ((b ≡ true) × (x ≡ z)) ⊎ ((b ≡ false) × (y ≡ z))
either_way true x y z e = inl (refl, e)
either_way false x y z e = inr (refl, e)

pub some_one : {A : Type 0} (a b : A) → Some a ≡ Some b → a ≡ b
some_one a b e = cc

pub none_some : {A : Type 0} (a : A) → Some a ≡ None → ⊥
none_some a e = cc

module _ {X : Type 0} where
  pub All-like : (P Q : X → Type 0) → ((x : X) → P x → Q x) → (xs : List X)
      → AllByRecursion P xs → AllByRecursion Q xs
  All-like P Q like [] all = tt
  All-like P Q like (x ∷ xs) all = (like x all.0, All-like P Q like xs all.1)

  pub All-filter : (P : X → Type 0) (p : X → Bool) (xs : List X)
      → AllByRecursion P xs → AllByRecursion P (filter p xs)
  All-filter P p [] all = tt
  All-filter P p (x ∷ xs) all =
      cond_both (p x) (x ∷ filter p xs) (filter p xs) (AllByRecursion P)
      (λ stays. (all.0, All-filter P p xs all.1)) (λ goes. All-filter P p xs all.1)

  pub length-filter-le : (p : X → Bool) (xs : List X) → length (filter p xs) ≤ length xs
  length-filter-le p [] = omega arith
  length-filter-le p (x ∷ xs) =
      let rest = length-filter-le p xs in
      cond_both (p x) (x ∷ filter p xs) (filter p xs) (λ l. length l ≤ length (x ∷ xs))
      (λ stays. omega (arith, rest)) (λ goes. omega (arith, rest))

  -- what isn't found fails at each
  pub find-none : (test : X → Bool) (xs : List X) → find test xs ≡ None
      → AllByRecursion (λ x. test x ≡ false) xs
  find-none test [] none = tt
  find-none test (x ∷ xs) none =
      elim (either_way (test x) (Some x) (find test xs) None none) [
        | inl w ↦ absurd (none_some x w.1)
        | inr w ↦ (w.0, find-none test xs w.1)
      ]

  -- what is found passes, and what is true of each is true of it
  pub find-some : (test : X → Bool) (P : X → Type 0) (xs : List X) (x : X)
      → find test xs ≡ Some x → AllByRecursion P xs → (test x ≡ true) × P x
  find-some test P [] x found all = absurd (none_some x (sym found))
  find-some test P (first ∷ rest) x found all =
      elim (either_way (test first) (Some first) (find test rest) (Some x) found) [
        | inl w ↦ subst (λ y. (test y ≡ true) × P y) (some_one first x w.1) (w.0, all.0)
        | inr w ↦ find-some test P rest x w.1 all.1
      ]

  pub find-passes : (test : X → Bool) (xs : List X) (x : X) → find test xs ≡ Some x
      → test x ≡ true
  find-passes test [] x found = absurd (none_some x (sym found))
  find-passes test (first ∷ rest) x found =
      elim (either_way (test first) (Some first) (find test rest) (Some x) found) [
        | inl w ↦ ap test (sym (some_one first x w.1)) ∙ w.0
        | inr w ↦ find-passes test rest x w.1
      ]

  -- what is found and stays is still found
  pub find-filter : (test p : X → Bool) (xs : List X) (x : X) → find test xs ≡ Some x → p x ≡ true
      → find test (filter p xs) ≡ Some x
  find-filter test p [] x found stays = absurd (none_some x (sym found))
  find-filter test p (first ∷ rest) x found stays =
      elim (either_way (test first) (Some first) (find test rest) (Some x) found) [
        | inl w ↦
            ap (find test) (cond-true (p first) (first ∷ filter p rest) (filter p rest)
            (ap p (some_one first x w.1) ∙ stays))
            ∙ cond-true (test first) (Some first) (find test (filter p rest)) w.0
            ∙ w.1
        | inr w ↦
            let later = find-filter test p rest x w.1 stays in
            cond_both (p first) (first ∷ filter p rest) (filter p rest)
            (λ l. find test l ≡ Some x)
            (λ kept. cond-false (test first) (Some first) (find test (filter p rest)) w.0 ∙ later)
            (λ gone. later)
      ]

  -- and each that stays passes
  pub filter-passes : (p : X → Bool) (xs : List X) → AllByRecursion (λ x. p x ≡ true) (filter p xs)
  filter-passes p [] = tt
  filter-passes p (x ∷ xs) =
      cond_both (p x) (x ∷ filter p xs) (filter p xs) (AllByRecursion (λ y. p y ≡ true))
      (λ stays. (stays, filter-passes p xs)) (λ goes. filter-passes p xs)
