-- Kinds of objects are apart: so are their keys, and what a call of one does leaves the others.
use Rattle.std.proofs.Common.{◌≡◌, ℕ, ◌==◌, List, [], ◌∷◌, map, Bool, true, false, ◌||◌, if◌then◌else◌, IsTrue, ◌⊎◌, inl, inr, refl, sym, ap, ◌∙◌}
use Rattle.std.specs.List.{list_any, list_all}
use Rattle.std.specs.Str.{bytes_eq}
use Rattle.std.proofs.lemmas.Bool.{true≢false, false≢true, eqb-true, eq-eqb, and_parts, or_cases}
use Rattle.lr_names.specs.Key.{key_text, keys_of, parts_of}
use Rattle.lr_names.specs.declared.kind.Kind.{Kind}
use Rattle.lr_names.specs.declared.kind.Kind.TheVariants as kinds
use Rattle.lr_names.specs.declared.part.Part.{Part}
use Rattle.lr_names.specs.declared.part.Part.TheVariants.{Lock, Fair, FairQueue, FairStale, Rw, RwDeadlines, Fenced, Token, Semaphore, Permits, PermitLeases, Countdown}
use Rattle.lr_names.proofs.KeyLaws.{key_text-injective}
use Rattle.lr_keys.proofs.TableLaws.{bytes_eq-same, same_bytes}
use Rattle.lr_model.specs.Board.{kind_number, same_kind}

-- the kind with a number
kind_at : ℕ → Kind
kind_at number =
    if number == 0 then kinds.Mutex
    else if number == 1 then kinds.Fair
    else if number == 2 then kinds.Rw
    else if number == 3 then kinds.Fenced
    else if number == 4 then kinds.Semaphore
    else if number == 5 then kinds.Permits
    else kinds.Countdown

kind_at-kind_number : (kind : Kind) → kind_at (kind_number kind) ≡ kind
unfolding kind_at
kind_at-kind_number kinds.Mutex = refl
kind_at-kind_number _ = refl

-- kinds with one number are one
pub one_kind : (a b : Kind) → same_kind a b ≡ true → a ≡ b
one_kind a b same =
    sym (kind_at-kind_number a) ∙ ap kind_at (eqb-true (kind_number a) (kind_number b) same)
    ∙ kind_at-kind_number b

same_kind-one : (a b : Kind) → a ≡ b → same_kind a b ≡ true
same_kind-one a b one = eq-eqb (kind_number a) (kind_number b) (ap kind_number one)

-- the kind of the objects that have a part
kind_of_part : Part → Kind
kind_of_part Lock = kinds.Mutex
kind_of_part Fair = kinds.Fair
kind_of_part FairQueue = kinds.Fair
kind_of_part FairStale = kinds.Fair
kind_of_part Rw = kinds.Rw
kind_of_part RwDeadlines = kinds.Rw
kind_of_part Fenced = kinds.Fenced
kind_of_part Token = kinds.Fenced
kind_of_part Semaphore = kinds.Semaphore
kind_of_part Permits = kinds.Permits
kind_of_part PermitLeases = kinds.Permits
kind_of_part Countdown = kinds.Countdown

-- whether these are parts of objects of a kind
are_parts : Kind → List Part → Bool
are_parts kind parts = list_all (λ part. same_kind (kind_of_part part) kind) parts

are_parts-parts_of : (kind : Kind) → are_parts kind (parts_of kind) ≡ true
unfolding are_parts kind_of_part
are_parts-parts_of kinds.Mutex = refl
are_parts-parts_of _ = refl

-- a key of an object of a kind is that of one of its parts
record IsKeyOf (kind : Kind) (name key : List ℕ) : Type 0 where
  part : Part
  is : key ≡ key_text part name
  of_kind : kind_of_part part ≡ kind

key_among : (kind : Kind) (name key : List ℕ) (parts : List Part) → are_parts kind parts ≡ true
    → IsTrue (list_any (bytes_eq key) (map (λ part. key_text part name) parts))
    → IsKeyOf kind name key
unfolding are_parts
key_among kind name key [] are among = absurd (false≢true among)
key_among kind name key (part ∷ parts) are among =
    let keys : List (List ℕ) = map (λ p. key_text p name) parts in
    let both = and_parts (same_kind (kind_of_part part) kind) (are_parts kind parts) are in
    by both.0 (key_among kind name key parts both.1)
    (or_cases (bytes_eq key (key_text part name)) (list_any (bytes_eq key) keys) among)
  where
    by : same_kind (kind_of_part part) kind ≡ true
        → (IsTrue (list_any (bytes_eq key) (map (λ p. key_text p name) parts))
        → IsKeyOf kind name key)
        → (bytes_eq key (key_text part name) ≡ true)
        ⊎ (list_any (bytes_eq key) (map (λ p. key_text p name) parts) ≡ true)
        → IsKeyOf kind name key
    by of_kind rest (inl here) = record {
      part = part;
      is = same_bytes key (key_text part name) here;
      of_kind = one_kind (kind_of_part part) kind of_kind;
    }
    by of_kind rest (inr there) = rest there

-- a key of an object of one kind is no key of an object of another
pub keys_apart : (a b : Kind) (m n key : List ℕ) → same_kind a b ≡ false
    → IsTrue (list_any (bytes_eq key) (keys_of a m)) → list_any (bytes_eq key) (keys_of b n) ≡ false
keys_apart a b m n key apart among = by (list_any (bytes_eq key) (keys_of b n)) refl
  where
    by : (there : Bool) → list_any (bytes_eq key) (keys_of b n) ≡ there → there ≡ false
    by true there =
        let one = key_among a m key (parts_of a) (are_parts-parts_of a) among in
        let other = key_among b n key (parts_of b) (are_parts-parts_of b) there in
        let same : one.part ≡ other.part =
        (key_text-injective one.part other.part m n (sym one.is ∙ other.is)).0 in
        let one_kind_is : a ≡ b = sym one.of_kind ∙ ap kind_of_part same ∙ other.of_kind in
        absurd (true≢false (sym (same_kind-one a b one_kind_is) ∙ apart))
    by false there = refl

-- the first of some keys is among them
pub first_among : (key : List ℕ) (keys : List (List ℕ))
    → IsTrue (list_any (bytes_eq key) (key ∷ keys))
first_among key keys = ap (λ b. b || list_any (bytes_eq key) keys) (bytes_eq-same key)

-- and so is the second
pub second_among : (first key : List ℕ) (keys : List (List ℕ))
    → IsTrue (list_any (bytes_eq key) (first ∷ key ∷ keys))
second_among first key keys = by (bytes_eq key first)
  where
    by : (b : Bool) → IsTrue (b || list_any (bytes_eq key) (key ∷ keys))
    by true = refl
    by false = first_among key keys

-- and the third
pub third_among : (first second key : List ℕ) (keys : List (List ℕ))
    → IsTrue (list_any (bytes_eq key) (first ∷ second ∷ key ∷ keys))
third_among first second key keys = by (bytes_eq key first)
  where
    by : (b : Bool) → IsTrue (b || list_any (bytes_eq key) (second ∷ key ∷ keys))
    by true = refl
    by false = second_among second key keys
