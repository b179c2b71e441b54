-- The places of a queue as the items of a list and the members of a sorted set: what is found, put
-- and removed there.
use Rattle.std.proofs.Common.{◌≡◌, ◌<◌, ℕ, suc, max, Bool, true, false, not, cond, List, [], ◌∷◌, ◌++◌, length, filter, Option, Some, None, option_map, if◌then◌else◌, refl, sym, ap, ◌∙◌, subst, arith}
use Rattle.std.specs.List.{AllByRecursion, IsDistinct}
use Rattle.std.specs.Map.{keys_of}
use Rattle.std.specs.Str.{bytes_eq}
use Rattle.std.proofs.lemmas.Bool.{cond_both}
use Rattle.std.proofs.lemmas.Bool.Decides.{Decides-like, same_from_decides}
use Rattle.std.proofs.lemmas.List.{length-append}
use Rattle.std.proofs.lemmas.Slice.Eq.{bytes_eq-Decides}
use Rattle.std.proofs.lemmas.Map.Keys.{IsDistinct-cons, IsDistinct-head, IsDistinct-tail}
use Rattle.lr_limits.specs.Limits.{member_limit}
use Rattle.lr_names.specs.Owner.{ThreadOfClient, IsOwner, owner_text, same_owner}
use Rattle.lr_names.proofs.OwnerLaws.{owner_text-injective}
use Rattle.lr_lists.specs.Items.{without_item}
use Rattle.lr_sorted.specs.Members.{score_of, with_score, without_member}
use Rattle.lr_sorted.specs.Sorted.{AreDistinct, sorted}
use Rattle.lr_sorted.proofs.MemberLaws.{eq-is, eq-sym}
use Rattle.lr_sorted.proofs.SortedLaws.{sorted-scores, sorted-with_score, sorted-without}
use Rattle.lr_model.specs.Fair.{FairPlace, is_place_of, place_of, with_last_place, with_later_place, without_place}
use Rattle.lr_model.proofs.ReadWriteFacts.{All-filter, find-none, length-filter-le, none_some, same_owner-Decides, same_owner-sym, some_one}
use Rattle.lr_fair.specs.Queue.{ArePlaces, stales_of, text_of, texts_of}

abbrev pub stale_in : FairPlace → ℕ
stale_in place = place.stale

abbrev pub HaveOwners : List FairPlace → Type 0
HaveOwners queue = AllByRecursion (λ place. IsOwner place.owner) queue

-- ---- texts

-- owners are told apart by their texts
pub text-eq : (a b : ThreadOfClient) → IsOwner a → IsOwner b
    → bytes_eq (owner_text a) (owner_text b) ≡ same_owner a b
text-eq a b in_a in_b =
    same_from_decides (bytes_eq (owner_text a) (owner_text b)) (same_owner a b)
    (bytes_eq-Decides (owner_text a) (owner_text b))
    (Decides-like (same_owner a b) (λ e. ap owner_text e) (owner_text-injective a b in_a in_b)
    (same_owner-Decides a b))

pub texts-same : (a b : ThreadOfClient) → IsOwner a → IsOwner b → (s t : List ℕ)
    → s ≡ owner_text a → t ≡ owner_text b → bytes_eq s t ≡ same_owner a b
texts-same a b in_a in_b s t is_a is_b =
    (λ i. bytes_eq (is_a i) (is_b i)) ∙ text-eq a b in_a in_b

pub text-place : (owner : ThreadOfClient) (place : FairPlace) → IsOwner owner
    → IsOwner place.owner → bytes_eq (owner_text owner) (text_of place) ≡ is_place_of owner place
text-place owner place in_owner in_place =
    text-eq owner place.owner in_owner in_place ∙ same_owner-sym owner place.owner

-- the texts are the keys of the members
keys_of-stales : (queue : List FairPlace) → keys_of (stales_of queue) ≡ texts_of queue
keys_of-stales [] = refl
keys_of-stales (x ∷ xs) = ap (λ l. text_of x ∷ l) (keys_of-stales xs)

-- two choices of which one at most is made can change places
swap : (a b : Bool) (x y z : Option ℕ) → (a ≡ true → b ≡ false)
    → cond a x (cond b y z) ≡ cond b y (cond a x z)
swap true true x y z apart = absurd (cc (apart refl))
swap true false x y z apart = refl
swap false b x y z apart = refl

over : (a b : Bool) (x y z : Option ℕ) → a ≡ b → cond a x z ≡ cond b x (cond a y z)
over true true x y z same = refl
over true false x y z same = absurd (cc same)
over false true x y z same = absurd (cc same)
over false false x y z same = refl

module _ (owner : ThreadOfClient) (in_owner : IsOwner owner) where
  abbrev own : List ℕ
  own = owner_text owner

  -- the stale moment of a place is found by its text
  pub score_of-place : (queue : List FairPlace) → HaveOwners queue
      → score_of own (stales_of queue) ≡ option_map stale_in (place_of owner queue)
  score_of-place [] owners = refl
  score_of-place (first ∷ rest) owners =
      ap (λ b. if b then Some first.stale else score_of own (stales_of rest))
      (text-place owner first in_owner owners.0)
      ∙ by (is_place_of owner first) (score_of-place rest owners.1)
    where
      by : (b : Bool)
          → score_of own (stales_of rest) ≡ option_map stale_in (place_of owner rest)
          → (if b then Some first.stale else score_of own (stales_of rest))
          ≡ option_map stale_in (if b then Some first else place_of owner rest)
      by true later = refl
      by false later = later

  -- without a place the items are without its text
  pub items-without : (queue : List FairPlace) → HaveOwners queue
      → without_item own (texts_of queue) ≡ texts_of (without_place owner queue)
  items-without [] owners = refl
  items-without (first ∷ rest) owners =
      ap (λ b. if b then without_item own (texts_of rest)
      else text_of first ∷ without_item own (texts_of rest))
      (text-place owner first in_owner owners.0)
      ∙ by (is_place_of owner first) (items-without rest owners.1)
    where
      by : (b : Bool) → without_item own (texts_of rest) ≡ texts_of (without_place owner rest)
          → (if b then without_item own (texts_of rest)
          else text_of first ∷ without_item own (texts_of rest))
          ≡ texts_of (if not b then first ∷ without_place owner rest else without_place owner rest)
      by true later = later
      by false later = ap (λ l. text_of first ∷ l) later

  -- and all others have the scores that they had
  pub scores-without : (q : List ℕ) (queue : List FairPlace) → HaveOwners queue
      → score_of q (stales_of (without_place owner queue))
      ≡ cond (bytes_eq own q) None (score_of q (stales_of queue))
  scores-without q [] owners = nothing (bytes_eq own q)
    where
      none : Option ℕ
      none = None

      nothing : (b : Bool) → none ≡ cond b none none
      nothing true = refl
      nothing false = refl
  scores-without q (first ∷ rest) owners =
      by (is_place_of owner first) (bytes_eq own q) refl (bytes_eq q (text_of first)) refl
      (text-place owner first in_owner owners.0) (scores-without q rest owners.1)
    where
      text : List ℕ
      text = text_of first

      old : Option ℕ
      old = score_of q (stales_of rest)

      new : Option ℕ
      new = score_of q (stales_of (without_place owner rest))

      by : (gone here : Bool) → bytes_eq own q ≡ here → (found : Bool)
          → bytes_eq q text ≡ found → bytes_eq own text ≡ gone → new ≡ cond here None old
          → score_of q (stales_of (if not gone then first ∷ without_place owner rest
          else without_place owner rest))
          ≡ cond here None (cond found (Some first.stale) old)
      by true true e found f g later = later
      by true false e true f g later =
          let same : own ≡ text = eq-is own text g in
          let there : bytes_eq own q ≡ true = ap (λ t. bytes_eq t q) same ∙ eq-sym text q ∙ f in
          absurd (cc)
      by true false e false f g later = later
      by false true e true f g later =
          let same : own ≡ q = eq-is own q e in
          let there : bytes_eq own text ≡ true = ap (λ t. bytes_eq t text) same ∙ f in
          absurd (cc)
      by false true e false f g later =
          ap (λ b. if b then Some first.stale else new) f ∙ later
      by false false e true f g later = ap (λ b. if b then Some first.stale else new) f
      by false false e false f g later =
          ap (λ b. if b then Some first.stale else new) f ∙ later

  -- another place has another text, which isn't both
  apart_from : (first : FairPlace) → IsOwner first.owner → is_place_of owner first ≡ false
      → (q : List ℕ) → bytes_eq q (text_of first) ≡ true → bytes_eq own q ≡ false
  apart_from first in_first other q here =
      ap (bytes_eq own) (eq-is q (text_of first) here)
      ∙ text-place owner first in_owner in_first ∙ other

  module _ (stale : ℕ) where
    -- a new place at the end
    pub scores-last : (q : List ℕ) (queue : List FairPlace) → HaveOwners queue
        → AllByRecursion (λ place. is_place_of owner place ≡ false) queue
        → score_of q (stales_of (with_last_place owner stale queue))
        ≡ cond (bytes_eq own q) (Some stale) (score_of q (stales_of queue))
    scores-last q [] owners none = ap (λ b. cond b (Some stale) None) (eq-sym q own)
    scores-last q (first ∷ rest) owners none =
        ap (cond (bytes_eq q (text_of first)) (Some first.stale))
        (scores-last q rest owners.1 none.1)
        ∙ swap (bytes_eq q (text_of first)) (bytes_eq own q) (Some first.stale) (Some stale)
        (score_of q (stales_of rest)) (apart_from first owners.0 none.0 q)

    -- a later stale moment of a place that is there
    pub scores-later : (q : List ℕ) (queue : List FairPlace) → HaveOwners queue
        → (place : FairPlace) → place_of owner queue ≡ Some place
        → score_of q (stales_of (with_later_place owner stale queue))
        ≡ cond (bytes_eq own q) (Some (max place.stale stale)) (score_of q (stales_of queue))
    scores-later q [] owners place found = absurd (none_some place (sym found))
    scores-later q (first ∷ rest) owners place found =
        by (is_place_of owner first) refl found (scores-later q rest owners.1 place)
      where
        late : FairPlace
        late = record { owner = first.owner; stale = max first.stale stale }

        score : Option ℕ
        score = score_of q (stales_of rest)

        by : (b : Bool) → is_place_of owner first ≡ b
            → (if b then Some first else place_of owner rest) ≡ Some place
            → (place_of owner rest ≡ Some place
            → score_of q (stales_of (with_later_place owner stale rest))
            ≡ cond (bytes_eq own q) (Some (max place.stale stale)) score)
            → score_of q (stales_of (if b then late ∷ rest
            else first ∷ with_later_place owner stale rest))
            ≡ cond (bytes_eq own q) (Some (max place.stale stale))
            (cond (bytes_eq q (text_of first)) (Some first.stale) score)
        by true is found later =
            let text : own ≡ text_of first =
            eq-is own (text_of first) (text-place owner first in_owner owners.0 ∙ is) in
            ap (λ (p : FairPlace). cond (bytes_eq q (text_of first)) (Some (max p.stale stale)) score)
            (some_one first place found)
            ∙ over (bytes_eq q (text_of first)) (bytes_eq own q) (Some (max place.stale stale))
            (Some first.stale) score
            (eq-sym q (text_of first) ∙ ap (λ t. bytes_eq t q) (sym text))
        by false is found later =
            ap (cond (bytes_eq q (text_of first)) (Some first.stale)) (later found)
            ∙ swap (bytes_eq q (text_of first)) (bytes_eq own q) (Some first.stale)
            (Some (max place.stale stale)) score (apart_from first owners.0 is q)

-- ---- the texts of a queue

pub texts-last : (owner : ThreadOfClient) (stale : ℕ) (queue : List FairPlace)
    → texts_of (with_last_place owner stale queue) ≡ texts_of queue ++ owner_text owner ∷ []
texts-last owner stale [] = refl
texts-last owner stale (first ∷ rest) =
    ap (λ l. text_of first ∷ l) (texts-last owner stale rest)

pub texts-later : (owner : ThreadOfClient) (stale : ℕ) (queue : List FairPlace)
    → texts_of (with_later_place owner stale queue) ≡ texts_of queue
texts-later owner stale [] = refl
texts-later owner stale (first ∷ rest) =
    by (is_place_of owner first) (texts-later owner stale rest)
  where
    by : (b : Bool) → texts_of (with_later_place owner stale rest) ≡ texts_of rest
        → texts_of (if b then record { owner = first.owner; stale = max first.stale stale } ∷ rest
        else first ∷ with_later_place owner stale rest)
        ≡ text_of first ∷ texts_of rest
    by true later = refl
    by false later = ap (λ l. text_of first ∷ l) later

length-texts : (queue : List FairPlace) → length (texts_of queue) ≡ length queue
length-texts [] = refl
length-texts (x ∷ xs) = ap (λ n. suc n) (length-texts xs)

pub texts-length : (queue : List FairPlace) → length (texts_of queue) ≡ length queue
texts-length queue = length-texts queue

-- ---- owners that differ

abbrev pub IsAbsent : List ℕ → List FairPlace → Type 0
IsAbsent text queue = AllByRecursion (λ y. bytes_eq text y ≡ false) (keys_of (stales_of queue))

absent-filter : (text : List ℕ) (p : FairPlace → Bool) (queue : List FairPlace)
    → IsAbsent text queue → IsAbsent text (filter p queue)
absent-filter text p [] absent = tt
absent-filter text p (x ∷ xs) absent =
    cond_both (p x) (x ∷ filter p xs) (filter p xs) (IsAbsent text)
    (λ stays. (absent.0, absent-filter text p xs absent.1))
    (λ goes. absent-filter text p xs absent.1)

distinct-filter : (p : FairPlace → Bool) (queue : List FairPlace)
    → AreDistinct (stales_of queue) → AreDistinct (stales_of (filter p queue))
distinct-filter p [] distinct = distinct
distinct-filter p (x ∷ xs) distinct =
    let keys = keys_of (stales_of xs) in
    let rest = distinct-filter p xs (IsDistinct-tail bytes_eq (text_of x) keys distinct) in
    let apart = IsDistinct-head bytes_eq (text_of x) keys distinct in
    cond_both (p x) (x ∷ filter p xs) (filter p xs) (λ l. AreDistinct (stales_of l))
    (λ stays. IsDistinct-cons bytes_eq (text_of x) (keys_of (stales_of (filter p xs)))
    (absent-filter (text_of x) p xs apart) rest)
    (λ goes. rest)

-- they are places still
pub places-filter : (p : FairPlace → Bool) (queue : List FairPlace) → ArePlaces queue
    → ArePlaces (filter p queue)
places-filter p queue are = record {
  owners = All-filter (λ (x : FairPlace). IsOwner x.owner) p queue are.owners;
  apart = distinct-filter p queue are.apart;
  few = omega (arith, length-filter-le p queue, are.few);
}

pub places-later : (owner : ThreadOfClient) (stale : ℕ) (queue : List FairPlace) → ArePlaces queue
    → ArePlaces (with_later_place owner stale queue)
places-later owner stale queue are = record {
  owners = same_owners queue are.owners;
  apart =
      subst (IsDistinct bytes_eq)
      (keys_of-stales queue ∙ sym (texts-later owner stale queue)
      ∙ sym (keys_of-stales (with_later_place owner stale queue))) are.apart;
  few =
      let long = ap (λ (l : List (List ℕ)). length l) (texts-later owner stale queue) in
      omega (
        arith,
        long,
        length-texts queue,
        length-texts (with_later_place owner stale queue),
        are.few,
      );
}
  where
    same_owners : (xs : List FairPlace) → HaveOwners xs
        → HaveOwners (with_later_place owner stale xs)
    same_owners [] owners = tt
    same_owners (x ∷ xs) owners =
        cond_both (is_place_of owner x)
        (record { owner = x.owner; stale = max x.stale stale } ∷ xs)
        (x ∷ with_later_place owner stale xs) HaveOwners
        (λ here. (owners.0, owners.1)) (λ there. (owners.0, same_owners xs owners.1))

module _ (owner : ThreadOfClient) (in_owner : IsOwner owner) (stale : ℕ) where
  abbrev AreOthers : List FairPlace → Type 0
  AreOthers queue = AllByRecursion (λ place. is_place_of owner place ≡ false) queue

  absent-last : (text : List ℕ) (queue : List FairPlace) → IsAbsent text queue
      → bytes_eq text (owner_text owner) ≡ false
      → IsAbsent text (with_last_place owner stale queue)
  absent-last text [] absent other = (other, tt)
  absent-last text (x ∷ xs) absent other = (absent.0, absent-last text xs absent.1 other)

  distinct-last : (queue : List FairPlace) → HaveOwners queue → AreOthers queue
      → AreDistinct (stales_of queue) → AreDistinct (stales_of (with_last_place owner stale queue))
  unfolding IsDistinct
  distinct-last [] owners others distinct =
      IsDistinct-cons bytes_eq (owner_text owner) [] tt distinct
  distinct-last (x ∷ xs) owners others distinct =
      let keys = keys_of (stales_of xs) in
      IsDistinct-cons bytes_eq (text_of x)
      (keys_of (stales_of (with_last_place owner stale xs)))
      (absent-last (text_of x) xs (IsDistinct-head bytes_eq (text_of x) keys distinct)
      (eq-sym (text_of x) (owner_text owner) ∙ text-place owner x in_owner owners.0 ∙ others.0))
      (distinct-last xs owners.1 others.1
      (IsDistinct-tail bytes_eq (text_of x) keys distinct))

  owners-last : (queue : List FairPlace) → HaveOwners queue
      → HaveOwners (with_last_place owner stale queue)
  owners-last [] owners = (in_owner, tt)
  owners-last (x ∷ xs) owners = (owners.0, owners-last xs owners.1)

  pub places-last : (queue : List FairPlace) → ArePlaces queue → AreOthers queue
      → length queue < member_limit → ArePlaces (with_last_place owner stale queue)
  places-last queue are others room = record {
    owners = owners-last queue are.owners;
    apart = distinct-last queue are.owners others are.apart;
    few =
        let long = length-append queue (record { owner = owner; stale = stale } ∷ []) in
        omega (arith, long, room);
  }

-- ---- the members in order

module _ (owner : ThreadOfClient) (in_owner : IsOwner owner) (queue : List FairPlace)
    (are : ArePlaces queue) where
  pub score_of-in_order : score_of (owner_text owner) (sorted (stales_of queue))
      ≡ option_map stale_in (place_of owner queue)
  score_of-in_order =
      sorted-scores (stales_of queue) (owner_text owner) are.apart
      ∙ score_of-place owner in_owner queue are.owners

  pub in_order-without : sorted (stales_of (without_place owner queue))
      ≡ without_member (owner_text owner) (sorted (stales_of queue))
  in_order-without =
      sorted-without (stales_of queue) (stales_of (without_place owner queue)) (owner_text owner)
      are.apart (distinct-filter (λ place. not (is_place_of owner place)) queue are.apart)
      (λ q. scores-without owner in_owner q queue are.owners)

  module _ (stale : ℕ) where
    pub in_order-last : place_of owner queue ≡ None → length queue < member_limit
        → sorted (stales_of (with_last_place owner stale queue))
        ≡ with_score (owner_text owner) stale (sorted (stales_of queue))
    in_order-last none room =
        let others = find-none (is_place_of owner) queue none in
        sorted-with_score (stales_of queue) (stales_of (with_last_place owner stale queue))
        (owner_text owner) stale are.apart
        (places-last owner in_owner stale queue are others room).apart
        (λ q. scores-last owner in_owner stale q queue are.owners others)

    pub in_order-later : (place : FairPlace) → place_of owner queue ≡ Some place
        → sorted (stales_of (with_later_place owner stale queue))
        ≡ with_score (owner_text owner) (max place.stale stale) (sorted (stales_of queue))
    in_order-later place found =
        sorted-with_score (stales_of queue) (stales_of (with_later_place owner stale queue))
        (owner_text owner) (max place.stale stale) are.apart
        (places-later owner stale queue are).apart
        (λ q. scores-later owner in_owner stale q queue are.owners place found)
