-- Which places are stale: the first member of the sorted set tells.
use Rattle.std.proofs.Common.{◌≡◌, ◌≤◌, ◌<◌, ℕ, pos, Bool, true, false, not, List, [], ◌∷◌, length, Some, None, if◌then◌else◌, refl, sym, ap, ◌∙◌, subst, arith}
use Rattle.std.specs.Map.{keys_of}
use Rattle.std.specs.Str.{bytes_eq}
use Rattle.std.proofs.lemmas.Bool.{cond-true, cond-false}
use Rattle.std.proofs.lemmas.Bool.Decides.{nat_tests}
use Rattle.std.proofs.lemmas.Map.Keys.{IsDistinct-head}
use Rattle.lr_names.specs.Owner.{ThreadOfClient, IsOwner, owner_text}
use Rattle.lr_lists.specs.Places.{item_at}
use Rattle.lr_sorted.specs.Members.{Scored, Members as Scores, score_of}
use Rattle.lr_sorted.specs.Sorted.{AreDistinct, sorted}
use Rattle.lr_sorted.proofs.MemberLaws.{eq-is, eq-same, in_order_to, least-first}
use Rattle.lr_sorted.proofs.SortedLaws.{head-absent, length-sorted, sorted-in_order, sorted-scores, tail-distinct}
use Rattle.lr_model.specs.Fair.{FairPlace, is_place_of, live_places, place_of, without_place}
use Rattle.lr_model.specs.Moment.{is_live}
use Rattle.lr_model.proofs.ReadWriteFacts.{All-like, filter-passes, none_some, same_owner-Decides, some_one}
use Rattle.lr_fair.specs.Queue.{ArePlaces, stales_of, text_of}
use Rattle.lr_fair.specs.Step.{AreLive, IsStale}
use Rattle.lr_fair.proofs.QueueLaws.{HaveOwners, IsAbsent, text-place}

-- ---- what has a score is a place

-- a place of a queue, by its text and its stale moment
pub record IsPlaceIn (queue : List FairPlace) (text : List ℕ) (stale : ℕ) : Type 0 where
  pub place : FairPlace
  pub owner : IsOwner place.owner
  pub text_is : text ≡ owner_text place.owner
  pub found : place_of place.owner queue ≡ Some place
  pub stale_is : stale ≡ place.stale

own-place : (place : FairPlace) → is_place_of place.owner place ≡ true
own-place place = (same_owner-Decides place.owner place.owner).1 refl

pub score-found : (queue : List FairPlace) → HaveOwners queue → (q : List ℕ) (s : ℕ)
    → score_of q (stales_of queue) ≡ Some s → IsPlaceIn queue q s
score-found [] owners q s is = absurd (none_some s (sym is))
score-found (first ∷ rest) owners q s is =
    by (bytes_eq q (text_of first)) refl is (score-found rest owners.1 q s)
  where
    by : (b : Bool) → bytes_eq q (text_of first) ≡ b
        → (if b then Some first.stale else score_of q (stales_of rest)) ≡ Some s
        → (score_of q (stales_of rest) ≡ Some s → IsPlaceIn rest q s)
        → IsPlaceIn (first ∷ rest) q s
    by true same is later = record {
      place = first;
      owner = owners.0;
      text_is = eq-is q (text_of first) same;
      found =
          ap (λ b. if b then Some first else place_of first.owner rest) (own-place first);
      stale_is = sym (some_one first.stale s is);
    }
    by false other is later =
        let r = later is in
        let apart : is_place_of r.place.owner first ≡ false =
        sym (text-place r.place.owner first r.owner owners.0)
        ∙ ap (λ t. bytes_eq t (text_of first)) (sym r.text_is) ∙ other in
        record {
          place = r.place;
          owner = r.owner;
          text_is = r.text_is;
          found =
              cond-false (is_place_of r.place.owner first) (Some first)
              (place_of r.place.owner rest) apart ∙ r.found;
          stale_is = r.stale_is;
        }

-- ---- the first member

module _ (queue : List FairPlace) (are : ArePlaces queue) where
  abbrev members : Scores
  members = sorted (stales_of queue)

  -- it has a score
  first-score : (ms : Scores) (e : Scored) → item_at (pos 0) ms ≡ Some e
      → score_of e.0 ms ≡ Some e.1
  first-score [] e at = absurd (none_some e (sym at))
  first-score (m ∷ ms) e at =
      subst (λ (x : Scored). score_of x.0 (m ∷ ms) ≡ Some x.1) (some_one m e at)
      (cond-true (bytes_eq m.0 m.0) (Some m.1) (score_of m.0 ms) (eq-same m.0))

  -- its place is stale
  pub first-stale : (moment : ℕ) (e : Scored) → item_at (pos 0) members ≡ Some e
      → e.1 ≤ moment → IsStale moment queue e.0
  first-stale moment e at gone =
      let in_queue = score-found queue are.owners e.0 e.1
      (sym (sorted-scores (stales_of queue) e.0 are.apart) ∙ first-score members e at) in
      record {
        place = in_queue.place;
        owner = in_queue.owner;
        text_is = in_queue.text_is;
        found = in_queue.found;
        gone = omega (arith, in_queue.stale_is, gone);
      }

  -- or no place is
  pub none-stale : (moment : ℕ) (e : Scored) → item_at (pos 0) members ≡ Some e
      → moment < e.1 → live_places moment queue ≡ queue
  none-stale moment e at ahead =
      all queue are.apart (λ q s there.
      least-first e members q s
      (in_order_to members (sorted-in_order (stales_of queue) are.apart)) at
      (sorted-scores (stales_of queue) q are.apart ∙ there))
    where
      all : (xs : List FairPlace) → AreDistinct (stales_of xs)
          → ((q : List ℕ) (s : ℕ) → score_of q (stales_of xs) ≡ Some s → e.1 ≤ s)
          → live_places moment xs ≡ xs
      all [] distinct least = refl
      all (x ∷ xs) distinct least =
          let own : score_of (text_of x) (stales_of (x ∷ xs)) ≡ Some x.stale =
          cond-true (bytes_eq (text_of x) (text_of x)) (Some x.stale)
          (score_of (text_of x) (stales_of xs)) (eq-same (text_of x)) in
          let late = least (text_of x) x.stale own in
          let live : is_live x.stale moment ≡ true = grind (arith, late, ahead, nat_tests) in
          cond-true (is_live x.stale moment) (x ∷ live_places moment xs) (live_places moment xs)
          live
          ∙ ap (λ l. x ∷ l) (all xs (tail-distinct (text_of x, x.stale) (stales_of xs) distinct)
          (λ q s there. least q s (further q s (bytes_eq q (text_of x)) refl there)))
        where
          further : (q : List ℕ) (s : ℕ) (b : Bool) → bytes_eq q (text_of x) ≡ b
              → score_of q (stales_of xs) ≡ Some s → score_of q (stales_of (x ∷ xs)) ≡ Some s
          further q s true same there =
              absurd (none_some s (sym there
              ∙ ap (λ t. score_of t (stales_of xs)) (eq-is q (text_of x) same)
              ∙ head-absent (text_of x, x.stale) (stales_of xs) distinct))
          further q s false other there =
              cond-false (bytes_eq q (text_of x)) (Some x.stale) (score_of q (stales_of xs)) other
              ∙ there

  pub no-first : (moment : ℕ) → item_at (pos 0) members ≡ None
      → live_places moment queue ≡ queue
  no-first moment none =
      by queue (sym (length-sorted (stales_of queue)) ∙ empty members none)
    where
      empty : (ms : Scores) → item_at (pos 0) ms ≡ None → length ms ≡ 0
      empty [] e = refl
      empty (m ∷ ms) e = absurd (none_some m e)

      by : (xs : List FairPlace) → length (stales_of xs) ≡ 0 → live_places moment xs ≡ xs
      by [] e = refl
      by (x ∷ xs) e = absurd (omega (arith, e))

-- ---- without one of two places

-- no place of an owner but the first
others-absent : (owner : ThreadOfClient) (first : FairPlace) → IsOwner first.owner
    → is_place_of owner first ≡ true → (rest : List FairPlace) → HaveOwners rest
    → IsAbsent (text_of first) rest → without_place owner rest ≡ rest
others-absent owner first in_first here [] owners absent = refl
others-absent owner first in_first here (x ∷ xs) owners absent =
    let one : first.owner ≡ owner = (same_owner-Decides first.owner owner).0 here in
    let other : is_place_of owner x ≡ false =
    ap (λ o. is_place_of o x) (sym one) ∙ sym (text-place first.owner x in_first owners.0)
    ∙ absent.0 in
    cond-true (not (is_place_of owner x)) (x ∷ without_place owner xs) (without_place owner xs)
    (ap not other)
    ∙ ap (λ l. x ∷ l) (others-absent owner first in_first here xs owners.1 absent.1)

-- the first place goes, and the others stay
pub first-gone : (owner : ThreadOfClient) (place : FairPlace) (rest : List FairPlace)
    → ArePlaces (place ∷ rest) → is_place_of owner place ≡ true
    → without_place owner (place ∷ rest) ≡ rest
first-gone owner place rest are here =
    cond-false (not (is_place_of owner place)) (place ∷ without_place owner rest)
    (without_place owner rest) (ap not here)
    ∙ others-absent owner place are.owners.0 here rest are.owners.1
    (IsDistinct-head bytes_eq (text_of place) (keys_of (stales_of rest)) are.apart)

-- a place that is stale doesn't count
pub live-without : (moment : ℕ) (owner : ThreadOfClient) (place : FairPlace)
    (queue : List FairPlace) → ArePlaces queue → place_of owner queue ≡ Some place
    → place.stale ≤ moment
    → live_places moment (without_place owner queue) ≡ live_places moment queue
live-without moment owner place queue are found gone = go queue are.owners are.apart found
  where
    go : (xs : List FairPlace) → HaveOwners xs → AreDistinct (stales_of xs)
        → place_of owner xs ≡ Some place
        → live_places moment (without_place owner xs) ≡ live_places moment xs
    go [] owners distinct found = absurd (none_some place (sym found))
    go (x ∷ xs) owners distinct found =
        by (is_place_of owner x) refl found
        (go xs owners.1 (tail-distinct (text_of x, x.stale) (stales_of xs) distinct))
      where
        by : (b : Bool) → is_place_of owner x ≡ b
            → (if b then Some x else place_of owner xs) ≡ Some place
            → (place_of owner xs ≡ Some place
            → live_places moment (without_place owner xs) ≡ live_places moment xs)
            → live_places moment (if not b then x ∷ without_place owner xs
            else without_place owner xs)
            ≡ (if is_live x.stale moment then x ∷ live_places moment xs
            else live_places moment xs)
        by true here found later =
            let one : x.stale ≡ place.stale = ap (λ (p : FairPlace). p.stale) (some_one x place found) in
            let dead : is_live x.stale moment ≡ false = grind (arith, one, gone, nat_tests) in
            ap (live_places moment) (others-absent owner x owners.0 here xs owners.1
            (IsDistinct-head bytes_eq (text_of x) (keys_of (stales_of xs)) distinct))
            ∙ sym (cond-false (is_live x.stale moment) (x ∷ live_places moment xs)
            (live_places moment xs) dead)
        by false other found later =
            ap (λ l. if is_live x.stale moment then x ∷ l else l) (later found)

-- the live places are live
pub are-live : (moment : ℕ) (queue : List FairPlace) → AreLive moment (live_places moment queue)
are-live moment queue =
    All-like (λ (p : FairPlace). is_live p.stale moment ≡ true)
    (λ (p : FairPlace). moment < p.stale) (λ p live. grind (arith, live, nat_tests))
    (live_places moment queue)
    (filter-passes (λ (p : FairPlace). is_live p.stale moment) queue)
