-- Objects in a table by their names, each with the hold of one owner, which is exclusive: what a
-- call on one of them leaves of the tenure of a claim.
use Rattle.std.proofs.Common.{◌≡◌, ℕ, ◌≤◌, List, Bool, true, false, ◌&&◌, ◌||◌, Option, None, if◌then◌else◌, refl, sym, ap, ◌∙◌, subst}
use Rattle.std.specs.Str.{bytes_eq}
use Rattle.std.proofs.lemmas.Bool.{false≢true}
use Rattle.std.proofs.lemmas.Slice.Eq.{bytes_eq-Decides}
use Rattle.lr_names.specs.Owner.{ThreadOfClient, same_owner}
use Rattle.lr_model.specs.declared.hold.Hold.{Hold}
use Rattle.lr_model.specs.Outcome.{Outcome}
use Rattle.lr_model.specs.Table.{put}
use Rattle.lr_model.specs.Claim.{HoldMode, Exclusive, Shared, same_mode}
use Rattle.lr_model.specs.Tenure.{Tenure, is_current, no_tenure, tenure_by_reply}
use Rattle.lr_laws.proofs.Owners.{same_owner-Decides}
use Rattle.lr_laws.proofs.NameTables.{bytes_eq-sym}
use Rattle.lr_laws.proofs.Holds.{HoldsAsTold, held_later, without_tenure, one_owner}
use Rattle.lr_laws.proofs.HoldSteps.{KeepsHolds, EndsHolds}

-- an exclusive claim is held as the hold says, and nobody has a claim in another mode
abbrev pub BacksAlone : HoldMode → ThreadOfClient → ℕ → Tenure → Option Hold → Type 0
BacksAlone Exclusive owner moment tenure held = HoldsAsTold owner moment tenure held
BacksAlone Shared owner moment tenure held = tenure ≡ no_tenure

-- before the first call
pub alone_at_start : (mode : HoldMode) (owner : ThreadOfClient) (moment : ℕ)
    → BacksAlone mode owner moment no_tenure None
alone_at_start Exclusive owner moment = without_tenure owner moment
alone_at_start Shared owner moment = refl

-- time passes
pub alone_later : (mode : HoldMode) (owner : ThreadOfClient) (m n : ℕ) (tenure : Tenure)
    (held : Option Hold) → m ≤ n → BacksAlone mode owner m tenure held
    → BacksAlone mode owner n tenure held
alone_later Exclusive owner m n tenure held le backs = held_later owner m n tenure held le backs
alone_later Shared owner m n tenure held le backs = backs

-- one hold backs no two owners
pub alone_apart : (m n : HoldMode) (o p : ThreadOfClient) (moment : ℕ) (t u : Tenure)
    (held : Option Hold) → (o ≡ p → ⊥) → BacksAlone m o moment t held
    → BacksAlone n p moment u held → is_current t moment ≡ true → is_current u moment ≡ true → ⊥
alone_apart Exclusive Exclusive o p moment t u held apart first second of_first of_second =
    apart (one_owner o p t u held (first.held_while of_first) (second.held_while of_second))
alone_apart Exclusive Shared o p moment t u held apart first none of_first of_second =
    false≢true (sym (ap (λ (x : Tenure). is_current x moment) none) ∙ of_second)
alone_apart Shared n o p moment t u held apart none second of_first of_second =
    false≢true (sym (ap (λ (x : Tenure). is_current x moment) none) ∙ of_first)

or_false : (b : Bool) → (b || false) ≡ b
or_false true = refl
or_false false = refl

module _ {X : Type 0} (hold_in : X → Option Hold) (table : List ℕ → X) (name : List ℕ)
    (owner : ThreadOfClient) (moment : ℕ) (tenure : Tenure) (key : List ℕ)
    (outcome : Outcome X) where
  -- the hold of the claim's object after a call on the one of this name
  abbrev held_after : Bool → Option Hold
  held_after here = hold_in (if here then outcome.object else table name)

  -- the test of `put` asks the other way round
  by_other_test : (P : Option Hold → Type 0)
      → P (held_after (bytes_eq name key))
      → P (hold_in (put bytes_eq table key outcome.object name))
  by_other_test P h = subst (λ b. P (held_after b)) (bytes_eq-sym name key) h

  -- what the claim's object was, where the call is on it
  same_hold : bytes_eq name key ≡ true → hold_in (table name) ≡ hold_in (table key)
  same_hold here = ap (λ n. hold_in (table n)) ((bytes_eq-Decides name key).0 here)

  module _ (lease : ℕ) (caller : ThreadOfClient)
      (keeps : KeepsHolds moment lease caller (hold_in (table key)) outcome.reply
      (hold_in outcome.object)) where
    -- the claim's tenure after the call
    abbrev tenure_after_call : Bool → Tenure
    tenure_after_call mine =
        if mine then tenure_by_reply moment lease outcome.reply tenure else tenure

    -- on the claim's object
    here_by_owner : (mine : Bool) → same_owner owner caller ≡ mine
        → HoldsAsTold owner moment tenure (hold_in (table key))
        → HoldsAsTold owner moment (tenure_after_call mine) (hold_in outcome.object)
    here_by_owner true mine backs =
        let same : owner ≡ caller = (same_owner-Decides owner caller).0 mine in
        let own = keeps.own tenure
        (subst (λ o. HoldsAsTold o moment tenure (hold_in (table key))) same backs) in
        subst (λ o. HoldsAsTold o moment (tenure_after_call true) (hold_in outcome.object))
        (sym same) own
    here_by_owner false other backs = keeps.others owner tenure other backs

    -- on it, or on another
    exclusive_by_owner : (here : Bool) → bytes_eq name key ≡ here
        → HoldsAsTold owner moment tenure (hold_in (table name))
        → HoldsAsTold owner moment
        (tenure_after_call (((here && true) && same_owner owner caller) || false)) (held_after here)
    exclusive_by_owner false there backs = backs
    exclusive_by_owner true here backs =
        subst (λ b. HoldsAsTold owner moment (tenure_after_call b) (held_after true))
        (sym (or_false (same_owner owner caller)))
        (here_by_owner (same_owner owner caller) refl
        (subst (HoldsAsTold owner moment tenure) (same_hold here) backs))

    -- a claim that isn't exclusive concerns no call
    shared_by_owner : (here : Bool) → tenure ≡ no_tenure
        → tenure_after_call (((here && false) && same_owner owner caller) || false) ≡ no_tenure
    shared_by_owner true none = none
    shared_by_owner false none = none

    -- a call of an owner that takes, gives back or renews
    pub alone_by_owner : (mode : HoldMode)
        → BacksAlone mode owner moment tenure (hold_in (table name))
        → BacksAlone mode owner moment
        (tenure_after_call
        (((bytes_eq name key && same_mode mode Exclusive) && same_owner owner caller) || false))
        (hold_in (put bytes_eq table key outcome.object name))
    alone_by_owner Exclusive backs =
        by_other_test
        (HoldsAsTold owner moment
        (tenure_after_call (((bytes_eq name key && true) && same_owner owner caller) || false)))
        (exclusive_by_owner (bytes_eq name key) refl backs)
    alone_by_owner Shared none = shared_by_owner (bytes_eq name key) none

  module _ (ends : EndsHolds moment (hold_in (table key)) outcome.reply
      (hold_in outcome.object)) where
    -- the claim's tenure after the call
    abbrev tenure_after_end : Bool → Tenure
    tenure_after_end here =
        if here then tenure_by_reply moment 0 outcome.reply tenure else tenure

    exclusive_by_operator : (here : Bool) → bytes_eq name key ≡ here
        → HoldsAsTold owner moment tenure (hold_in (table name))
        → HoldsAsTold owner moment (tenure_after_end here) (held_after here)
    exclusive_by_operator false there backs = backs
    exclusive_by_operator true here backs =
        ends.all owner tenure
        (subst (HoldsAsTold owner moment tenure) (same_hold here) backs)

    shared_by_operator : (here : Bool) → tenure ≡ no_tenure → tenure_after_end here ≡ no_tenure
    shared_by_operator true none =
        ap (tenure_by_reply moment 0 outcome.reply) none ∙ ends.none
    shared_by_operator false none = none

    -- a call that takes an object from whoever holds it
    pub alone_by_operator : (mode : HoldMode)
        → BacksAlone mode owner moment tenure (hold_in (table name))
        → BacksAlone mode owner moment (tenure_after_end (bytes_eq name key))
        (hold_in (put bytes_eq table key outcome.object name))
    alone_by_operator Exclusive backs =
        by_other_test
        (HoldsAsTold owner moment (tenure_after_end (bytes_eq name key)))
        (exclusive_by_operator (bytes_eq name key) refl backs)
    alone_by_operator Shared none = shared_by_operator (bytes_eq name key) none
