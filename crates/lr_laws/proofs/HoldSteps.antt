-- What a call leaves of the tenures of owners: each still says what the hold says.
use Rattle.std.proofs.Common.{◌≡◌, ℕ, ◌+◌, false, Option, Some, None, refl, sym, ap, ◌∙◌, subst}
use Rattle.std.proofs.lemmas.Bool.{false≢true, cond_both}
use Rattle.lr_names.specs.Owner.{ThreadOfClient, same_owner}
use Rattle.lr_names.specs.declared.post.Post.{Post}
use Rattle.lr_objects.specs.declared.reply.Reply.{Reply}
use Rattle.lr_objects.specs.declared.reply.Reply.TheVariants.{BadLease}
use Rattle.lr_model.specs.declared.hold.Hold.{Hold}
use Rattle.lr_model.specs.Moment.{is_lease}
use Rattle.lr_model.specs.Hold.{live_hold, holding, freeing}
use Rattle.lr_model.specs.Outcome.{Outcome, silent_outcome, with_lease}
use Rattle.lr_model.specs.Tenure.{Tenure, no_tenure, tenure_by_reply}
use Rattle.lr_laws.proofs.Owners.{same_owner-Decides}
use Rattle.lr_laws.proofs.Holds.{IsTenureOf, HoldsAsTold, one_hold, no_hold, without_tenure, live_hold-is, held_live}

-- What a call of an owner leaves: its own tenure changes by the reply, that of another stays.
pub record KeepsHolds (moment lease : ℕ) (caller : ThreadOfClient) (before : Option Hold)
    (reply : Reply) (held : Option Hold) : Type 0 where
  pub own : (tenure : Tenure) → HoldsAsTold caller moment tenure before
      → HoldsAsTold caller moment (tenure_by_reply moment lease reply tenure) held
  pub others : (owner : ThreadOfClient) (tenure : Tenure) → same_owner owner caller ≡ false
      → HoldsAsTold owner moment tenure before
      → HoldsAsTold owner moment tenure held

-- What a call that takes an object from whoever holds it leaves: every tenure changes by the reply,
-- and none begins.
pub record EndsHolds (moment : ℕ) (before : Option Hold) (reply : Reply) (held : Option Hold)
    : Type 0 where
  pub none : tenure_by_reply moment 0 reply no_tenure ≡ no_tenure
  pub all : (owner : ThreadOfClient) (tenure : Tenure)
      → HoldsAsTold owner moment tenure before
      → HoldsAsTold owner moment (tenure_by_reply moment 0 reply tenure) held

-- the same of an outcome
abbrev pub IsKeeping : ℕ → ℕ → ThreadOfClient → Option Hold → Outcome (Option Hold) → Type 0
IsKeeping moment lease caller before outcome =
    KeepsHolds moment lease caller before outcome.reply outcome.object

module _ (moment lease : ℕ) (caller : ThreadOfClient) where
  -- a reply that changes no tenure, after which all is as it was
  pub silent_keeps : (reply : Reply) (before : Option Hold)
      → ((tenure : Tenure) → tenure_by_reply moment lease reply tenure ≡ tenure)
      → IsKeeping moment lease caller before (silent_outcome reply before)
  silent_keeps reply before stays = record {
    own = λ tenure h.
        subst (λ t. HoldsAsTold caller moment t before) (sym (stays tenure)) h;
    others = λ owner tenure other h. h;
  }

  -- nobody else has the hold
  abbrev pub IsFree : Option Hold → Type 0
  IsFree before = (hold : Hold) → before ≡ Some hold → hold.owner ≡ caller

  -- what was the caller's or nobody's, and still is, is nothing to others
  others_none : (before held : Option Hold) → IsFree before → IsFree held
      → (owner : ThreadOfClient) (tenure : Tenure) → same_owner owner caller ≡ false
      → HoldsAsTold owner moment tenure before → HoldsAsTold owner moment tenure held
  others_none before held free after owner tenure other h = record {
    held_while = λ current.
        let now = h.held_while current in
        absurd (apart (sym now.mine ∙ free now.hold now.is));
    told_while = λ hold live mine.
        absurd (apart (sym mine ∙ after hold (live_hold-is moment held hold live).is));
  }
    where
      apart : owner ≡ caller → ⊥
      apart same = false≢true (sym other ∙ (same_owner-Decides owner caller).1 same)

  -- where nobody holds, and where the caller does
  pub nobody : IsFree None
  nobody hold e = absurd (no_hold hold e)

  pub own_hold : (hold : Hold) → hold.owner ≡ caller → IsFree (Some hold)
  own_hold hold mine other e = ap (λ (x : Hold). x.owner) (sym (one_hold hold other e)) ∙ mine

  -- the caller holds so often, for a lease from now on
  abbrev pub new_hold : ℕ → Hold
  new_hold count = record { owner = caller; count = count; deadline = moment + lease }

  -- and its tenure is of this hold
  pub holding_keeps : (reply : Reply) (count : ℕ) (before : Option Hold) → IsFree before
      → ((tenure : Tenure) → HoldsAsTold caller moment tenure before
      → IsTenureOf (new_hold count) (tenure_by_reply moment lease reply tenure))
      → IsKeeping moment lease caller before (holding reply caller count (moment + lease))
  holding_keeps reply count before free told = record {
    own = λ tenure h. record {
      held_while = λ current. record {
        hold = new_hold count;
        is = refl;
        mine = refl;
        until = sym (told tenure h).deadline;
      };
      told_while = λ hold live mine.
          subst (λ (x : Hold). IsTenureOf x (tenure_by_reply moment lease reply tenure))
          (one_hold (new_hold count) hold
          (live_hold-is moment (Some (new_hold count)) hold live).is)
          (told tenure h);
    };
    others = others_none before (Some (new_hold count)) free (own_hold (new_hold count) refl);
  }

  -- the caller held, and nobody does any longer
  pub freeing_keeps : (post : Option Post) (before : Option Hold) → IsFree before
      → IsKeeping moment lease caller before (freeing post)
  freeing_keeps post before free = record {
    own = λ tenure h. without_tenure caller moment;
    others = others_none before None free nobody;
  }

  -- A function that sees the live hold of an object, with a lease that may be refused: what is
  -- refused changes nothing.
  pub on_live_hold : {X : Type 0} (hold_in : X → Option Hold) (object : X) (outcome : Outcome X)
      → KeepsHolds moment lease caller (live_hold moment (hold_in object)) outcome.reply
      (hold_in outcome.object)
      → KeepsHolds moment lease caller (hold_in object)
      (with_lease lease object outcome).reply (hold_in (with_lease lease object outcome).object)
  on_live_hold {X} hold_in object outcome keeps =
      cond_both (is_lease lease) _ _
      (λ (o : Outcome X).
      KeepsHolds moment lease caller (hold_in object) o.reply (hold_in o.object))
      (λ good. record {
        own = λ tenure h. keeps.own tenure (held_live caller moment tenure (hold_in object) h);
        others = λ owner tenure other h.
            keeps.others owner tenure other (held_live owner moment tenure (hold_in object) h);
      })
      (λ bad. silent_keeps BadLease (hold_in object) (λ tenure. refl))
