-- Who holds what when, told from the replies alone. Nothing here looks at what the server keeps.
use Rattle.std.specs.Prelude.{◌≡◌, ℕ, ◌+◌, ◌-◌, ◌≤◌, nat_lt, List, [], ◌∷◌, Bool, true, false, not, ◌&&◌, ◌||◌, Option, Some, None, if◌then◌else◌}
use Rattle.std.specs.Str.{bytes_eq}
use Rattle.lr_names.specs.Owner.{same_owner}
use Rattle.lr_names.specs.declared.kind.Kind.{Kind}
use Rattle.lr_objects.specs.declared.op.Op.{Op}
use Rattle.lr_objects.specs.declared.reply.Reply.{Reply}
use Rattle.lr_objects.specs.Op.{kind_of, name_of}
use Rattle.lr_objects.specs.Reply.{HoldTold, Taken, OneLess, Extended, Gone, NothingTold, hold_told}
use Rattle.lr_model.specs.declared.entry.Act.{Act}
use Rattle.lr_model.specs.declared.entry.Act.TheVariants.{Call}
use Rattle.lr_model.specs.declared.entry.Entry.{Entry}
use Rattle.lr_model.specs.Moment.{is_live}
use Rattle.lr_model.specs.Answer.{reply_of, concern_of}
use Rattle.lr_model.specs.Board.{same_kind}
use Rattle.lr_model.specs.Claim.{Claim, Concern, OwnHold, AllHolds, same_mode, is_exclusive}
use Rattle.lr_model.specs.History.{State, step, after}

-- the claim that a call of its owner takes, gives back or renews, if it does
abbrev pub claim_by : Kind → List ℕ → Concern → Option Claim
claim_by kind name (OwnHold mode owner lease) =
    Some (record { kind = kind; name = name; mode = mode; owner = owner })
claim_by kind name _ = None

abbrev pub claim_of : Op → Option Claim
claim_of op = claim_by (kind_of op) (name_of op) (concern_of op.call)

-- whether a call takes an object from whoever holds it
abbrev pub is_of_all : Concern → Bool
is_of_all AllHolds = true
is_of_all _ = false

abbrev pub ends_all_holds : Op → Bool
ends_all_holds op = is_of_all (concern_of op.call)

-- the lease that a call gives, or the rest lease
abbrev pub lease_in : Concern → ℕ
lease_in (OwnHold mode owner lease) = lease
lease_in _ = 0

abbrev pub lease_given : Op → ℕ
lease_given op = lease_in (concern_of op.call)

-- whether two claims are of one object
abbrev pub same_object : Claim → Kind → List ℕ → Bool
same_object claim kind name = same_kind claim.kind kind && bytes_eq claim.name name

-- whether two claims are one
abbrev pub same_claim : Claim → Claim → Bool
same_claim a b =
    same_object a b.kind b.name && same_mode a.mode b.mode && same_owner a.owner b.owner

-- whether a call's own claim is this one
abbrev pub is_claim : Claim → Option Claim → Bool
is_claim claim None = false
is_claim claim (Some other) = same_claim claim other

-- whether the reply to a call may change the tenure of a claim: it is of the owner's own call, or
-- of one that takes the object from whoever holds it
abbrev pub concerns : Op → Claim → Bool
concerns op claim =
    is_claim claim (claim_of op)
    || (ends_all_holds op && same_object claim (kind_of op) (name_of op))

-- two claims that can't be held at once: another owner has the object, and one of them alone
abbrev pub conflicts : Claim → Claim → Bool
conflicts a b =
    same_object a b.kind b.name && not (same_owner a.owner b.owner)
    && (is_exclusive a.mode || is_exclusive b.mode)

-- how often an owner has taken an object without giving it back, and until when that counts
pub record Tenure : Type 0 where
  pub count : ℕ
  pub deadline : ℕ

-- an owner that doesn't hold the object
abbrev pub no_tenure : Tenure
no_tenure = record { count = 0; deadline = 0 }

-- whether the owner holds the object at a moment
abbrev pub is_current : Tenure → ℕ → Bool
is_current tenure moment = nat_lt 0 tenure.count && is_live tenure.deadline moment

-- a granted try counts one more where the tenure is current, and else begins anew
abbrev pub tenure_granted : ℕ → ℕ → Tenure → Tenure
tenure_granted moment lease tenure =
    record {
      count = if is_current tenure moment then tenure.count + 1 else 1;
      deadline = moment + lease;
    }

-- A try may be granted. One hold that is given back and stays takes one away. A renewal gives
-- another deadline, and the last hold that is given back ends the tenure.
abbrev pub tenure_told : ℕ → ℕ → HoldTold → Tenure → Tenure
tenure_told moment lease Taken tenure = tenure_granted moment lease tenure
tenure_told moment lease OneLess tenure =
    record { count = tenure.count - 1; deadline = moment + lease }
tenure_told moment lease Extended tenure =
    record { count = tenure.count; deadline = moment + lease }
tenure_told moment lease Gone tenure = no_tenure
tenure_told moment lease NothingTold tenure = tenure

abbrev pub tenure_by_reply : ℕ → ℕ → Reply → Tenure → Tenure
tenure_by_reply moment lease reply tenure = tenure_told moment lease (hold_told reply) tenure

-- the tenure of a claim after a call was answered
abbrev pub tenure_by_call : Claim → ℕ → Op → Reply → Tenure → Tenure
tenure_by_call claim moment op reply tenure =
    if concerns op claim then tenure_by_reply moment (lease_given op) reply tenure else tenure

-- the tenure of a claim after an act
abbrev pub tenure_by_act : Claim → State → ℕ → Act → Tenure → Tenure
tenure_by_act claim state moment (Call op) tenure =
    tenure_by_call claim moment op (reply_of state.objects moment op) tenure
tenure_by_act claim state moment _ tenure = tenure

-- the tenure of a claim after these entries, from a state on
abbrev pub tenure_after : Claim → State → List Entry → Tenure → Tenure
tenure_after claim state [] tenure = tenure
tenure_after claim state (entry ∷ entries) tenure =
    tenure_after claim (step state entry) entries
    (tenure_by_act claim state entry.moment entry.act tenure)

-- whether a claim is held at a moment after a history
abbrev pub holds_at : State → List Entry → Claim → ℕ → Bool
holds_at first entries claim moment = is_current (tenure_after claim first entries no_tenure) moment

-- From the last entry's moment on, no two claims that conflict are held at the same time.
abbrev pub NoConflict : State → List Entry → Type 0
NoConflict first entries =
    (a b : Claim) (moment : ℕ) → (after first entries).moment ≤ moment → conflicts a b ≡ true
    → holds_at first entries a moment ≡ true → holds_at first entries b moment ≡ false
