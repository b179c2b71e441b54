-- What a kind of object shows, so that no two claims on its objects that conflict are held at once.
use Rattle.std.proofs.Common.{◌≡◌, ℕ, ◌≤◌, List, [], ◌∷◌, true, false}
use Rattle.std.proofs.lemmas.Bool.{cond-false}
use Rattle.lr_names.specs.Owner.{ThreadOfClient}
use Rattle.lr_names.specs.declared.kind.Kind.{Kind}
use Rattle.lr_objects.specs.Op.{call_on, kind_of}
use Rattle.lr_objects.specs.declared.kinds.Call.{Call}
use Rattle.lr_objects.specs.declared.op.Op.{Op}
use Rattle.lr_model.specs.declared.entry.Act.{Act}
use Rattle.lr_model.specs.declared.entry.Act.TheVariants as acts
use Rattle.lr_model.specs.declared.entry.Entry.{Entry}
use Rattle.lr_model.specs.Answer.{Objects, no_objects, reply_of, objects_after}
use Rattle.lr_model.specs.Board.{same_kind}
use Rattle.lr_model.specs.History.{State, state_at_start, step, after, IsLegal, objects_by}
use Rattle.lr_model.specs.Claim.{HoldMode, Claim}
use Rattle.lr_model.specs.Tenure.{Tenure, conflicts, is_current, no_tenure, tenure_by_call, tenure_by_act, tenure_after}
use Rattle.lr_laws.proofs.Claims.{claim_on, other_kind}

-- the tenure of a claim after a call on these objects
abbrev pub tenure_by : Claim → ℕ → Op → Objects → Tenure → Tenure
tenure_by claim moment op objects tenure =
    tenure_by_call claim moment op (reply_of objects moment op) tenure

-- a call on an object of another kind leaves it
pub unconcerned : (claim : Claim) (moment : ℕ) (op : Op) (objects : Objects) (tenure : Tenure)
    → same_kind claim.kind (kind_of op) ≡ false → tenure_by claim moment op objects tenure ≡ tenure
unconcerned claim moment op objects tenure apart =
    cond-false _ _ tenure (other_kind claim op apart)

-- The objects back the tenure of a claim at a moment: this is so at the start, and time and calls
-- keep it so.
pub record IsKept (claim : Claim) (Backs : ℕ → Tenure → Objects → Type 0) : Type 0 where
  pub at_start : Backs 0 no_tenure no_objects
  pub by_time : (m n : ℕ) (tenure : Tenure) (objects : Objects)
      → m ≤ n → Backs m tenure objects → Backs n tenure objects
  pub by_call : (moment : ℕ) (key : List ℕ) (call : Call) (tenure : Tenure) (objects : Objects)
      → Backs moment tenure objects
      → Backs moment (tenure_by claim moment (call_on key call) objects tenure)
      (objects_after objects moment (call_on key call))

-- The law of a kind's claims: how its objects back a claim by its name, its mode and its owner, and
-- that they don't back two claims that conflict while both tenures are current.
pub record ClaimLaw (kind : Kind) : Type 1 where
  pub Backs : List ℕ → HoldMode → ThreadOfClient → ℕ → Tenure → Objects → Type 0
  pub kept : (name : List ℕ) (mode : HoldMode) (owner : ThreadOfClient)
      → IsKept (claim_on kind name mode owner) (Backs name mode owner)
  pub apart : (name : List ℕ) (m n : HoldMode) (o p : ThreadOfClient)
      → conflicts (claim_on kind name m o) (claim_on kind name n p) ≡ true
      → (moment : ℕ) (t u : Tenure) (objects : Objects)
      → Backs name m o moment t objects → Backs name n p moment u objects
      → is_current t moment ≡ true → is_current u moment ≡ true → ⊥

module _ (claim : Claim) (Backs : ℕ → Tenure → Objects → Type 0) (kept : IsKept claim Backs) where
  -- acts keep it, and of these only a call does more than to let time pass
  by_act : (state : State) (moment : ℕ) (act : Act) (tenure : Tenure)
      → state.moment ≤ moment → Backs state.moment tenure state.objects
      → Backs moment (tenure_by_act claim state moment act tenure) (objects_by state moment act)
  by_act state moment (acts.Call op) tenure later backs =
      kept.by_call moment op.name op.call tenure state.objects
      (kept.by_time state.moment moment tenure state.objects later backs)
  by_act state moment _ tenure later backs =
      kept.by_time state.moment moment tenure state.objects later backs

  -- so a legal history keeps it
  by_history : (entries : List Entry) (state : State) (tenure : Tenure)
      → IsLegal state entries → Backs state.moment tenure state.objects
      → Backs (after state entries).moment (tenure_after claim state entries tenure)
      (after state entries).objects
  by_history [] state tenure legal backs = backs
  by_history (entry ∷ entries) state tenure legal backs =
      by_history entries (step state entry)
      (tenure_by_act claim state entry.moment entry.act tenure) legal.1
      (by_act state entry.moment entry.act tenure legal.0.in_time backs)

  -- and what is backed from the start on is backed behind it, at its last moment or later
  pub backed_after : (last : ℕ) (entries : List Entry) → IsLegal (state_at_start last) entries
      → (moment : ℕ) → (after (state_at_start last) entries).moment ≤ moment
      → Backs moment (tenure_after claim (state_at_start last) entries no_tenure)
      (after (state_at_start last) entries).objects
  backed_after last entries legal moment later =
      kept.by_time _ moment _ _ later
      (by_history entries (state_at_start last) no_tenure legal kept.at_start)
