-- What the replies of a history tell of an object, and the objects: each call keeps the two in
-- agreement, so a history does.
use Rattle.std.proofs.Common.{◌≡◌, ℕ, List, [], ◌∷◌, true, if◌then◌else◌, subst}
use Rattle.std.specs.Str.{bytes_eq}
use Rattle.std.proofs.lemmas.Slice.Eq.{bytes_eq-Decides}
use Rattle.lr_objects.specs.Op.{call_on}
use Rattle.lr_objects.specs.declared.kinds.Call.{Call}
use Rattle.lr_objects.specs.declared.op.Op.{Op}
use Rattle.lr_objects.specs.declared.reply.Reply.{Reply}
use Rattle.lr_model.specs.declared.entry.Act.{Act}
use Rattle.lr_model.specs.declared.entry.Act.TheVariants as acts
use Rattle.lr_model.specs.declared.entry.Entry.{Entry}
use Rattle.lr_model.specs.Answer.{Objects, reply_of, objects_after}
use Rattle.lr_model.specs.History.{State, step, after, objects_by}
use Rattle.lr_model.specs.Table.{put}
use Rattle.lr_model.specs.Told.{told_by_act, told_after}
use Rattle.lr_laws.proofs.NameTables.{put_at}

-- what is told by the reply to a call on these objects
abbrev pub told_by : {X : Type 0} → (Op → Reply → X → X) → ℕ → Op → Objects → X → X
told_by by_reply moment op objects known = by_reply op (reply_of objects moment op) known

-- calls keep the objects in agreement with what is told
abbrev pub IsToldThroughout : {X : Type 0} → (Op → Reply → X → X) → (X → Objects → Type 0) → Type 0
IsToldThroughout {X} by_reply Agrees =
    (moment : ℕ) (key : List ℕ) (call : Call) (known : X) (objects : Objects) → Agrees known objects
    → Agrees (told_by by_reply moment (call_on key call) objects known)
    (objects_after objects moment (call_on key call))

module _ {X : Type 0} (by_reply : Op → Reply → X → X) (Agrees : X → Objects → Type 0)
    (kept : IsToldThroughout by_reply Agrees) where
  -- acts keep it: only a call tells or changes anything
  by_act : (state : State) (moment : ℕ) (act : Act) (known : X)
      → Agrees known state.objects
      → Agrees (told_by_act by_reply state moment act known) (objects_by state moment act)
  by_act state moment (acts.Call op) known agrees =
      kept moment op.name op.call known state.objects agrees
  by_act state moment _ known agrees = agrees

  -- so a history keeps it
  pub told_by_history : (entries : List Entry) (state : State) (known : X)
      → Agrees known state.objects
      → Agrees (told_after by_reply state entries known) (after state entries).objects
  told_by_history [] state known agrees = agrees
  told_by_history (entry ∷ entries) state known agrees =
      told_by_history entries (step state entry)
      (told_by_act by_reply state entry.moment entry.act known)
      (by_act state entry.moment entry.act known agrees)

-- One object in a table by names, and a call on the one of a key.
module _ {K O : Type 0} (Agrees : K → O → Type 0) (table : List ℕ → O) (name key : List ℕ)
    (known : K) (agrees : Agrees known (table name)) where
  -- what is known of the object, where the call is on it
  pub agrees_here : bytes_eq name key ≡ true → Agrees known (table key)
  agrees_here here =
      subst (λ n. Agrees known (table n)) ((bytes_eq-Decides name key).0 here) agrees

  -- the reply tells more of it
  pub told_more : (told : K) (object : O) → (bytes_eq name key ≡ true → Agrees told object)
      → Agrees (if bytes_eq name key then told else known) (put bytes_eq table key object name)
  told_more told object at_key =
      put_at (λ here. Agrees (if here then told else known)) table key name object
      at_key (λ there. agrees)

  -- it tells nothing
  pub told_nothing : (object : O) → (bytes_eq name key ≡ true → Agrees known object)
      → Agrees known (put bytes_eq table key object name)
  told_nothing object at_key =
      put_at (λ here. Agrees known) table key name object at_key (λ there. agrees)
