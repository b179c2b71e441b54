-- What the replies of a history tell, taken together in their order.
use Rattle.std.specs.Prelude.{◌≡◌, ℕ, List, [], ◌∷◌}
use Rattle.lr_objects.specs.declared.op.Op.{Op}
use Rattle.lr_objects.specs.declared.reply.Reply.{Reply}
use Rattle.lr_model.specs.declared.entry.Act.{Act}
use Rattle.lr_model.specs.declared.entry.Act.TheVariants.{Call}
use Rattle.lr_model.specs.declared.entry.Entry.{Entry}
use Rattle.lr_model.specs.Answer.{reply_of}
use Rattle.lr_model.specs.History.{State, step, after}

-- what is known after an act: only the reply to a call tells more
abbrev pub told_by_act : {X : Type 0} → (Op → Reply → X → X) → State → ℕ → Act → X → X
told_by_act by_reply state moment (Call op) known =
    by_reply op (reply_of state.objects moment op) known
told_by_act by_reply state moment _ known = known

-- what is known after these entries, from a state on
abbrev pub told_after : {X : Type 0} → (Op → Reply → X → X) → State → List Entry → X → X
told_after by_reply state [] known = known
told_after by_reply state (entry ∷ entries) known =
    told_after by_reply (step state entry) entries
    (told_by_act by_reply state entry.moment entry.act known)

-- behind these entries this one is of a call, and the call was answered so
pub record IsAnswered (first : State) (earlier : List Entry) (entry : Entry) (op : Op)
    (reply : Reply) : Type 0 where
  pub call : entry.act ≡ Call op
  pub answer : reply_of (after first earlier).objects entry.moment op ≡ reply
