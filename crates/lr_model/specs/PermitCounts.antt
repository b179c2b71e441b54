-- The leases of expirable permits, told from the replies alone. Nothing here looks at what the server
-- keeps.
use Rattle.std.specs.Prelude.{ℕ, ◌+◌, ◌≤◌, List, [], ◌∷◌, length, if◌then◌else◌}
use Rattle.std.specs.Str.{bytes_eq}
use Rattle.lr_objects.specs.declared.kinds.Call.{Call}
use Rattle.lr_objects.specs.declared.kinds.Call.TheVariants.{Permits}
use Rattle.lr_objects.specs.declared.permits.PermitCall.TheVariants.{Set as set, Try, Release}
use Rattle.lr_objects.specs.declared.reply.Reply.{Reply}
use Rattle.lr_objects.specs.declared.reply.Reply.TheVariants.{Granted, Freed, Set}
use Rattle.lr_model.specs.declared.entry.Act.{Act}
use Rattle.lr_model.specs.declared.entry.Act.TheVariants as acts
use Rattle.lr_model.specs.declared.entry.Entry.{Entry}
use Rattle.lr_model.specs.Answer.{reply_of}
use Rattle.lr_model.specs.History.{State, step, after}
use Rattle.lr_model.specs.Permits.{PermitLease, live_leases, without_lease}

-- the number that was set, and the tenures of ids: from a grant to its deadline, or to the release of
-- the id
pub record PermitTenures : Type 0 where
  pub number : ℕ
  pub tenures : List PermitLease

-- before the first call
abbrev pub no_tenures : PermitTenures
no_tenures = record { number = 0; tenures = [] }

-- an id was granted a permit until this moment
abbrev pub with_tenure : List ℕ → ℕ → PermitTenures → PermitTenures
with_tenure id deadline told =
    record told { tenures = record { id = id; deadline = deadline } ∷ told.tenures }

-- an id has given its permit back
abbrev pub without_tenure : List ℕ → PermitTenures → PermitTenures
without_tenure id told = record told { tenures = without_lease id told.tenures }

-- the tenures of the permits of a name after a reply to a call at a moment
abbrev pub tenures_by_call : List ℕ → ℕ → List ℕ → Call → Reply → PermitTenures → PermitTenures
tenures_by_call name moment key (Permits (set number)) Set told =
    if bytes_eq name key then record told { number = number } else told
tenures_by_call name moment key (Permits (Try id lease)) Granted told =
    if bytes_eq name key then with_tenure id (moment + lease) told else told
tenures_by_call name moment key (Permits (Release id)) Freed told =
    if bytes_eq name key then without_tenure id told else told
tenures_by_call name moment key _ _ told = told

-- after an act: only the reply to a call tells more
abbrev pub tenures_by_act : List ℕ → State → ℕ → Act → PermitTenures → PermitTenures
tenures_by_act name state moment (acts.Call op) told =
    tenures_by_call name moment op.name op.call (reply_of state.objects moment op) told
tenures_by_act name state moment _ told = told

-- after these entries, from a state on
abbrev pub tenures_after : List ℕ → State → List Entry → PermitTenures → PermitTenures
tenures_after name state [] told = told
tenures_after name state (entry ∷ entries) told =
    tenures_after name (step state entry) entries
    (tenures_by_act name state entry.moment entry.act told)

-- From the last entry's moment on, no more tenures of a name are live at once than permits were set.
abbrev pub NeverMoreThanSet : State → List Entry → Type 0
NeverMoreThanSet first entries =
    (name : List ℕ) (moment : ℕ) → (after first entries).moment ≤ moment
    → length (live_leases moment (tenures_after name first entries no_tenures).tenures)
    ≤ (tenures_after name first entries no_tenures).number
