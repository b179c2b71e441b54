-- The tokens of fenced locks, told from the replies alone. Nothing here looks at what the server
-- keeps.
use Rattle.std.specs.Prelude.{◌≡◌, ℕ, ◌+◌, List, ◌∷◌, ◌++◌, if◌then◌else◌}
use Rattle.std.specs.Str.{bytes_eq}
use Rattle.lr_names.specs.Owner.{ThreadOfClient}
use Rattle.lr_names.specs.declared.kind.Kind.TheVariants.{Fenced}
use Rattle.lr_objects.specs.declared.op.Op.{Op}
use Rattle.lr_objects.specs.declared.kinds.Call.{Call}
use Rattle.lr_objects.specs.declared.kinds.Call.TheVariants.{Fenced as fenced}
use Rattle.lr_objects.specs.declared.fenced.FencedCall.TheVariants.{Try}
use Rattle.lr_objects.specs.declared.reply.Reply.{Reply}
use Rattle.lr_objects.specs.declared.reply.Reply.TheVariants.{GrantedToken}
use Rattle.lr_objects.specs.Op.{call_on}
use Rattle.lr_model.specs.declared.entry.Entry.{Entry}
use Rattle.lr_model.specs.History.{State}
use Rattle.lr_model.specs.Claim.{Claim, Exclusive}
use Rattle.lr_model.specs.Tenure.{holds_at}
use Rattle.lr_model.specs.Told.{told_after, IsAnswered}

-- the claim of an owner on a fenced lock
abbrev pub fenced_claim : List ℕ → ThreadOfClient → Claim
fenced_claim name owner = record { kind = Fenced; name = name; mode = Exclusive; owner = owner }

-- the last token of a lock after a reply to a call
abbrev pub token_by_call : List ℕ → List ℕ → Call → Reply → ℕ → ℕ
token_by_call name key (fenced (Try owner lease)) (GrantedToken token) last =
    if bytes_eq name key then token else last
token_by_call name key _ _ last = last

abbrev pub token_by_reply : List ℕ → Op → Reply → ℕ → ℕ
token_by_reply name op reply last = token_by_call name op.name op.call reply last

-- the last token of a lock that a history told, 0 before the first
abbrev pub last_token : State → List Entry → List ℕ → ℕ
last_token first entries name = told_after (token_by_reply name) first entries 0

-- An owner that doesn't hold the lock gets a token that is one more than the last, and one that
-- holds it gets the last.
abbrev pub token_due : State → List Entry → List ℕ → ThreadOfClient → ℕ → ℕ
token_due first entries name owner moment =
    if holds_at first entries (fenced_claim name owner) moment then last_token first entries name
    else last_token first entries name + 1

-- each token that was answered was due
abbrev pub TokensGrow : State → List Entry → Type 0
TokensGrow first entries =
    (earlier later : List Entry) (entry : Entry) (name : List ℕ) (owner : ThreadOfClient)
    (lease token : ℕ)
    → entries ≡ earlier ++ entry ∷ later
    → IsAnswered first earlier entry (call_on name (fenced (Try owner lease)))
    (GrantedToken token)
    → token ≡ token_due first earlier name owner entry.moment
