-- Who opens and closes connections: of a server that many callers call, this project's own.
use Rattle.std.specs.Prelude.{◌≡◌, ◌≢◌, ℕ, ◌==◌, List, [], ◌∷◌, Bool, true, false, Some, if◌then◌else◌}
use Rattle.lr_model.specs.declared.entry.Act.{Act}
use Rattle.lr_model.specs.declared.entry.Act.TheVariants.{Open, Close}
use Rattle.lr_model.specs.declared.entry.Entry.{Entry}
use Rattle.lr_model.specs.History.{State, step}

-- a connection is closed by the caller who opened it, and isn't connection 0
pub record IsOwnClose (state : State) (entry : Entry) : Type 0 where
  pub own : (state.board entry.conn).opener ≡ Some entry.caller
  pub not_first : entry.conn ≢ 0

-- what is asked of the act of an entry: something of a close alone
abbrev pub MayClose : State → Entry → Act → Type 0
MayClose state entry Close = IsOwnClose state entry
MayClose state entry _ = Unit {0}

-- each close of a history is such a close
abbrev pub ClosesOwn : State → List Entry → Type 0
ClosesOwn state [] = Unit {0}
ClosesOwn state (entry ∷ entries) =
    MayClose state entry entry.act × ClosesOwn (step state entry) entries

-- whether who made an entry with this act has a connection open afterwards, where they had or hadn't
-- before
abbrev pub has_open_by : ℕ → Bool → Entry → Act → Bool
has_open_by conn before entry Open = if entry.conn == conn then true else before
has_open_by conn before entry Close = if entry.conn == conn then false else before
has_open_by conn before entry _ = before

abbrev pub has_open_after : ℕ → Bool → List Entry → Bool
has_open_after conn before [] = before
has_open_after conn before (entry ∷ entries) =
    has_open_after conn (has_open_by conn before entry entry.act) entries

-- whether who made just these entries has opened a connection, and not closed it since
abbrev pub has_open : ℕ → List Entry → Bool
has_open conn entries = has_open_after conn false entries
