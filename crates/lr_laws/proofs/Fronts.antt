-- The entries before one of a legal history.
use Rattle.std.proofs.Common.{List, [], ◌∷◌, ◌++◌}
use Rattle.lr_model.specs.declared.entry.Entry.{Entry}
use Rattle.lr_model.specs.History.{State, step, after, MayFollow, IsLegal}

-- they are a legal history, which the entry may follow
pub record MayFollowAll (state : State) (earlier : List Entry) (entry : Entry) : Type 0 where
  pub legal : IsLegal state earlier
  pub may : MayFollow (after state earlier) entry

pub MayFollowAll-from_legal : (earlier later : List Entry) (entry : Entry) (state : State)
    → IsLegal state (earlier ++ entry ∷ later) → MayFollowAll state earlier entry
MayFollowAll-from_legal [] later entry state legal = record { legal = tt; may = legal.0 }
MayFollowAll-from_legal (e ∷ earlier) later entry state legal =
    let rest = MayFollowAll-from_legal earlier later entry (step state e) legal.1 in
    record { legal = (legal.0, rest.legal); may = rest.may }
