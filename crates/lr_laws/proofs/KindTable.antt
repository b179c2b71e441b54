-- The laws of all kinds. A further kind adds its lines to the tables here, and a file of its own.
use Rattle.std.proofs.Common.{◌≡◌, ℕ, List, false, refl}
use Rattle.lr_names.specs.declared.kind.Kind.{Kind}
use Rattle.lr_names.specs.declared.kind.Kind.TheVariants as kinds
use Rattle.lr_objects.specs.Op.{call_on}
use Rattle.lr_objects.specs.declared.kinds.Call.TheVariants as calls
use Rattle.lr_model.specs.declared.entry.Entry.{Entry}
use Rattle.lr_model.specs.Claim.{Claim}
use Rattle.lr_model.specs.History.{state_at_start, IsLegal}
use Rattle.lr_model.specs.Tenure.{NoConflict, concerns}
use Rattle.lr_laws.proofs.Claims.{claim_on, other_kind}
use Rattle.lr_laws.proofs.ClaimLaws.{ClaimLaw}
use Rattle.lr_laws.proofs.Conflicts as conflicts
use Rattle.lr_laws.proofs.UnclaimedKinds.{unclaimed_law}
use Rattle.lr_laws.proofs.Mutexes.{mutex_law}
use Rattle.lr_laws.proofs.FairLocks.{fair_law}
use Rattle.lr_laws.proofs.ReadWriteLocks.{read_write_law}
use Rattle.lr_laws.proofs.FencedLocks.{fenced_law}

-- The law of the claims of each kind. The last line is for those on whose objects no call takes a
-- claim: a kind whose calls do gets a line above that and one in it.
law_of : (kind : Kind) → ClaimLaw kind
law_of kinds.Mutex = mutex_law
law_of kinds.Fair = fair_law
law_of kinds.Rw = read_write_law
law_of kinds.Fenced = fenced_law
law_of kind =
    unclaimed_law kind
    (λ name mode owner op.
    let claim : Claim = claim_on kind name mode owner in
    elim op.call as (λ c. concerns (call_on op.name c) claim ≡ false) [
      | calls.Lock c ↦ other_kind claim (call_on op.name (calls.Lock c)) refl
      | calls.Fair c ↦ other_kind claim (call_on op.name (calls.Fair c)) refl
      | calls.ReadWrite c ↦ other_kind claim (call_on op.name (calls.ReadWrite c)) refl
      | calls.Fenced c ↦ other_kind claim (call_on op.name (calls.Fenced c)) refl
      | _ ↦ refl
    ])

pub no_conflict : (last : ℕ) (entries : List Entry)
    → IsLegal (state_at_start last) entries → NoConflict (state_at_start last) entries
no_conflict last entries legal = conflicts.no_conflict law_of last entries legal
