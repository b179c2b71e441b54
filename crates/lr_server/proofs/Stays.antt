-- What stays of each kind where a function of another kind runs. A further kind adds a line to each
-- table.
use Rattle.std.proofs.Common.{◌≡◌, ℕ, List, false, None, refl}
use Rattle.std.proofs.lemmas.Bool.{true≢false}
use Rattle.lr_names.specs.declared.kind.Kind.{Kind}
use Rattle.lr_names.specs.declared.kind.Kind.TheVariants as kinds
use Rattle.lr_objects.specs.Kinds.{call_kind}
use Rattle.lr_objects.specs.Op.{call_on}
use Rattle.lr_objects.specs.declared.kinds.Call.{Call}
use Rattle.lr_objects.specs.declared.kinds.Call.TheVariants as calls
use Rattle.lr_keys.specs.KeySpace.{Keys, entry_at}
use Rattle.lr_model.specs.Answer.{Objects, no_objects, objects_after}
use Rattle.lr_model.specs.Board.{same_kind}
use Rattle.lr_mutex.proofs.StandsLaws as mutex_laws
use Rattle.lr_fair.proofs.StandsLaws as fair_laws
use Rattle.lr_rw.proofs.StandsLaws as read_write_laws
use Rattle.lr_fenced.proofs.StandsLaws as fenced_laws
use Rattle.lr_semaphore.proofs.StandsLaws as semaphore_laws
use Rattle.lr_expirable.proofs.StandsLaws as permit_laws
use Rattle.lr_countdown.proofs.StandsLaws as countdown_laws
use Rattle.lr_server.specs.Stands.{KindStands, objects_of}
use Rattle.lr_server.proofs.KindsLater.{KindGoesOn}
use Rattle.lr_server.proofs.MutexesStay as mutexes
use Rattle.lr_server.proofs.FairLocksStay as fair_locks
use Rattle.lr_server.proofs.ReadWriteLocksStay as read_write_locks
use Rattle.lr_server.proofs.FencedLocksStay as fenced_locks
use Rattle.lr_server.proofs.SemaphoresStay as semaphores
use Rattle.lr_server.proofs.PermitsStay as permits
use Rattle.lr_server.proofs.CountdownsStay as countdowns

-- a call leaves the objects of all kinds but its own
pub others_stay : (kind : Kind) (objects : Objects) (moment : ℕ) (name : List ℕ) (call : Call)
    → same_kind kind (call_kind call) ≡ false
    → objects_of kind (objects_after objects moment (call_on name call)) ≡ objects_of kind objects
others_stay kinds.Mutex _ _ _ (calls.Lock call) apart = absurd (true≢false apart)
others_stay kinds.Fair _ _ _ (calls.Fair call) apart = absurd (true≢false apart)
others_stay kinds.Rw _ _ _ (calls.ReadWrite call) apart = absurd (true≢false apart)
others_stay kinds.Fenced _ _ _ (calls.Fenced call) apart = absurd (true≢false apart)
others_stay kinds.Semaphore _ _ _ (calls.Semaphore call) apart = absurd (true≢false apart)
others_stay kinds.Permits _ _ _ (calls.Permits call) apart = absurd (true≢false apart)
others_stay kinds.Countdown _ _ _ (calls.Countdown call) apart = absurd (true≢false apart)
others_stay _ _ _ _ _ apart = refl

-- the keys of a kind still stand for its objects
pub kind_stays : (kind : Kind) (old new : Keys) (objects objects2 : Objects)
    → KindGoesOn kind old new → objects_of kind objects2 ≡ objects_of kind objects
    → KindStands kind old objects → KindStands kind new objects2
kind_stays kinds.Mutex = mutexes.stay
kind_stays kinds.Fair = fair_locks.stay
kind_stays kinds.Rw = read_write_locks.stay
kind_stays kinds.Fenced = fenced_locks.stay
kind_stays kinds.Semaphore = semaphores.stay
kind_stays kinds.Permits = permits.stay
kind_stays kinds.Countdown = countdowns.stay

-- where no key is there, the keys of a kind stand for no objects
pub kind_without_keys : (kind : Kind) (keys : Keys) → entry_at keys ≡ (λ _. None)
    → KindStands kind keys no_objects
kind_without_keys kinds.Mutex keys none = mutex_laws.no_keys_stand keys none
kind_without_keys kinds.Fair keys none = fair_laws.no_keys_stand keys none
kind_without_keys kinds.Rw keys none = read_write_laws.no_keys_stand keys none
kind_without_keys kinds.Fenced keys none = fenced_laws.no_keys_stand keys none
kind_without_keys kinds.Semaphore keys none = semaphore_laws.no_keys_stand keys none
kind_without_keys kinds.Permits keys none = permit_laws.no_keys_stand keys none
kind_without_keys kinds.Countdown keys none = countdown_laws.no_keys_stand keys none
