use Rattle.std.proofs.Common.{◌≡◌}
use Rattle.lr_keys.specs.KeySpace.{count_at, entry_at, plan_at}
use Rattle.lr_model.specs.ReadWrite.{ReadWriteLock, live_holds}
use Rattle.lr_rw.specs.Holds.{IsLockAt}
use Rattle.lr_rw.specs.Step.{ChangesOnlyTwo, HasLive}
use Rattle.lr_rw.proofs.expired.remove_expired.Given as goal

abbrev pub invariant-expired : goal.invariant-expired
invariant-expired l = record {
  live : (holds : ReadWriteLock)
      → IsLockAt l.fn.keys l.lock.counts l.lock.deadlines holds
      → HasLive l.keys l.lock.counts l.lock.deadlines l.fn.keys.moment
      (live_holds l.fn.keys.moment holds);
  others : ChangesOnlyTwo l.lock.counts l.lock.deadlines l.fn.keys l.keys;
  moment : l.keys.moment ≡ l.fn.keys.moment;
  prepared : plan_at l.keys ≡ plan_at l.fn.keys;
}

abbrev pub decreases-expired : goal.decreases-expired
decreases-expired l = count_at (entry_at l.keys l.lock.deadlines)
