use Rattle.std.proofs.Common.{◌≡◌, List}
use Rattle.lr_keys.specs.KeySpace.{count_at, entry_at, plan_at}
use Rattle.lr_model.specs.Fair.{FairPlace, live_places}
use Rattle.lr_fair.specs.Queue.{IsQueueAt}
use Rattle.lr_fair.specs.Step.{ChangesOnlyTwo, HasLive}
use Rattle.lr_fair.proofs.stale.remove_stale.Given as goal

abbrev pub invariant-stale : goal.invariant-stale
invariant-stale l = record {
  live : (queue : List FairPlace)
      → IsQueueAt (entry_at l.fn.keys l.lock.queue) (entry_at l.fn.keys l.lock.stales) queue
      → HasLive (entry_at l.keys l.lock.queue) (entry_at l.keys l.lock.stales) l.fn.keys.moment
      (live_places l.fn.keys.moment queue);
  others : ChangesOnlyTwo l.lock.queue l.lock.stales l.fn.keys l.keys;
  moment : l.keys.moment ≡ l.fn.keys.moment;
  prepared : plan_at l.keys ≡ plan_at l.fn.keys;
}

abbrev pub decreases-stale : goal.decreases-stale
decreases-stale l = count_at (entry_at l.keys l.lock.stales)
