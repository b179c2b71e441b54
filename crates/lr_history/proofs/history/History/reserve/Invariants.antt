use Rattle.std.proofs.Common.{◌≡◌, ◌≤◌, ◌-◌}
use Rattle.lr_history.proofs.history.History.reserve.Given as goal

abbrev pub invariant-loop-self : goal.invariant-loop-self
invariant-loop-self l = record {
  entries : l.self.entries ≡ l.initial.self.entries;
  kept : l.initial.self.spare ≤ l.self.spare;
  enough : l.room ≤ l.initial.self.spare → l.self ≡ l.initial.self;
}

abbrev pub decreases-loop-self : goal.decreases-loop-self
decreases-loop-self l = l.room - l.self.spare
