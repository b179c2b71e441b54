use Rattle.std.proofs.Common.{◌≡◌, length}
use Rattle.lr_outside.specs.MemSource.{unread_bytes, unread_pieces}
use Rattle.lr_outside.proofs.mem_source.MemSource.pass_over.Given as goal

abbrev pub invariant-loop-self : goal.invariant-loop-self
invariant-loop-self l = record {
  left : unread_bytes l.self ≡ unread_bytes l.fn.self;
  pieces : unread_pieces l.self ≡ unread_pieces l.fn.self;
  faults : l.self.faults ≡ l.fn.self.faults;
  calls : l.self.calls ≡ l.fn.self.calls;
  failing : l.self.failing.now ≡ l.fn.self.failing.now;
}

abbrev pub decreases-loop-self : goal.decreases-loop-self
decreases-loop-self l = length l.self.later.now
