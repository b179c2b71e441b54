use Rattle.std.proofs.Common.{◌≡◌, length}
use Rattle.lr_resp.proofs.Reached.{StandsIn}
use Rattle.lr_resp.proofs.decoder.Decoder.next.Given as goal

abbrev pub invariant-loop-self : goal.invariant-loop-self
invariant-loop-self l = record {
  stands : StandsIn l.self-inside.place.size l.self-inside.scanner l.self-inside.unread.items
      l.fn.self.unread;
  past : l.self-inside.place.start ≡ l.fn.self.past;
}

abbrev pub decreases-loop-self : goal.decreases-loop-self
decreases-loop-self l = length l.self-inside.unread.items
