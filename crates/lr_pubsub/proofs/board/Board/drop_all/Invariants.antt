use Rattle.std.proofs.Common.{◌≡◌, take}
use Rattle.lr_pubsub.specs.BoardValue.{board_of}
use Rattle.lr_pubsub.specs.Delivery.{board_after_drops}
use Rattle.lr_pubsub.proofs.board.Board.drop_all.Given as goal

abbrev pub invariant-loop-conn : goal.invariant-loop-conn
invariant-loop-conn l = board_of l.self
    ≡ board_after_drops (take l.conn-index l.conns) (board_of l.initial.self)
