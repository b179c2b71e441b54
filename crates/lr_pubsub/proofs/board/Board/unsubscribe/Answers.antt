use Rattle.std.proofs.Common.{ap, ◌∙◌}
use Rattle.lr_model.specs.Board.{Board, connection_after_unsubscribe, with_connection}
use Rattle.lr_pubsub.proofs.Boards.{board-like}
use Rattle.lr_pubsub.proofs.board.Board.unsubscribe.Goals as goal

pub returns-clause-ok : goal.returns-clause-ok
returns-clause-ok c =
    c.leave.ensures.board
    ∙ ap (λ (b : Board). with_connection b c.args.conn
    (connection_after_unsubscribe c.args.channel.now (b c.args.conn)))
    (board-like c.reserve.new.self c.args.self.now c.reserve.ensures.same)
