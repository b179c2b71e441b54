use Rattle.std.proofs.Common.{Some, ap, ◌∙◌}
use Rattle.lr_model.specs.Board.{board_after_post}
use Rattle.lr_pubsub.proofs.Boards.{board-like}
use Rattle.lr_pubsub.proofs.board.Board.post.Goals as goal

pub returns-clause-ok : goal.returns-clause-ok
returns-clause-ok c =
    c.deliver.ensures.board
    ∙ ap (board_after_post (Some c.args.post.now))
    (board-like c.reserve.new.self c.args.self.now c.reserve.ensures.same)
