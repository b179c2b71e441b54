use Rattle.lr_server.proofs.Done.{call_done}
use Rattle.lr_server.proofs.keys_and_board.call.Goals as goal

pub returns-in-Ok-clause-done : goal.returns-in-Ok-clause-done
returns-in-Ok-clause-done c =
    call_done c.args.keys.now c.run.new.keys c.args.board.now c.send.new.board c.args.moment
    c.args.op.now _ _ c.send.result c.in-Ok.ensures.ran c.send.ensures
