use Rattle.lr_server.proofs.Done.{done_as_call}
use Rattle.lr_server.proofs.keys_and_board.make.Goals as goal

pub returns-in-Call-clause-done : goal.returns-in-Call-clause-done
returns-in-Call-clause-done c =
    let entry = c.entry.inside in
    done_as_call c.call.result c.args.keys.now c.call.new.keys c.args.board.now c.call.new.board
    entry.moment entry.caller entry.conn entry.act _ c.in-Call.op c.entry.view_is c.in-Call.is
    c.call.ensures.done
