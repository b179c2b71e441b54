use Rattle.lr_turnstile.specs.Passes.{view}
use Rattle.lr_service.proofs.Connections.{still_usable}
use Rattle.lr_service.proofs.HadTurns.{served_on}
use Rattle.lr_service.proofs.Stepping.{request_keeps, shown_on}
use Rattle.lr_service.proofs.service.Service.call.Goals as goal

pub serve-requires-clause-conn : goal.serve-requires-clause-conn
serve-requires-clause-conn g c =
    still_usable (view c.args.pass.now) (view c.enter-served.new.pass) c.args.conn
    c.enter-served.ensures.entered.mine c.requires.conn

pub returns-clause-served : goal.returns-clause-served
returns-clause-served g c act asked =
    let w = c.enter-served.ensures.entered in
    served_on (view c.args.pass.now) (view c.enter-served.new.pass) (view c.serve.new.pass)
    c.args.reading c.args.conn act c.serve.result w.same w.mine w.grew
    (c.serve.ensures.served act asked)

pub returns-clause-shown : goal.returns-clause-shown
returns-clause-shown g c quiet =
    let w = c.enter-served.ensures.entered in
    shown_on (view c.args.pass.now) (view c.enter-served.new.pass) (view c.serve.new.pass)
    c.args.reading c.args.conn c.args.request.now c.serve.result w.same w.mine w.grew
    (c.serve.ensures.shown quiet)

pub returns-clause-keeps : goal.returns-clause-keeps
returns-clause-keeps g c =
    request_keeps (view c.args.pass.now) (view c.serve.new.pass) c.args.reading c.args.conn
    c.args.request.now c.serve.result c.requires.request (returns-clause-served g c)
    (returns-clause-shown g c)
