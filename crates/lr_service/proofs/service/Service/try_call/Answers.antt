use Rattle.std.proofs.Common.{ap, subst, Ok, Err}
use Rattle.lr_service.specs.declared.fault.TryFault.TheVariants as tries
use Rattle.lr_turnstile.specs.Passes.{view}
use Rattle.lr_service.specs.Calls.{IsServedTo, IsShownTo}
use Rattle.lr_service.proofs.Connections.{still_usable}
use Rattle.lr_service.proofs.HadTurns.{served_on}
use Rattle.lr_service.proofs.Stepping.{entered_same, shown_on, try_keeps}
use Rattle.lr_service.proofs.service.Service.try_call.Goals as goal

pub serve-requires-clause-conn : goal.serve-requires-clause-conn
serve-requires-clause-conn c =
    still_usable (view c.args.pass.now) (view c.try_enter.new.pass) c.args.conn
    (ap (λ z. z.mine) c.in-Ok.ensures.ok.view) c.requires.conn

pub returns-in-Ok-serve-clause-tried : goal.returns-in-Ok-serve-clause-tried
returns-in-Ok-serve-clause-tried c act asked =
    let e = c.in-Ok.ensures.ok in
    let u = view c.args.pass.now in
    let v = view c.try_enter.new.pass in
    let now = view c.serve.new.pass in
    subst (λ r. IsServedTo u c.args.reading c.args.conn act r now) c.in-Ok-serve.is
    (served_on u v now c.args.reading c.args.conn act c.serve.result
    (entered_same u v e.word e.view) (ap (λ z. z.mine) e.view) e.grew
    (c.serve.ensures.served act asked))

pub returns-in-Err-serve-clause-tried : goal.returns-in-Err-serve-clause-tried
returns-in-Err-serve-clause-tried c act asked =
    let e = c.in-Ok.ensures.ok in
    let u = view c.args.pass.now in
    let v = view c.try_enter.new.pass in
    let now = view c.serve.new.pass in
    subst (λ r. IsServedTo u c.args.reading c.args.conn act r now) c.in-Err-serve.is
    (served_on u v now c.args.reading c.args.conn act c.serve.result
    (entered_same u v e.word e.view) (ap (λ z. z.mine) e.view) e.grew
    (c.serve.ensures.served act asked))

pub returns-in-Ok-serve-clause-tried_shown : goal.returns-in-Ok-serve-clause-tried_shown
returns-in-Ok-serve-clause-tried_shown c quiet =
    let e = c.in-Ok.ensures.ok in
    let u = view c.args.pass.now in
    let v = view c.try_enter.new.pass in
    let now = view c.serve.new.pass in
    subst (λ r. IsShownTo u c.args.reading c.args.conn c.args.request.now r now)
    c.in-Ok-serve.is
    (shown_on u v now c.args.reading c.args.conn c.args.request.now c.serve.result
    (entered_same u v e.word e.view) (ap (λ z. z.mine) e.view) e.grew
    (c.serve.ensures.shown quiet))

pub returns-in-Err-serve-clause-tried_shown : goal.returns-in-Err-serve-clause-tried_shown
returns-in-Err-serve-clause-tried_shown c quiet =
    let e = c.in-Ok.ensures.ok in
    let u = view c.args.pass.now in
    let v = view c.try_enter.new.pass in
    let now = view c.serve.new.pass in
    subst (λ r. IsShownTo u c.args.reading c.args.conn c.args.request.now r now)
    c.in-Err-serve.is
    (shown_on u v now c.args.reading c.args.conn c.args.request.now c.serve.result
    (entered_same u v e.word e.view) (ap (λ z. z.mine) e.view) e.grew
    (c.serve.ensures.shown quiet))

pub returns-in-Ok-serve-clause-keeps : goal.returns-in-Ok-serve-clause-keeps
returns-in-Ok-serve-clause-keeps c =
    try_keeps (view c.args.pass.now) (view c.serve.new.pass) c.args.reading c.args.conn
    c.args.request.now (Ok c.in-Ok-serve.answered) c.requires.request
    (returns-in-Ok-serve-clause-tried c) (returns-in-Ok-serve-clause-tried_shown c)

pub returns-in-Err-serve-clause-keeps : goal.returns-in-Err-serve-clause-keeps
returns-in-Err-serve-clause-keeps c =
    try_keeps (view c.args.pass.now) (view c.serve.new.pass) c.args.reading c.args.conn
    c.args.request.now (Err (tries.Step c.in-Err-serve.fault)) c.requires.request
    (returns-in-Err-serve-clause-tried c) (returns-in-Err-serve-clause-tried_shown c)
