use Rattle.std.proofs.Common.{◌≡◌, None, length, Option, sym, ap, ◌∙◌, subst}
use Rattle.std.specs.Prelude.{slice_get}
use Rattle.lr_model.specs.declared.entry.Entry.{Entry}
use Rattle.lr_turnstile.specs.Passes.{view}
use Rattle.lr_server.specs.Server.{connection_of, entry_made, state_of}
use Rattle.lr_service.specs.Served.{IsServed}
use Rattle.lr_service.specs.Calls.{HadTurn, entries_with}
use Rattle.lr_service.proofs.Connections.{usable_open}
use Rattle.lr_service.proofs.HadTurns.{made_by, made_is, found_made, served_with}
use Rattle.lr_service.proofs.Stepping.{for_found, made_for, refused_if, shown_here, told_if, served_here}
use Rattle.lr_service.proofs.service.Service.serve.Goals as goal

pub step-result-requires-clause-open : goal.step-result-requires-clause-open
step-result-requires-clause-open c =
    usable_open (view c.args.pass.now) c.args.served.state c.args.conn c.requires.own
    c.requires.server c.requires.conn

pub leave-requires-clause-server : goal.leave-requires-clause-server
leave-requires-clause-server c =
    let s = c.step-result.ensures in
    let v = view c.args.pass.now in
    let m = made_for v c.args.served.state c.step-result.new.self c.args.reading c.caller.result
    c.args.conn c.args.request.now c.step-result.result c.caller.ensures c.requires.request
    s.unchanged s.entry s.err in
    let count = c.len-before.ensures.value ∙ ap length c.history.ensures.entries in
    let at = c.get-made.ensures
    ∙ ap (λ l. slice_get l c.len-before.result) c.history-2.ensures.entries in
    let found = found_made c.args.served.state c.step-result.new.self v.seen m.made
    c.get-made.result c.len-before.result c.requires.server m.is count at in
    subst (λ o. IsServed c.step-result.new.self (entries_with v.seen o)) (sym found)
    (served_with c.args.served.state c.step-result.new.self v.seen m.made c.requires.server m.is
    c.history-2.ensures.legal m.may)

pub leave-requires-clause-caller : goal.leave-requires-clause-caller
leave-requires-clause-caller c =
    let s = c.step-result.ensures in
    let v = view c.args.pass.now in
    let m = made_for v c.args.served.state c.step-result.new.self c.args.reading c.caller.result
    c.args.conn c.args.request.now c.step-result.result c.caller.ensures c.requires.request
    s.unchanged s.entry s.err in
    let count = c.len-before.ensures.value ∙ ap length c.history.ensures.entries in
    let at = c.get-made.ensures
    ∙ ap (λ l. slice_get l c.len-before.result) c.history-2.ensures.entries in
    let found = found_made c.args.served.state c.step-result.new.self v.seen m.made
    c.get-made.result c.len-before.result c.requires.server m.is count at in
    for_found (λ entry. entry.caller ≡ v.caller) m.made c.get-made.result found m.own

pub returns-clause-served : goal.returns-clause-served
returns-clause-served c act asked =
    let s = c.step-result.ensures in
    let step : Option Entry =
    entry_made c.args.served.state c.args.reading c.caller.result c.args.conn act in
    let is = made_is c.args.served.state c.step-result.new.self c.step-result.result step
    (s.entry act asked) s.err in
    let count = c.len-before.ensures.value ∙ ap length c.history.ensures.entries in
    let at = c.get-made.ensures
    ∙ ap (λ l. slice_get l c.len-before.result) c.history-2.ensures.entries in
    let found = found_made c.args.served.state c.step-result.new.self
    (view c.args.pass.now).seen (made_by c.step-result.result step) c.get-made.result
    c.len-before.result c.requires.server is count at in
    served_here (view c.args.pass.now) (view c.leave.new.pass) c.args.served.state c.args.reading
    c.caller.result c.args.conn act c.step-result.result c.get-made.result c.requires.server
    c.caller.ensures
    (record {
      made = found;
      told = told_if (state_of c.args.served.state) step c.step-result.result
          (s.answer act asked) (s.post act asked) (s.reached act asked) (s.dropping act asked);
      only_subscribed = refused_if c.args.request.now act
          (connection_of c.args.served.state c.args.conn) c.step-result.result asked
          s.only_subscribed;
      full = s.full act asked;
      dropped = s.dropped act asked;
      not_too_many = s.not_too_many;
    })
    c.leave.ensures.left

pub returns-clause-shown : goal.returns-clause-shown
returns-clause-shown c quiet =
    let s = c.step-result.ensures in
    let v = view c.args.pass.now in
    let now = view c.leave.new.pass in
    let count = c.len-before.ensures.value ∙ ap length c.history.ensures.entries in
    let at = c.get-made.ensures
    ∙ ap (λ l. slice_get l c.len-before.result) c.history-2.ensures.entries in
    let found = found_made c.args.served.state c.step-result.new.self v.seen None
    c.get-made.result c.len-before.result c.requires.server (s.unchanged quiet) count at in
    shown_here v now c.args.served.state c.args.reading c.args.conn c.args.request.now
    c.step-result.result c.requires.server (s.quietly quiet) (s.quiet_not_full quiet)
    (s.quiet_dropped quiet) s.not_too_many
    (subst (λ o. HadTurn v v.seen o now) found c.leave.ensures.left)
