use Rattle.std.proofs.Common.{◌≡◌, length, Option, Some, sym, ap, ◌∙◌, subst}
use Rattle.std.specs.Prelude.{slice_get}
use Rattle.lr_model.specs.declared.entry.Act.TheVariants as acts
use Rattle.lr_model.specs.declared.entry.Entry.{Entry}
use Rattle.lr_model.specs.History.{after, state_at_start}
use Rattle.lr_turnstile.specs.Passes.{view}
use Rattle.lr_server.specs.Server.{entry_of}
use Rattle.lr_service.specs.Closes.{MayClose}
use Rattle.lr_service.specs.Served.{IsServed}
use Rattle.lr_service.specs.Calls.{entries_with}
use Rattle.lr_service.proofs.Connections.{still_closable, closable_open}
use Rattle.lr_service.proofs.HadTurns.{found_made, served_with}
use Rattle.lr_service.proofs.Stepping.{for_found, for_one, may_close, closed_here, closed_keeps}
use Rattle.lr_service.proofs.service.Service.close.Goals as goal

pub close-requires : goal.close-requires
close-requires g c =
    let w = c.enter-state.ensures.entered in
    let v = view c.enter-state.new.pass in
    closable_open v c.enter-state.result.state c.args.conn w.own w.it_stands.1
    (still_closable (view c.args.pass.now) v c.args.conn w.mine c.requires.conn)

pub leave-requires-clause-server : goal.leave-requires-clause-server
leave-requires-clause-server g c =
    let w = c.enter-state.ensures.entered in
    let v = view c.enter-state.new.pass in
    let old = c.enter-state.result.state in
    let served = w.it_stands.1 in
    let s = c.close.ensures in
    let made : Option Entry = Some (entry_of old c.args.reading c.caller.result c.args.conn acts.Close) in
    let is = s.entry in
    let count = c.len-before.ensures.value ∙ ap length c.history.ensures.entries in
    let at = c.get-made.ensures
    ∙ ap (λ l. slice_get l c.len-before.result) c.history-2.ensures.entries in
    let found = found_made old c.close.new.self v.seen made c.get-made.result
    c.len-before.result served is count at in
    subst (λ o. IsServed c.close.new.self (entries_with v.seen o)) (sym found)
    (served_with old c.close.new.self v.seen made served is c.history-2.ensures.legal
    (for_one (λ entry. MayClose (after (state_at_start 0) v.seen) entry entry.act) (entry_of old c.args.reading c.caller.result c.args.conn acts.Close)
    (may_close v old c.args.reading c.caller.result c.args.conn w.own served c.caller.ensures
    (still_closable (view c.args.pass.now) v c.args.conn w.mine c.requires.conn))))

pub leave-requires-clause-caller : goal.leave-requires-clause-caller
leave-requires-clause-caller g c =
    let w = c.enter-state.ensures.entered in
    let v = view c.enter-state.new.pass in
    let old = c.enter-state.result.state in
    let served = w.it_stands.1 in
    let s = c.close.ensures in
    let made : Option Entry = Some (entry_of old c.args.reading c.caller.result c.args.conn acts.Close) in
    let is = s.entry in
    let count = c.len-before.ensures.value ∙ ap length c.history.ensures.entries in
    let at = c.get-made.ensures
    ∙ ap (λ l. slice_get l c.len-before.result) c.history-2.ensures.entries in
    let found = found_made old c.close.new.self v.seen made c.get-made.result
    c.len-before.result served is count at in
    for_found (λ entry. entry.caller ≡ v.caller) made c.get-made.result found
    (for_one (λ entry. entry.caller ≡ v.caller) (entry_of old c.args.reading c.caller.result c.args.conn acts.Close) c.caller.ensures)

pub returns-clause-closed : goal.returns-clause-closed
returns-clause-closed g c =
    let w = c.enter-state.ensures.entered in
    let v = view c.enter-state.new.pass in
    let old = c.enter-state.result.state in
    let served = w.it_stands.1 in
    let s = c.close.ensures in
    let made : Option Entry = Some (entry_of old c.args.reading c.caller.result c.args.conn acts.Close) in
    let is = s.entry in
    let count = c.len-before.ensures.value ∙ ap length c.history.ensures.entries in
    let at = c.get-made.ensures
    ∙ ap (λ l. slice_get l c.len-before.result) c.history-2.ensures.entries in
    let found = found_made old c.close.new.self v.seen made c.get-made.result
    c.len-before.result served is count at in
    closed_here (view c.args.pass.now) v (view c.leave.new.pass) old c.args.reading
    c.caller.result c.args.conn c.get-made.result served c.caller.ensures w.same w.mine w.grew
    found c.leave.ensures.left

pub returns-clause-keeps : goal.returns-clause-keeps
returns-clause-keeps g c =
    closed_keeps (view c.args.pass.now) (view c.leave.new.pass) c.args.reading c.args.conn
    (returns-clause-closed g c)
