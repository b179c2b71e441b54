use Rattle.std.proofs.Common.{◌≡◌, length, Option, sym, ap, ◌∙◌, subst}
use Rattle.std.specs.Prelude.{slice_get}
use Rattle.lr_model.specs.declared.entry.Entry.{Entry}
use Rattle.lr_model.specs.History.{after, state_at_start}
use Rattle.lr_turnstile.specs.Passes.{view}
use Rattle.lr_server.specs.Server.{drain_made}
use Rattle.lr_service.specs.Closes.{MayClose}
use Rattle.lr_service.specs.Served.{IsServed}
use Rattle.lr_service.specs.Calls.{entries_with}
use Rattle.lr_service.proofs.Connections.{still_usable, usable_open}
use Rattle.lr_service.proofs.HadTurns.{made_by, made_is, found_made, served_with}
use Rattle.lr_service.proofs.Stepping.{for_found, for_drain, drained_here, drained_keeps}
use Rattle.lr_service.proofs.service.Service.drain.Goals as goal

pub drain-result-requires : goal.drain-result-requires
drain-result-requires g c =
    let w = c.enter-state.ensures.entered in
    let v = view c.enter-state.new.pass in
    usable_open v c.enter-state.result.state c.args.conn w.own w.it_stands.1
    (still_usable (view c.args.pass.now) v c.args.conn w.mine c.requires.conn)

pub leave-requires-clause-server : goal.leave-requires-clause-server
leave-requires-clause-server g c =
    let w = c.enter-state.ensures.entered in
    let v = view c.enter-state.new.pass in
    let old = c.enter-state.result.state in
    let served = w.it_stands.1 in
    let s = c.drain-result.ensures in
    let made : Option Entry = made_by c.drain-result.result
    (drain_made old c.args.reading c.caller.result c.args.conn c.args.most) in
    let is = made_is old c.drain-result.new.self c.drain-result.result
    (drain_made old c.args.reading c.caller.result c.args.conn c.args.most) s.entry s.err in
    let count = c.len-before.ensures.value ∙ ap length c.history.ensures.entries in
    let at = c.get-made.ensures
    ∙ ap (λ l. slice_get l c.len-before.result) c.history-2.ensures.entries in
    let found = found_made old c.drain-result.new.self v.seen made c.get-made.result
    c.len-before.result served is count at in
    subst (λ o. IsServed c.drain-result.new.self (entries_with v.seen o)) (sym found)
    (served_with old c.drain-result.new.self v.seen made served is c.history-2.ensures.legal
    (for_drain (λ entry. MayClose (after (state_at_start 0) v.seen) entry entry.act)
    c.drain-result.result old c.args.reading c.caller.result c.args.conn c.args.most tt))

pub leave-requires-clause-caller : goal.leave-requires-clause-caller
leave-requires-clause-caller g c =
    let w = c.enter-state.ensures.entered in
    let v = view c.enter-state.new.pass in
    let old = c.enter-state.result.state in
    let served = w.it_stands.1 in
    let s = c.drain-result.ensures in
    let made : Option Entry = made_by c.drain-result.result
    (drain_made old c.args.reading c.caller.result c.args.conn c.args.most) in
    let is = made_is old c.drain-result.new.self c.drain-result.result
    (drain_made old c.args.reading c.caller.result c.args.conn c.args.most) s.entry s.err in
    let count = c.len-before.ensures.value ∙ ap length c.history.ensures.entries in
    let at = c.get-made.ensures
    ∙ ap (λ l. slice_get l c.len-before.result) c.history-2.ensures.entries in
    let found = found_made old c.drain-result.new.self v.seen made c.get-made.result
    c.len-before.result served is count at in
    for_found (λ entry. entry.caller ≡ v.caller) made c.get-made.result found
    (for_drain (λ entry. entry.caller ≡ v.caller) c.drain-result.result old c.args.reading
    c.caller.result c.args.conn c.args.most c.caller.ensures)

pub returns-clause-drained : goal.returns-clause-drained
returns-clause-drained g c =
    let w = c.enter-state.ensures.entered in
    let v = view c.enter-state.new.pass in
    let old = c.enter-state.result.state in
    let served = w.it_stands.1 in
    let s = c.drain-result.ensures in
    let made : Option Entry = made_by c.drain-result.result
    (drain_made old c.args.reading c.caller.result c.args.conn c.args.most) in
    let is = made_is old c.drain-result.new.self c.drain-result.result
    (drain_made old c.args.reading c.caller.result c.args.conn c.args.most) s.entry s.err in
    let count = c.len-before.ensures.value ∙ ap length c.history.ensures.entries in
    let at = c.get-made.ensures
    ∙ ap (λ l. slice_get l c.len-before.result) c.history-2.ensures.entries in
    let found = found_made old c.drain-result.new.self v.seen made c.get-made.result
    c.len-before.result served is count at in
    drained_here (view c.args.pass.now) v (view c.leave.new.pass) old c.args.reading
    c.caller.result c.args.conn c.args.most c.drain-result.result c.get-made.result served
    c.caller.ensures w.same w.mine w.grew
    (record {
      made = found;
      items = s.items;
      full = s.full;
      dropped = s.dropped;
      not_too_many = s.not_too_many;
    })
    c.leave.ensures.left

pub returns-clause-keeps : goal.returns-clause-keeps
returns-clause-keeps g c =
    drained_keeps (view c.args.pass.now) (view c.leave.new.pass) c.args.reading c.args.conn
    c.args.most c.drain-result.result (returns-clause-drained g c)
