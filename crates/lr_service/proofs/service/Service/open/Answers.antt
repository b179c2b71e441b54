use Rattle.std.proofs.Common.{◌≡◌, length, Option, sym, ap, ◌∙◌, subst}
use Rattle.std.specs.Prelude.{slice_get}
use Rattle.lr_model.specs.declared.entry.Act.TheVariants as acts
use Rattle.lr_model.specs.declared.entry.Entry.{Entry}
use Rattle.lr_model.specs.History.{after, state_at_start}
use Rattle.lr_turnstile.specs.Passes.{view}
use Rattle.lr_server.specs.Server.{entry_of}
use Rattle.lr_service.specs.Closes.{MayClose}
use Rattle.lr_service.specs.Served.{IsServed}
use Rattle.lr_service.specs.Calls.{entries_with}
use Rattle.lr_service.proofs.HadTurns.{opened_by, opened_is, found_made, served_with}
use Rattle.lr_service.proofs.Stepping.{for_found, for_opened, opened_here, opened_own, opened_keeps, opened_not_first}
use Rattle.lr_service.proofs.service.Service.open.Goals as goal

pub leave-requires-clause-server : goal.leave-requires-clause-server
leave-requires-clause-server g c =
    let w = c.enter-state.ensures.entered in
    let v = view c.enter-state.new.pass in
    let old = c.enter-state.result.state in
    let served = w.it_stands.1 in
    let s = c.open-result.ensures in
    let made : Option Entry = opened_by c.open-result.result (λ conn. entry_of old c.args.reading c.caller.result conn acts.Open) in
    let is = opened_is old c.open-result.new.self c.open-result.result
    (λ conn. entry_of old c.args.reading c.caller.result conn acts.Open) s.entry s.err in
    let count = c.len-before.ensures.value ∙ ap length c.history.ensures.entries in
    let at = c.get-made.ensures
    ∙ ap (λ l. slice_get l c.len-before.result) c.history-2.ensures.entries in
    let found = found_made old c.open-result.new.self v.seen made c.get-made.result
    c.len-before.result served is count at in
    subst (λ o. IsServed c.open-result.new.self (entries_with v.seen o)) (sym found)
    (served_with old c.open-result.new.self v.seen made served is c.history-2.ensures.legal
    (for_opened (λ entry. MayClose (after (state_at_start 0) v.seen) entry entry.act)
    c.open-result.result (λ conn. entry_of old c.args.reading c.caller.result conn acts.Open) (λ conn. tt)))

pub leave-requires-clause-caller : goal.leave-requires-clause-caller
leave-requires-clause-caller g c =
    let w = c.enter-state.ensures.entered in
    let v = view c.enter-state.new.pass in
    let old = c.enter-state.result.state in
    let served = w.it_stands.1 in
    let s = c.open-result.ensures in
    let made : Option Entry = opened_by c.open-result.result (λ conn. entry_of old c.args.reading c.caller.result conn acts.Open) in
    let is = opened_is old c.open-result.new.self c.open-result.result
    (λ conn. entry_of old c.args.reading c.caller.result conn acts.Open) s.entry s.err in
    let count = c.len-before.ensures.value ∙ ap length c.history.ensures.entries in
    let at = c.get-made.ensures
    ∙ ap (λ l. slice_get l c.len-before.result) c.history-2.ensures.entries in
    let found = found_made old c.open-result.new.self v.seen made c.get-made.result
    c.len-before.result served is count at in
    for_found (λ entry. entry.caller ≡ v.caller) made c.get-made.result found
    (for_opened (λ entry. entry.caller ≡ v.caller) c.open-result.result
    (λ conn. entry_of old c.args.reading c.caller.result conn acts.Open) (λ conn. c.caller.ensures))

pub returns-clause-opened : goal.returns-clause-opened
returns-clause-opened g c =
    let w = c.enter-state.ensures.entered in
    let v = view c.enter-state.new.pass in
    let old = c.enter-state.result.state in
    let served = w.it_stands.1 in
    let s = c.open-result.ensures in
    let made : Option Entry = opened_by c.open-result.result (λ conn. entry_of old c.args.reading c.caller.result conn acts.Open) in
    let is = opened_is old c.open-result.new.self c.open-result.result
    (λ conn. entry_of old c.args.reading c.caller.result conn acts.Open) s.entry s.err in
    let count = c.len-before.ensures.value ∙ ap length c.history.ensures.entries in
    let at = c.get-made.ensures
    ∙ ap (λ l. slice_get l c.len-before.result) c.history-2.ensures.entries in
    let found = found_made old c.open-result.new.self v.seen made c.get-made.result
    c.len-before.result served is count at in
    opened_here (view c.args.pass.now) v (view c.leave.new.pass) old c.args.reading
    c.caller.result c.open-result.result c.get-made.result served c.caller.ensures w.same w.mine
    w.grew
    (record {
      made = found;
      number = s.number;
      too_many = s.too_many;
      full = s.full;
      not_dropped = s.not_dropped;
    })
    c.leave.ensures.left

pub returns-clause-own : goal.returns-clause-own
returns-clause-own g c =
    opened_own (view c.args.pass.now) (view c.leave.new.pass) c.args.reading c.open-result.result
    (returns-clause-opened g c)

pub returns-clause-keeps : goal.returns-clause-keeps
returns-clause-keeps g c =
    opened_keeps (view c.args.pass.now) (view c.leave.new.pass) c.args.reading c.open-result.result
    (returns-clause-opened g c)

pub returns-clause-not_first : goal.returns-clause-not_first
returns-clause-not_first g c =
    let w = c.enter-state.ensures.entered in
    let v = view c.enter-state.new.pass in
    let old = c.enter-state.result.state in
    let served = w.it_stands.1 in
    let s = c.open-result.ensures in
    let made : Option Entry = opened_by c.open-result.result (λ conn. entry_of old c.args.reading c.caller.result conn acts.Open) in
    let is = opened_is old c.open-result.new.self c.open-result.result
    (λ conn. entry_of old c.args.reading c.caller.result conn acts.Open) s.entry s.err in
    opened_not_first v old c.open-result.new.self c.args.reading c.caller.result
    c.open-result.result served is c.history-2.ensures.legal
