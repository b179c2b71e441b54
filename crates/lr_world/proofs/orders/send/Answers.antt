use Rattle.std.proofs.Common.{Some, None, Err, if◌then◌else◌, sym, ap, ◌∙◌}
use Rattle.lr_machine.specs.Shown.{channels_after}
use Rattle.lr_machine.specs.World.{act_of}
use Rattle.lr_world.specs.Steps.{heard_on}
use Rattle.lr_world.proofs.OrderLaws.{count_told, never_full, none_told, result_is, room_told, same_count, sent_is, unsent_is}
use Rattle.lr_world.proofs.orders.send.Goals as goal

pub count_of-requires : goal.count_of-requires
count_of-requires c = (
  _,
  count_told _ _
      (c.in-Ok.ensures.answer (act_of c.args.order.now) c.in_ok-request.ensures.act
      ∙ result_is c.args.server.now c.args.moment c.args.client c.client_caller.result
      c.subscription_connection-connection.result c.args.order.now c.requires.first
      c.requires.in_time c.requires.early c.client_caller.ensures
      c.subscription_connection-connection.ensures),
)

pub returns-in-Ok-clause-sent : goal.returns-in-Ok-clause-sent
returns-in-Ok-clause-sent c =
    let told =
    count_told c.in-Ok.answered.answer
    (channels_after c.args.order.now (heard_on c.args.server.now.entries c.args.client))
    (c.in-Ok.ensures.answer (act_of c.args.order.now) c.in_ok-request.ensures.act
    ∙ result_is c.args.server.now c.args.moment c.args.client c.client_caller.result
    c.subscription_connection-connection.result c.args.order.now c.requires.first
    c.requires.in_time c.requires.early c.client_caller.ensures
    c.subscription_connection-connection.ensures) in
    let room =
    room_told c.args.server.now c.args.moment c.args.client c.client_caller.result
    c.subscription_connection-connection.result c.args.order.now c.requires.first
    c.requires.in_time c.requires.early c.client_caller.ensures
    c.subscription_connection-connection.ensures c.requires.connected.kept c.requires.room
    c.step.result c.in-Ok.answered c.in-Ok.is
    (c.step.ensures.dropped (act_of c.args.order.now) c.in_ok-request.ensures.act) in
    ap Some (same_count _ _ (sym c.count_of.ensures ∙ told))
    ∙ sym (ap (λ b. if b then Some (channels_after c.args.order.now
    (heard_on c.args.server.now.entries c.args.client)) else None) room)

pub returns-in-Ok-clause-entry : goal.returns-in-Ok-clause-entry
returns-in-Ok-clause-entry c =
    let room =
    room_told c.args.server.now c.args.moment c.args.client c.client_caller.result
    c.subscription_connection-connection.result c.args.order.now c.requires.first
    c.requires.in_time c.requires.early c.client_caller.ensures
    c.subscription_connection-connection.ensures c.requires.connected.kept c.requires.room
    c.step.result c.in-Ok.answered c.in-Ok.is
    (c.step.ensures.dropped (act_of c.args.order.now) c.in_ok-request.ensures.act) in
    c.in-Ok.ensures.entry (act_of c.args.order.now) c.in_ok-request.ensures.act
    ∙ sent_is c.args.server.now c.args.moment c.args.client c.client_caller.result
    c.subscription_connection-connection.result c.args.order.now c.requires.first
    c.requires.in_time c.requires.early c.client_caller.ensures
    c.subscription_connection-connection.ensures room

pub returns-in-Err-Dropped-clause-sent : goal.returns-in-Err-Dropped-clause-sent
returns-in-Err-Dropped-clause-sent c =
    let full =
    none_told c.args.server.now c.args.moment c.args.client c.client_caller.result
    c.subscription_connection-connection.result c.args.order.now c.requires.first
    c.requires.in_time c.requires.early c.client_caller.ensures
    c.subscription_connection-connection.ensures c.requires.connected.kept c.requires.room
    ((c.step.ensures.dropped (act_of c.args.order.now) c.in_ok-request.ensures.act).0
    (c.in-Err-Dropped.is ∙ ap Err c.in-Err-Dropped.field-0-is)) in
    sym (ap (λ b. if b then Some (channels_after c.args.order.now
    (heard_on c.args.server.now.entries c.args.client)) else None) full)

pub returns-in-Err-Dropped-clause-entry : goal.returns-in-Err-Dropped-clause-entry
returns-in-Err-Dropped-clause-entry c =
    let full =
    none_told c.args.server.now c.args.moment c.args.client c.client_caller.result
    c.subscription_connection-connection.result c.args.order.now c.requires.first
    c.requires.in_time c.requires.early c.client_caller.ensures
    c.subscription_connection-connection.ensures c.requires.connected.kept c.requires.room
    ((c.step.ensures.dropped (act_of c.args.order.now) c.in_ok-request.ensures.act).0
    (c.in-Err-Dropped.is ∙ ap Err c.in-Err-Dropped.field-0-is)) in
    c.in-Err-Dropped.ensures.err
    ∙ unsent_is c.args.server.now c.args.moment c.args.client c.client_caller.result
    c.subscription_connection-connection.result c.args.order.now c.requires.first
    c.requires.in_time c.requires.early c.client_caller.ensures
    c.subscription_connection-connection.ensures full

pub unreachable-requires : goal.unreachable-requires
unreachable-requires c =
    never_full c.args.server.now c.args.moment c.args.client c.client_caller.result
    c.subscription_connection-connection.result c.args.order.now c.requires.first
    c.requires.in_time c.requires.early c.client_caller.ensures
    c.subscription_connection-connection.ensures c.requires.connected.kept c.requires.room
    ((c.step.ensures.full (act_of c.args.order.now) c.in_ok-request.ensures.act).0
    (c.in-Err-HistoryFull.is ∙ ap Err c.in-Err-HistoryFull.field-0-is))
