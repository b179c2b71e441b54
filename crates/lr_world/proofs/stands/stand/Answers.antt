use Rattle.std.proofs.Common.{◌≡◌, List, Some, Bool, ap, sym, ◌∙◌}
use Rattle.lr_names.specs.declared.kind.Wakes.TheVariants.{One, All}
use Rattle.lr_names.specs.declared.post.Push.{Push}
use Rattle.lr_machine.specs.World.{World, state_of}
use Rattle.lr_waiting.specs.Client.{Client}
use Rattle.lr_clients.specs.declared.sleeper.Sleeper.{Sleeper}
use Rattle.lr_clients.specs.Client.{clients_of}
use Rattle.lr_clients.specs.Stands.{stand_where_all, stand_where_one}
use Rattle.lr_world.specs.Steps.{heard_on}
use Rattle.lr_world.specs.World.{world_with}
use Rattle.lr_world.proofs.StandLaws.{flight-is, refusal-is, stand-asleep}
use Rattle.lr_world.proofs.stands.stand.Goals as goal

pub returns-in-One : goal.returns-in-One
returns-in-One c =
    let client : Client = clients_of c.args.clients.now c.args.client in
    let world : World = world_with c.args.server.now.entries c.args.moment c.args.clients.now in
    let outbox : List Push = (heard_on c.args.server.now.entries c.args.client).outbox in
    let sleeper : Sleeper = record {
      channel = c.sleeper.inside.channel;
      want = c.sleeper.inside.want;
      owner = c.sleeper.inside.owner;
      refusal = c.sleeper.inside.refusal;
    } in
    let flies = c.in_flight-in_flight.ensures
    ∙ flight-is c.args.server.now c.requires.first sleeper.channel c.args.client
    c.subscription_connection.result c.subscription_connection.ensures in
    stand-asleep (state_of world) c.args.moment outbox client c.args.thread sleeper
    One c.stand_of_one.result
    (sym c.asleep.ensures.value ∙ c.in-Some.is ∙ ap Some (sym c.sleeper.view_is))
    (sym c.in-One.is ∙ c.wakes.ensures)
    (c.stand_of_one.ensures
    ∙ ap (λ (b : Bool). stand_where_one b sleeper.channel client) flies)

pub returns-in-All : goal.returns-in-All
returns-in-All c =
    let client : Client = clients_of c.args.clients.now c.args.client in
    let world : World = world_with c.args.server.now.entries c.args.moment c.args.clients.now in
    let outbox : List Push = (heard_on c.args.server.now.entries c.args.client).outbox in
    let sleeper : Sleeper = record {
      channel = c.sleeper.inside.channel;
      want = c.sleeper.inside.want;
      owner = c.sleeper.inside.owner;
      refusal = c.sleeper.inside.refusal;
    } in
    let same : c.in-Some.sleeper ≡ sleeper = sym c.sleeper.view_is in
    let flies = c.in_flight-in_flight.ensures
    ∙ flight-is c.args.server.now c.requires.first sleeper.channel c.args.client
    c.subscription_connection.result c.subscription_connection.ensures in
    let held = c.would_wait-held.ensures
    ∙ refusal-is c.args.server.now c.requires.first c.args.moment c.requires.in_time
    c.requires.early sleeper.owner sleeper.want in
    stand-asleep (state_of world) c.args.moment outbox client c.args.thread sleeper
    All c.stand_of_all.result
    (sym c.asleep.ensures.value ∙ c.in-Some.is ∙ ap Some same)
    (sym c.in-All.is ∙ c.wakes.ensures)
    (c.stand_of_all.ensures
    ∙ (λ i. stand_where_all (held i) (flies i) (same i) client))
