use Rattle.std.proofs.Common.{◌+◌, ◌++◌, refl, ap, ◌∙◌, arith}
use Rattle.lr_model.specs.History.{deeds_of}
use Rattle.lr_machine.specs.Deeds.{deeds_of_event}
use Rattle.lr_machine.specs.Shown.{shown}
use Rattle.lr_machine.specs.World.{World, next}
use Rattle.lr_machine_laws.proofs.Growth.{deeds_of-next}
use Rattle.lr_machine_laws.proofs.Schedules.{IsSound-from_order}
use Rattle.lr_machine_renewals.proofs.Worlds.{renewed-in_time, watches-next}
use Rattle.lr_machine_wakeups.proofs.Schedules.{none_lost}
use Rattle.lr_machine_wakeups.proofs.Worlds.{kept-next}
use Rattle.lr_world.specs.World.{IsWorld, WorldValue, world_of, world_with}
use Rattle.lr_world.proofs.Servers.{on_err}
use Rattle.lr_world.proofs.WorldLaws.{IsWorld-next, IsWorld-same, few_entries, value_with}
use Rattle.lr_world.proofs.world.World.apply.Goals as goal

-- where the event found no memory

err_world : (c : goal.After-from_residual) → IsWorld c.run.new.server.last
    (value_with c.run.new.server.entries c.run.new.moment c.run.new.clients c.self.inside.applied)
err_world c =
    let errors = c.in_err-shown.ensures in
    IsWorld-same c.self.inside.server.last c.run.new.server.last
    (value_with c.self.inside.server.entries c.self.inside.moment c.self.inside.clients
    c.self.inside.applied)
    (value_with c.run.new.server.entries c.run.new.moment c.run.new.clients
    c.self.inside.applied)
    c.self.invariant errors.last errors.err errors.early refl

pub invariant_of-self : goal.invariant_of-self
invariant_of-self c = err_world c

pub returns-in_err-shown-clause-err : goal.returns-in_err-shown-clause-err
returns-in_err-shown-clause-err c =
    on_err c.from_residual.result (c.in_err-shown.ensures.err ∙ ap world_of c.self.view_is)

pub returns-in_err-shown-clause-sound : goal.returns-in_err-shown-clause-sound
returns-in_err-shown-clause-sound c =
    IsSound-from_order (world_with c.run.new.server.entries c.run.new.moment c.run.new.clients)
    (err_world c).in_order

pub returns-in_err-shown-clause-awake : goal.returns-in_err-shown-clause-awake
returns-in_err-shown-clause-awake c =
    none_lost c.self.inside.applied
    (world_with c.run.new.server.entries c.run.new.moment c.run.new.clients) (err_world c).facts

pub returns-in_err-shown-clause-renews : goal.returns-in_err-shown-clause-renews
returns-in_err-shown-clause-renews c =
    renewed-in_time c.self.inside.applied
    (world_with c.run.new.server.entries c.run.new.moment c.run.new.clients)
    (err_world c).watches

-- where it took place

ok_world : (c : goal.After-self-1) → IsWorld c.run.new.server.last
    (value_with c.run.new.server.entries c.run.new.moment c.run.new.clients
    (c.self.inside.applied + 1))
ok_world c =
    let done = c.in_ok-shown.ensures in
    IsWorld-next c.self.inside.server.last c.run.new.server.last
    (value_with c.self.inside.server.entries c.self.inside.moment c.self.inside.clients
    c.self.inside.applied)
    (value_with c.run.new.server.entries c.run.new.moment c.run.new.clients
    (c.self.inside.applied + 1))
    c.args.event.now kept-next watches-next c.requires.within c.self.invariant
    (omega (arith, c.requires.room, ap (λ (v : WorldValue). v.applied) c.self.view_is))
    done.last done.next done.early refl

pub invariant_of-self-2 : goal.invariant_of-self-2
invariant_of-self-2 c = ok_world c

pub returns-clause-shown : goal.returns-clause-shown
returns-clause-shown c =
    c.in_ok-shown.ensures.shown
    ∙ ap (λ (v : WorldValue). shown (world_of v) c.args.event.now) c.self.view_is

pub returns-clause-next : goal.returns-clause-next
returns-clause-next c =
    c.in_ok-shown.ensures.next
    ∙ ap (λ (v : WorldValue). next (world_of v) c.args.event.now) c.self.view_is

pub returns-clause-sound : goal.returns-clause-sound
returns-clause-sound c =
    IsSound-from_order (world_with c.run.new.server.entries c.run.new.moment c.run.new.clients)
    (ok_world c).in_order

pub returns-clause-once : goal.returns-clause-once
returns-clause-once c =
    let old : World =
    world_with c.self.inside.server.entries c.self.inside.moment c.self.inside.clients in
    ap (λ (w : World). deeds_of w.entries) c.in_ok-shown.ensures.next
    ∙ deeds_of-next old c.args.event.now
    ∙ ap (λ (v : WorldValue). deeds_of v.entries ++ deeds_of_event (world_of v) c.args.event.now)
    c.self.view_is

pub returns-clause-awake : goal.returns-clause-awake
returns-clause-awake c =
    none_lost (c.self.inside.applied + 1)
    (world_with c.run.new.server.entries c.run.new.moment c.run.new.clients) (ok_world c).facts

pub returns-clause-renews : goal.returns-clause-renews
returns-clause-renews c =
    renewed-in_time (c.self.inside.applied + 1)
    (world_with c.run.new.server.entries c.run.new.moment c.run.new.clients)
    (ok_world c).watches

pub returns-clause-few : goal.returns-clause-few
returns-clause-few c =
    few_entries c.run.new.server.last
    (value_with c.run.new.server.entries c.run.new.moment c.run.new.clients
    (c.self.inside.applied + 1))
    (ok_world c)
