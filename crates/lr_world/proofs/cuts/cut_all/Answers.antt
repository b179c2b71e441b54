use Rattle.std.proofs.Common.{◌∷◌, [], ℕ, refl, sym, ap, ◌∙◌, subst, arith}
use Rattle.lr_model.specs.History.{after}
use Rattle.lr_machine.specs.World.{World, first_state, with_cut}
use Rattle.lr_world.specs.Cuts.{IsOpen}
use Rattle.lr_world.specs.World.{world_with}
use Rattle.lr_world.proofs.CutLaws.{all-cut, next-cut, next-open}
use Rattle.lr_world.proofs.cuts.cut_all.Goals as goal

pub loop-connection-init : goal.loop-connection-init
loop-connection-init c = record {
  last = c.requires.first;
  cut = record { in_time = c.requires.in_time; opened = c.requires.opened; world = refl };
}

pub cut_client-requires-clause-first : goal.cut_client-requires-clause-first
cut_client-requires-clause-first c = c.loop-connection.invariant.last

pub cut_client-requires-clause-opened : goal.cut_client-requires-clause-opened
cut_client-requires-clause-opened c =
    subst (IsOpen (after first_state c.loop-connection.server.entries).board)
    (sym c.client_at.ensures)
    (next-open c.args.connections.now
    (world_with c.args.server.now.entries c.args.moment c.args.clients.now)
    c.loop-connection.connection-index
    (world_with c.loop-connection.server.entries c.args.moment c.loop-connection.clients)
    c.loop-connection-test.true c.loop-connection.invariant.cut)

pub cut_client-requires-clause-in_time : goal.cut_client-requires-clause-in_time
cut_client-requires-clause-in_time c = c.loop-connection.invariant.cut.in_time

pub loop-connection-preserved : goal.loop-connection-preserved
loop-connection-preserved c =
    let now : World =
    world_with c.loop-connection.server.entries c.args.moment c.loop-connection.clients in
    record {
      last = c.cut_client.ensures.last ∙ c.loop-connection.invariant.last;
      cut =
          next-cut c.args.connections.now
          (world_with c.args.server.now.entries c.args.moment c.args.clients.now)
          c.loop-connection.connection-index now
          (world_with c.cut_client.new.server.entries c.args.moment c.cut_client.new.clients)
          c.loop-connection-test.true c.loop-connection.invariant.cut
          (c.cut_client.ensures.world
          ∙ ap (λ (n : ℕ). with_cut (n ∷ []) now) c.client_at.ensures);
    }

pub returns-clause-world : goal.returns-clause-world
returns-clause-world c =
    all-cut c.args.connections.now
    (world_with c.args.server.now.entries c.args.moment c.args.clients.now)
    c.loop-connection.connection-index
    (world_with c.loop-connection.server.entries c.args.moment c.loop-connection.clients)
    (omega arith) c.loop-connection.invariant.cut

pub returns-clause-last : goal.returns-clause-last
returns-clause-last c = c.loop-connection.invariant.last ∙ sym c.requires.first
