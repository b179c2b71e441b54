use Rattle.std.proofs.Common.{◌≡◌, ℕ, List, ap, sym, ◌∙◌, subst, arith}
use Rattle.lr_machine.specs.Shown.{standings_among}
use Rattle.lr_machine.specs.World.{World}
use Rattle.lr_world.specs.World.{world_with}
use Rattle.lr_world.proofs.StandLaws.{numbers_to, client-next, to-none}
use Rattle.lr_world.proofs.stands.standings.Goals as goal

pub loop-before-init : goal.loop-before-init
loop-before-init c =
    let world : World = world_with c.args.server.now.entries c.args.moment c.args.clients.now in
    c.new-standings.ensures
    ∙ ap (λ (clients : List ℕ). standings_among world (numbers_to 256) clients) (sym to-none)

pub loop-before-preserved : goal.loop-before-preserved
loop-before-preserved c =
    client-next (world_with c.args.server.now.entries c.args.moment c.args.clients.now)
    (numbers_to 256) c.loop-before.before c.loop-before.standings c.push_client.new.standings
    c.loop-before.invariant c.in_ok-push_client.ensures

pub returns : goal.returns
returns c =
    let world : World = world_with c.args.server.now.entries c.args.moment c.args.clients.now in
    let all : c.loop-before.before ≡ 64 = omega arith in
    subst (λ (n : ℕ). c.loop-before.standings
    ≡ standings_among world (numbers_to 256) (numbers_to n)) all c.loop-before.invariant
