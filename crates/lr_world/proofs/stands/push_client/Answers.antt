use Rattle.std.proofs.Common.{◌≡◌, ◌++◌, ℕ, ◌+◌, List, Option, ap, sym, ◌∙◌, subst, append-nil, arith}
use Rattle.lr_machine.specs.Shown.{standing_at, standings_in}
use Rattle.lr_machine.specs.World.{World}
use Rattle.lr_waiting.specs.declared.stand.Stand.{Stand}
use Rattle.lr_world.specs.World.{world_with}
use Rattle.lr_world.proofs.StandLaws.{numbers_to, thread-more, to-none}
use Rattle.lr_world.proofs.stands.push_client.Goals as goal
use Rattle.lr_world.proofs.stands.push_client.Goals.{in-Some+in_ok-push, in_default}

pub loop-before-init : goal.loop-before-init
loop-before-init c =
    let world : World = world_with c.args.server.now.entries c.args.moment c.args.clients.now in
    sym (append-nil c.args.standings.now)
    ∙ ap (λ (threads : List ℕ). c.args.standings.now ++ standings_in world c.args.client threads)
    (sym to-none)

-- the list after a turn, by what stands for its thread
turned : (c : goal.Joined-stand) → c.match-stand.standings
    ≡ c.loop-before.standings
    ++ standing_at c.args.client (c.loop-before.before + 1) c.stand.result
turned c =
    elim c.match-stand.branch [
      | in-Some+in_ok-push w ↦ w.standings-is ∙ w.in_ok-push.ensures.ok ∙ with_it (sym w.in-Some.is)
      | in_default w ↦
          w.standings-is ∙ sym (append-nil c.loop-before.standings) ∙ with_it (sym w.in_default.is)
    ]
  where
    with_it : {one other : Option Stand} → one ≡ other
        → c.loop-before.standings
        ++ standing_at c.args.client (c.loop-before.before + 1) one
        ≡ c.loop-before.standings
        ++ standing_at c.args.client (c.loop-before.before + 1) other
    with_it same =
        ap (λ (stand : Option Stand). c.loop-before.standings
        ++ standing_at c.args.client (c.loop-before.before + 1) stand) same

pub loop-before-preserved : goal.loop-before-preserved
loop-before-preserved c =
    thread-more (world_with c.args.server.now.entries c.args.moment c.args.clients.now) c.args.client
    c.loop-before.before c.args.standings.now c.loop-before.standings c.match-stand.standings
    c.stand.result c.loop-before.invariant c.stand.ensures (turned c)

pub returns : goal.returns
returns c =
    let world : World = world_with c.args.server.now.entries c.args.moment c.args.clients.now in
    let all : c.loop-before.before ≡ 256 = omega arith in
    subst (λ (n : ℕ). c.loop-before.standings
    ≡ c.args.standings.now ++ standings_in world c.args.client (numbers_to n)) all
    c.loop-before.invariant
