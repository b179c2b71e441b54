use Rattle.std.proofs.Common.{◌≡◌, ℕ, IfOk, OnOk, ap, sym, ◌∙◌, subst}
use Rattle.lr_waiting.specs.declared.watch.WatchKey.{WatchKey}
use Rattle.lr_machine.specs.declared.event.Event.{Event}
use Rattle.lr_machine.specs.declared.shown.Shown.{Shown}
use Rattle.lr_machine.specs.declared.shown.Shown.TheVariants as shows
use Rattle.lr_machine.specs.Shown.{shown, shown_renew}
use Rattle.lr_machine.specs.World.{World, next, next_renewal, renewing_in}
use Rattle.lr_world.specs.World.{world_with}
use Rattle.lr_world.proofs.world.serve.Goals as goal

pub returns-in-Exec-clause-next : goal.returns-in-Exec-clause-next
returns-in-Exec-clause-next c =
    let old : World =
    world_with c.args.server.now.entries c.args.moment.now c.args.clients.now in
    subst (λ (event : Event). OnOk c.exec.result
    (world_with c.exec.new.server.entries c.args.moment.now c.exec.new.clients
    ≡ next old event)) (sym c.in-Exec.is) c.exec.ensures.next

pub returns-in-RenewExec-clause-shown : goal.returns-in-RenewExec-clause-shown
returns-in-RenewExec-clause-shown c =
    let old : World =
    world_with c.args.server.now.entries c.args.moment.now c.args.clients.now in
    let client : ℕ = c.in-RenewExec.client in
    subst (λ (event : Event). IfOk c.renew.result (λ (told : Shown). told ≡ shown old event))
    (sym c.in-RenewExec.is)
    (subst (λ (key : WatchKey). IfOk c.renew.result (λ (told : Shown). told
    ≡ shown_renew old client key (renewing_in old client key)))
    c.hold_key-key.ensures c.renew.ensures.shown)

pub returns-in-RenewExec-clause-next : goal.returns-in-RenewExec-clause-next
returns-in-RenewExec-clause-next c =
    let old : World =
    world_with c.args.server.now.entries c.args.moment.now c.args.clients.now in
    let now : World =
    world_with c.renew.new.server.entries c.args.moment.now c.renew.new.clients in
    let client : ℕ = c.in-RenewExec.client in
    subst (λ (event : Event). OnOk c.renew.result (now ≡ next old event))
    (sym c.in-RenewExec.is)
    (subst (λ (key : WatchKey). OnOk c.renew.result (now
    ≡ next_renewal old client key (renewing_in old client key)))
    c.hold_key-key.ensures c.renew.ensures.next)

pub returns-in_ok-standings-in-Show-clause-shown : goal.returns-in_ok-standings-in-Show-clause-shown
returns-in_ok-standings-in-Show-clause-shown c =
    ap shows.Standings c.in_ok-standings-in-Show.ensures
    ∙ ap (λ (event : Event). shown
    (world_with c.args.server.now.entries c.args.moment.now c.args.clients.now) event)
    (sym c.in-Show.is)
