use Rattle.std.proofs.Common.{rules, ◌≡◌, refl, subst}
use Rattle.lr_model.specs.declared.entry.Act.TheVariants as acts
use Rattle.lr_turnstile.specs.Passes.{view}
use Rattle.lr_service.specs.Calls.{IsServedTo}
use Rattle.lr_drill.proofs.Racing.{answer_made}
use Rattle.lr_drill.proofs.passes.make_call.Goals as goal

pub returns-in-Ok-clause-made : goal.returns-in-Ok-clause-made
returns-in-Ok-clause-made g c =
    let before = view c.args.pass.now in
    let now = view c.call.new.pass in
    let reading : c.from.result ≡ c.args.number = search rules in
    let served = subst
    (λ n. IsServedTo before n 0 (acts.Call c.call_of.result) c.call.result now) reading
    (c.call.ensures.served (acts.Call c.call_of.result) refl) in
    answer_made c.tells_reply.result before now c.thread_of.result c.args.number c.call_of.result
    c.call.result c.in-Ok.answered c.thread_of.ensures c.call_of.ensures c.ranges.number.fits
    served c.in-Ok.is c.tells_reply.ensures
