use Rattle.std.proofs.Common.{rules, ◌≡◌, true, ◌∙◌}
use Rattle.lr_turnstile.specs.Passes.{view}
use Rattle.lr_drill.proofs.Racing.{next_made}
use Rattle.lr_drill.proofs.passes.make_calls.Goals as goal

pub loop-number-preserved : goal.loop-number-preserved
loop-number-preserved g c =
    let i = c.loop-number.invariant in
    let told : c.make_call.result ≡ true = search rules in
    record {
      other = c.make_call.ensures.of;
      caller = c.make_call.ensures.caller ∙ i.caller;
      mine = next_made c.make_call.result (view c.loop-number.pass) (view c.make_call.new.pass)
          (view c.args.pass).caller c.loop-number.number told i.caller i.mine
          c.make_call.ensures.made;
    }
