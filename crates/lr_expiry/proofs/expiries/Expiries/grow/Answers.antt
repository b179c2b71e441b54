use Rattle.std.proofs.Common.{◌≡◌, ◌+◌, ◌-◌, ◌<◌, suc, drop, length, arith}
use Rattle.std.proofs.lemmas.Grind.{common_steps}
use Rattle.std.proofs.lemmas.List.{length-drop}
use Rattle.lr_expiry.proofs.TreeLemmas.{copied_more}
use Rattle.lr_expiry.specs.declared.limits.TheConstants.{NO_EXPIRY}
use Rattle.lr_expiry.proofs.expiries.Expiries.grow.Goals as goal

pub loop-place-preserved : goal.loop-place-preserved
loop-place-preserved c =
    let leaves = drop c.self.inside.places c.self.inside.tree.items in
    let rest = c.self.inside.places + c.max-more.result - (c.loop-place.place + 1) in
    let n : c.self.inside.places + c.max-more.result - c.loop-place.place ≡ suc rest = omega arith in
    let within : c.loop-place.place < length leaves = omega (arith, length-drop c.self.inside.places c.self.inside.tree.items, c.self.invariant.len) in
    let copied = copied_more leaves c.loop-place.place rest NO_EXPIRY within in
    grind (arith, common_steps, copied, n)
