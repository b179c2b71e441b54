-- what is moved to the front
use Rattle.std.proofs.Common.{◌≡◌, ◌≤◌, ◌-◌, ap, ◌∙◌, take, drop, arith, rules, length, length-take}
use Rattle.lr_program.specs.Recent.{Recent}
use Rattle.lr_program.proofs.RecentLaws.{front_moved}
use Rattle.lr_program.proofs.recent_bytes.RecentBytes.drop_front.Goals as goal

pub returns-clause-bytes : goal.returns-clause-bytes
returns-clause-bytes c =
    let xs = c.self.inside.buffer.items in
    let len = c.self.inside.len in
    let kept : take len xs ≡ c.args.self.now.bytes = ap (λ (r : Recent). r.bytes) c.self.view_is in
    let size = ap length kept in
    let within : c.args.count ≤ len = omega (arith, length-take len xs) in
    let in_buffer : len ≤ length xs = search rules in
    ap (take (len - c.args.count)) c.copy_within.ensures.items
    ∙ front_moved xs c.args.count len within in_buffer ∙ ap (drop c.args.count) kept
