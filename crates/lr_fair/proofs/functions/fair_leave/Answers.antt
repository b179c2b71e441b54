use Rattle.std.proofs.Common.{◌∙◌, arith}
use Rattle.lr_model.specs.Fair.{leave_with, live_places, place_of}
use Rattle.lr_fair.proofs.RunLemmas.{step_run, swept_step}
use Rattle.lr_fair.proofs.functions.fair_leave.Goals as goal

pub returns : goal.returns
returns c =
    let keys = c.args.keys.now in
    let name = c.args.name.now in
    let lock = c.of-lock.result in
    let named = c.of-lock.ensures in
    let owner = c.args.owner.now in
    let middle = c.advance.new.self in
    let left = c.remove_stale.new.keys in
    let passed = c.advance.ensures in
    let removed = c.remove_stale.ensures in
    let given = c.leave.ensures in
    step_run keys _ (omega arith) (omega arith) name c.requires.name middle c.leave.new.keys
    passed.moment passed.entries (given.moment ∙ removed.moment) c.leave.result
    (λ n fair. leave_with name owner fair.held (live_places n fair.queue)
    (place_of owner (live_places n fair.queue)))
    lock.hold lock.queue lock.stales named.hold named.queue named.stales
    (λ q one two three. given.others q two three ∙ removed.others q two three)
    (λ fair was at.
    swept_step lock.hold lock.queue lock.stales named.apart middle left c.leave.new.keys
    removed.live removed.others removed.moment c.leave.result
    (λ n swept. leave_with name owner swept.held swept.queue (place_of owner swept.queue)) fair at
    (λ here live. given.step
    (record { held = fair.held; queue = live_places middle.moment fair.queue }) here))
