use Rattle.std.proofs.Common.{◌∙◌, arith, rules}
use Rattle.lr_model.specs.Fair.{first_post, live_places, with_queue}
use Rattle.lr_model.specs.Hold.{give_back_hold}
use Rattle.lr_fair.proofs.RunLemmas.{bad_lease_run, lease_run, swept_step}
use Rattle.lr_fair.proofs.functions.fair_unlock.Goals as goal

pub returns-then-not-is_lease : goal.returns-then-not-is_lease
returns-then-not-is_lease c =
    let rest = c.args.rest in
    let name = c.args.name.now in
    let passed = c.advance.ensures in
    bad_lease_run c.args.keys.now _ (omega arith) (omega arith) name c.requires.name
    c.advance.new.self passed.moment passed.entries
    (λ m lock. with_queue (live_places m lock.queue)
    (give_back_hold (first_post name (live_places m lock.queue)) m c.args.owner.now rest lock.held))
    rest (search rules)

pub returns : goal.returns
returns c =
    let keys = c.args.keys.now in
    let name = c.args.name.now in
    let lock = c.of-lock.result in
    let named = c.of-lock.ensures in
    let owner = c.args.owner.now in
    let rest = c.args.rest in
    let middle = c.advance.new.self in
    let left = c.remove_stale.new.keys in
    let passed = c.advance.ensures in
    let removed = c.remove_stale.ensures in
    let given = c.unlock.ensures in
    lease_run keys _ (omega arith) (omega arith) name c.requires.name middle c.unlock.new.keys
    passed.moment passed.entries (given.moment ∙ removed.moment) c.unlock.result
    (λ n fair. with_queue (live_places n fair.queue)
    (give_back_hold (first_post name (live_places n fair.queue)) n owner rest fair.held)) rest
    (search rules) lock.hold lock.queue lock.stales named.hold named.queue named.stales
    (λ q one two three. given.others q one ∙ removed.others q two three)
    (λ fair was at.
    swept_step lock.hold lock.queue lock.stales named.apart middle left c.unlock.new.keys
    removed.live removed.others removed.moment c.unlock.result
    (λ n swept. with_queue swept.queue
    (give_back_hold (first_post name swept.queue) n owner rest swept.held)) fair at
    (λ here live. given.step
    (record { held = fair.held; queue = live_places middle.moment fair.queue }) here))
