use Rattle.std.proofs.Common.{◌≡◌, ℕ, None, max, ap, ◌∙◌, subst, arith, rules}
use Rattle.lr_names.specs.Owner.{owner_text}
use Rattle.lr_keys.specs.KeySpace.{entry_at, live_entries}
use Rattle.lr_model.specs.Fair.{live_places, place_of, take_fair}
use Rattle.lr_fair.proofs.RunLemmas.{bad_lease_run, lease_run, ready-still, swept_step}
use Rattle.lr_fair.proofs.functions.fair_try.Goals as goal

pub returns-then-not-is_lease-clause-run : goal.returns-then-not-is_lease-clause-run
returns-then-not-is_lease-clause-run c =
    let lease = c.args.lease in
    let passed = c.advance.ensures in
    bad_lease_run c.args.keys.now _ (omega arith) (omega arith) c.args.name.now c.requires.name
    c.advance.new.self passed.moment passed.entries
    (λ m lock. take_fair m c.args.owner.now lease c.args.queues (live_places m lock.queue) lock.held)
    lease (search rules)

pub returns-clause-run : goal.returns-clause-run
returns-clause-run c =
    let keys = c.args.keys.now in
    let lock = c.of-lock.result in
    let named = c.of-lock.ensures in
    let owner = c.args.owner.now in
    let lease = c.args.lease in
    let queues = c.args.queues in
    let roomy = c.take_memory.new.keys in
    let middle = c.advance-2.new.self in
    let left = c.remove_stale.new.keys in
    let stays = c.take_memory.ensures.same in
    let m : ℕ = max keys.moment c.args.moment in
    let same : max roomy.moment c.args.moment ≡ m =
    ap (λ n. max n c.args.moment) stays.moment in
    let passed = c.advance-2.ensures in
    let now : middle.moment ≡ m = passed.moment ∙ same in
    let entries =
    passed.entries ∙ ap (λ n. live_entries n (entry_at roomy)) same
    ∙ ap (live_entries m) stays.entries in
    let removed = c.remove_stale.ensures in
    let taken = c.take.ensures in
    lease_run keys m (omega arith) (omega arith) c.args.name.now c.requires.name middle
    c.take.new.keys now entries (taken.moment ∙ removed.moment) (c.take.result, None)
    (λ n fair. take_fair n owner lease queues (live_places n fair.queue) fair.held) lease
    (search rules) lock.hold lock.queue lock.stales named.hold named.queue named.stales
    (λ q one two three. taken.others q one two three ∙ removed.others q two three)
    (λ fair was at.
    swept_step lock.hold lock.queue lock.stales named.apart middle left c.take.new.keys removed.live
    removed.others removed.moment (c.take.result, None)
    (λ n swept. take_fair n owner lease queues swept.queue swept.held) fair at
    (λ here live. taken.step (record { held = fair.held; queue = live_places middle.moment fair.queue })
    here live (λ asks none.
    ready-still roomy left lock.queue lock.stales (owner_text owner)
    (removed.prepared ∙ passed.prepared)
    (c.in_ok-take_memory.ensures.ready fair.queue was asks
    (subst (λ n. place_of owner (live_places n fair.queue) ≡ None) now none)))))
