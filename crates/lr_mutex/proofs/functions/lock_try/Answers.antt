use Rattle.std.proofs.Common.{◌≡◌, ℕ, max, ap, ◌∙◌, arith, rules}
use Rattle.lr_keys.specs.KeySpace.{entry_at, live_entries}
use Rattle.lr_model.specs.Hold.{take_hold}
use Rattle.lr_mutex.proofs.RunLemmas.{lease_run, bad_lease_run}
use Rattle.lr_mutex.proofs.functions.lock_try.Goals as goal

pub returns-then-not-is_lease-clause-run : goal.returns-then-not-is_lease-clause-run
returns-then-not-is_lease-clause-run c =
    let lease = c.args.lease in
    let passed = c.advance.ensures in
    bad_lease_run c.args.keys.now _ (omega arith) (omega arith) c.args.name.now c.requires.name
    c.advance.new.self passed.moment passed.entries
    (λ moment. take_hold moment c.args.owner.now lease) lease (search rules)

pub returns-clause-run : goal.returns-clause-run
returns-clause-run c =
    let lease = c.args.lease in
    let roomy = c.make_room.new.keys in
    let m : ℕ = max c.args.keys.now.moment c.args.moment in
    let same : max roomy.moment c.args.moment ≡ m =
    ap (λ n. max n c.args.moment) c.make_room.ensures.moment in
    let left =
    c.advance-2.ensures.entries ∙ ap (λ n. live_entries n (entry_at roomy)) same
    ∙ ap (live_entries m) c.make_room.ensures.entries in
    let taken = c.take.ensures in
    lease_run c.args.keys.now m (omega arith) (omega arith) c.args.name.now c.requires.name
    c.advance-2.new.self c.take.new.keys (c.advance-2.ensures.moment ∙ same) left taken.moment
    c.take.result (λ moment. take_hold moment c.args.owner.now lease) lease (search rules)
    c.key-key.result c.key-key.ensures.text taken.others taken.step
