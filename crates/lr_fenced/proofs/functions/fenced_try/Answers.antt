use Rattle.std.proofs.Common.{◌≡◌, ℕ, List, Option, max, ap, sym, ◌∙◌, arith, rules}
use Rattle.lr_keys.specs.KeySpace.{Plan, entry_at, live_entries}
use Rattle.lr_model.specs.Fenced.{take_fenced}
use Rattle.lr_fenced.proofs.RunLemmas.{bad_lease_run, lease_run}
use Rattle.lr_fenced.proofs.functions.fenced_try.Goals as goal

pub returns-then-not-is_lease-clause-run : goal.returns-then-not-is_lease-clause-run
returns-then-not-is_lease-clause-run c =
    let lease = c.args.lease in
    let passed = c.advance.ensures in
    bad_lease_run c.args.keys.now _ (omega arith) (omega arith) c.args.name.now c.requires.name
    c.advance.new.self passed.moment passed.entries
    (λ moment lock. take_fenced moment c.args.owner.now lease lock.token lock.held) lease
    (search rules)

pub returns-clause-run : goal.returns-clause-run
returns-clause-run c =
    let lease = c.args.lease in
    let roomy = c.make_rooms.new.keys in
    let stays = c.make_rooms.ensures.same in
    let m : ℕ = max c.args.keys.now.moment c.args.moment in
    let same : max roomy.moment c.args.moment ≡ m = ap (λ n. max n c.args.moment) stays.moment in
    let left =
    c.advance-2.ensures.entries ∙ ap (λ n. live_entries n (entry_at roomy)) same
    ∙ ap (live_entries m) stays.entries in
    let taken = c.take_lock.ensures in
    lease_run c.args.keys.now m (omega arith) (omega arith) c.args.name.now c.requires.name
    c.advance-2.new.self c.take_lock.new.keys (c.advance-2.ensures.moment ∙ same) left taken.moment
    c.take_lock.result
    (λ moment lock. take_fenced moment c.args.owner.now lease lock.token lock.held) lease
    (search rules) c.key-hash.result c.key-counter.result c.key-hash.ensures.text
    c.key-counter.ensures.text taken.others
    (λ counter_stays. taken.step (λ none.
    ap (λ (f : List ℕ → Option Plan). f c.key-counter.result) c.advance-2.ensures.prepared
    ∙ c.in_ok-make_rooms.ensures.counter (sym counter_stays ∙ none)))
