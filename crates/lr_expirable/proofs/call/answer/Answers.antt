use Rattle.std.proofs.Common.{ℕ, max, ap, ◌∙◌, rules}
use Rattle.lr_keys.specs.KeySpace.{entry_at, live_entries}
use Rattle.lr_model.specs.Permits.{live_permits}
use Rattle.lr_expirable.proofs.RunLemmas.{permit_run, ready-still}
use Rattle.lr_expirable.proofs.call.answer.Goals as goal

pub returns-clause-run : goal.returns-clause-run
returns-clause-run c =
    let number = c.args.permits.now.number in
    let leases = c.args.permits.now.leases in
    let roomy = c.take_memory.new.keys in
    let middle = c.advance-2.new.self in
    let left = c.remove_expired.new.keys in
    let stays = c.take_memory.ensures.same in
    let passed = c.advance-2.ensures in
    let removed = c.remove_expired.ensures in
    let stepped = c.step.ensures in
    let m : ℕ = max c.args.keys.now.moment c.args.moment in
    let same = ap (λ n. max n c.args.moment) stays.moment in
    permit_run c.args.keys.now roomy middle left c.step.new.keys number leases c.requires.apart m stays
    (passed.moment ∙ same) (passed.entries ∙ ap (λ n. live_entries n (entry_at roomy)) same)
    removed.live removed.others removed.moment c.args.call.now
    (search rules)
    (λ permits at. ready-still c.args.call.now roomy left number leases (live_permits m permits)
    (removed.prepared ∙ passed.prepared) (c.in_ok-take_memory.ensures.ready permits at))
    c.args.name.now c.step.result stepped.step stepped.others stepped.moment
