use Rattle.std.proofs.Common.{◌≡◌, ℤ, subst, arith}
use Rattle.std.proofs.lemmas.Int.{ints}
use mir.Syntax.{w64}
use mir.Val.{to_z, of_z}
use Rattle.lr_keys.specs.KeySpace.{Answers, entry_at, field_after_increment, hash_at}
use Rattle.lr_rw.proofs.ChangeLemmas.{counted, has_put}
use Rattle.lr_rw.proofs.holds.put.Goals as goal

pub returns-clause-put : goal.returns-clause-put
returns-clause-put c = λ holds hold at more put.
    let keys = c.args.keys.now in
    let counts = c.args.lock.now.counts in
    let deadlines = c.args.lock.now.deadlines in
    let apart = c.requires.apart in
    let member = c.args.member.now in
    let added = c.hincrby-count.ensures in
    let scored = c.zadd-new.ensures in
    let by : to_z w64 (of_z w64 c.args.by) ≡ c.args.by =
    omega (arith, ints) in
    let answer = subst (λ (n : ℤ). Answers (λ (m : ℤ). m) c.hincrby-count.result
    (field_after_increment member n (hash_at (entry_at keys counts)))) by added.answer in
    has_put keys counts deadlines apart holds at hold more member c.args.by c.args.deadline put
    c.hincrby-count.new.self c.zadd-new.new.self
    (counted keys counts deadlines apart holds at hold more member c.args.by c.args.deadline put
    c.hincrby-count.new.self c.hincrby-count.result answer added.there added.prepared
    added.written added.plans)
    c.zadd-new.result scored.answer scored.there scored.prepared scored.written
