use Rattle.std.proofs.Common.{sym, ap, ◌∙◌}
use Rattle.std.specs.Prelude.{slice_get}
use Rattle.lr_sorted.proofs.EntryLaws.{insert-others}
use Rattle.lr_sorted.proofs.SortedLaws.{put-is}
use Rattle.lr_sorted.proofs.scores.add_score.Goals as goal

pub returns-clause-put : goal.returns-clause-put
returns-clause-put c =
    let old = c.args.scores.now.entries in
    let index = rw c.unwrap-place.ensures at c.insert_full.ensures.index in
    let updates = rw c.unwrap-place.ensures at c.insert_full.ensures.updates in
    let entries = rw c.unwrap-place.ensures at c.insert_full.ensures.entries in
    put-is old c.insert_full.new.self.entries c.args.member.now c.args.score c.unwrap-place.result.0
    c.len-count.ensures.unique c.insert_full.ensures.unique
    (λ q. updates.0 q)
    (λ j apart. ap (λ l. slice_get l j) entries
    ∙ insert-others old c.args.member.now c.args.score j (λ f. apart (f ∙ sym index)))
