use Rattle.std.proofs.Common.{drop, map, sym, ap, ◌∙◌}
use Rattle.std.proofs.lemmas.List.{drop-map}
use Rattle.lr_frames.specs.Words.{bulk_text}
use Rattle.lr_frames.proofs.BulkLaws.{drop-are_bulks}
use Rattle.lr_frames.proofs.words.Words.behind.Goals as goal

pub invariant_of-result : goal.invariant_of-result
invariant_of-result c = rw c.behind.ensures (drop-are_bulks c.args.count c.self.inside.items.now c.self.invariant)

pub returns : goal.returns
returns c =
    ap (map bulk_text) c.behind.ensures ∙ sym (drop-map bulk_text c.args.count c.self.inside.items.now)
    ∙ ap (drop c.args.count) c.self.view_is
