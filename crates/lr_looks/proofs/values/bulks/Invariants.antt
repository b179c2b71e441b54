use Rattle.std.proofs.Common.{◌≡◌, take}
use Rattle.lr_looks.specs.Bulks.{bulk_list}
use Rattle.lr_looks.proofs.values.bulks.Given as goal

abbrev pub invariant-loop-text : goal.invariant-loop-text
invariant-loop-text l = l.frames.items ≡ bulk_list (take l.text-index l.text-items)
