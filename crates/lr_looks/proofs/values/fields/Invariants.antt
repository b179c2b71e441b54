use Rattle.std.proofs.Common.{◌≡◌, take}
use Rattle.lr_looks.specs.Bulks.{bulk_list}
use Rattle.lr_looks.specs.Looks.{pair_texts}
use Rattle.lr_looks.proofs.values.fields.Given as goal

abbrev pub invariant-loop-pair : goal.invariant-loop-pair
invariant-loop-pair l = l.frames.items ≡ bulk_list (pair_texts (take l.pair-index l.pair-items))
