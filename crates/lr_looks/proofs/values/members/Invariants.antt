use Rattle.std.proofs.Common.{◌≡◌, take}
use Rattle.lr_looks.specs.Bulks.{bulk_list}
use Rattle.lr_looks.specs.Looks.{member_names}
use Rattle.lr_looks.proofs.values.members.Given as goal

abbrev pub invariant-loop-member : goal.invariant-loop-member
invariant-loop-member l =
    l.frames.items ≡ bulk_list (member_names (take l.member-index l.member-items))
