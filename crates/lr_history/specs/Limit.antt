-- When a history takes no more: a limit of this project's own.
use Rattle.std.specs.Prelude.{Bool, true, false, ◌&&◌, nat_le, List, length}
use Rattle.lr_limits.specs.Limits.{entry_limit}
use Rattle.lr_model.specs.declared.entry.Act.{Act}
use Rattle.lr_model.specs.declared.entry.Act.TheVariants.{Call, Subscribe, Unsubscribe, Open, Close, Drain}
use Rattle.lr_model.specs.declared.entry.Entry.{Entry}

-- whether the limit holds for an act: for all but a close, so that every connection can be closed
abbrev pub is_limited : Act → Bool
is_limited (Call op) = true
is_limited (Subscribe channel) = true
is_limited (Unsubscribe channel) = true
is_limited Open = true
is_limited Close = false
is_limited (Drain most) = true

-- whether a history of these entries refuses an act: it has as many entries as it may
abbrev pub is_refused : List Entry → Act → Bool
is_refused entries act = is_limited act && nat_le entry_limit (length entries)
