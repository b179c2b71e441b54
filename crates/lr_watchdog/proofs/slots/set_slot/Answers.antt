use Rattle.std.proofs.Common.{ap, sym, ◌∙◌}
use Rattle.lr_model.specs.Table.{put}
use Rattle.lr_waiting.specs.Watchdog.{same_watch}
use Rattle.lr_watchdog.specs.Value.{slot_in}
use Rattle.lr_watchdog.proofs.Rows.{not_kept}
use Rattle.lr_watchdog.proofs.slots.set_slot.Goals as goal

pub returns-else-is_kept-clause-at : goal.returns-else-is_kept-clause-at
returns-else-is_kept-clause-at c =
    c.remove_slot.ensures.at
    ∙ ap (put same_watch (slot_in c.args.slots.now.entries) c.args.key.now)
    (not_kept c.args.slot (sym c.is_kept.ensures ∙ c.if-is_kept.false))
