use Rattle.std.proofs.Common.{◌∙◌, ap, sym}
use Rattle.lr_watchdog.proofs.Rows.{slot_get, found}
use Rattle.lr_watchdog.proofs.slots.find_slot.Goals as goal

pub returns-in-Some : goal.returns-in-Some
returns-in-Some c =
    ap found c.in-Some.ensures.value
    ∙ sym (slot_get c.args.slots.now.entries c.args.key.now)

pub returns-in-None : goal.returns-in-None
returns-in-None c =
    c.no_slot.ensures ∙ ap found c.in-None.ensures.value
    ∙ sym (slot_get c.args.slots.now.entries c.args.key.now)
