use Rattle.std.proofs.Common.{◌∙◌, ap, sym}
use Rattle.lr_latch.proofs.Entries.{entry_get, found}
use Rattle.lr_latch.proofs.latches.find_entry.Goals as goal

pub returns-in-Some : goal.returns-in-Some
returns-in-Some c =
    ap found c.in-Some.ensures.value
    ∙ sym (entry_get c.args.entries.now.entries c.args.channel.now)

pub returns-in-None : goal.returns-in-None
returns-in-None c =
    c.no_entry.ensures ∙ ap found c.in-None.ensures.value
    ∙ sym (entry_get c.args.entries.now.entries c.args.channel.now)
