use Rattle.std.proofs.Common.{Some}
use Rattle.lr_latch.proofs.Entries.{entry_set, waiting_insert, waiting-few, valid-put}
use Rattle.lr_latch.proofs.latches.add_entry.Goals as goal

pub returns-clause-at : goal.returns-clause-at
returns-clause-at c =
    entry_set c.args.channel.now (Some c.args.entry) c.args.entries.now.entries
    c.insert.new.self.entries c.in_ok-insert.ensures.updates.0

pub returns-clause-waiting : goal.returns-clause-waiting
returns-clause-waiting c =
    rw c.in_ok-insert.ensures.entries
    (waiting_insert c.args.entries.now.entries c.args.channel.now c.args.entry)

pub returns-clause-valid : goal.returns-clause-valid
returns-clause-valid c =
    valid-put c.args.channel.now c.args.entry c.args.entries.now.entries
    c.insert.new.self.entries (returns-clause-at c)

pub returns-clause-few : goal.returns-clause-few
returns-clause-few c = waiting-few c.args.entries.now.entries
