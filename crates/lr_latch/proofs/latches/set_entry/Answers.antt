use Rattle.std.proofs.Common.{◌≡◌, ◌∙◌, Option, Some, None, Result, Ok, Err, OnOk, OnErr, sym, ap, arith, ◌≢◌}
use Rattle.std.specs.Map.{lookup}
use Rattle.lr_names.specs.contracts.channel.ChannelPartialEq.TheImpl.{ghosts}
use Rattle.lr_model.specs.Table.{put}
use Rattle.lr_model.specs.Board.{same_channel}
use Rattle.lr_latch.specs.Value.{entry_in}
use Rattle.lr_latch.proofs.Entries.{entry_set, waiting_insert, waiting_remove, valid-put, stored}
use Rattle.lr_latch.proofs.latches.set_entry.Goals as goal

-- where only a key that is absent can fail, and this one is there, what was ensured holds
of_present : {T E X P : Type 0} (r : Result T E) (at : Option X)
    → OnErr r (at ≡ None) → at ≢ None → OnOk r P → P
of_present (Ok x) at absent there ok = ok
of_present (Err e) at absent there ok = absurd (there absent)

pub returns-then-is_kept-clause-at : goal.returns-then-is_kept-clause-at
returns-then-is_kept-clause-at c =
    let rows = c.args.entries.now.entries in
    let there = stored rows c.args.channel.now (c.requires.stored (sym c.is_kept.ensures ∙ c.if-is_kept.true)) in
    let updates = of_present c.insert.result (lookup (ghosts.eq c.args.channel.now) rows) c.insert.ensures.absent there c.insert.ensures.updates in
    entry_set c.args.channel.now (Some c.args.entry) rows c.insert.new.self.entries updates.0

pub returns-then-is_kept-clause-waiting : goal.returns-then-is_kept-clause-waiting
returns-then-is_kept-clause-waiting c =
    let rows = c.args.entries.now.entries in
    let there = stored rows c.args.channel.now (c.requires.stored (sym c.is_kept.ensures ∙ c.if-is_kept.true)) in
    let entries = of_present c.insert.result (lookup (ghosts.eq c.args.channel.now) rows) c.insert.ensures.absent there c.insert.ensures.entries in
    rw entries (waiting_insert rows c.args.channel.now c.args.entry)

pub returns-then-is_kept-clause-valid : goal.returns-then-is_kept-clause-valid
returns-then-is_kept-clause-valid c =
    valid-put c.args.channel.now c.args.entry c.args.entries.now.entries
    c.insert.new.self.entries (returns-then-is_kept-clause-at c) c.requires.entry

pub returns-else-is_kept-clause-at : goal.returns-else-is_kept-clause-at
returns-else-is_kept-clause-at c =
    entry_set c.args.channel.now None c.args.entries.now.entries c.swap_remove.new.self.entries
    c.swap_remove.ensures.updates.0
    ∙ ap (put same_channel (entry_in c.args.entries.now.entries) c.args.channel.now)
    (sym (c.requires.entry.kept (sym c.is_kept.ensures ∙ c.if-is_kept.false)))

pub returns-else-is_kept-clause-waiting : goal.returns-else-is_kept-clause-waiting
returns-else-is_kept-clause-waiting c =
    let none = c.requires.entry.kept (sym c.is_kept.ensures ∙ c.if-is_kept.false) in
    rw none (rw c.swap_remove.ensures.entries
    (waiting_remove c.args.entries.now.entries c.args.channel.now ∙ omega arith))

pub returns-else-is_kept-clause-valid : goal.returns-else-is_kept-clause-valid
returns-else-is_kept-clause-valid c =
    valid-put c.args.channel.now c.args.entry c.args.entries.now.entries
    c.swap_remove.new.self.entries (returns-else-is_kept-clause-at c) c.requires.entry
