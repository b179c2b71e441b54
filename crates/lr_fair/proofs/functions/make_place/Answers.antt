use Rattle.std.proofs.Common.{ℕ, max, sym, ◌∙◌}
use Rattle.lr_keys.specs.KeySpace.{entry_at}
use Rattle.lr_fair.proofs.RunLemmas.{not_lacking}
use Rattle.lr_fair.proofs.functions.make_place.Goals as goal

pub returns-then-is_placed_at-clause-ready : goal.returns-then-is_placed_at-clause-ready
returns-then-is_placed_at-clause-ready c = λ queue at asks none.
    let keys = c.args.keys.now in
    let m : ℕ = max keys.moment c.args.moment in
    let placed = c.is_placed_at.ensures in
    absurd (not_lacking (entry_at keys c.args.lock.now.queue) (entry_at keys c.args.lock.now.stales)
    queue at c.args.owner.now placed.owner m (sym placed.placed ∙ c.if-is_placed_at.true) none)
