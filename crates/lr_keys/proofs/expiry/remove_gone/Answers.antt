use Rattle.std.proofs.Common.{◌∙◌}
use Rattle.lr_keys.proofs.LiveLemmas.{live_slot-all}
use Rattle.lr_keys.proofs.expiry.remove_gone.Goals as goal

pub returns-clause-slots : goal.returns-clause-slots
returns-clause-slots c = λ q.
    live_slot-all c.gone.slots.entries c.gone.expiries c.args.moment c.gone.invariant.expiries
    c.in_default.ensures.none q
    ∙ c.gone.invariant.slots q
