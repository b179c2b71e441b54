use Rattle.std.proofs.Common.{sym, ◌∙◌}
use Rattle.lr_keys.proofs.TableLaws.{bytes_eq-other}
use Rattle.lr_expirable.proofs.StepLemmas.{freed_step}
use Rattle.lr_expirable.proofs.functions.release.Goals as goal

pub returns-clause-step : goal.returns-clause-step
returns-clause-step c = λ object at.
    let number = c.args.permits.now.number in
    let leases = c.args.permits.now.leases in
    let id = c.args.id.now in
    let brief = c.id_brief.ensures in
    freed_step c.args.keys.now number leases object at c.args.name.now id
    (sym (c.remove.ensures.found object.leases id at.leases_at brief.id brief.text) ∙ c.if-not-remove.false)
    c.remove.new.keys
    (c.remove.ensures.others number (bytes_eq-other leases number (λ e. c.requires.apart (sym e))))
    (c.remove.ensures.removed c.if-not-remove.false object.leases id at.leases_at brief.id brief.text)
    c.post.result c.post.ensures
