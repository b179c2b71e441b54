use Rattle.std.proofs.Common.{sym, ◌∙◌}
use Rattle.lr_names.proofs.OwnerLaws.{length-owner_text, owner_text-injective}
use Rattle.lr_names.proofs.owner.Owner.brief.Goals as goal

pub returns-clause-short : goal.returns-clause-short
returns-clause-short c =
    rw c.written.ensures.text (length-owner_text c.args.self.now c.written.ensures.owner.thread)

pub returns-clause-alone : goal.returns-clause-alone
returns-clause-alone c = λ other h same.
    owner_text-injective c.args.self.now other c.written.ensures.owner h (sym c.written.ensures.text ∙ same)
