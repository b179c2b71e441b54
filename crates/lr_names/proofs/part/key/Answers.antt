use Rattle.std.proofs.Common.{sym, ◌∙◌}
use Rattle.lr_names.proofs.KeyLaws.{key_text-injective}
use Rattle.lr_names.proofs.part.key.Goals as goal

pub returns-clause-alone : goal.returns-clause-alone
returns-clause-alone c = λ other n same.
    key_text-injective c.args.part other c.args.name.now n (sym c.spelled.ensures ∙ same)
