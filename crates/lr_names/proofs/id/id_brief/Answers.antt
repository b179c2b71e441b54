use Rattle.std.proofs.Common.{ap, length, ◌∙◌}
use Rattle.lr_names.proofs.OwnerLaws.{length-id_text}
use Rattle.lr_names.proofs.id.id_brief.Goals as goal

pub returns-clause-long : goal.returns-clause-long
returns-clause-long c = ap length c.written.ensures ∙ length-id_text c.args.id.now
