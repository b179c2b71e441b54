use Rattle.lr_laws.proofs.Tokens.{tokens_grow}
use Rattle.lr_laws.proofs.fenced_laws.tokens_strictly_grow.Goals as goal

pub returns : goal.returns
returns c = tokens_grow
