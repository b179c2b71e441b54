use Rattle.lr_laws.proofs.Latches.{counts_down}
use Rattle.lr_laws.proofs.countdown_laws.latches_count_down.Goals as goal

pub returns : goal.returns
returns c = λ last entries legal. counts_down last entries
