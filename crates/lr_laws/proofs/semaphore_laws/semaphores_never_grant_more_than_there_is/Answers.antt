use Rattle.lr_laws.proofs.Semaphores.{never_overgranted}
use Rattle.lr_laws.proofs.semaphore_laws.semaphores_never_grant_more_than_there_is.Goals as goal

pub returns : goal.returns
returns c = λ last entries legal. never_overgranted last entries
