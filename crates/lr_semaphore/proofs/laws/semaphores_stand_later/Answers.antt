use Rattle.lr_semaphore.proofs.StandsLaws.{semaphores_stand_later}
use Rattle.lr_semaphore.proofs.laws.semaphores_stand_later.Goals as goal

pub returns : goal.returns
returns c = semaphores_stand_later
