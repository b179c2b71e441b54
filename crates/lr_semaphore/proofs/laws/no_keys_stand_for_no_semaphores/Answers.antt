use Rattle.lr_semaphore.proofs.StandsLaws.{no_keys_stand}
use Rattle.lr_semaphore.proofs.laws.no_keys_stand_for_no_semaphores.Goals as goal

pub returns : goal.returns
returns c = no_keys_stand
