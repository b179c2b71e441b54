use Rattle.lr_server.proofs.Shown.{one_frame}
use Rattle.lr_server.proofs.laws.looks_are_told_by_the_objects.Goals as goal

pub returns : goal.returns
returns c = one_frame
