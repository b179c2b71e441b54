use Rattle.lr_outside.proofs.Kept.{kept-dropped}
use Rattle.lr_outside.proofs.window.Window.drop_front.Goals as goal

pub returns : goal.returns
returns c = let w = c.args.self.now in kept-dropped w.buffer.items w.start w.end c.args.count
