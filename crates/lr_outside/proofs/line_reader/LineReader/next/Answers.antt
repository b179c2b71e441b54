use Rattle.lr_outside.proofs.Turns.{OnFalse-from, kept_turn}
use Rattle.lr_outside.proofs.line_reader.LineReader.next.Goals as goal

pub returns-in-Some-clause-turn : goal.returns-in-Some-clause-turn
returns-in-Some-clause-turn g c =
    OnFalse-from c.args.self.now.stuck (kept_turn c.args.self.now c.take_kept.new.self (g.S.Source.left c.args.source.now) c.in-Some.turn c.in-Some.ensures)
