use Rattle.lr_fair.proofs.RunLemmas.{settled_stands}
use Rattle.lr_fair.proofs.call.run.Goals as goal

pub returns-clause-stands : goal.returns-clause-stands
returns-clause-stands c =
    settled_stands c.args.keys.now c.answer-answered.new.keys c.settle.new.self _ c.args.name.now
    c.args.call.now c.answer-answered.result c.answer-answered.ensures.run c.settle.ensures.moment
    c.settle.ensures.entries
