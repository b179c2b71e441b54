use Rattle.lr_limits.specs.Limits.{amount_limit}
use Rattle.lr_names.specs.declared.part.Part.TheVariants.{Countdown}
use Rattle.lr_counter.proofs.NumbersLaws.{numbers_stand_settled}
use Rattle.lr_countdown.proofs.call.run.Goals as goal

pub returns-clause-stands : goal.returns-clause-stands
returns-clause-stands c = λ objects stand.
    numbers_stand_settled Countdown amount_limit c.answer.new.keys _
    (c.in_ok-answer.ensures.run.stands objects stand) c.settle.new.self c.settle.ensures.entries
