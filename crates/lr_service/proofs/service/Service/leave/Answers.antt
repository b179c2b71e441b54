use Rattle.lr_turnstile.specs.Passes.{view}
use Rattle.lr_service.proofs.HadTurns.{had_left_with, had_left_same}
use Rattle.lr_service.proofs.service.Service.leave.Goals as goal

pub returns-in-Some-clause-left : goal.returns-in-Some-clause-left
returns-in-Some-clause-left c =
    had_left_with (view c.args.pass.now) (view c.leave_with.new.pass) c.args.made c.in-Some.entry
    c.in-Some.is c.leave_with.ensures.left c.leave_with.ensures.own

pub returns-in-None-clause-left : goal.returns-in-None-clause-left
returns-in-None-clause-left c =
    had_left_same (view c.args.pass.now) (view c.leave_same.new.pass) c.args.made c.in-None.is
    c.leave_same.ensures.left c.requires.own
