use Rattle.lr_machine_laws.proofs.Schedules.{goes_well}
use Rattle.lr_machine_wakeups.proofs.Schedules.{none_lost_throughout}
use Rattle.lr_machine_renewals.proofs.Schedules.{renewed_throughout}
use Rattle.lr_play.proofs.Progress.{nothing_written}
use Rattle.lr_play.proofs.Ends.{completes, end_of_play}
use Rattle.lr_play.proofs.top.play_top.Goals as goal

pub returns-then-not-is_play-clause-every_event : goal.returns-then-not-is_play-clause-every_event
returns-then-not-is_play-clause-every_event g c = goes_well

pub returns-in-Ok-clause-every_event : goal.returns-in-Ok-clause-every_event
returns-in-Ok-clause-every_event g c = goes_well

pub returns-in-Err-clause-every_event : goal.returns-in-Err-clause-every_event
returns-in-Err-clause-every_event g c = goes_well

pub returns-then-not-is_play-clause-awake : goal.returns-then-not-is_play-clause-awake
returns-then-not-is_play-clause-awake g c = none_lost_throughout

pub returns-in-Ok-clause-awake : goal.returns-in-Ok-clause-awake
returns-in-Ok-clause-awake g c = none_lost_throughout

pub returns-in-Err-clause-awake : goal.returns-in-Err-clause-awake
returns-in-Err-clause-awake g c = none_lost_throughout

pub returns-then-not-is_play-clause-renews : goal.returns-then-not-is_play-clause-renews
returns-then-not-is_play-clause-renews g c = renewed_throughout

pub returns-in-Ok-clause-renews : goal.returns-in-Ok-clause-renews
returns-in-Ok-clause-renews g c = renewed_throughout

pub returns-in-Err-clause-renews : goal.returns-in-Err-clause-renews
returns-in-Err-clause-renews g c = renewed_throughout

pub returns-in-Ok-clause-complete : goal.returns-in-Ok-clause-complete
returns-in-Ok-clause-complete g c = λ all before events words left held are no_read no_write.
    let told = c.run.ensures.ends all before left held in
    completes c.run.result all told.0 before told.1 events _ _ _ _ told.4 c.run.ensures.read_counts c.run.ensures.write_counts are no_read no_write

pub returns-in-Err-clause-ends : goal.returns-in-Err-clause-ends
returns-in-Err-clause-ends g c = λ is all before left held. (all, before, left, held, nothing_written all before)

pub returns-in-Ok-clause-no_other : goal.returns-in-Ok-clause-no_other
returns-in-Ok-clause-no_other g c = end_of_play c.run.result c.run.ensures.no_other
