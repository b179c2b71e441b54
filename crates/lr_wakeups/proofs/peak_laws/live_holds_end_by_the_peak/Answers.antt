use Rattle.lr_wakeups.proofs.Peaks.{end_by_the_peak}
use Rattle.lr_wakeups.proofs.peak_laws.live_holds_end_by_the_peak.Goals as goal

pub returns : goal.returns
returns c = end_by_the_peak
