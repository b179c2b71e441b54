use Rattle.lr_wakeups.proofs.Peaks.{refused_until_the_peak}
use Rattle.lr_wakeups.proofs.peak_laws.refused_calls_wait_until_the_peak.Goals as goal

pub returns : goal.returns
returns c = refused_until_the_peak
