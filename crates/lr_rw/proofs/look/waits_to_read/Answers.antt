use Rattle.std.proofs.Common.{ℕ, max, Ok, ap, ◌∙◌}
use Rattle.lr_rw.specs.Run.{is_held}
use Rattle.lr_rw.proofs.WaitLemmas.{reading}
use Rattle.lr_rw.proofs.look.waits_to_read.Goals as goal

pub returns : goal.returns
returns c = λ holds lease function at.
    let m : ℕ = max c.args.keys.now.moment c.args.moment in
    c.lasts.ensures ∙ ap (λ last. is_held m (Ok last)) (c.writer_beside.ensures holds at)
    ∙ reading m c.args.owner.now lease function holds at.is.apart
