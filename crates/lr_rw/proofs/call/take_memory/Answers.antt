use Rattle.std.proofs.Common.{ℕ, max, sym, subst, ◌∙◌, ap}
use Rattle.lr_keys.specs.KeySpace.{entry_at, score_at}
use Rattle.lr_model.specs.ReadWrite.{live_holds}
use Rattle.lr_rw.specs.Run.{LacksHold, is_held}
use Rattle.lr_rw.proofs.RunLemmas.{not_lacking}
use Rattle.lr_rw.proofs.call.take_memory.Goals as goal

pub returns-then-is_held_at-clause-ready : goal.returns-then-is_held_at-clause-ready
returns-then-is_held_at-clause-ready c = λ holds at lacks.
    let m : ℕ = max c.args.keys.now.moment c.args.moment in
    let entry = entry_at c.args.keys.now c.args.lock.now.deadlines in
    absurd (not_lacking c.args.keys.now c.args.lock.now.counts c.args.lock.now.deadlines holds at
    c.in-Take.owner c.in-Take.access c.member-member.ensures.owner m
    (ap (λ t. is_held m (score_at t entry)) (sym c.member-member.ensures.text)
    ∙ sym c.is_held_at.ensures ∙ c.if-is_held_at.true)
    (subst (λ call. LacksHold call (live_holds m holds)) c.in-Take.is lacks))
