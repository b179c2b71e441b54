use Rattle.std.proofs.Common.{ℕ, max, Ok, ap, sym, ◌∙◌}
use Rattle.lr_keys.specs.KeySpace.{entry_at, score_at}
use Rattle.lr_objects.specs.declared.access.Access.TheVariants.{Write}
use Rattle.lr_rw.specs.Run.{is_held}
use Rattle.lr_rw.proofs.LookLemmas.{score_at-hold}
use Rattle.lr_rw.proofs.WaitLemmas.{writing_again, writing_first}
use Rattle.lr_rw.proofs.look.waits_to_write.Goals as goal

pub returns-then-is_held_at : goal.returns-then-is_held_at
returns-then-is_held_at c = λ holds lease function at.
    let keys = c.args.keys.now in
    let lock = c.args.lock.now in
    let m : ℕ = max keys.moment c.args.moment in
    let owner = c.args.owner.now in
    let member = c.member.ensures in
    writing_again m owner lease function holds at.is.apart
    (ap (is_held m)
    (sym (score_at-hold keys lock.counts lock.deadlines holds at owner Write member.owner))
    ∙ ap (λ t. is_held m (score_at t (entry_at keys lock.deadlines))) (sym member.text)
    ∙ sym c.is_held_at.ensures ∙ c.if-is_held_at.true)

pub returns : goal.returns
returns c = λ holds lease function at.
    let keys = c.args.keys.now in
    let lock = c.args.lock.now in
    let m : ℕ = max keys.moment c.args.moment in
    let owner = c.args.owner.now in
    let member = c.member.ensures in
    c.lasts.ensures ∙ ap (λ last. is_held m (Ok last)) (c.last_deadline.ensures holds at)
    ∙ writing_first m owner lease function holds at.is.apart
    (ap (is_held m)
    (sym (score_at-hold keys lock.counts lock.deadlines holds at owner Write member.owner))
    ∙ ap (λ t. is_held m (score_at t (entry_at keys lock.deadlines))) (sym member.text)
    ∙ sym c.is_held_at.ensures ∙ c.if-is_held_at.false)
