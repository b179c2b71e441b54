use Rattle.std.proofs.Common.{◌++◌, refl, subst, ap, ◌∙◌}
use Rattle.lr_objects.specs.declared.form.Arguments.{Arguments}
use Rattle.lr_objects.specs.Want.{argument_words}
use Rattle.lr_machine.specs.EventText.{IdFits}
use Rattle.lr_schedule.proofs.arguments.read_arguments.Goals as goal

pub returns-in_err-id-in-Id-clause-none : goal.returns-in_err-id-in-Id-clause-none
returns-in_err-id-in-Id-clause-none c = λ _ want rest h is.
    let id = subst (λ (a : Arguments). IdFits a want.id) c.in-Id.is h.id in
    let words = ap (λ (a : Arguments). argument_words a want ++ rest) c.in-Id.is in
    c.in_err-id-in-Id.ensures.none refl want.id rest id (is ∙ words)

pub returns-in_err-id-in-IdAndLease-clause-none :
    goal.returns-in_err-id-in-IdAndLease-clause-none
returns-in_err-id-in-IdAndLease-clause-none c = λ _ want rest h is.
    let id = subst (λ (a : Arguments). IdFits a want.id) c.in-IdAndLease.is h.id in
    let words = ap (λ (a : Arguments). argument_words a want ++ rest) c.in-IdAndLease.is in
    c.in_err-id-in-IdAndLease.ensures.none refl want.id _ id (is ∙ words)
