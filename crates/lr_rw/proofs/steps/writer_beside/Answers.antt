use Rattle.std.proofs.Common.{ap, sym, ◌∙◌}
use Rattle.std.specs.Str.{bytes_eq}
use Rattle.lr_sorted.proofs.MemberLaws.{eq-sym}
use Rattle.lr_objects.specs.declared.access.Access.TheVariants.{Write}
use Rattle.lr_rw.specs.Holds.{member_text}
use Rattle.lr_rw.proofs.StepLemmas.{nobody_writes, own_writes, other_writes}
use Rattle.lr_rw.proofs.steps.writer_beside.Goals as goal

pub returns-in_err-first : goal.returns-in_err-first
returns-in_err-first c = λ holds at.
    c.from_residual.ensures
    ∙ nobody_writes holds at.is c.args.owner.now
    (sym (c.first_hold.ensures.first holds at) ∙ c.in_err-first.was)

pub returns-then-eq : goal.returns-then-eq
returns-then-eq c = λ holds at.
    let writer = c.writer_of-writer.result in
    own_writes holds at.is c.args.owner.now c.member.ensures.owner c.in_ok-first.first
    (sym (c.first_hold.ensures.first holds at) ∙ c.in_ok-first.was) writer
    c.writer_of-writer.ensures
    (eq-sym (member_text Write c.args.owner.now) writer
    ∙ ap (bytes_eq writer) (sym c.member.ensures.text) ∙ sym c.eq.ensures ∙ c.if-eq.true)

pub returns : goal.returns
returns c = λ holds at.
    let writer = c.writer_of-writer.result in
    other_writes holds at.is c.args.owner.now c.member.ensures.owner c.in_ok-first.first
    (sym (c.first_hold.ensures.first holds at) ∙ c.in_ok-first.was) writer
    c.writer_of-writer.ensures
    (eq-sym (member_text Write c.args.owner.now) writer
    ∙ ap (bytes_eq writer) (sym c.member.ensures.text) ∙ sym c.eq.ensures ∙ c.if-eq.false)
    c.deadline_of.result
    (λ access holder in_holder text. c.deadline_of.ensures holds access holder at in_holder text)
