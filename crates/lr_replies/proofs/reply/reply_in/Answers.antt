use Rattle.std.proofs.Common.{refl, sym, ap, ◌∙◌}
use Rattle.lr_replies.specs.Reading.{reply_of}
use Rattle.lr_replies.specs.declared.role.Role.{Role}
use Rattle.lr_replies.proofs.FrameLaws.{frame_from, none_looks, none_read}
use Rattle.lr_replies.proofs.reply.reply_in.Goals as goal

pub returns-in_err-shape-clause-none : goal.returns-in_err-shape-clause-none
returns-in_err-shape-clause-none c none =
    none_looks c.args.frame.now c.args.function (c.in_err-shape.ensures.none refl)

pub returns-in_err-reply-clause-none : goal.returns-in_err-reply-clause-none
returns-in_err-reply-clause-none c none =
    none_read c.args.frame.now c.args.function c.in_ok-shape.shape c.in_ok-shape.ensures.some.0
    c.in_ok-shape.ensures.some.1
    (ap (λ (role : Role). reply_of role c.in_ok-shape.shape) (sym c.of.ensures)
    ∙ sym c.in_err-reply.ensures)

pub returns-clause-some : goal.returns-clause-some
returns-clause-some c =
    frame_from c.args.frame.now c.args.function c.in_ok-shape.shape c.in_ok-reply.reply
    c.check.ensures c.in_ok-shape.ensures.some.1
    (ap (λ (role : Role). reply_of role c.in_ok-shape.shape) (sym c.of.ensures)
    ∙ sym c.in_ok-reply.ensures)
