use Rattle.std.proofs.Common.{Err, refl, sym, ap, ◌∙◌}
use Rattle.lr_model.specs.declared.entry.Act.TheVariants.{Call}
use Rattle.lr_world.proofs.CallLaws.{dropped_so, entry_made_is, no_fault, reached_so, reply_told, result_is, same_reply}
use Rattle.lr_world.proofs.Servers.{none_some, only_memory}
use Rattle.lr_world.proofs.call.call.Goals as goal

pub told-requires : goal.told-requires
told-requires c =
    let result = result_is c.args.server.now c.args.moment c.args.caller c.args.conn
    c.args.op.now c.requires.first c.requires.may c.requires.early in
    (_, reply_told _ _ (c.in-Ok.ensures.answer (Call c.args.op.now) refl ∙ result))

pub returns-in-Ok-clause-called : goal.returns-in-Ok-clause-called
returns-in-Ok-clause-called c =
    let result = result_is c.args.server.now c.args.moment c.args.caller c.args.conn
    c.args.op.now c.requires.first c.requires.may c.requires.early in
    record {
      reply =
          same_reply _ _
          (sym c.told.ensures.reply
          ∙ reply_told _ _ (c.in-Ok.ensures.answer (Call c.args.op.now) refl ∙ result));
      post =
          c.told.ensures.post
          ∙ reached_so c.args.server.now c.args.moment c.args.caller c.args.conn c.args.op.now
          c.requires.first c.requires.may c.requires.early c.in-Ok.answered.post
          c.in-Ok.answered.reached (c.in-Ok.ensures.post (Call c.args.op.now) refl)
          (c.in-Ok.ensures.reached (Call c.args.op.now) refl);
      dropped =
          c.told.ensures.dropped
          ∙ dropped_so c.args.server.now c.args.moment c.args.caller c.args.conn c.args.op.now
          c.requires.first c.requires.may c.requires.early c.in-Ok.answered.dropped
          (c.in-Ok.ensures.dropping (Call c.args.op.now) refl);
    }

pub returns-in-Ok-clause-entry : goal.returns-in-Ok-clause-entry
returns-in-Ok-clause-entry c =
    c.in-Ok.ensures.entry (Call c.args.op.now) refl
    ∙ entry_made_is c.args.server.now c.args.moment c.args.caller c.args.conn c.args.op.now
    c.requires.first c.requires.may c.requires.early

pub no_memory-requires : goal.no_memory-requires
no_memory-requires c =
    let none = no_fault c.args.server.now c.args.moment c.args.caller c.args.conn c.args.op.now
    c.requires.first c.requires.may c.requires.early c.requires.room in
    only_memory c.in-Err.fault
    (λ full. none_some _ _ none
    ((c.step.ensures.full (Call c.args.op.now) refl).0 (c.in-Err.is ∙ ap Err full)))
    (λ dropped. none_some _ _ none
    ((c.step.ensures.dropped (Call c.args.op.now) refl).0 (c.in-Err.is ∙ ap Err dropped)))
    (λ many. c.step.ensures.not_too_many (c.in-Err.is ∙ ap Err many))
