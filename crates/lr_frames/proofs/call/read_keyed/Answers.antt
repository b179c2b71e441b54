use Rattle.std.proofs.Common.{sym, ◌∙◌}
use Rattle.lr_frames.proofs.Outcomes.{call_bad}
use Rattle.lr_frames.proofs.call.read_keyed.Goals as goal

pub returns-clause-fault : goal.returns-clause-fault
returns-clause-fault c =
    call_bad c.read_words.result c.in_ok-function.function c.args.words.now c.behind.result (c.has_keys.ensures.0 c.if-not-has_keys.false) (sym c.word.ensures ∙ c.in_ok-function.ensures.word) (sym c.word-2.ensures ∙ c.is_one_key.ensures.0 c.if-not-is_one_key.false) c.behind.ensures c.read_words.ensures.fault
