use Rattle.std.proofs.Common.{sym, ◌∙◌, true≢false}
use Rattle.lr_frames.proofs.BulkLaws.{are_bulks, spelled_words}
use Rattle.lr_frames.proofs.words.Words.of_items.Goals as goal

pub returns-clause-words : goal.returns-clause-words
returns-clause-words c = spelled_words c.args.items.now (sym c.are_bulks.ensures ∙ c.if-not-are_bulks.false)

pub returns-then-not-are_bulks-clause-none : goal.returns-then-not-are_bulks-clause-none
returns-then-not-are_bulks-clause-none c = λ _ words held some same.
    true≢false (sym (are_bulks c.args.items.now words held same) ∙ sym c.are_bulks.ensures ∙ c.if-not-are_bulks.true)
