use Rattle.std.proofs.Common.{List, ℕ, ap, ◌∙◌, map}
use Rattle.lr_resp.specs.declared.frame.Frame.TheVariants.{Array}
use Rattle.lr_frames.specs.Words.{bulk_word}
use Rattle.lr_frames.proofs.BulkLaws.{spelled_words}
use Rattle.lr_frames.proofs.sentence.Sentence.into_frame.Goals as goal

pub returns : goal.returns
returns c =
    ap (λ (l : List (List ℕ)). Array l)
    (c.of.ensures ∙ spelled_words c.self.inside.items.items c.self.invariant ∙ ap (map bulk_word) c.self.view_is)
