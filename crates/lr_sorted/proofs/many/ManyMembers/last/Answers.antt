use Rattle.std.proofs.Common.{ap, ◌∙◌, arith, true, negsuc}
use Rattle.std.specs.Prelude.{slice_get}
use Rattle.lr_lists.specs.Places.{item_at}
use Rattle.lr_sorted.specs.Tournament.{won_at}
use Rattle.lr_sorted.proofs.SortedLaws.{final-last}
use Rattle.lr_sorted.proofs.TournamentLaws.{final-wins}
use Rattle.lr_sorted.proofs.many.ManyMembers.last.Goals as goal

pub returns : goal.returns
returns c =
    let entries = c.self.inside.scores.entries in
    let nodes = c.self.inside.greatest.items in
    c.entry.ensures.entry
    ∙ ap (λ p. slice_get entries p) c.final_winner.ensures
    ∙ final-last entries (won_at nodes 1) c.entry.ensures.distinct
    (λ p within. final-wins true entries nodes p c.self.invariant.greatest (omega (arith, c.self.invariant.greatest_room)))
    ∙ ap (λ t. item_at (negsuc 0) t.members) c.self.view_is
