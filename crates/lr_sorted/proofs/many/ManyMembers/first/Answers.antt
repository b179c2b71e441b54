use Rattle.std.proofs.Common.{ap, ◌∙◌, arith, false, pos}
use Rattle.std.specs.Prelude.{slice_get}
use Rattle.lr_lists.specs.Places.{item_at}
use Rattle.lr_sorted.specs.Tournament.{won_at}
use Rattle.lr_sorted.proofs.SortedLaws.{final-first}
use Rattle.lr_sorted.proofs.TournamentLaws.{final-wins}
use Rattle.lr_sorted.proofs.many.ManyMembers.first.Goals as goal

pub returns : goal.returns
returns c =
    let entries = c.self.inside.scores.entries in
    let nodes = c.self.inside.least.items in
    c.entry.ensures.entry
    ∙ ap (λ p. slice_get entries p) c.final_winner.ensures
    ∙ final-first entries (won_at nodes 1) c.entry.ensures.distinct
    (λ p within. final-wins false entries nodes p c.self.invariant.least (omega (arith, c.self.invariant.least_room)))
    ∙ ap (λ t. item_at (pos 0) t.members) c.self.view_is
