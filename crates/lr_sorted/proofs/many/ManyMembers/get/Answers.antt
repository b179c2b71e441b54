use Rattle.std.proofs.Common.{◌≡◌, Some, length, sym, ap, ◌∙◌, w64}
use Rattle.std.specs.Prelude.{slice_get}
use Rattle.std.specs.Option.{option_and_then}
use Rattle.std.proofs.lemmas.Int.{to_z-of_z}
use Rattle.lr_lists.specs.Places.{place_in}
use Rattle.lr_lists.proofs.PlaceLaws.{item_at-place_in}
use Rattle.lr_sorted.proofs.many.ManyMembers.get.Goals as goal

pub returns-clause-member : goal.returns-clause-member
returns-clause-member c =
    let members = c.args.self.now.members in
    let place = c.args.place in
    let found : Some c.in_ok-place.place ≡ place_in place (length members) =
    c.in_ok-place.ensures.place
    ∙ ap (λ z. place_in z c.len.result) (to_z-of_z w64 place c.ranges.place)
    ∙ ap (λ n. place_in place n) c.len.ensures.len in
    c.at.ensures
    ∙ ap (λ o. option_and_then (λ p. slice_get members p) o) found
    ∙ sym (item_at-place_in place members)
