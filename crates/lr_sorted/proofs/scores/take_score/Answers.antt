use Rattle.std.proofs.Common.{◌≡◌, ◌-◌, Some, length, sym, ap, ◌∙◌, arith}
use Rattle.std.specs.Prelude.{slice_get, position}
use Rattle.std.specs.Map.{keys_of}
use Rattle.std.specs.Str.{bytes_eq}
use Rattle.lr_sorted.proofs.EntryLaws.{remove-others, removed-at}
use Rattle.lr_sorted.proofs.SortedLaws.{taken-is}
use Rattle.lr_sorted.proofs.scores.take_score.Goals as goal

pub returns-clause-some : goal.returns-clause-some
returns-clause-some c =
    let old = c.args.scores.now.entries in
    let new = c.swap_remove_full.new.self.entries in
    let member = c.args.member.now in
    let place = c.in_ok-place.place in
    let found : position (bytes_eq member) (keys_of old) ≡ Some place = sym c.in_ok-place.ensures.index in
    let removed = removed-at (bytes_eq member) old place found in
    let last : length new ≡ length old - 1 = omega (arith, c.in_ok-place.ensures.len) in
    taken-is old new member place c.len-count.ensures.unique c.swap_remove_full.ensures.unique
    (λ q. c.swap_remove_full.ensures.updates.0 q)
    (λ j apart behind. ap (λ l. slice_get l j) (c.swap_remove_full.ensures.entries ∙ removed.1)
    ∙ remove-others old place j removed.0 apart (λ f. behind (f ∙ sym last)))
