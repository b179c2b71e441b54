use Rattle.std.proofs.Common.{◌≡◌, ◌+◌, ◌-◌, ◌≤◌, ℕ, List, length, min, take, drop, sym, ap, ◌∙◌, arith, w64}
use Rattle.std.proofs.lemmas.Int.{to_z-of_z}
use Rattle.std.proofs.lemmas.List.{drop-take}
use Rattle.std.proofs.lemmas.Result.{IfOk-weaker}
use Rattle.lr_lists.specs.Places.{before_start, up_to_stop, range_of}
use Rattle.lr_lists.proofs.PlaceLaws.{range_of-cut}
use Rattle.lr_sorted.proofs.listed.cut.Goals as goal

-- a part of a list, by both ends
part-is : {X : Type 0} (xs : List X) (first end : ℕ) → first ≤ end → take (end - first) (drop first xs) ≡ drop first (take end xs)
part-is xs first end le =
    let whole : first + (end - first) ≡ end = omega arith in
    sym (drop-take first (end - first) xs) ∙ ap (λ n. drop first (take n xs)) whole

pub returns : goal.returns
returns c =
    let members = c.args.members.now in
    let start = c.args.start in
    let stop = c.args.stop in
    let first = c.before_start-first.result in
    let end = c.up_to_stop-end.result in
    let from : first ≡ before_start start (length members) =
    c.before_start-first.ensures
    ∙ ap (λ z. before_start z (length members)) (to_z-of_z w64 start c.ranges.start) in
    let to : end ≡ min (up_to_stop stop (length members)) (length members) =
    c.up_to_stop-end.ensures
    ∙ ap (λ z. min (up_to_stop z (length members)) (length members)) (to_z-of_z w64 stop c.ranges.stop) in
    let le : first ≤ end = omega (arith, c.if-first-end.false) in
    let part : take (end - first) (drop first members) ≡ range_of start stop members =
    part-is members first end le
    ∙ ap (λ n. drop n (take end members)) from
    ∙ ap (λ n. drop (before_start start (length members)) (take n members)) to
    ∙ range_of-cut start stop members in
    IfOk-weaker c.from_slice.result _ _ (λ v e. e ∙ part) c.from_slice.ensures.items
