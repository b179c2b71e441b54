use Rattle.std.proofs.Common.{◌≡◌, ◌≤◌, ◌<◌, ◌⊎◌, inl, inr, ℕ, List, drop, take, length, min, max, sym, ap, ◌∙◌, arith, w64}
use Rattle.std.proofs.lemmas.Int.{to_z-of_z}
use Rattle.lr_lists.specs.Places.{before_start, up_to_stop, range_of}
use Rattle.lr_lists.proofs.PlaceLaws.{range_of-cut, range-none}
use Rattle.lr_lists.proofs.item_list.ItemList.range.Goals as goal

-- the loop stops at the end, or where it began if that is past the end
ended : {X : Type 0} (first end place : ℕ) (items : List X) → first ≤ place → end ≤ place
    → place ≤ max first end → drop first (take place items) ≡ drop first (take end items)
ended first end place items from to within = by (cases first end)
  where
    cases : (a b : ℕ) → (a ≤ b) ⊎ (b < a)
    cases a b = grind arith

    by : (first ≤ end) ⊎ (end < first) → drop first (take place items) ≡ drop first (take end items)
    by (inl e) = let same : place ≡ end = omega arith in ap (λ n. drop first (take n items)) same
    by (inr e) = range-none first place items (omega arith) ∙ sym (range-none first end items (omega arith))

pub returns : goal.returns
returns c =
    let items = c.self.inside.items.items in
    let start = c.args.start in
    let stop = c.args.stop in
    let long = c.self.inside.items.ok.0 in
    let from : c.before_start-first.result ≡ before_start start (length items) =
    c.before_start-first.ensures
    ∙ ap (λ z. before_start z c.len.result) (to_z-of_z w64 start c.ranges.start)
    ∙ ap (λ n. before_start start n) (c.len.ensures ∙ long) in
    let to : c.up_to_stop-end.result ≡ min (up_to_stop stop (length items)) (length items) =
    c.up_to_stop-end.ensures
    ∙ ap (λ z. min (up_to_stop z c.len-2.result) c.len-2.result) (to_z-of_z w64 stop c.ranges.stop)
    ∙ ap (λ n. min (up_to_stop stop n) n) (c.len-2.ensures ∙ long) in
    c.loop-place.invariant.items
    ∙ ended c.before_start-first.result c.up_to_stop-end.result c.loop-place.place items
    c.loop-place.auto.place c.loop-place-test.false c.loop-place.invariant.bound
    ∙ ap (λ n. drop n (take c.up_to_stop-end.result items)) from
    ∙ ap (λ n. drop (before_start start (length items)) (take n items)) to
    ∙ range_of-cut start stop items
    ∙ ap (λ t. range_of start stop t.items) c.self.view_is
