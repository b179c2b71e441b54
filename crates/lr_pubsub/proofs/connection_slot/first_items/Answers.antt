use Rattle.std.proofs.Common.{◌≡◌, ◌∙◌, ℕ, ◌+◌, ◌-◌, ◌≤◌, ◌<◌, min, List, [], ◌++◌, length, take, ap, sym, arith, ◌⊎◌, inl, inr}
use Rattle.std.proofs.Math.Seq.{take-append-add, take-length}
use Rattle.std.proofs.lemmas.Bool.{cases_lt}
use Rattle.std.proofs.lemmas.List.{append-nil, take-append-le}
use Rattle.lr_pubsub.proofs.connection_slot.first_items.Goals as goal

-- the first items of two lists in turn
take_two : {X : Type 0} (n cut : ℕ) (xs ys : List X) → cut ≡ min n (length xs)
    → take cut xs ++ take (n - cut) ys ≡ take n (xs ++ ys)
take_two {X} n cut xs ys at = by (cases_lt (length xs) n)
  where
    by : (length xs < n) ⊎ (n ≤ length xs) → take cut xs ++ take (n - cut) ys ≡ take n (xs ++ ys)
    by (inl longer) =
        let whole : cut ≡ length xs = omega arith in
        let rest : length xs + (n - length xs) ≡ n = omega arith in
        (λ i. take (whole i) xs ++ take (n - whole i) ys)
        ∙ ap (λ zs. zs ++ take (n - length xs) ys) (take-length xs)
        ∙ sym (take-append-add xs ys (n - length xs)) ∙ ap (λ k. take k (xs ++ ys)) rest
    by (inr within) =
        let all : cut ≡ n = omega arith in
        let none : n - n ≡ 0 = omega arith in
        (λ i. take (all i) xs ++ take (n - all i) ys) ∙ ap (λ k. take n xs ++ take k ys) none
        ∙ append-nil (take n xs) ∙ sym (take-append-le n xs ys within)

pub returns : goal.returns
returns c =
    let new : c.in_ok-pushes.pushes.items ≡ [] = c.in_ok-pushes.ensures.items in
    c.in_ok-extend_from_slice-2.ensures.items
    ∙ ap (λ zs. zs ++ take (c.args.count - c.min-cut.result) c.as_slices.result.1.now)
    (c.in_ok-extend_from_slice.ensures.items
    ∙ ap (λ zs. zs ++ take c.min-cut.result c.as_slices.result.0.now) new)
    ∙ take_two c.args.count c.min-cut.result c.as_slices.result.0.now c.as_slices.result.1.now
    c.min-cut.ensures
    ∙ ap (take c.args.count) c.as_slices.ensures.items
