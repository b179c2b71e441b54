-- Fronts that have no LF, one behind another.
use Rattle.std.proofs.Common.{◌≡◌, ◌≢◌, ℕ, ◌+◌, ◌-◌, List, ◌++◌, length, take, drop, sym, ap, ◌∙◌, subst, arith, take-append-drop}
use Rattle.std.proofs.Math.Seq.{take-add}
use Rattle.std.proofs.lemmas.List.{take_rest, take_all}
use Rattle.std.proofs.lemmas.List.Elements.{All-append}
use Rattle.lr_outside.specs.Lines.{HasNoLineEnd}

-- a front, and a front of what stands behind it
pub no_line_end-joined : (xs : List ℕ) (s n : ℕ) → HasNoLineEnd (take s xs)
    → HasNoLineEnd (take n (take (length xs - s) (drop s xs))) → HasNoLineEnd (take (s + n) xs)
no_line_end-joined xs s n front more =
    let P : List ℕ → Type 0 = λ l. HasNoLineEnd l in
    subst P (sym (take-add s n xs)) (All-append (λ b. b ≢ 10) (take s xs) (take n (drop s xs)) front (subst P (ap (take n) (take_rest xs s)) more))

-- a front, and all that stands behind it
pub no_line_end-all : (xs : List ℕ) (s : ℕ) → HasNoLineEnd (take s xs)
    → HasNoLineEnd (take (length xs - s) (drop s xs)) → HasNoLineEnd (take (length xs) xs)
no_line_end-all xs s front more =
    let P : List ℕ → Type 0 = λ l. HasNoLineEnd l in
    let all : take s xs ++ drop s xs ≡ take (length xs) xs = take-append-drop s xs ∙ sym (take_all (length xs) xs (omega arith)) in
    subst P all (All-append (λ b. b ≢ 10) (take s xs) (drop s xs) front (subst P (take_rest xs s) more))
