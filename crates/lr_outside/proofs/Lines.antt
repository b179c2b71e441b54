-- The lines of a text, by what stands at its front.
use Rattle.std.proofs.Common.{◌≡◌, ◌≢◌, ℕ, ◌<◌, ◌≤◌, List, [], ◌∷◌, ◌++◌, length, take, drop, refl, sym, ap, ◌∙◌, inl, inr, arith, take-append-drop, length-take-le, length-append}
use Rattle.std.proofs.lemmas.Bool.{cases_eq}
use Rattle.std.proofs.lemmas.Bool.Decides.{nat_tests}
use Rattle.std.proofs.lemmas.List.Elements.{All-head, All-tail}
use Rattle.lr_limits.specs.Limits.{line_limit}
use Rattle.lr_outside.specs.Lines.{with_first, lines_of, HasNoLineEnd, BeginsTooLong}

-- a byte other than LF stands before the first line
pub lines_of-other : (b : ℕ) (bs : List ℕ) → b ≢ 10 → lines_of (b ∷ bs) ≡ with_first b (lines_of bs)
lines_of-other b bs other = grind (arith, nat_tests)

-- a line that ends at an LF
pub lines_of-line : (l rest : List ℕ) → HasNoLineEnd l
    → lines_of (l ++ 10 ∷ rest) ≡ l ∷ lines_of rest
lines_of-line [] rest whole = refl
lines_of-line (b ∷ l) rest whole =
    lines_of-other b (l ++ 10 ∷ rest) (All-head (λ c. c ≢ 10) b l whole)
    ∙ ap (with_first b) (lines_of-line l rest (All-tail (λ c. c ≢ 10) b l whole))

-- a last line
pub lines_of-last : (l : List ℕ) → HasNoLineEnd l → l ≢ [] → lines_of l ≡ l ∷ []
lines_of-last [] whole some = absurd (some refl)
lines_of-last (b ∷ []) whole some = lines_of-other b [] (All-head (λ c. c ≢ 10) b [] whole)
lines_of-last (b ∷ c ∷ l) whole some =
    let rest : c ∷ l ≢ [] = λ e. cc in
    lines_of-other b (c ∷ l) (All-head (λ d. d ≢ 10) b (c ∷ l) whole)
    ∙ ap (with_first b) (lines_of-last (c ∷ l) (All-tail (λ d. d ≢ 10) b (c ∷ l) whole) rest)

with_first-some : (b : ℕ) (ls : List (List ℕ)) → 0 < length (with_first b ls)
with_first-some b [] = omega arith
with_first-some b (l ∷ ls) = omega arith

-- a text that ends at an LF has a line
lines_of-some : (a : List ℕ) → 0 < length (lines_of (a ++ 10 ∷ []))
lines_of-some [] = omega arith
lines_of-some (b ∷ a) = elim (cases_eq b 10) [
  | inl is ↦ rw is (omega arith)
  | inr other ↦ rw (lines_of-other b (a ++ 10 ∷ []) other) (with_first-some b (lines_of (a ++ 10 ∷ [])))
]

with_first-append : (b : ℕ) (xs ys : List (List ℕ)) → 0 < length xs
    → with_first b (xs ++ ys) ≡ with_first b xs ++ ys
with_first-append b [] ys some = absurd (omega arith)
with_first-append b (x ∷ xs) ys some = refl

-- whole lines, and what stands behind them
pub lines_of-append : (a b : List ℕ)
    → lines_of (a ++ 10 ∷ b) ≡ lines_of (a ++ 10 ∷ []) ++ lines_of b
lines_of-append [] b = refl
lines_of-append (c ∷ a) b = elim (cases_eq c 10) [
  | inl is ↦ rw is (ap (λ (ls : List (List ℕ)). [] ∷ ls) (lines_of-append a b))
  | inr other ↦
      lines_of-other c (a ++ 10 ∷ b) other
      ∙ ap (with_first c) (lines_of-append a b)
      ∙ with_first-append c (lines_of (a ++ 10 ∷ [])) (lines_of b) (lines_of-some a)
      ∙ ap (λ (ls : List (List ℕ)). ls ++ lines_of b) (sym (lines_of-other c (a ++ 10 ∷ []) other))
]

-- the first line begins with a front that has no LF
pub record Starts (front before : List ℕ) : Type 0 where
  pub rest : List ℕ
  pub others : List (List ℕ)
  pub lines : lines_of before ≡ (front ++ rest) ∷ others

with_first-starts : (b : ℕ) (ls : List (List ℕ))
    → (l : List ℕ) × (others : List (List ℕ)) × (with_first b ls ≡ (b ∷ l) ∷ others)
with_first-starts b [] = ([], [], refl)
with_first-starts b (l ∷ ls) = (l, ls, refl)

pub starts : (front rest : List ℕ) → HasNoLineEnd front → 0 < length front
    → Starts front (front ++ rest)
starts [] rest whole some = absurd (omega arith)
starts (b ∷ []) rest whole some =
    let first = with_first-starts b (lines_of rest) in
    record { rest = first.0; others = first.1; lines = lines_of-other b rest (All-head (λ d. d ≢ 10) b [] whole) ∙ first.2 }
starts (b ∷ c ∷ front) rest whole some =
    let more = starts (c ∷ front) rest (All-tail (λ d. d ≢ 10) b (c ∷ front) whole) (omega arith) in
    record {
      rest = more.rest;
      others = more.others;
      lines = lines_of-other b ((c ∷ front) ++ rest) (All-head (λ d. d ≢ 10) b (c ∷ front) whole)
          ∙ ap (with_first b) more.lines;
    }

-- so many bytes without LF make the first line too long
pub begins_too_long : (before : List ℕ) (n : ℕ) → line_limit < n → n ≤ length before
    → HasNoLineEnd (take n before) → BeginsTooLong before
begins_too_long before n long within whole =
    let len = length-take-le n before within in
    let begun = starts (take n before) (drop n before) whole (omega arith) in
    record {
      line = take n before ++ begun.rest;
      others = begun.others;
      lines = ap lines_of (sym (take-append-drop n before)) ∙ begun.lines;
      long = omega (arith, length-append (take n before) begun.rest, len);
    }
