-- What the last bytes of a text tell of its lines.
use Rattle.std.proofs.Common.{◌≡◌, Bool, true, false, ℕ, zero, suc, ◌+◌, ◌-◌, ◌^◌, ◌<◌, ◌≤◌, min, List, [], ◌∷◌, ◌++◌, length, take, drop, slice_get, refl, sym, ap, ◌∙◌, inl, inr, arith, zero-add, append_assoc, take-append-drop, length-append, length-drop, cond}
use Rattle.std.specs.Prelude.{if◌then◌else◌, ◌==◌, Option, Some, None, IfSome, IsNone}
use Rattle.std.specs.Borrow.{Bor}
use Rattle.std.specs.Option.{option_copied}
use Rattle.std.specs.List.{onto_first, copy_within}
use Rattle.std.proofs.lemmas.List.{drop-take}
use Rattle.std.proofs.lemmas.List.Edits.{take-paste}
use Rattle.std.proofs.lemmas.List.Sums.{sum_by-append}
use Rattle.lr_program.specs.Recent.{Recent, IsRecentOf, line_ends, pieces_of, least_kept}

-- a byte before a text changes its first piece alone
onto_first-later : (b : ℕ) (ps : List (List ℕ)) (n : ℕ)
    → slice_get (onto_first b ps) (suc n) ≡ slice_get ps (suc n)
onto_first-later b [] n = refl
onto_first-later b (p ∷ ps) n = refl

-- how many lines end in two texts
line_ends-append : (xs ys : List ℕ) → line_ends (xs ++ ys) ≡ line_ends xs + line_ends ys
line_ends-append xs ys = sum_by-append (λ b. if b == 10 then 1 else 0) xs ys

line_ends-cons : (b : ℕ) (bs : List ℕ) → line_ends (b ∷ bs) ≡ cond (b == 10) 1 0 + line_ends bs
line_ends-cons b bs =
    line_ends-append (b ∷ []) bs ∙ ap (λ k. k + line_ends bs) (zero-add (cond (b == 10) 1 0))

-- one more byte before a text, by whether it ends a line
later-cons : (test : Bool) (b : ℕ) (k n : ℕ) (whole ps : List (List ℕ))
    → slice_get whole (k + suc n) ≡ slice_get ps (suc n)
    → slice_get (cond test ([] ∷ whole) (onto_first b whole)) (cond test 1 0 + k + suc n)
    ≡ slice_get ps (suc n)
later-cons true b k n whole ps same =
    let e : 1 + k + suc n ≡ suc (k + suc n) = omega arith in
    ap (slice_get ([] ∷ whole)) e ∙ same
later-cons false b k n whole ps same =
    let e : 0 + k + suc n ≡ suc (k + n) = omega arith in
    let f : k + suc n ≡ suc (k + n) = omega arith in
    ap (slice_get (onto_first b whole)) e ∙ onto_first-later b whole (k + n)
    ∙ ap (slice_get whole) (sym f) ∙ same

-- a piece behind the first is found in what stands behind any front of a text
later_piece : (front bytes : List ℕ) (n : ℕ)
    → slice_get (pieces_of (front ++ bytes)) (line_ends front + suc n)
    ≡ slice_get (pieces_of bytes) (suc n)
later_piece [] bytes n = ap (slice_get (pieces_of bytes)) (zero-add (suc n))
later_piece (b ∷ front) bytes n =
    ap (λ k. slice_get (pieces_of ((b ∷ front) ++ bytes)) (k + suc n)) (line_ends-cons b front)
    ∙ later-cons (b == 10) b (line_ends front) n (pieces_of (front ++ bytes)) (pieces_of bytes)
    (later_piece front bytes n)

-- what was moved to the front of a buffer
pub front_moved : (xs : List ℕ) (count len : ℕ) → count ≤ len → len ≤ length xs
    → take (len - count) (copy_within xs count len 0) ≡ drop count (take len xs)
front_moved xs count len within in_buffer =
    let n : ℕ = len - count in
    let whole : count + n ≡ len = omega arith in
    let fits : n ≤ length (drop count xs) = rw length-drop (omega arith) in
    ap (λ m. take m (copy_within xs count len 0)) (sym (zero-add n))
    ∙ take-paste xs 0 (drop count xs) n (omega arith) fits ∙ sym (drop-take count n xs)
    ∙ ap (λ m. drop count (take m xs)) whole

-- the first bytes were let go
pub IsRecentOf-shorter : (text : List ℕ) (old new : Recent) (count : ℕ)
    → new.bytes ≡ drop count old.bytes
    → new.passed ≡ min (old.passed + line_ends (take count old.bytes)) (2 ^ 64 - 1)
    → least_kept ≤ length new.bytes → IsRecentOf text old → IsRecentOf text new
IsRecentOf-shorter text old new count bytes passed enough is = record {
  earlier = is.earlier ++ take count old.bytes;
  split = is.split ∙ ap (λ l. is.earlier ++ l) (sym (take-append-drop count old.bytes))
      ∙ sym (append_assoc is.earlier (take count old.bytes) (drop count old.bytes))
      ∙ ap (λ l. (is.earlier ++ take count old.bytes) ++ l) (sym bytes);
  count = let e = line_ends-append is.earlier (take count old.bytes) in
      let f = is.count in omega arith;
  enough = inr enough;
}

-- a piece was taken up
pub IsRecentOf-longer : (text piece : List ℕ) (old new : Recent)
    → new.bytes ≡ old.bytes ++ piece → new.passed ≡ old.passed
    → IsRecentOf text old → IsRecentOf (text ++ piece) new
IsRecentOf-longer text piece old new bytes passed is = record {
  earlier = is.earlier;
  split = ap (λ l. l ++ piece) is.split ∙ append_assoc is.earlier old.bytes piece
      ∙ ap (λ l. is.earlier ++ l) (sym bytes);
  count = passed ∙ is.count;
  enough = elim is.enough [
    | inl none ↦ inl none
    | inr many ↦ inr (rw bytes (rw length-append (omega arith)))
  ];
}

-- a line that is found in the last bytes is that of the text
pub IsRecentOf-line : (text : List ℕ) (recent : Recent) (number : ℕ) (line : List ℕ)
    → IsRecentOf text recent → recent.passed < number → number < 2 ^ 64
    → slice_get (pieces_of recent.bytes) (number - recent.passed) ≡ Some line
    → slice_get (pieces_of text) (number - 1) ≡ Some line
IsRecentOf-line text recent number line is later fits here =
    let n : ℕ = number - recent.passed - 1 in
    let count = is.count in
    let behind : number - recent.passed ≡ suc n = omega arith in
    let place : line_ends is.earlier + suc n ≡ suc (number - 1) = omega arith in
    ap (slice_get (pieces_of (10 ∷ text))) (sym place)
    ∙ ap (λ (l : List ℕ). slice_get (pieces_of l) (line_ends is.earlier + suc n)) is.split
    ∙ later_piece is.earlier recent.bytes n
    ∙ ap (slice_get (pieces_of recent.bytes)) (sym behind)
    ∙ here

-- a slice that was found is what the list has there
pub found_in : (r : Option (Bor (List ℕ))) (o : Option (List ℕ)) (P : List ℕ → Type 0)
    → option_copied r ≡ o → ((line : List ℕ) → o ≡ Some line → P line)
    → IfSome r (λ line. P line.now)
found_in None o P is holds = tt
found_in (Some line) o P is holds = holds line.now (sym is)

-- a place at which nothing is found is past the end
pub past_end : (r : Option (Bor (List ℕ))) (pieces : List (List ℕ)) (place : ℕ)
    → option_copied r ≡ slice_get pieces place → IsNone r → length pieces ≤ place
past_end None [] place is none = omega arith
past_end None (p ∷ pieces) zero is none = cc
past_end None (p ∷ pieces) (suc place) is none =
    let later = past_end None pieces place is none in omega arith
past_end (Some line) pieces place is none = cc
