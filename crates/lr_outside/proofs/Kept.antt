-- The bytes between two places of a buffer, after the places or the end of the buffer changed.
use Rattle.std.proofs.Common.{◌≡◌, ℕ, ◌+◌, ◌-◌, ◌≤◌, List, ◌++◌, length, take, drop, refl, sym, ap, ◌∙◌, arith, vec_len, length-take-le, length-append, length-take, length-drop}
use Rattle.std.specs.Prelude.{slice_range, Vec}
use Rattle.std.specs.declared.alloc.Global.{Global}
use Rattle.std.specs.Vec.{with_items}
use Rattle.std.proofs.lemmas.List.{with_items_is, drop-drop, drop-append-le, take-take}
use Rattle.std.proofs.lemmas.Slice.{between_is, take-put_mid, take-put_mid_below}
use Rattle.std.proofs.Math.Seq.{take-append-add}
use borrow.Rule.Slice.PartMut.{put_mid}

-- the first place went on by n
pub kept-dropped : (xs : List ℕ) (s e n : ℕ)
    → slice_range xs (s + n) e ≡ drop n (slice_range xs s e)
kept-dropped xs s e n =
    between_is xs (s + n) e
    ∙ sym (drop-drop n s (take e xs))
    ∙ ap (drop n) (sym (between_is xs s e))

-- what stands behind the last place was written over
pub kept-same : (xs ys : List ℕ) (s e k : ℕ) → e ≤ length xs
    → slice_range (put_mid e k xs ys) s e ≡ slice_range xs s e
kept-same xs ys s e k in_buffer =
    between_is (put_mid e k xs ys) s e
    ∙ ap (drop s) (take-put_mid_below e k xs ys e (omega arith) in_buffer)
    ∙ sym (between_is xs s e)

-- and the last place went on by n
pub kept-grown : (xs ys : List ℕ) (s e k n : ℕ) → s ≤ e → e ≤ length xs → n ≤ length ys
    → slice_range (put_mid e k xs ys) s (e + n) ≡ slice_range xs s e ++ take n ys
kept-grown xs ys s e k n in_order in_buffer fits =
    let front : length (take e xs) ≡ e = length-take-le e xs in_buffer in
    let whole : take (e + length ys) (put_mid e k xs ys) ≡ take e xs ++ ys = take-put_mid e k xs ys (e + length ys) refl in_buffer in
    let written : take (e + n) (put_mid e k xs ys) ≡ take e xs ++ take n ys =
    sym (take-take (e + n) (e + length ys) (put_mid e k xs ys) (omega arith))
    ∙ ap (take (e + n)) whole
    ∙ ap (λ m. take (m + n) (take e xs ++ ys)) (sym front)
    ∙ take-append-add (take e xs) ys n in
    between_is (put_mid e k xs ys) s (e + n)
    ∙ ap (drop s) written
    ∙ drop-append-le s (take e xs) (take n ys) (omega arith)
    ∙ ap (λ l. l ++ take n ys) (sym (between_is xs s e))

-- xs is what the vector holds, and ys is as long as what lies behind the last place
pub record Fit (v : Vec ℕ Global) (xs ys : List ℕ) (s e : ℕ) : Type 0 where
  pub held : xs ≡ v.items
  pub size : length xs ≡ vec_len v
  pub in_order : s ≤ e
  pub in_buffer : e ≤ length xs
  pub behind : length ys ≡ length xs - e

-- A read into the vector from the last place on, which leaves ys there.
module _ (v : Vec ℕ Global) (xs ys : List ℕ) (s e : ℕ) where
  abbrev vec_after_read : Vec ℕ Global
  vec_after_read = with_items v (put_mid e (length xs - e) xs ys)

  vec_after_read-items : Fit v xs ys s e → vec_after_read.items ≡ put_mid e (length xs - e) xs ys
  vec_after_read-items fit =
      let behind = fit.behind in
      let in_buffer = fit.in_buffer in
      let size = fit.size in
      with_items_is v (put_mid e (length xs - e) xs ys) (simp (length-append, length-take, length-drop) (omega arith))

  -- nothing is added
  pub kept-read_none : Fit v xs ys s e
      → slice_range vec_after_read.items s e ≡ slice_range v.items s e
  kept-read_none fit =
      ap (λ (l : List ℕ). slice_range l s e) (vec_after_read-items fit)
      ∙ kept-same xs ys s e _ fit.in_buffer
      ∙ ap (λ (l : List ℕ). slice_range l s e) fit.held

  -- n bytes are
  pub kept-read : Fit v xs ys s e → (n : ℕ) → n ≤ length ys
      → slice_range vec_after_read.items s (e + n) ≡ slice_range v.items s e ++ take n ys
  kept-read fit n fits =
      ap (λ (l : List ℕ). slice_range l s (e + n)) (vec_after_read-items fit)
      ∙ kept-grown xs ys s e _ n fit.in_order fit.in_buffer fits
      ∙ ap (λ (l : List ℕ). slice_range l s e ++ take n ys) fit.held
