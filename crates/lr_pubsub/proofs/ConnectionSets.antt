-- Sets of numbers of connections, by their bits.
use Rattle.std.proofs.Common.{◌≡◌, ◌≢◌, ◌⊎◌, inl, inr, ◌==◌, ℕ, zero, suc, ◌+◌, ◌*◌, ◌/◌, ◌%◌, ◌<◌, ◌≤◌, Bool, false, true, cond, List, [], ◌∷◌, length, get_or, set, refl, ap, sym, ◌∙◌, arith, w64, ◌^◌}
use Rattle.std.specs.Int.{bit_at, trailing_zeros}
use Rattle.std.proofs.lemmas.Bool.{cases_eq, cases_lt, eq-eqb, ne_eqb}
use Rattle.std.proofs.lemmas.List.{get_or-set_same, get_or-set_other, get_or_past}
use Rattle.std.proofs.lemmas.Nat.Bits.{bit_at-zero, bit_at-trailing_zeros}
use Rattle.lr_model.specs.Table.{put}
use Rattle.lr_model.proofs.Tables.{one_table}
use Rattle.lr_pubsub.specs.declared.connection_set.ConnectionSet.{ConnectionSet}
use Rattle.lr_pubsub.specs.ConnectionSet.{has_number}

-- a word is written, of which one bit may differ
pub has_number-written : (words : List ℕ) (conn word : ℕ) (now : Bool) → conn < 64 * length words
    → (bit_at word (conn % 64) == 1) ≡ now
    → ((i : ℕ) → i < 64 → i ≢ conn % 64 → bit_at word i ≡ bit_at (get_or words (conn / 64) 0) i)
    → has_number (record { words = set words (conn / 64) word })
    ≡ put ◌==◌ (has_number (record { words = words })) conn now
unfolding has_number
has_number-written words conn word now within here others =
    one_table _ _ (λ k. by k (cases_eq conn k))
  where
    was : ℕ → Bool
    was k = bit_at (get_or words (k / 64) 0) (k % 64) == 1

    written : get_or (set words (conn / 64) word) (conn / 64) 0 ≡ word
    written = get_or-set_same words (conn / 64) word 0 (omega arith)

    by : (k : ℕ) → (conn ≡ k) ⊎ (conn ≢ k)
        → (bit_at (get_or (set words (conn / 64) word) (k / 64) 0) (k % 64) == 1)
        ≡ cond (conn == k) now (bit_at (get_or words (k / 64) 0) (k % 64) == 1)
    by k (inl same) =
        ap (λ n. bit_at (get_or (set words (conn / 64) word) (n / 64) 0) (n % 64) == 1) (sym same)
        ∙ ap (λ w. bit_at w (conn % 64) == 1) written
        ∙ here
        ∙ ap (λ t. cond t now (bit_at (get_or words (k / 64) 0) (k % 64) == 1))
        (sym (eq-eqb conn k same))
    by k (inr apart) =
        by_word (cases_eq (k / 64) (conn / 64))
        ∙ ap (λ t. cond t now (bit_at (get_or words (k / 64) 0) (k % 64) == 1))
        (sym (ne_eqb conn k apart))
      where
        by_word : (k / 64 ≡ conn / 64) ⊎ (k / 64 ≢ conn / 64)
            → (bit_at (get_or (set words (conn / 64) word) (k / 64) 0) (k % 64) == 1)
            ≡ (bit_at (get_or words (k / 64) 0) (k % 64) == 1)
        by_word (inl one) =
            ap (λ r. bit_at (get_or (set words (conn / 64) word) r 0) (k % 64) == 1) one
            ∙ ap (λ w. bit_at w (k % 64) == 1) written
            ∙ ap (λ x. x == 1) (others (k % 64) (omega arith) (λ e. apart (omega arith)))
            ∙ ap (λ r. bit_at (get_or words r 0) (k % 64) == 1) (sym one)
        by_word (inr two) =
            ap (λ w. bit_at w (k % 64) == 1)
            (get_or-set_other words (conn / 64) (k / 64) word 0 two)

-- a word of 0 has no numbers
pub has_number-zero : (set : ConnectionSet) (k : ℕ) → get_or set.words (k / 64) 0 ≡ 0
    → has_number set k ≡ false
unfolding has_number
has_number-zero set k none = ap (λ w. bit_at w (k % 64) == 1) none
    ∙ ap (λ x. x == 1) (bit_at-zero (k % 64))

-- nor are there any past the last word
pub has_number-past : (set : ConnectionSet) (k : ℕ) → 64 * length set.words ≤ k → has_number set k
    ≡ false
has_number-past set k past = has_number-zero set k (get_or_past set.words (k / 64) 0 (omega arith))

abbrev pub zeros : List ℕ
zeros = 0 ∷ 0 ∷ 0 ∷ 0 ∷ []

pub get_or-zeros : (k : ℕ) → get_or zeros k 0 ≡ 0
get_or-zeros zero = refl
get_or-zeros (suc zero) = refl
get_or-zeros (suc (suc zero)) = refl
get_or-zeros (suc (suc (suc zero))) = refl
get_or-zeros (suc (suc (suc (suc k)))) = refl

-- the lowest bit of a word that isn't 0 is its first number
module _ (set : ConnectionSet) (place word : ℕ) (read : get_or set.words place 0 ≡ word)
    (some : 0 < word)
    (fits : word < 2 ^ 64) where
  abbrev lowest : ℕ
  lowest = place * 64 + trailing_zeros w64 word

  pub lowest-inside : trailing_zeros w64 word < 64
  lowest-inside = (bit_at-trailing_zeros w64 word some fits).0

  at_place : (k i : ℕ) → k / 64 ≡ place → k % 64 ≡ i → has_number set k ≡ (bit_at word i == 1)
  unfolding has_number
  at_place k i here bit =
      ap (λ r. bit_at (get_or set.words r 0) (k % 64) == 1) here
      ∙ ap (λ w. bit_at w (k % 64) == 1) read
      ∙ ap (λ b. bit_at word b == 1) bit

  pub lowest-has : has_number set lowest ≡ true
  lowest-has =
      let inside = lowest-inside in
      at_place lowest (trailing_zeros w64 word) (omega arith) (omega arith)
      ∙ eq-eqb (bit_at word (trailing_zeros w64 word)) 1
      (bit_at-trailing_zeros w64 word some fits).1

  pub lowest-first : ((k : ℕ) → k < 64 * place → has_number set k ≡ false)
      → (k : ℕ) → k < lowest → has_number set k ≡ false
  lowest-first before k lesser = by (cases_lt k (64 * place))
    where
      by : (k < 64 * place) ⊎ (64 * place ≤ k) → has_number set k ≡ false
      by (inl earlier) = before k earlier
      by (inr later) =
          let inside = lowest-inside in
          let low : k % 64 < trailing_zeros w64 word = omega arith in
          at_place k (k % 64) (omega arith) refl
          ∙ ne_eqb (bit_at word (k % 64)) 1
          (λ e. let none = (bit_at-trailing_zeros w64 word some fits).2 (k % 64) low in omega arith)
