-- Lists of bulk strings, and the words that they are.
use Rattle.std.proofs.Common.{◌≡◌, ◌≢◌, ℕ, ◌*◌, ◌<◌, ◌≤◌, ◌^◌, List, [], ◌∷◌, ◌++◌, true, length, drop, map, get_or, zero, suc, decimal, IsTrue, refl, sym, ap, ◌∙◌, arith, length-append, true≢false}
use Rattle.std.specs.List.{AllByRecursion, concat, list_all}
use Rattle.std.proofs.lemmas.Bool.{and_parts, and_from}
use Rattle.std.proofs.lemmas.Fmt.{digits_decimal, decimal_nonempty}
use Rattle.std.proofs.lemmas.List.{length-map}
use Rattle.std.proofs.lemmas.Str.Parse.{IsNumeralModel, numerals_by_value, tells_digits, not_in_digits}
use Rattle.std.specs.Str.Parse.{AllDigits, digits_value}
use Rattle.lr_text.proofs.NumberLaws.{length-decimal}
use Rattle.lr_resp.specs.declared.frame.Frame.{Frame}
use Rattle.lr_resp.specs.declared.frame.Frame.TheVariants.{Simple, Fault, Number, Bulk, Null, NullArray, Array}
use Rattle.lr_resp.specs.Grammar.{IsReadable, Fits, Spells}
use Rattle.lr_resp.specs.Limits.{bulk_limit, item_limit, frame_limit}
use Rattle.lr_resp.specs.Size.{total}
use Rattle.lr_resp.specs.Spelling.{spelling, line_end}
use Rattle.lr_frames.specs.Words.{AreShort, bulk_word, bulk_text, is_bulk, words_frame}

-- bulk strings are spelled as their words
pub spelled_words : (items : List Frame) → IsTrue (list_all is_bulk items)
    → map spelling items ≡ map bulk_word (map bulk_text items)
spelled_words [] h = refl
spelled_words (Bulk text ∷ items) h = ap (λ (l : List (List ℕ)). bulk_word text ∷ l) (spelled_words items h)
spelled_words (Simple text ∷ items) h = absurd (true≢false (sym h))
spelled_words (Fault text ∷ items) h = absurd (true≢false (sym h))
spelled_words (Number n ∷ items) h = absurd (true≢false (sym h))
spelled_words (Null ∷ items) h = absurd (true≢false (sym h))
spelled_words (NullArray ∷ items) h = absurd (true≢false (sym h))
spelled_words (Array frames ∷ items) h = absurd (true≢false (sym h))

pub drop-are_bulks : (count : ℕ) (items : List Frame) → IsTrue (list_all is_bulk items)
    → IsTrue (list_all is_bulk (drop count items))
drop-are_bulks zero items h = h
drop-are_bulks (suc count) [] h = h
drop-are_bulks (suc count) (item ∷ items) h =
    drop-are_bulks count items (and_parts (is_bulk item) (list_all is_bulk items) h).1

-- A frame that is spelled as a word of at most so many bytes is a bulk string.

first_of : (xs ys : List ℕ) → 0 < length xs → get_or (xs ++ ys) 0 0 ≡ get_or xs 0 0
first_of [] ys some = absurd (omega (arith, some))
first_of (x ∷ xs) ys some = refl

own : IsNumeralModel (AllDigits 10) (digits_value 10)
own = numerals_by_value (AllDigits 10) tells_digits

not_dash : (n : ℕ) → n < 2 ^ 64 → get_or (decimal n) 0 0 ≢ 45
not_dash n small = not_in_digits own (decimal n) 45 (digits_decimal own n small) (λ r. omega arith) 0 (decimal_nonempty n small)

mark_of : (b c : ℕ) (xs ys : List ℕ) → b ∷ xs ≡ c ∷ ys → b ≡ c
mark_of b c xs ys same = ap (λ (l : List ℕ). get_or l 0 0) same

pub bulk_alone : (frame : Frame) (text : List ℕ) → length text < 2 ^ 64
    → spelling frame ≡ bulk_word text → is_bulk frame ≡ true
bulk_alone (Bulk its) text held same = refl
bulk_alone (Simple its) text held same = absurd (omega (arith, mark_of 43 36 _ _ same))
bulk_alone (Fault its) text held same = absurd (omega (arith, mark_of 45 36 _ _ same))
bulk_alone (Number n) text held same = absurd (omega (arith, mark_of 58 36 _ _ same))
bulk_alone NullArray text held same = absurd (omega (arith, mark_of 42 36 _ _ same))
bulk_alone (Array frames) text held same = absurd (omega (arith, mark_of 42 36 _ _ same))
bulk_alone Null text held same =
    let dash : 45 ≡ get_or (decimal (length text) ++ (line_end ++ (text ++ line_end))) 0 0 =
    ap (λ (l : List ℕ). get_or l 1 0) same in
    absurd (not_dash (length text) held
    (sym (first_of (decimal (length text)) (line_end ++ (text ++ line_end)) (decimal_nonempty (length text) held)) ∙ sym dash))

pub heads : (x y : List ℕ) (xs ys : List (List ℕ)) → x ∷ xs ≡ y ∷ ys → (x ≡ y) × (xs ≡ ys)
heads x y xs ys same = (ap (λ (l : List (List ℕ)). get_or l 0 []) same, ap (λ (l : List (List ℕ)). drop 1 l) same)

pub are_bulks : (items : List Frame) (words : List (List ℕ))
    → AllByRecursion (λ text. length text < 2 ^ 64) words
    → map spelling items ≡ map bulk_word words → IsTrue (list_all is_bulk items)
are_bulks [] words held same = refl
are_bulks (item ∷ items) [] held same = absurd (omega (arith, ap (λ (l : List (List ℕ)). length l) same))
are_bulks (item ∷ items) (word ∷ words) held same =
    let parts = heads (spelling item) (bulk_word word) (map spelling items) (map bulk_word words) same in
    and_from _ _ (bulk_alone item word held.0 parts.0) (are_bulks items words held.1 parts.1)

-- Short words make a frame that can be read.

items_readable : (words : List (List ℕ)) → AllByRecursion (λ text. length text ≤ bulk_limit) words
    → AllByRecursion (λ bytes. (frame : Frame) × Fits item_limit 3 frame × (bytes ≡ spelling frame)) (map bulk_word words)
items_readable [] short = tt
items_readable (word ∷ words) short = ((Bulk word, short.0, refl), items_readable words short.1)

pub words_readable : (words : List (List ℕ)) → AreShort words → IsReadable (words_frame words)
words_readable words short = (omega (arith, short.0, length-map words bulk_word), items_readable words short.1)

-- Words of at most 64 bytes make a frame that is small enough.

-- as many words as an array may have, each as long as a name may be
abbrev pub AreBrief : List (List ℕ) → Type 0
AreBrief words = (length words ≤ 64) × AllByRecursion (λ text. length text ≤ 64) words

length-bulk_word : (text : List ℕ) → length text ≤ 64 → length (bulk_word text) ≤ 89
length-bulk_word text brief =
    let digits = length-decimal (length text) (omega (arith, brief)) in
    omega (arith, digits.1, brief, length-append (decimal (length text)) (line_end ++ (text ++ line_end)), length-append text line_end)

total-words : (words : List (List ℕ)) → AllByRecursion (λ text. length text ≤ 64) words
    → total (map bulk_word words) ≤ 89 * length words
total-words [] brief = omega arith
total-words (word ∷ words) brief =
    omega (arith, length-bulk_word word brief.0, total-words words brief.1, length-append (bulk_word word) (concat (map bulk_word words)))

short_words : (words : List (List ℕ)) → AllByRecursion (λ text. length text ≤ 64) words
    → AllByRecursion (λ text. length text ≤ bulk_limit) words
short_words [] brief = tt
short_words (word ∷ words) brief = (omega (arith, brief.0), short_words words brief.1)

pub brief_spells : (words : List (List ℕ)) → AreBrief words
    → Spells (spelling (words_frame words)) (words_frame words)
brief_spells words brief =
    let count = length-map words bulk_word in
    let digits = length-decimal (length (map bulk_word words)) (omega (arith, count, brief.0)) in
    let size : length (spelling (words_frame words)) ≤ frame_limit =
    omega (arith, count, digits.1, brief.0, total-words words brief.1, length-append (decimal (length (map bulk_word words))) (line_end ++ concat (map bulk_word words))) in
    (words_readable words (brief.0, short_words words brief.1), refl, size)
