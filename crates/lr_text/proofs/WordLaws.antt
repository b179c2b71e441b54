-- A line is its words with spaces between: taken apart, and put together again.
use Rattle.std.proofs.Common.{◌≡◌, ◌≢◌, ℕ, suc, ◌+◌, ◌<◌, ◌==◌, Bool, true, false, not, cond, List, [], ◌∷◌, ◌++◌, length, take, drop, get_or, nat_lt, Option, Some, None, IsTrue, unwrap_or, is_some, arith, refl, sym, ap, subst, ◌∙◌, true≢false, length-take-le}
use Rattle.std.specs.List.{position, position_or_len, before_first, after_first, onto_first}
use Rattle.std.proofs.lemmas.Bool.{ltb-true, ltb-false, eqb-true, not-true, not_from_false, and_parts, and_from, eqb-false, ne_eqb, cond_both}
use Rattle.std.proofs.lemmas.List.{get_or-take}
use Rattle.std.proofs.lemmas.List.Folds.{list_all-append}
use Rattle.std.proofs.lemmas.List.Splits.{slice_split-cons_no, length-slice_split, join_with_byte-slice_split}
use Rattle.std.proofs.lemmas.List.Sums.{fails_before_first, passes_at_first, split_at_first}
use Rattle.lr_text.specs.Words.{lacks, words_of, joined, are_words}

some_of : (b : Bool) (x y : ℕ) → cond b (Some x) None ≡ Some y → (b ≡ true) × (x ≡ y)
some_of true x y e = (refl, ap (λ (o : Option ℕ). unwrap_or o 0) e)
some_of false x y e = absurd (true≢false (sym (ap is_some e)))

none_of : (b : Bool) (x : ℕ) → cond b (Some x) None ≡ None → b ≡ false
none_of true x e = absurd (true≢false (ap is_some e))
none_of false x e = refl

-- the first byte of a text that lacks one, and the rest
lacks-parts : (byte b : ℕ) (bs : List ℕ) → IsTrue (lacks byte (b ∷ bs)) → (b == byte ≡ false) × IsTrue (lacks byte bs)
lacks-parts byte b bs h =
    let parts = and_parts (not (b == byte)) (lacks byte bs) h in
    (not-true (b == byte) parts.0, parts.1)

pub lacks-cons : (byte b : ℕ) (bs : List ℕ) → b ≢ byte → IsTrue (lacks byte bs) → IsTrue (lacks byte (b ∷ bs))
lacks-cons byte b bs other rest = and_from _ _ (not_from_false _ (ne_eqb b byte other)) rest

pub lacks-append : (byte : ℕ) (xs ys : List ℕ) → IsTrue (lacks byte xs) → IsTrue (lacks byte ys) → IsTrue (lacks byte (xs ++ ys))
lacks-append byte xs ys left right = list_all-append (λ b. not (b == byte)) xs ys ∙ and_from _ _ left right

-- by the bytes at each place
pub lacks-from_places : (byte : ℕ) (bs : List ℕ) → ((k : ℕ) → k < length bs → get_or bs k 0 ≢ byte) → IsTrue (lacks byte bs)
lacks-from_places byte [] other = refl
lacks-from_places byte (b ∷ bs) other =
    lacks-cons byte b bs (other 0 (omega arith)) (lacks-from_places byte bs (λ k within. other (suc k) (omega arith)))

-- the first place of a byte
pub position-first : (byte : ℕ) (text : List ℕ) (at : ℕ) → position (λ b. b == byte) text ≡ Some at
    → (text ≡ take at text ++ byte ∷ drop (at + 1) text) × IsTrue (lacks byte (take at text))
position-first byte text at is =
    let p : ℕ → Bool = λ b. b == byte in
    let found = some_of (nat_lt (position_or_len p text) (length text)) (position_or_len p text) at is in
    let within = ltb-true _ _ found.0 in
    let is_byte = eqb-true _ byte (passes_at_first p text 0 within) in
    let whole = split_at_first p text 0 within ∙ ap (λ b. before_first p text ++ b ∷ after_first p text) is_byte in
    let fails : (k : ℕ) → k < length (before_first p text) → get_or (before_first p text) k 0 ≢ byte = λ k below.
    let above : k < position_or_len p text = omega (arith, length-take-le (position_or_len p text) text (omega arith)) in
    rw (get_or-take (position_or_len p text) text k 0 above) (eqb-false _ byte (fails_before_first p text k 0 above)) in
    let lacking = lacks-from_places byte (before_first p text) fails in
    (subst (λ (n : ℕ). text ≡ take n text ++ byte ∷ drop (n + 1) text) found.1 whole, subst (λ (n : ℕ). IsTrue (lacks byte (take n text))) found.1 lacking)

pub position-none : (byte : ℕ) (text : List ℕ) → position (λ b. b == byte) text ≡ None → IsTrue (lacks byte text)
position-none byte text none =
    let p : ℕ → Bool = λ b. b == byte in
    let past = ltb-false _ _ (none_of (nat_lt (position_or_len p text) (length text)) (position_or_len p text) none) in
    lacks-from_places byte text (λ k below. eqb-false _ byte (fails_before_first p text k 0 (omega arith)))

-- a text with a byte doesn't lack it
pub lacks-not : (byte : ℕ) (xs ys : List ℕ) → ¬ (IsTrue (lacks byte (xs ++ byte ∷ ys)))
lacks-not byte [] ys h = eqb-false byte byte (lacks-parts byte byte ys h).0 refl
lacks-not byte (x ∷ xs) ys h = lacks-not byte xs ys (lacks-parts byte x (xs ++ byte ∷ ys) h).1

-- a text before a separator is found again
pub cut-injective : (byte : ℕ) (xs ys left right : List ℕ) → IsTrue (lacks byte xs) → IsTrue (lacks byte ys)
    → xs ++ byte ∷ left ≡ ys ++ byte ∷ right → (xs ≡ ys) × (left ≡ right)
cut-injective byte [] [] left right in_xs in_ys same = (refl, cc)
cut-injective byte [] (y ∷ ys) left right in_xs in_ys same = absurd (eqb-false y byte (lacks-parts byte y ys in_ys).0 cc)
cut-injective byte (x ∷ xs) [] left right in_xs in_ys same = absurd (eqb-false x byte (lacks-parts byte x xs in_xs).0 cc)
cut-injective byte (x ∷ xs) (y ∷ ys) left right in_xs in_ys same =
    let rest = cut-injective byte xs ys left right (lacks-parts byte x xs in_xs).1 (lacks-parts byte y ys in_ys).1 cc in
    let first : x ≡ y = cc in
    (cc, rest.1)

-- a text with no space is one word
pub words_of-word : (word : List ℕ) → IsTrue (lacks 32 word) → words_of word ≡ word ∷ []
words_of-word [] h = refl
words_of-word (b ∷ bs) h =
    let parts = lacks-parts 32 b bs h in
    slice_split-cons_no (λ b. b == 32) b bs parts.0 ∙ ap (onto_first b) (words_of-word bs parts.1)

-- and before a space the first word
pub words_of-more : (word rest : List ℕ) → IsTrue (lacks 32 word) → words_of (word ++ 32 ∷ rest) ≡ word ∷ words_of rest
words_of-more [] rest h = refl
words_of-more (b ∷ bs) rest h =
    let parts = lacks-parts 32 b bs h in
    slice_split-cons_no (λ b. b == 32) b (bs ++ 32 ∷ rest) parts.0 ∙ ap (onto_first b) (words_of-more bs rest parts.1)

-- the words of a line, joined, are the line
pub joined-words_of : (line : List ℕ) → joined (words_of line) ≡ line
joined-words_of line = join_with_byte-slice_split 32 line

-- one word or more, joined, have these words
pub words_of-joined : (word : List ℕ) (words : List (List ℕ)) → IsTrue (are_words (word ∷ words)) → words_of (joined (word ∷ words)) ≡ word ∷ words
words_of-joined word [] h = words_of-word word (and_parts (lacks 32 word) (are_words []) h).0
words_of-joined word (next ∷ words) h =
    let parts = and_parts (lacks 32 word) (are_words (next ∷ words)) h in
    words_of-more word (joined (next ∷ words)) parts.0 ∙ ap (λ l. word ∷ l) (words_of-joined next words parts.1)

-- a line has a word
pub words_of-some : (line : List ℕ) → 0 < length (words_of line)
words_of-some line = omega (arith, length-slice_split (λ b. b == 32) line)

-- and no word has a space
onto_first-are_words : (b : ℕ) (words : List (List ℕ)) → b == 32 ≡ false → IsTrue (are_words words) → IsTrue (are_words (onto_first b words))
onto_first-are_words b [] other h = and_from _ _ (and_from _ _ (not_from_false _ other) refl) refl
onto_first-are_words b (word ∷ words) other h =
    let parts = and_parts (lacks 32 word) (are_words words) h in
    and_from _ _ (and_from _ _ (not_from_false _ other) parts.0) parts.1

pub words_of-are_words : (line : List ℕ) → IsTrue (are_words (words_of line))
words_of-are_words [] = refl
words_of-are_words (b ∷ bs) =
    cond_both (b == 32) ([] ∷ words_of bs) (onto_first b (words_of bs)) (λ words. IsTrue (are_words words))
    (λ is. words_of-are_words bs)
    (λ other. onto_first-are_words b (words_of bs) other (words_of-are_words bs))
