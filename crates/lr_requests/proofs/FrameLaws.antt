-- A frame is that of one list of words.
use Rattle.std.proofs.Common.{◌≡◌, ℕ, ◌≤◌, List, [], ◌∷◌, ◌++◌, length, map, refl, ap, ◌∙◌, arith}
use Rattle.std.specs.List.{AllByRecursion}
use Rattle.lr_resp.proofs.One.{read_is_one}
use Rattle.lr_resp.specs.declared.frame.Frame.{Frame}
use Rattle.lr_resp.specs.declared.frame.Frame.TheVariants.{Bulk, Array}
use Rattle.lr_resp.specs.Limits.{bulk_limit}
use Rattle.lr_frames.proofs.BulkLaws.{heads}
use Rattle.lr_frames.specs.Words.{bulk_word, bulk_text, words_frame}
use Rattle.lr_requests.specs.Laws.{WordsAreOne}

one_text : (text other : List ℕ) → length text ≤ bulk_limit → length other ≤ bulk_limit
    → bulk_word text ≡ bulk_word other → text ≡ other
one_text text other short other_short same =
    ap bulk_text (read_is_one (Bulk text) (Bulk other) [] [] short other_short (ap (λ (l : List ℕ). l ++ []) same)).0

one_list : (words others : List (List ℕ))
    → AllByRecursion (λ text. length text ≤ bulk_limit) words
    → AllByRecursion (λ text. length text ≤ bulk_limit) others
    → map bulk_word words ≡ map bulk_word others → words ≡ others
one_list [] [] short other_short same = refl
one_list [] (other ∷ others) short other_short same = absurd (omega (arith, ap (λ (l : List (List ℕ)). length l) same))
one_list (word ∷ words) [] short other_short same = absurd (omega (arith, ap (λ (l : List (List ℕ)). length l) same))
one_list (word ∷ words) (other ∷ others) short other_short same =
    let parts = heads (bulk_word word) (bulk_word other) (map bulk_word words) (map bulk_word others) same in
    let first = one_text word other short.0 other_short.0 parts.0 in
    let rest = one_list words others short.1 other_short.1 parts.1 in
    ap (λ (w : List ℕ). w ∷ words) first ∙ ap (λ (l : List (List ℕ)). other ∷ l) rest

-- what an array is seen as
items_of : Frame → List (List ℕ)
items_of (Array items) = items
items_of _ = []

items_same : (words others : List (List ℕ)) → words_frame words ≡ words_frame others
    → map bulk_word words ≡ map bulk_word others
unfolding items_of
items_same words others same = ap items_of same

pub words_are_one : WordsAreOne
words_are_one words others short other_short same =
    one_list words others short.1 other_short.1 (items_same words others same)
