-- Laws of tables of words. A table owes one fact, `IsWordTable`, which computes at each of its lines.
use Rattle.std.proofs.Common.{◌≡◌, ◌≢◌, ℕ, List, [], ◌∷◌, Some, is_some, IsNone, IfSome, sym, ap, ◌∙◌, true≢false}
use Rattle.std.proofs.lemmas.Bool.{cond_both}
use Rattle.std.proofs.lemmas.Slice.Eq.{bytes_eq-Decides}
use Rattle.std.specs.Str.{bytes_eq}
use Rattle.lr_text.specs.WordTable.{with_word}

-- each is found by its word
abbrev pub IsWordTable : {T : Type 0} → (T → List ℕ) → List T → Type 0
IsWordTable {T} word_of all = (t : T) → with_word word_of all (word_of t) ≡ Some t

-- the one that is found has the word
pub with_word-some : {T : Type 0} (word_of : T → List ℕ) (all : List T) (word : List ℕ)
    → IfSome (with_word word_of all word) (λ t. word ≡ word_of t)
with_word-some word_of [] word = tt
with_word-some word_of (t ∷ ts) word =
    cond_both (bytes_eq (word_of t) word) (Some t) (with_word word_of ts word)
    (λ o. IfSome o (λ u. word ≡ word_of u))
    (λ same. sym ((bytes_eq-Decides (word_of t) word).0 same))
    (λ _. with_word-some word_of ts word)

-- and where none is found, none has it
pub with_word-none : {T : Type 0} (word_of : T → List ℕ) (all : List T) → IsWordTable word_of all
    → (word : List ℕ) → IsNone (with_word word_of all word) → (t : T) → word ≢ word_of t
with_word-none word_of all table word none t is =
    let found = ap is_some (table t) in
    true≢false (sym found ∙ ap (λ w. is_some (with_word word_of all w)) (sym is) ∙ none)

-- two with one word are one
pub word_of-injective : {T : Type 0} (word_of : T → List ℕ) (all : List T) → IsWordTable word_of all
    → (a b : T) → word_of a ≡ word_of b → a ≡ b
word_of-injective word_of all table a b same =
    let found = sym (table a) ∙ ap (with_word word_of all) same ∙ table b in
    cc
