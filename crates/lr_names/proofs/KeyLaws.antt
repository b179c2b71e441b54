-- Keys are one to one with parts and names.
use Rattle.std.proofs.Common.{◌≡◌, ℕ, List, IsTrue, false, refl, sym, ◌∙◌}
use Rattle.std.specs.List.{flat_map}
use Rattle.std.specs.Str.{bytes_eq}
use Rattle.std.proofs.lemmas.Bool.{false_from_ne_true, false≢true}
use Rattle.std.proofs.lemmas.Slice.Eq.{bytes_eq-Decides}
use Rattle.lr_text.specs.Words.{lacks}
use Rattle.lr_text.proofs.WordTableLaws.{IsWordTable, word_of-injective}
use Rattle.lr_text.proofs.WordLaws.{cut-injective}
use Rattle.lr_names.specs.declared.kind.TheConstants.Kind.{ALL}
use Rattle.lr_names.specs.declared.part.Part.{Part}
use Rattle.lr_names.specs.declared.part.Part.TheVariants.{Lock}
use Rattle.lr_names.specs.Key.{part_word, key_text, parts_of}

-- all parts, of objects of all kinds
abbrev all_parts : List Part
all_parts = flat_map parts_of ALL

-- each part is found by its word: at every one of them by computing
IsWordTable-part_word : IsWordTable part_word all_parts
IsWordTable-part_word Lock = refl
IsWordTable-part_word _ = refl

-- no word of a part has a colon
part_word-lacks : (part : Part) → IsTrue (lacks 58 (part_word part))
part_word-lacks Lock = refl
part_word-lacks _ = refl

-- two keys are one only where part and name are
pub key_text-injective : (p q : Part) (m n : List ℕ) → key_text p m ≡ key_text q n → (p ≡ q) × (m ≡ n)
key_text-injective p q m n same =
    let parts = cut-injective 58 (part_word p) (part_word q) m n (part_word-lacks p) (part_word-lacks q) same in
    (word_of-injective part_word all_parts IsWordTable-part_word p q parts.0, parts.1)

-- the keys of two parts, or of two names of one part, are two
pub keys_differ : (part other : Part) (name q : List ℕ)
    → (part ≡ other → bytes_eq name q ≡ false)
    → bytes_eq (key_text part name) (key_text other q) ≡ false
keys_differ part other name q apart =
    false_from_ne_true _ (λ same.
    let one = key_text-injective part other name q
    ((bytes_eq-Decides (key_text part name) (key_text other q)).0 same) in
    false≢true (sym (apart one.0) ∙ (bytes_eq-Decides name q).1 one.1))
