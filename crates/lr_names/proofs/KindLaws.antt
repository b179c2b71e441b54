-- The words of the kinds.
use Rattle.std.proofs.Common.{◌≡◌, IsTrue, refl}
use Rattle.lr_text.specs.Words.{lacks}
use Rattle.lr_text.proofs.WordTableLaws.{IsWordTable, word_of-injective}
use Rattle.lr_names.specs.Channel.{kind_word}
use Rattle.lr_names.specs.declared.kind.Kind.{Kind}
use Rattle.lr_names.specs.declared.kind.Kind.TheVariants.{Mutex}
use Rattle.lr_names.specs.declared.kind.TheConstants.Kind.{ALL}

-- each kind is found by its word: at every one of them by computing
pub IsWordTable-kind_word : IsWordTable kind_word ALL
IsWordTable-kind_word Mutex = refl
IsWordTable-kind_word _ = refl

-- no word of a kind has a colon
pub kind_word-lacks : (kind : Kind) → IsTrue (lacks 58 (kind_word kind))
kind_word-lacks Mutex = refl
kind_word-lacks _ = refl

pub kind_word-injective : (a b : Kind) → kind_word a ≡ kind_word b → a ≡ b
kind_word-injective = word_of-injective kind_word ALL IsWordTable-kind_word
