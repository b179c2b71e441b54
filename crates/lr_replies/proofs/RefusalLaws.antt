-- The texts of the errors.
use Rattle.std.proofs.Common.{◌≡◌, refl}
use Rattle.lr_text.proofs.WordTableLaws.{IsWordTable, word_of-injective}
use Rattle.lr_replies.specs.Shapes.{refusal_text}
use Rattle.lr_replies.specs.declared.refusal.Refusal.{Refusal}
use Rattle.lr_replies.specs.declared.refusal.Refusal.TheVariants.{TooDeep}
use Rattle.lr_replies.specs.declared.refusal.TheConstants.Refusal.{ALL}

-- each error is found by its text: at every one of them by computing
pub IsWordTable-refusal_text : IsWordTable refusal_text ALL
IsWordTable-refusal_text TooDeep = refl
IsWordTable-refusal_text _ = refl

pub refusal_text-injective : (a b : Refusal) → refusal_text a ≡ refusal_text b → a ≡ b
refusal_text-injective = word_of-injective refusal_text ALL IsWordTable-refusal_text
