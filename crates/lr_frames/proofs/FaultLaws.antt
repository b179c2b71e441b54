-- Faults and calls exclude each other, and so do faults.
use Rattle.std.proofs.Common.{◌≡◌, ◌≢◌, inl, inr, ℕ, ◌<◌, ◌^◌, List, [], ◌∷◌, length, drop, decimal, refl, sym, ap, subst, ◌∙◌, arith}
use Rattle.std.proofs.lemmas.Fmt.{decimal_injective}
use Rattle.lr_objects.specs.declared.kinds.Function.{Function}
use Rattle.lr_objects.specs.declared.op.Op.{Op}
use Rattle.lr_objects.specs.Amount.{IsAmount}
use Rattle.lr_objects.specs.Function.{function_word}
use Rattle.lr_objects.proofs.FunctionLaws.{function_word-injective}
use Rattle.lr_frames.specs.declared.fault.OpFault.{OpFault}
use Rattle.lr_frames.specs.declared.fault.OpFault.TheVariants.{NotFunction, WrongArguments, BadName, BadNumber}
use Rattle.lr_frames.specs.declared.shape.Shape.{Shape}
use Rattle.lr_frames.specs.Faults.{IsAmountText, IsWordsFault, IsOpFault, IsKeyedFault, IsCallFault}
use Rattle.lr_frames.specs.OpWords.{op_function, op_given, op_words, fcall_words, key_count, IsSaid, IsOpOf}
use Rattle.lr_frames.specs.Shape.{shape_of}
use Rattle.lr_frames.specs.Words.{word_at}
use Rattle.lr_frames.proofs.GivenLaws.{words_fit, words_named, words_numbered}
use Rattle.lr_frames.proofs.OpLaws.{op_sound}

-- a number outside the limits is no amount
pub no_amount : (word : List ℕ) (number : ℕ) → word ≡ decimal number → number < 2 ^ 64
    → ¬ (IsAmount number) → ¬ (IsAmountText word)
no_amount word number is small outside (other, within, spelled) =
    let same = decimal_injective number other small (omega (arith, within.1)) (sym is ∙ spelled) in
    outside (subst IsAmount (sym same) within)

-- the words of a call have no fault for its function
no_words_fault : (fault : OpFault) (op : Op) → IsSaid op
    → ¬ (IsWordsFault fault (shape_of (op_function op)) (op_words op))
no_words_fault NotFunction op is fault = fault
no_words_fault WrongArguments op is fault =
    fault (words_fit (shape_of (op_function op)) op.name (op_given op))
no_words_fault BadName op is fault =
    fault.1 (is.0.0, words_named (shape_of (op_function op)) op.name (op_given op) (op_sound op is))
no_words_fault BadNumber op is fault =
    fault.3 (words_numbered (shape_of (op_function op)) op.name (op_given op) (op_sound op is))

-- nor for another, since its word is that of no other
of_function : (fault : OpFault) (op : Op) (function : Function) → IsSaid op
    → function_word (op_function op) ≡ function_word function
    → ¬ (IsWordsFault fault (shape_of function) (op_words op))
of_function fault op function is word bad =
    let same = function_word-injective (op_function op) function word in
    no_words_fault fault op is (subst (λ f. IsWordsFault fault (shape_of f) (op_words op)) (sym same) bad)

own_op_fault : (fault : OpFault) (op : Op) → IsSaid op
    → ¬ (IsOpFault fault (function_word (op_function op)) (op_words op))
own_op_fault NotFunction op is none = none (op_function op) refl
own_op_fault WrongArguments op is (function, word, bad) = of_function WrongArguments op function is word bad
own_op_fault BadName op is (function, word, bad) = of_function BadName op function is word bad
own_op_fault BadNumber op is (function, word, bad) = of_function BadNumber op function is word bad

pub no_op_fault : (fault : OpFault) (word : List ℕ) (words : List (List ℕ)) → IsOpFault fault word words
    → (op : Op) → IsSaid op → ¬ (IsOpOf op word words)
no_op_fault fault word words bad op is of =
    own_op_fault fault op is
    (subst (λ (l : List (List ℕ)). IsOpFault fault (function_word (op_function op)) l) of.1
    (subst (λ (w : List ℕ). IsOpFault fault w words) of.0 bad))

own_keyed_fault : (fault : OpFault) (op : Op) → IsSaid op
    → ¬ (IsKeyedFault fault (function_word (op_function op)) key_count (op_words op))
own_keyed_fault NotFunction op is none = none (op_function op) refl
own_keyed_fault WrongArguments op is (function, word, inl keys) = keys refl
own_keyed_fault WrongArguments op is (function, word, inr bad) =
    of_function WrongArguments op function is word bad
own_keyed_fault BadName op is bad = own_op_fault BadName op is bad.1
own_keyed_fault BadNumber op is bad = own_op_fault BadNumber op is bad.1

pub no_call_fault : (fault : OpFault) (words : List (List ℕ)) → IsCallFault fault words
    → (op : Op) → IsSaid op → words ≢ fcall_words op
no_call_fault fault words bad op is of =
    own_keyed_fault fault op is (subst (IsCallFault fault) of bad)

-- the words behind the command, and what is wrong with those behind the count of keys
pub keyed : (fault : OpFault) (function : Function) (word keys : List ℕ) (words : List (List ℕ))
    → word ≡ function_word function → keys ≡ key_count → IsWordsFault fault (shape_of function) words
    → IsKeyedFault fault word keys words
keyed NotFunction function word keys words is one bad = absurd bad
keyed WrongArguments function word keys words is one bad = (function, is, inr bad)
keyed BadName function word keys words is one bad = (one, (function, is, bad))
keyed BadNumber function word keys words is one bad = (one, (function, is, bad))

pub call_fault : (fault : OpFault) (function : Function) (words : List (List ℕ)) → 1 < length words
    → word_at words 0 ≡ function_word function → word_at words 1 ≡ key_count
    → IsWordsFault fault (shape_of function) (drop 2 words) → IsCallFault fault words
call_fault fault function [] some is one bad = absurd (omega (arith, some))
call_fault fault function (word ∷ []) some is one bad = absurd (omega (arith, some))
call_fault fault function (word ∷ keys ∷ words) some is one bad = keyed fault function word keys words is one bad

-- At most one fault.

-- of one function
same_words_fault : (a b : OpFault) (shape : Shape) (words : List (List ℕ)) → IsWordsFault a shape words
    → IsWordsFault b shape words → a ≡ b
same_words_fault NotFunction b shape words in_a in_b = absurd in_a
same_words_fault a NotFunction shape words in_a in_b = absurd in_b
same_words_fault WrongArguments WrongArguments shape words in_a in_b = refl
same_words_fault WrongArguments BadName shape words in_a in_b = absurd (in_a in_b.0)
same_words_fault WrongArguments BadNumber shape words in_a in_b = absurd (in_a in_b.0)
same_words_fault BadName WrongArguments shape words in_a in_b = absurd (in_b in_a.0)
same_words_fault BadName BadName shape words in_a in_b = refl
same_words_fault BadName BadNumber shape words in_a in_b = absurd (in_a.1 (in_b.1, in_b.2))
same_words_fault BadNumber WrongArguments shape words in_a in_b = absurd (in_b in_a.0)
same_words_fault BadNumber BadName shape words in_a in_b = absurd (in_b.1 (in_a.1, in_a.2))
same_words_fault BadNumber BadNumber shape words in_a in_b = refl

-- of two functions with the same word
same_word_fault : (a b : OpFault) (f g : Function) (word : List ℕ) (words : List (List ℕ))
    → word ≡ function_word f → word ≡ function_word g → IsWordsFault a (shape_of f) words
    → IsWordsFault b (shape_of g) words → a ≡ b
same_word_fault a b f g word words is_f is_g in_a in_b =
    let same = function_word-injective f g (sym is_f ∙ is_g) in
    same_words_fault a b (shape_of g) words (subst (λ h. IsWordsFault a (shape_of h) words) same in_a) in_b

-- a fault by its number
abbrev number_of : OpFault → ℕ
number_of NotFunction = 0
number_of WrongArguments = 1
number_of BadName = 2
number_of BadNumber = 3

wrong_name : (word keys : List ℕ) (words : List (List ℕ)) → IsKeyedFault WrongArguments word keys words
    → ¬ (IsKeyedFault BadName word keys words)
wrong_name word keys words (f, is_f, inl other) (one, bad) = other one
wrong_name word keys words (f, is_f, inr wrong) (one, (g, is_g, bad)) =
    let same = same_word_fault WrongArguments BadName f g word words is_f is_g wrong bad in
    omega (arith, ap number_of same)

wrong_number : (word keys : List ℕ) (words : List (List ℕ)) → IsKeyedFault WrongArguments word keys words
    → ¬ (IsKeyedFault BadNumber word keys words)
wrong_number word keys words (f, is_f, inl other) (one, bad) = other one
wrong_number word keys words (f, is_f, inr wrong) (one, (g, is_g, bad)) =
    let same = same_word_fault WrongArguments BadNumber f g word words is_f is_g wrong bad in
    omega (arith, ap number_of same)

same_keyed_fault : (a b : OpFault) (word keys : List ℕ) (words : List (List ℕ))
    → IsKeyedFault a word keys words → IsKeyedFault b word keys words → a ≡ b
same_keyed_fault NotFunction NotFunction word keys words in_a in_b = refl
same_keyed_fault WrongArguments WrongArguments word keys words in_a in_b = refl
same_keyed_fault BadName BadName word keys words in_a in_b = refl
same_keyed_fault BadNumber BadNumber word keys words in_a in_b = refl
same_keyed_fault NotFunction WrongArguments word keys words none (f, is, bad) = absurd (none f is)
same_keyed_fault NotFunction BadName word keys words none (one, (f, is, bad)) = absurd (none f is)
same_keyed_fault NotFunction BadNumber word keys words none (one, (f, is, bad)) = absurd (none f is)
same_keyed_fault WrongArguments NotFunction word keys words (f, is, bad) none = absurd (none f is)
same_keyed_fault BadName NotFunction word keys words (one, (f, is, bad)) none = absurd (none f is)
same_keyed_fault BadNumber NotFunction word keys words (one, (f, is, bad)) none = absurd (none f is)
same_keyed_fault WrongArguments BadName word keys words in_a in_b =
    absurd (wrong_name word keys words in_a in_b)
same_keyed_fault WrongArguments BadNumber word keys words in_a in_b =
    absurd (wrong_number word keys words in_a in_b)
same_keyed_fault BadName WrongArguments word keys words in_a in_b =
    absurd (wrong_name word keys words in_b in_a)
same_keyed_fault BadNumber WrongArguments word keys words in_a in_b =
    absurd (wrong_number word keys words in_b in_a)
same_keyed_fault BadName BadNumber word keys words (one, (f, is_f, in_a)) (also, (g, is_g, in_b)) =
    same_word_fault BadName BadNumber f g word words is_f is_g in_a in_b
same_keyed_fault BadNumber BadName word keys words (one, (f, is_f, in_a)) (also, (g, is_g, in_b)) =
    same_word_fault BadNumber BadName f g word words is_f is_g in_a in_b

pub one_fault : (fault other : OpFault) (words : List (List ℕ)) → IsCallFault fault words
    → IsCallFault other words → fault ≡ other
one_fault fault other [] in_fault in_other = in_fault ∙ sym in_other
one_fault fault other (word ∷ []) in_fault in_other = in_fault ∙ sym in_other
one_fault fault other (word ∷ keys ∷ words) in_fault in_other =
    same_keyed_fault fault other word keys words in_fault in_other
