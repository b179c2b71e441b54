-- Which words are no call, and why: this project's own. The faults are tested in this order, and
-- each is what it is only where none before it is.
use Rattle.std.specs.Prelude.{◌≡◌, ◌≢◌, ◌⊎◌, ℕ, suc, ◌<◌, ◌^◌, Bool, List, [], ◌∷◌, length, decimal}
use Rattle.lr_names.specs.Name.{IsName}
use Rattle.lr_names.specs.Owner.{ThreadOfClient, IsId, IsOwner, id_text, owner_text}
use Rattle.lr_objects.specs.declared.access.Access.{Access}
use Rattle.lr_objects.specs.declared.kinds.Function.{Function}
use Rattle.lr_objects.specs.Amount.{IsAmount}
use Rattle.lr_objects.specs.Function.{function_word}
use Rattle.lr_frames.specs.declared.fault.OpFault.{OpFault}
use Rattle.lr_frames.specs.declared.fault.OpFault.TheVariants.{NotFunction, WrongArguments, BadName, BadNumber}
use Rattle.lr_frames.specs.declared.shape.Shape.{Shape}
use Rattle.lr_frames.specs.declared.shape.Shape.TheVariants.{Nothing, Owner, OwnerLease, OwnerLeaseQueue, OwnerModeLease, Number, Id, IdLease}
use Rattle.lr_frames.specs.Given.{queue_word, access_word}
use Rattle.lr_frames.specs.OpWords.{key_count}
use Rattle.lr_frames.specs.Shape.{shape_of, shape_len}
use Rattle.lr_frames.specs.Words.{word_at}

-- How each argument is spelled.

abbrev pub IsOwnerText : List ℕ → Type 0
IsOwnerText word = (owner : ThreadOfClient) × IsOwner owner × (word ≡ owner_text owner)

abbrev pub IsIdText : List ℕ → Type 0
IsIdText word = (id : List ℕ) × IsId id × (word ≡ id_text id)

-- a lease may be any number
abbrev pub IsNumberText : List ℕ → Type 0
IsNumberText word = (number : ℕ) × (number < 2 ^ 64) × (word ≡ decimal number)

abbrev pub IsAmountText : List ℕ → Type 0
IsAmountText word = (number : ℕ) × IsAmount number × (word ≡ decimal number)

abbrev pub IsQueueText : List ℕ → Type 0
IsQueueText word = (queue : Bool) × (word ≡ queue_word queue)

abbrev pub IsAccessText : List ℕ → Type 0
IsAccessText word = (access : Access) × (word ≡ access_word access)

-- the word behind the name is an owner or an id, where the function is given one
abbrev pub IsNamed : Shape → List (List ℕ) → Type 0
IsNamed Nothing words = Unit {0}
IsNamed Owner words = IsOwnerText (word_at words 1)
IsNamed OwnerLease words = IsOwnerText (word_at words 1)
IsNamed OwnerLeaseQueue words = IsOwnerText (word_at words 1)
IsNamed OwnerModeLease words = IsOwnerText (word_at words 1)
IsNamed Number words = Unit {0}
IsNamed Id words = IsIdText (word_at words 1)
IsNamed IdLease words = IsIdText (word_at words 1)

-- each word that is to be a number is one, and within its limits
abbrev pub IsNumbered : Shape → List (List ℕ) → Type 0
IsNumbered Nothing words = Unit {0}
IsNumbered Owner words = Unit {0}
IsNumbered OwnerLease words = IsNumberText (word_at words 2)
IsNumbered OwnerLeaseQueue words = IsNumberText (word_at words 2) × IsQueueText (word_at words 3)
IsNumbered OwnerModeLease words = IsAccessText (word_at words 2) × IsNumberText (word_at words 3)
IsNumbered Number words = IsAmountText (word_at words 1)
IsNumbered Id words = Unit {0}
IsNumbered IdLease words = IsNumberText (word_at words 2)

-- the words behind the count of keys are as many as the function has
abbrev pub Fits : Shape → List (List ℕ) → Type 0
Fits shape words = length words ≡ suc (shape_len shape)

-- what is wrong with the words behind the count of keys, for a function with this shape
abbrev pub IsWordsFault : OpFault → Shape → List (List ℕ) → Type 0
IsWordsFault NotFunction shape words = ⊥
IsWordsFault WrongArguments shape words = ¬ (Fits shape words)
IsWordsFault BadName shape words =
    Fits shape words × ¬ (IsName (word_at words 0) × IsNamed shape words)
IsWordsFault BadNumber shape words =
    Fits shape words × IsName (word_at words 0) × IsNamed shape words × ¬ (IsNumbered shape words)

-- no function has this word
abbrev pub IsNoFunction : List ℕ → Type 0
IsNoFunction word = (function : Function) → word ≢ function_word function

-- what is wrong with the word of a function and the words behind the count of keys
abbrev pub IsOpFault : OpFault → List ℕ → List (List ℕ) → Type 0
IsOpFault NotFunction word words = IsNoFunction word
IsOpFault fault word words = (function : Function) × (word ≡ function_word function)
    × IsWordsFault fault (shape_of function) words

-- The same with the count of keys between them: it is judged with the number of the other words.
abbrev pub IsKeyedFault : OpFault → List ℕ → List ℕ → List (List ℕ) → Type 0
IsKeyedFault NotFunction word keys words = IsNoFunction word
IsKeyedFault WrongArguments word keys words = (function : Function)
    × (word ≡ function_word function) × ((keys ≢ key_count) ⊎ ¬ (Fits (shape_of function) words))
IsKeyedFault fault word keys words = (keys ≡ key_count) × IsOpFault fault word words

-- What is wrong with the words behind the command: the word of a function and a count of keys must
-- be there before anything else is judged.
abbrev pub IsCallFault : OpFault → List (List ℕ) → Type 0
IsCallFault fault [] = fault ≡ WrongArguments
IsCallFault fault (word ∷ []) = fault ≡ WrongArguments
IsCallFault fault (word ∷ keys ∷ words) = IsKeyedFault fault word keys words
