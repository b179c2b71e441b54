-- What the words behind the name of an object are, read one by one.
use Rattle.std.specs.Prelude.{◌≡◌, ℕ, List, decimal}
use Rattle.lr_names.specs.Owner.{id_text, owner_text}
use Rattle.lr_frames.specs.declared.fault.OpFault.{OpFault}
use Rattle.lr_frames.specs.declared.fault.OpFault.TheVariants.{NotFunction, WrongArguments, BadName, BadNumber}
use Rattle.lr_frames.specs.declared.given.Given.{Given}
use Rattle.lr_frames.specs.declared.shape.Shape.{Shape}
use Rattle.lr_frames.specs.declared.shape.Shape.TheVariants.{Nothing, Owner, OwnerLease, OwnerLeaseQueue, OwnerModeLease, Number, Id, IdLease}
use Rattle.lr_frames.specs.Faults.{IsNamed, IsNumbered}
use Rattle.lr_frames.specs.Given.{queue_word, access_word}
use Rattle.lr_frames.specs.Words.{word_at}

-- each of these words is what is given at its place
abbrev pub IsGiven : Shape → List (List ℕ) → Given → Type 0
IsGiven Nothing words given = Unit {0}
IsGiven Owner words given = word_at words 1 ≡ owner_text given.owner
IsGiven OwnerLease words given =
    (word_at words 1 ≡ owner_text given.owner) × (word_at words 2 ≡ decimal given.lease)
IsGiven OwnerLeaseQueue words given = (word_at words 1 ≡ owner_text given.owner)
    × (word_at words 2 ≡ decimal given.lease) × (word_at words 3 ≡ queue_word given.queue)
IsGiven OwnerModeLease words given = (word_at words 1 ≡ owner_text given.owner)
    × (word_at words 2 ≡ access_word given.access) × (word_at words 3 ≡ decimal given.lease)
IsGiven Number words given = word_at words 1 ≡ decimal given.number
IsGiven Id words given = word_at words 1 ≡ id_text given.id
IsGiven IdLease words given =
    (word_at words 1 ≡ id_text given.id) × (word_at words 2 ≡ decimal given.lease)

-- what is wrong with them
abbrev pub IsGivenFault : OpFault → Shape → List (List ℕ) → Type 0
IsGivenFault NotFunction shape words = ⊥
IsGivenFault WrongArguments shape words = ⊥
IsGivenFault BadName shape words = ¬ (IsNamed shape words)
IsGivenFault BadNumber shape words = IsNamed shape words × ¬ (IsNumbered shape words)
