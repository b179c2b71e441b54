-- The words of what a function is given, by its shape: this project's own.
use Rattle.std.specs.Prelude.{ℕ, Bool, true, false, List, [], ◌∷◌, codes, decimal}
use Rattle.uuid.specs.Parts.{zero_bytes}
use Rattle.lr_names.specs.Owner.{ThreadOfClient, id_text, owner_text}
use Rattle.lr_objects.specs.declared.access.Access.{Access}
use Rattle.lr_objects.specs.declared.access.Access.TheVariants.{Read, Write}
use Rattle.lr_frames.specs.declared.given.Given.{Given}
use Rattle.lr_frames.specs.declared.shape.Shape.{Shape}
use Rattle.lr_frames.specs.declared.shape.Shape.TheVariants.{Nothing, Owner, OwnerLease, OwnerLeaseQueue, OwnerModeLease, Number, Id, IdLease}

-- the owner, the number and the id where a function is given none
abbrev pub nobody : ThreadOfClient
nobody = record { client = zero_bytes; thread = 1 }

-- an owner, with a lease, with whether it takes a place in the queue, and of which hold
abbrev pub owned : ThreadOfClient → ℕ → Bool → Access → Given
owned owner lease queue access = record {
  owner = owner;
  lease = lease;
  queue = queue;
  access = access;
  number = 1;
  id = zero_bytes;
}

-- nothing
abbrev pub given_nothing : Given
given_nothing = owned nobody 0 false Read

-- an owner
abbrev pub given_owner : ThreadOfClient → Given
given_owner owner = owned owner 0 false Read

-- an owner and a lease
abbrev pub given_lease : ThreadOfClient → ℕ → Given
given_lease owner lease = owned owner lease false Read

-- a number
abbrev pub given_number : ℕ → Given
given_number number = record {
  owner = nobody;
  lease = 0;
  queue = false;
  access = Read;
  number = number;
  id = zero_bytes;
}

-- the id of a permit, and a lease
abbrev pub given_id : List ℕ → ℕ → Given
given_id id lease = record {
  owner = nobody;
  lease = lease;
  queue = false;
  access = Read;
  number = 1;
  id = id;
}

-- whether to take a place in the queue
abbrev pub queue_word : Bool → List ℕ
queue_word false = codes "0"
queue_word true = codes "1"

-- of which hold
abbrev pub access_word : Access → List ℕ
access_word Read = codes "0"
access_word Write = codes "1"

-- the words, in order
abbrev pub given_words : Shape → Given → List (List ℕ)
given_words Nothing given = []
given_words Owner given = owner_text given.owner ∷ []
given_words OwnerLease given = owner_text given.owner ∷ decimal given.lease ∷ []
given_words OwnerLeaseQueue given =
    owner_text given.owner ∷ decimal given.lease ∷ queue_word given.queue ∷ []
given_words OwnerModeLease given =
    owner_text given.owner ∷ access_word given.access ∷ decimal given.lease ∷ []
given_words Number given = decimal given.number ∷ []
given_words Id given = id_text given.id ∷ []
given_words IdLease given = id_text given.id ∷ decimal given.lease ∷ []
