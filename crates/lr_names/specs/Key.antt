-- The keys under which a server keeps its objects: this project's own names, after Redisson's.
use Rattle.std.specs.Prelude.{ℕ, List, [], ◌∷◌, ◌++◌, map, codes}
use Rattle.lr_names.specs.declared.kind.Kind.{Kind}
use Rattle.lr_names.specs.declared.kind.Kind.TheVariants as kinds
use Rattle.lr_names.specs.declared.part.Part.{Part}
use Rattle.lr_names.specs.declared.part.Part.TheVariants.{Lock, Fair, FairQueue, FairStale, Rw, RwDeadlines, Fenced, Token, Semaphore, Permits, PermitLeases, Countdown}

-- the word that a key begins with
abbrev pub part_word : Part → List ℕ
part_word Lock = codes "lock"
part_word Fair = codes "fair"
part_word FairQueue = codes "fairq"
part_word FairStale = codes "fairt"
part_word Rw = codes "rw"
part_word RwDeadlines = codes "rwt"
part_word Fenced = codes "fenced"
part_word Token = codes "token"
part_word Semaphore = codes "sem"
part_word Permits = codes "permits"
part_word PermitLeases = codes "permitt"
part_word Countdown = codes "latch"

-- a key is that word, a colon and the object's name
abbrev pub key_text : Part → List ℕ → List ℕ
key_text part name = part_word part ++ 58 ∷ name

-- the parts of an object of a kind
abbrev pub parts_of : Kind → List Part
parts_of kinds.Mutex = Lock ∷ []
parts_of kinds.Fair = Fair ∷ FairQueue ∷ FairStale ∷ []
parts_of kinds.Rw = Rw ∷ RwDeadlines ∷ []
parts_of kinds.Fenced = Fenced ∷ Token ∷ []
parts_of kinds.Semaphore = Semaphore ∷ []
parts_of kinds.Permits = Permits ∷ PermitLeases ∷ []
parts_of kinds.Countdown = Countdown ∷ []

-- the keys of an object
abbrev pub keys_of : Kind → List ℕ → List (List ℕ)
keys_of kind name = map (λ part. key_text part name) (parts_of kind)
