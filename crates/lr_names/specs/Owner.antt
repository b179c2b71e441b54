-- Who holds a lock: a thread of a client, after Redisson's "UUID:threadId".
use Rattle.std.specs.Prelude.{◌≡◌, ℕ, ◌<◌, ◌≤◌, List, ◌∷◌, ◌++◌, length, Bool, ◌&&◌, ◌==◌, All, decimal}
use Rattle.std.specs.Str.{bytes_eq}
use Rattle.lr_limits.specs.Limits.{thread_limit}
use Rattle.uuid.specs.Text.{hyphenated_text, lower}

-- a client by the sixteen bytes of its id, and one of its threads
pub record ThreadOfClient : Type 0 where
  pub client : List ℕ
  pub thread : ℕ

-- threads are numbered from 1 to 256
abbrev pub IsThread : ℕ → Type 0
IsThread thread = (1 ≤ thread) × (thread ≤ thread_limit)

-- an id is sixteen bytes
pub record IsId (id : List ℕ) : Type 0 where
  pub long : length id ≡ 16
  pub bytes : All (λ b. b < 256) id

-- an owner that the program can have
pub record IsOwner (owner : ThreadOfClient) : Type 0 where
  pub client : IsId owner.client
  pub thread : IsThread owner.thread

-- whether two owners are one
abbrev pub same_owner : ThreadOfClient → ThreadOfClient → Bool
same_owner a b = bytes_eq a.client b.client && (a.thread == b.thread)

-- the text of an id: the hyphenated form of RFC 9562 in lower case
abbrev pub id_text : List ℕ → List ℕ
id_text id = hyphenated_text lower id

-- the text of an owner: the id, a colon, the thread
abbrev pub owner_text : ThreadOfClient → List ℕ
owner_text owner = id_text owner.client ++ 58 ∷ decimal owner.thread
