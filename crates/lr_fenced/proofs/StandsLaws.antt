-- For which fenced locks keys stand: laws for the crates above.
use Rattle.std.proofs.Common.{◌≡◌, ◌≤◌, ℕ, List, None}
use Rattle.lr_limits.specs.Limits.{last_moment, token_limit}
use Rattle.lr_names.specs.Key.{key_text}
use Rattle.lr_names.specs.Name.{IsName}
use Rattle.lr_names.specs.declared.part.Part.TheVariants.{Fenced, Token}
use Rattle.lr_keys.specs.KeySpace.{Keys, entry_at, live_entry}
use Rattle.lr_model.specs.Answer.{Objects, no_objects}
use Rattle.lr_counter.proofs.NumbersLaws.{no_numbers_stand, numbers_stand_later, numbers_stand_settled}
use Rattle.lr_hold.proofs.HoldsLaws.{no_holds_stand, holds_stand_later, holds_stand_settled}
use Rattle.lr_fenced.specs.Stands.{FencedLocksStand, holds_of, tokens_of}

-- where there is no key there is no lock
pub no_keys_stand : (keys : Keys) → entry_at keys ≡ (λ _. None) → FencedLocksStand keys no_objects
no_keys_stand keys none = record {
  held = no_holds_stand Fenced keys none;
  tokens = no_numbers_stand Token token_limit keys none;
}

-- what is left of the keys later stands for the same locks
pub fenced_locks_stand_later : (old new : Keys) (objects : Objects) → FencedLocksStand old objects
    → old.moment ≤ new.moment → new.moment ≤ last_moment
    → ((name : List ℕ) → IsName name
    → entry_at new (key_text Fenced name)
    ≡ live_entry new.moment (entry_at old (key_text Fenced name)))
    → ((name : List ℕ) → IsName name
    → entry_at new (key_text Token name)
    ≡ live_entry new.moment (entry_at old (key_text Token name)))
    → FencedLocksStand new objects
fenced_locks_stand_later old new objects stand later early hashes counters = record {
  held = holds_stand_later Fenced old (holds_of objects) stand.held new later early hashes;
  tokens = numbers_stand_later Token token_limit old (tokens_of objects) stand.tokens new counters;
}

-- where nothing changes but the memory that is prepared
pub fenced_locks_stand_settled : (old new : Keys) (objects : Objects) → FencedLocksStand old objects
    → new.moment ≡ old.moment → entry_at new ≡ entry_at old → FencedLocksStand new objects
fenced_locks_stand_settled old new objects stand now entries = record {
  held = holds_stand_settled Fenced old (holds_of objects) stand.held new now entries;
  tokens = numbers_stand_settled Token token_limit old (tokens_of objects) stand.tokens new entries;
}
