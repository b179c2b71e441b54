-- What of the keys is seen at a moment that may be later than theirs.
use Rattle.std.specs.Prelude.{ℕ, List, length, Option, None, nat_lt, if◌then◌else◌}
use Rattle.lr_limits.specs.Limits.{brief_limit}
use Rattle.lr_keys.specs.KeySpace.{KeyEntry, Keys, entry_at, live_entry}

-- what is found under a text: nothing where the text is too long to be a key, a field or a member
-- (this project's own)
abbrev pub if_brief : {T : Type 0} → List ℕ → Option T → Option T
if_brief text found = if nat_lt brief_limit (length text) then None else found

-- what stands at a key at a moment (Redis command page EXPIRE)
abbrev pub seen_entry : Keys → ℕ → List ℕ → Option KeyEntry
seen_entry keys moment key = if_brief key (live_entry moment (entry_at keys key))
