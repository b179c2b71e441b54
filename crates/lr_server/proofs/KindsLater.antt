-- What it means that the keys of a kind go on to a later moment.
use Rattle.std.proofs.Common.{◌≡◌, ℕ, ◌≤◌, List, IsTrue}
use Rattle.std.specs.List.{list_any}
use Rattle.std.specs.Str.{bytes_eq}
use Rattle.lr_limits.specs.Limits.{last_moment}
use Rattle.lr_names.specs.Key.{keys_of}
use Rattle.lr_names.specs.Name.{IsName}
use Rattle.lr_names.specs.declared.kind.Kind.{Kind}
use Rattle.lr_keys.specs.KeySpace.{Keys, entry_at, live_entry}

-- the keys of a kind hold what is live of them at a later moment
pub record KindGoesOn (kind : Kind) (old new : Keys) : Type 0 where
  pub later : old.moment ≤ new.moment
  pub early : new.moment ≤ last_moment
  pub live : (name key : List ℕ) → IsName name
      → IsTrue (list_any (bytes_eq key) (keys_of kind name))
      → entry_at new key ≡ live_entry new.moment (entry_at old key)
