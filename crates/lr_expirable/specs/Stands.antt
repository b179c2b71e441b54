-- For which expirable permits the keys of a key space stand.
use Rattle.std.specs.Prelude.{◌≤◌, ℕ, List, length, unwrap_or}
use Rattle.std.specs.Option.{ForSome}
use Rattle.lr_limits.specs.Limits.{amount_limit}
use Rattle.lr_names.specs.Key.{key_text}
use Rattle.lr_names.specs.Name.{IsName}
use Rattle.lr_names.specs.declared.part.Part.TheVariants as parts
use Rattle.lr_keys.specs.KeySpace.{Keys, entry_at}
use Rattle.lr_model.specs.Answer.{Objects}
use Rattle.lr_model.specs.Permits.{Permits}
use Rattle.lr_counter.specs.Numbers.{IsNumberAt}
use Rattle.lr_expirable.specs.Leases.{AreLeasesAt}

-- the keys have these permits under these two: there are no more leases than permits, so none where
-- the number isn't set
pub record ArePermitsAt (keys : Keys) (number leases : List ℕ) (permits : Permits) : Type 0 where
  pub number_at : IsNumberAt amount_limit (entry_at keys number) permits.number
  pub some : ForSome permits.number (λ n. 1 ≤ n)
  pub leases_at : AreLeasesAt (entry_at keys leases) permits.leases
  pub enough : length permits.leases ≤ unwrap_or permits.number 0

-- the two keys of each name have its permits, with the leases that have expired and that no function
-- has removed yet
pub record PermitsStand (keys : Keys) (objects : Objects) : Type 0 where
  pub each : (name : List ℕ) → IsName name
      → ArePermitsAt keys (key_text parts.Permits name) (key_text parts.PermitLeases name)
      (objects.permits name)
