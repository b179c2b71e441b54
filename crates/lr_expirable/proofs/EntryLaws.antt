-- What the calls of a key space make of the key of a sorted set without an expiry.
use Rattle.std.proofs.Common.{◌≡◌, ℕ, [], ◌∷◌, Some, None, Ok, refl}
use Rattle.std.proofs.lemmas.Bool.{cond_both}
use Rattle.lr_sorted.specs.Members.{Members as Scores}
use Rattle.lr_keys.specs.KeySpace.{Members, is_empty, live_entry, zset_at}
use Rattle.lr_expirable.specs.Leases.{members_entry}

-- what is absent has nothing in it
pub members_in : (members : Scores) → zset_at (members_entry members) ≡ Ok members
members_in [] = refl
members_in (m ∷ ms) = refl

-- without an expiry it is live for ever
pub live-members : (moment : ℕ) (members : Scores)
    → live_entry moment (members_entry members) ≡ members_entry members
live-members moment members =
    cond_both (is_empty (Members members)) None (Some (record { value = Members members; expiry = None }))
    (λ e. live_entry moment e ≡ e) (λ empty. refl) (λ some. refl)
